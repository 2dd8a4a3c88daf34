-- The ways behind a place in a policy, and which of them facts went.
use Rattle.std.specs.Prelude.{◌≡◌, ℕ, ◌+◌, ◌≤◌, Bool, true, false, min, List, [], ◌∷◌, length, drop, nat_lt, slice_index_or, Option, Some, None, ⊤}
use Rattle.std.specs.List.{AllByRecursion}
use Rattle.std.specs.Option.{option_map}
use Rattle.tpol_base.specs.declared.digest.Digest32.{Digest32}
use Rattle.tpol_tree.specs.declared.closed.ClosedElement.{ClosedElement}
use Rattle.tpol_tree.specs.declared.closed.ClosedElement.TheVariants.{Assert as AssertElement, Or as OrElement, Authorize, AuthorizeNv}
use Rattle.tpol_tree.specs.declared.path.ApprovedDoc.{ApprovedDoc}
use Rattle.tpol_tree.specs.declared.path.Move.{Move}
use Rattle.tpol_tree.specs.declared.path.Move.TheVariants.{Assert, Or, Approve, ApproveNv}
use Rattle.tpol_tree.specs.declared.path.Path.{Path}
use Rattle.tpol_digest.specs.Digest.{zero_digest, branch_digests}
use Rattle.tpol_digest.specs.Update.{update_of}
use Rattle.tpol_digest.specs.UpdateBytes.{update_value}
use Rattle.tpol_trace.specs.declared.asked.Asked.{Asked}
use Rattle.tpol_trace.specs.declared.ways.Ways.{Ways}
use Rattle.tpol_trace.specs.Matching.{documents_before, matches_last, last_facts}
use Rattle.tpol_trace.specs.Openings.{first_index}
use Rattle.tpol_trace.specs.Same.{approved_of, are_same}
use Rattle.tpol_trace.specs.Windows.{IsIn}

-- what is kept of a move
pub record Asks (asked : Asked) (act : Move) : Type 0 where
  pub hashed : update_value asked.update ≡ update_of act
  pub approved : asked.approved ≡ approved_of act

-- the same of moves in a row
abbrev pub AllAsk : List Asked → List Move → Type 0
AllAsk [] [] = ⊤
AllAsk [] (act ∷ moves) = ⊥
AllAsk (one ∷ asked) [] = ⊥
AllAsk (one ∷ asked) (act ∷ moves) = Asks one act × AllAsk asked moves

-- an AUTHORIZE or an AUTHORIZENV
abbrev pub IsApproval : ClosedElement → Type 0
IsApproval (AssertElement assertion) = ⊥
IsApproval (OrElement branches) = ⊥
IsApproval (Authorize key policy_ref) = ⊤
IsApproval (AuthorizeNv index) = ⊤

-- the move of an element, with a zero digest in an approval
abbrev pub move_of_element : ClosedElement → Digest32 → Move
move_of_element (AssertElement assertion) d = Assert assertion
move_of_element (OrElement branches) d = Or (branch_digests branches d)
move_of_element (Authorize key policy_ref) d = Approve key policy_ref zero_digest zero_digest
move_of_element (AuthorizeNv index) d = ApproveNv index zero_digest

-- the moves of a way are the facts from the k-th on, and of an outside way the last ones, wherever they begin;
-- so many documents may be entered before its choice Outside
abbrev pub goes_by : Bool → List ApprovedDoc → ℕ → List Move → ℕ → Path → Bool
goes_by true approvals level facts k path =
    matches_last approvals (nat_lt (documents_before path.steps) level) path.moves (last_facts path.moves facts)
goes_by false approvals level facts k path = are_same path.moves (drop k facts)

abbrev pub goes : List ApprovedDoc → ℕ → List Move → ℕ → Path → Bool
goes approvals level facts k path = goes_by path.outside approvals level facts k path

-- no way is outside
abbrev pub AreInside : List Path → Type 0
AreInside ways = AllByRecursion (λ way. way.outside ≡ false) ways

-- counted no further than 65,536
abbrev pub capped : Option ℕ → Option ℕ
capped index = option_map (λ i. min i 65536) index

-- ways begin at the places of the window alone
abbrev pub IsWithin : Ways → Type 0
IsWithin table = (k way : ℕ) → slice_index_or table.first.items k None ≡ Some way → IsIn table.window k

-- for each number of facts that went before, the first of the ways that goes all facts after them
pub record IsTable (approvals : List ApprovedDoc) (level : ℕ) (facts : List Move) (table : Ways) (ways : List Path) : Type 0 where
  pub count : table.count ≡ min (length ways) 65536
  pub size : length table.first.items ≡ length facts + 1
  pub first : (k : ℕ) → k ≤ length facts → slice_index_or table.first.items k None ≡ capped (first_index (goes approvals level facts k) ways)
  pub window : IsWithin table

-- so many ways for n facts, of which the first is the same whatever went before
pub record IsEverywhere (table : Ways) (n : ℕ) (way : Option ℕ) (number : ℕ) : Type 0 where
  pub count : table.count ≡ number
  pub size : length table.first.items ≡ n + 1
  pub first : (k : ℕ) → k ≤ n → slice_index_or table.first.items k None ≡ way
  pub window : IsWithin table

-- the lesser of two places
abbrev pub earlier : Option ℕ → Option ℕ → Option ℕ
earlier None b = b
earlier (Some i) None = Some i
earlier (Some i) (Some j) = Some (min i j)

-- a place that is kept or left
abbrev pub kept : Bool → Option ℕ → Option ℕ
kept true place = place
kept false place = None

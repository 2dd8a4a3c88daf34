-- When a path is the one that a session's facts went.
use Rattle.std.specs.Prelude.{◌≡◌, ℕ, ◌+◌, ◌-◌, ◌<◌, Bool, true, false, ◌&&◌, ◌||◌, not, List, [], ◌∷◌, ◌++◌, ◌⊎◌, length, drop, is_some, IsTrue, nat_lt, Option, None, Some}
use Rattle.tpol_tree.specs.declared.path.ApprovedDoc.{ApprovedDoc}
use Rattle.tpol_tree.specs.declared.path.Move.{Move}
use Rattle.tpol_tree.specs.declared.path.Move.TheVariants.{Assert, Or, Approve, ApproveNv}
use Rattle.tpol_tree.specs.declared.path.Path.{Path}
use Rattle.tpol_tree.specs.declared.path.PathStep.{PathStep}
use Rattle.tpol_tree.specs.declared.path.PathStep.TheVariants.{Branch, Document, Outside}
use Rattle.tpol_digest.specs.Paths.{approval_by_key, approval_by_index}
use Rattle.tpol_digest.specs.Update.{update_of}
use Rattle.tpol_trace.specs.Same.{approved_of, AreSame, same_update, same_digest, are_same}

-- the use of a document's approval by the key with the policyRef, or by the index, of an approval's move
abbrev pub approval_for : Move → ApprovedDoc → Option Move
approval_for (Assert assertion) document = None
approval_for (Or digests) document = None
approval_for (Approve key policy_ref approved signature) document = approval_by_key key policy_ref document.digest document.by
approval_for (ApproveNv index approved) document = approval_by_index index document.digest document.by

-- the fact approves the digest of a listed document that the move's key or index approved
abbrev pub IsListed : List ApprovedDoc → Move → Move → Type 0
IsListed [] act fact = ⊥
IsListed (document ∷ rest) act fact =
    (IsTrue (is_some (approval_for act document)) × (approved_of fact ≡ Some document.digest)) ⊎ IsListed rest act fact

-- how many approved documents a path enters before its choice Outside
abbrev pub documents_before : List PathStep → ℕ
documents_before [] = 0
documents_before (Branch position name ∷ rest) = documents_before rest
documents_before (Document name ∷ rest) = documents_before rest + 1
documents_before (Outside ∷ rest) = 0

-- An outside path begins with the approval of a digest that it leaves open, and tells nothing of what came
-- before. Its moves are the same as the last facts. Where it could have entered the approved document, that
-- is not listed: at most four are entered inside one another.
pub record MatchesOutside (approvals : List ApprovedDoc) (path : Path) (facts : List Move) : Type 0 where
  pub approval : Move
  pub rest : List Move
  pub moves : path.moves ≡ approval ∷ rest
  -- what came before the approval, the approval, and what came after it
  pub before : List Move
  pub approving : Move
  pub after : List Move
  pub split : facts ≡ before ++ approving ∷ after
  pub hashed : update_of approval ≡ update_of approving
  pub same : AreSame rest after
  pub unlisted : documents_before path.steps < 4 → IsListed approvals approval approving → ⊥

-- a path that is not outside has all its moves in the facts, and the facts have no more
abbrev pub MatchesBy : Bool → List ApprovedDoc → Path → List Move → Type 0
MatchesBy true approvals path facts = MatchesOutside approvals path facts
MatchesBy false approvals path facts = AreSame path.moves facts

abbrev pub Matches : List ApprovedDoc → Path → List Move → Type 0
Matches approvals path facts = MatchesBy path.outside approvals path facts

-- ---- the same as tests

abbrev pub is_listed : List ApprovedDoc → Move → Move → Bool
is_listed [] act fact = false
is_listed (document ∷ rest) act fact =
    (is_some (approval_for act document) && same_digest (approved_of fact) (Some document.digest)) || is_listed rest act fact

-- an outside path's first move; `enters` says whether it could have entered a listed document
abbrev pub matches_approval : List ApprovedDoc → Bool → Move → Move → Bool
matches_approval approvals enters approval approving =
    same_update (update_of approval) (update_of approving) && not (enters && is_listed approvals approval approving)

-- the same, and what comes after it
abbrev pub matches_last : List ApprovedDoc → Bool → List Move → List Move → Bool
matches_last approvals enters [] facts = false
matches_last approvals enters (approval ∷ rest) [] = false
matches_last approvals enters (approval ∷ rest) (approving ∷ after) =
    matches_approval approvals enters approval approving && are_same rest after

-- the last facts, so many as the path has moves
abbrev pub last_facts : List Move → List Move → List Move
last_facts moves facts = drop (length facts - length moves) facts

abbrev pub matches_by : Bool → List ApprovedDoc → Path → List Move → Bool
matches_by true approvals path facts = matches_last approvals (nat_lt (documents_before path.steps) 4) path.moves (last_facts path.moves facts)
matches_by false approvals path facts = are_same path.moves facts

abbrev pub matches : List ApprovedDoc → Path → List Move → Bool
matches approvals path facts = matches_by path.outside approvals path facts

-- A path matches where the test says so.
use Rattle.std.proofs.Common.{◌≡◌, ℕ, ◌-◌, ◌<◌, Bool, true, false, List, [], ◌∷◌, ◌++◌, length, drop, take, refl, sym, ap, ◌∙◌, arith, not, ◌&&◌}
use Rattle.std.specs.Prelude.{nat_lt}
use Rattle.std.specs.Bool.{Decides}
use Rattle.std.proofs.lemmas.Bool.{false≢true}
use Rattle.std.proofs.lemmas.Bool.Decides.{Decides-ltb, Decides-not}
use Rattle.std.proofs.lemmas.List.{drop_at, take-append-drop, length-append}
use Rattle.tpol_tree.specs.declared.path.ApprovedDoc.{ApprovedDoc}
use Rattle.tpol_tree.specs.declared.path.Move.{Move}
use Rattle.tpol_tree.specs.declared.path.Path.{Path}
use Rattle.tpol_digest.specs.Update.{update_of}
use Rattle.tpol_trace.specs.Same.{AreSame, same_update, are_same}
use Rattle.tpol_trace.specs.Matching.{IsListed, documents_before, MatchesOutside, MatchesBy, Matches, is_listed, matches_approval, matches_last, last_facts, matches_by, matches}
use Rattle.tpol_trace.proofs.Deciding.{and_Decides, Decides-by, update_Decides, same_Decides, listed_Decides}

pub same_length : (a b : List Move) → AreSame a b → length a ≡ length b
same_length [] [] h = refl
same_length [] (y ∷ b) h = absurd h
same_length (x ∷ a) [] h = absurd h
same_length (x ∷ a) (y ∷ b) h = let e = same_length a b h.1 in omega arith

module _ (approvals : List ApprovedDoc) (enters : Bool) (Enters : Type 0) (decides : Decides enters Enters) where
  -- the first move of an outside path and its fact
  abbrev ApprovesOutside : Move → Move → Type 0
  ApprovesOutside approval approving =
      (update_of approval ≡ update_of approving) × (Enters → IsListed approvals approval approving → ⊥)

  approval_Decides : (approval approving : Move) → Decides (matches_approval approvals enters approval approving) (ApprovesOutside approval approving)
  approval_Decides approval approving =
      and_Decides (same_update (update_of approval) (update_of approving)) (not (enters && is_listed approvals approval approving)) (update_Decides (update_of approval) (update_of approving)) (Decides-by (not (enters && is_listed approvals approval approving)) (λ h less listed. h (less, listed)) (λ h p. h p.0 p.1) (Decides-not (enters && is_listed approvals approval approving) (and_Decides enters (is_listed approvals approval approving) decides (listed_Decides approvals approval approving))))

  last_Decides : (approval approving : Move) (rest after : List Move) → Decides (matches_last approvals enters (approval ∷ rest) (approving ∷ after)) (ApprovesOutside approval approving × AreSame rest after)
  last_Decides approval approving rest after =
      and_Decides (matches_approval approvals enters approval approving) (are_same rest after) (approval_Decides approval approving) (same_Decides rest after)

outside_from_test : (approvals : List ApprovedDoc) (path : Path) (facts moves last : List Move) (n : ℕ) → path.moves ≡ moves → drop n facts ≡ last → matches_last approvals (nat_lt (documents_before path.steps) 4) moves last ≡ true → MatchesOutside approvals path facts
outside_from_test approvals path facts [] last n m l e = absurd (false≢true e)
outside_from_test approvals path facts (approval ∷ rest) [] n m l e = absurd (false≢true e)
outside_from_test approvals path facts (approval ∷ rest) (approving ∷ after) n m l e =
    let p = (last_Decides approvals (nat_lt (documents_before path.steps) 4) (documents_before path.steps < 4) (Decides-ltb (documents_before path.steps) 4) approval approving rest after).0 e in
    record {
      approval = approval;
      rest = rest;
      moves = m;
      before = take n facts;
      approving = approving;
      after = after;
      split = sym (take-append-drop n facts) ∙ ap (λ x. take n facts ++ x) l;
      hashed = p.0.0;
      same = p.1;
      unlisted = p.0.1;
    }

-- the last facts are those from the approval on
last_from_approval : (before rest after : List Move) (approval approving : Move) → AreSame rest after → last_facts (approval ∷ rest) (before ++ approving ∷ after) ≡ approving ∷ after
last_from_approval before rest after approval approving same =
    let e = same_length rest after same in
    let l = length-append before (approving ∷ after) in
    let n : length before ≡ length (before ++ approving ∷ after) - length (approval ∷ rest) = omega arith in
    drop_at before (approving ∷ after) (length (before ++ approving ∷ after) - length (approval ∷ rest)) n

test_from_outside : (approvals : List ApprovedDoc) (path : Path) (facts : List Move) → MatchesOutside approvals path facts → matches_by true approvals path facts ≡ true
test_from_outside approvals path facts h =
    let enters = nat_lt (documents_before path.steps) 4 in
    ap (λ m. matches_last approvals enters m (last_facts m facts)) h.moves
    ∙ ap (λ f. matches_last approvals enters (h.approval ∷ h.rest) (last_facts (h.approval ∷ h.rest) f)) h.split
    ∙ ap (λ l. matches_last approvals enters (h.approval ∷ h.rest) l) (last_from_approval h.before h.rest h.after h.approval h.approving h.same)
    ∙ (last_Decides approvals enters (documents_before path.steps < 4) (Decides-ltb (documents_before path.steps) 4) h.approval h.approving h.rest h.after).1 ((h.hashed, h.unlisted), h.same)

by_Decides : (outside : Bool) (approvals : List ApprovedDoc) (path : Path) (facts : List Move) → Decides (matches_by outside approvals path facts) (MatchesBy outside approvals path facts)
by_Decides true approvals path facts = (
  outside_from_test approvals path facts path.moves (last_facts path.moves facts) (length facts - length path.moves) refl refl,
  test_from_outside approvals path facts,
)
by_Decides false approvals path facts = same_Decides path.moves facts

pub matches_Decides : (approvals : List ApprovedDoc) (path : Path) (facts : List Move) → Decides (matches approvals path facts) (Matches approvals path facts)
matches_Decides approvals path facts = by_Decides path.outside approvals path facts

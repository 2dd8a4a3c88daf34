-- The opening of a policy by facts, whichever memory the policy and the approved documents lie in.
use Rattle.std.proofs.Common.{◌≡◌, ◌∙◌, ap, refl, ℕ, ◌+◌, Bool, true, false, ◌&&◌, ◌||◌, not, if◌then◌else◌, List, [], ◌∷◌, ◌++◌, map, Some, Option}
use Rattle.std.specs.Prelude.{is_some, nat_lt}
use Rattle.std.specs.Option.{option_map}
use Rattle.tpol_digest.proofs.Erasures.{inputs_ignore_boxes, paths_ignore_boxes}
use Rattle.tpol_digest.specs.Inputs.{inputs_of_facts}
use Rattle.tpol_digest.specs.Paths.{paths_of}
use Rattle.tpol_tree.specs.Facts.{moves_of as moves_of_facts}
use Rattle.tpol_trace.specs.Matching.{approval_for, documents_before, is_listed, last_facts, matches, matches_by, matches_last}
use Rattle.tpol_digest.specs.Update.{update_of}
use Rattle.tpol_trace.specs.Same.{approved_of, are_same, same_digest, same_update}
use Rattle.tpol_trace.specs.Openings.{events_of, first_index, first_match, inputs, opening_by, opening_of}
use Rattle.tpol_tree.specs.ClosedErased.{erased, erased_document}
use Rattle.tpol_tree.specs.declared.closed.Closed.{Closed}
use Rattle.tpol_tree.specs.declared.facts.Fact.{Fact}
use Rattle.tpol_tree.specs.declared.path.ApprovedDoc.{ApprovedDoc}
use Rattle.tpol_tree.specs.declared.path.Move.{Move}
use Rattle.tpol_tree.specs.declared.path.Move.TheVariants.{Assert, Or, Approve, ApproveNv}
use Rattle.tpol_tree.specs.declared.path.Path.{Path}

approval_erased : (act : Move) (document : ApprovedDoc) → approval_for act (erased_document document) ≡ approval_for act document
approval_erased (Assert assertion) document = refl
approval_erased (Or digests) document = refl
approval_erased (Approve key policy_ref approved signature) document = refl
approval_erased (ApproveNv index approved) document = refl

listed_erased : (approvals : List ApprovedDoc) (act fact : Move) → is_listed (map erased_document approvals) act fact ≡ is_listed approvals act fact
listed_erased [] act fact = refl
listed_erased (document ∷ rest) act fact =
    ap (λ (o : Option Move). (is_some o && same_digest (approved_of fact) (Some document.digest)) || is_listed (map erased_document rest) act fact) (approval_erased act document)
    ∙ ap (λ b. (is_some (approval_for act document) && same_digest (approved_of fact) (Some document.digest)) || b) (listed_erased rest act fact)

last_erased : (approvals : List ApprovedDoc) (enters : Bool) (moves facts : List Move) → matches_last (map erased_document approvals) enters moves facts ≡ matches_last approvals enters moves facts
last_erased approvals enters [] facts = refl
last_erased approvals enters (act ∷ rest) [] = refl
last_erased approvals enters (act ∷ rest) (fact ∷ after) =
    ap (λ b. (same_update (update_of act) (update_of fact) && not (enters && b)) && are_same rest after) (listed_erased approvals act fact)

by_erased : (outside : Bool) (approvals : List ApprovedDoc) (path : Path) (facts : List Move) → matches_by outside (map erased_document approvals) path facts ≡ matches_by outside approvals path facts
by_erased true approvals path facts = last_erased approvals (nat_lt (documents_before path.steps) 4) path.moves (last_facts path.moves facts)
by_erased false approvals path facts = refl

same_first : {A : Type 0} (f g : A → Bool) → ((x : A) → f x ≡ g x) → (xs : List A) → first_index f xs ≡ first_index g xs
same_first f g same [] = refl
same_first f g same (x ∷ rest) =
    ap (λ b. if b then Some 0 else option_map (λ (i : ℕ). i + 1) (first_index f rest)) (same x)
    ∙ ap (λ (found : Option ℕ). if g x then Some 0 else option_map (λ (i : ℕ). i + 1) found) (same_first f g same rest)

match_erased : (closed : Closed) (approvals : List ApprovedDoc) (facts : List Fact) → first_match (erased closed) (map erased_document approvals) facts ≡ first_match closed approvals facts
match_erased closed approvals facts =
    ap (first_index (λ path. matches (map erased_document approvals) path (moves_of_facts facts))) (paths_ignore_boxes closed approvals)
    ∙ same_first (λ path. matches (map erased_document approvals) path (moves_of_facts facts)) (λ path. matches approvals path (moves_of_facts facts))
    (λ path. by_erased path.outside approvals path (moves_of_facts facts)) (paths_of closed approvals)

pub opening_of_erased : (closed : Closed) (approvals : List ApprovedDoc) (facts : List Fact) → opening_of (erased closed) (map erased_document approvals) facts ≡ opening_of closed approvals facts
opening_of_erased closed approvals facts =
    ap (λ found. opening_by found (events_of facts) (inputs (erased closed) (map erased_document approvals) facts)) (match_erased closed approvals facts)
    ∙ ap (λ (strings : List (List ℕ)). opening_by (first_match closed approvals facts) (events_of facts) (strings ++ inputs_of_facts facts)) (inputs_ignore_boxes closed approvals)

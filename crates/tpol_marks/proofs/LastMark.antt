-- The last mark of a policy has the policy's digest.
use Rattle.std.proofs.Common.{◌≡◌, ◌+◌, ◌++◌, ℕ, List, [], ◌∷◌, codes, refl, ap, ◌∙◌}
use Rattle.std.specs.Prelude.{Option}
use Rattle.tpol_base.specs.declared.digest.Digest32.{Digest32}
use Rattle.tpol_digest.specs.Digest.{digest_at, digest_at_element, zero_digest}
use Rattle.tpol_fill.specs.Filling.{filled_element, filled_elements}
use Rattle.tpol_json.specs.declared.place.Place.{Place}
use Rattle.tpol_json.specs.Places.{at_item, at_member, root}
use Rattle.tpol_marks.specs.Laws.{LastIsPolicys, last_digest}
use Rattle.tpol_marks.specs.Marks.{marks_of, marks_of_elements, marks_within, mark_of}
use Rattle.tpol_marks.specs.declared.marks.Mark.{Mark}
use Rattle.tpol_name.specs.declared.sight.Sight.{Sight}
use Rattle.tpol_tree.specs.declared.policy.Elements.{Elements}
use Rattle.tpol_tree.specs.declared.policy.Elements.TheVariants.{More', End}

last-append : (d : Digest32) (marks more : List Mark) → last_digest d (marks ++ more) ≡ last_digest (last_digest d marks) more
last-append d [] more = refl
last-append d (mark ∷ marks) more = last-append mark.digest marks more

last_of_elements : (sight : Option Sight) (list : Place) (n : ℕ) (elements : Elements) (d : Digest32) → last_digest d (marks_of_elements sight list n elements d) ≡ digest_at (filled_elements sight elements) d
last_of_elements sight list n End d = refl
last_of_elements sight list n (More' p element q rest) d =
    let within = marks_within sight (at_item list n) element d in
    let mark = mark_of sight (at_item list n) element d in
    let after = digest_at_element (filled_element sight element) d in
    let others = marks_of_elements sight list (n + 1) rest after in
    last-append d (within ++ mark ∷ []) others
    ∙ ap (λ (e : Digest32). last_digest e others) (last-append d within (mark ∷ []))
    ∙ last_of_elements sight list (n + 1) rest after

pub last_is_policys : LastIsPolicys
unfolding marks_of
last_is_policys sight policy = last_of_elements sight (at_member root (codes "policy")) 0 policy.elements zero_digest

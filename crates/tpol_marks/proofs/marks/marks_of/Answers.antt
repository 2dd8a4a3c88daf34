use Rattle.std.proofs.Common.{◌++◌, codes, ap, ◌∙◌}
use Rattle.tpol_base.specs.declared.digest.Digest32.{Digest32}
use Rattle.tpol_json.specs.declared.place.Place.{Place}
use Rattle.tpol_json.specs.Places.{at_member, root}
use Rattle.tpol_marks.proofs.MarksErased.{marks_of-erased}
use Rattle.tpol_marks.specs.Marks.{marks_of_elements}
use Rattle.tpol_tree.specs.declared.closed.Closed.{Closed}
use Rattle.tpol_marks.proofs.marks.marks_of.Goals as goal

pub returns : goal.returns
returns c = λ sight same.
    let elements = c.args.policy.now.elements in
    let list = c.member-list.ensures ∙ ap (λ (place : Place). at_member place (codes "policy")) (c.at-document.ensures ∙ c.root-root.ensures) in
    c.in_ok-push_elements.ensures sight (ap (λ (closed : Closed). closed.elements) same)
    ∙ ap (λ marks. marks ++ marks_of_elements sight c.member-list.result 0 elements c.zero_digest.result) c.new-marks.ensures
    ∙ ap (λ (place : Place). marks_of_elements sight place 0 elements c.zero_digest.result) list
    ∙ ap (λ (d : Digest32). marks_of_elements sight (at_member root (codes "policy")) 0 elements d) c.zero_digest.ensures
    ∙ marks_of-erased sight c.args.policy.now

use Rattle.std.proofs.Common.{◌++◌, List, ℕ, map, ap, ◌∙◌}
use Rattle.std.proofs.lemmas.List.{append_assoc}
use Rattle.std.proofs.lemmas.Result.{on_ok_weaker}
use Rattle.std.specs.List.{flat_map}
use Rattle.serde_json.specs.View.{view}
use Rattle.tpol_adopt.specs.Dropped.{dropped}
use Rattle.tpol_bridge.proofs.Filled.{filled_is}
use Rattle.tpol_bridge.specs.Lines.{dropped_line, mark_lines}
use Rattle.tpol_json.specs.declared.place.Place.{Place}
use Rattle.tpol_lines.specs.Lines.{line_of}
use Rattle.tpol_marks.specs.Marks.{marks_of}
use Rattle.tpol_marks.specs.declared.marks.Mark.{Mark}
use Rattle.tpol_steps.specs.Lines.{note_line}
use Rattle.tpol_tree.specs.ClosedErased.{erased}
use Rattle.tpol_tree.specs.Erased.{erased_policy}
use Rattle.tpol_bridge.proofs.digests.push_export.Goals as goal

abbrev dropped_lines : List Place → List (List ℕ)
dropped_lines places = map (λ place. line_of (dropped_line place)) places

abbrev note_lines : List Place → List (List ℕ)
note_lines places = map (λ place. line_of (note_line place)) places

pub returns : goal.returns
returns c = λ sight filled.
    let export = c.args.export.now in
    let lines : List (List ℕ) = c.args.lines.now in
    let document = view export.document in
    let ours : List Place = dropped document in
    let marks = marks_of sight (erased_policy export.policy) in
    let first = c.in_ok-push_dropped.ensures ∙ ap (λ l. lines ++ dropped_lines l) (c.as_slice-2.ensures ∙ c.in_ok-dropped.ensures) in
    let second = c.in_ok-push_notes.ensures ∙ ap (λ l. c.push_dropped.new.lines ++ note_lines l) c.as_slice-3.ensures ∙ ap (λ l. l ++ note_lines export.notes) first in
    let told = c.as_slice-4.ensures ∙ c.in_ok-marks.ensures sight (filled_is export.policy sight (erased c.args.closed.now) filled) in
    on_ok_weaker c.push_marks.result (λ is.
    is
    ∙ ap (λ (l : List Mark). c.push_notes.new.lines ++ flat_map (mark_lines document) l) told
    ∙ ap (λ l. l ++ flat_map (mark_lines document) marks) second
    ∙ ap (λ l. l ++ flat_map (mark_lines document) marks) (append_assoc lines (dropped_lines ours) (note_lines export.notes))
    ∙ append_assoc lines (dropped_lines ours ++ note_lines export.notes) (flat_map (mark_lines document) marks)) c.push_marks.ensures

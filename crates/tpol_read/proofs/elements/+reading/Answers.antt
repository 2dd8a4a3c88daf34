use Rattle.std.proofs.Common.{◌∙◌, sym, ap, subst}
use Rattle.serde_json.proofs.Views.{view-Array}
use Rattle.serde_json.specs.View.{view}
use Rattle.tpol_read.specs.Elements.{element_at}
use Rattle.tpol_members.specs.Walks.{LeavesAs}
use Rattle.tpol_read.proofs.ItemLists.{elements_in-each}
use Rattle.tpol_read.proofs.elements.+reading.Goals as goal
use Rattle.tpol_members.specs.Faults.{Found}
use Rattle.tpol_members.specs.declared.walk.Walk.{Walk}
use Rattle.tpol_tree.specs.Erased.{erased_elements}
use Rattle.tpol_tree.specs.declared.policy.Elements.{Elements}

pub element_list-returns-else-is_empty : goal.element_list-returns-else-is_empty
element_list-returns-else-is_empty t c =
    let each = elements_in-each (element_at c.args.levels) _ c.in-Array.items.items c.as_slice-items.result.now c.args.place.now c.args.walk.now (ap view c.in-Array.is ∙ view-Array c.in-Array.items) c.as_slice-items.ensures.value c.if-is_empty.ensures in
    let P : Found (Elements × Walk) → Type 0 = λ reading. LeavesAs erased_elements c.elements.result c.elements.new.walk reading in
    subst P (sym each) c.elements.ensures

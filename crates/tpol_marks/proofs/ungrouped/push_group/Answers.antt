use Rattle.std.proofs.Common.{◌≡◌, ap, sym, ◌∙◌}
use Rattle.tpol_marks.proofs.Branches.{group_same}
use Rattle.tpol_tree.specs.ClosedErased.{erased_element, erased_elements}
use Rattle.tpol_tree.specs.Erased.{nowhere}
use Rattle.tpol_tree.specs.declared.closed.ClosedElement.{ClosedElement}
use Rattle.tpol_tree.specs.declared.closed.ClosedElement.TheVariants.{Or}
use Rattle.tpol_tree.specs.declared.closed.ClosedElements.TheVariants.{More'}
use Rattle.tpol_marks.proofs.ungrouped.push_group.Goals as goal

pub returns-in-Or : goal.returns-in-Or
returns-in-Or c = λ number first rest same count.
    let behind = erased_elements c.in-More.field-1.value in
    let or : c.in-More.element.value ≡ Or c.in-Or.branches = sym c.deref.ensures ∙ c.in-Or.is in
    let whole =
    ap (λ (element : ClosedElement). More' nowhere (erased_element element) nowhere behind) (sym or)
    ∙ ap erased_elements (sym c.in-More.is) ∙ same in
    let branches = group_same number c.args.left first rest c.in-Or.branches behind whole count c.if-left-eq1.false in
    rw branches at c.push_branches.ensures

use Rattle.std.proofs.Common.{◌+◌, ◌++◌, Bor, map, drop, ap, sym, ◌∙◌}
use Rattle.std.proofs.lemmas.Result.{on_ok_weaker}
use Rattle.tpol_fill.specs.Groups.{branches_in}
use Rattle.tpol_marks.proofs.Branches.{first_group, joined, elements_of}
use Rattle.tpol_tree.specs.ClosedErased.{erased_elements}
use Rattle.tpol_tree.specs.declared.closed.ClosedBranch.{ClosedBranch}
use Rattle.tpol_tree.specs.declared.closed.ClosedElements.{ClosedElements}
use Rattle.tpol_marks.proofs.ungrouped.+push_groups.Goals as goal

pub returns-in_ok-push_group-in-More : goal.returns-in_ok-push_group-in-More
returns-in_ok-push_group-in-More t c = λ number all same count.
    let before = map (λ (elements : Bor ClosedElements). erased_elements elements.now) c.args.list.now.items in
    let group = c.in-More.group.value in
    let g = first_group number c.args.left all group.name (erased_elements group.policy.elements) (branches_in c.in-More.rest.value) (ap branches_in (sym c.in-More.is) ∙ same) count in
    let first = c.in_ok-push_group-in-More.ensures number g.first g.rest (ap (λ (branch : ClosedBranch). erased_elements branch.policy.elements) c.deref.ensures ∙ g.group_is) g.count in
    let later = c.push_groups.ensures (number + 1) (drop 7 g.rest) (ap branches_in c.deref-in-More.ensures ∙ g.others_are) (g.fewer ∙ sym c.saturating_sub.ensures) in
    on_ok_weaker c.push_groups.result (λ is. is ∙ ap (λ l. l ++ elements_of (drop 7 g.rest)) first ∙ joined before g.first g.rest ∙ ap (λ l. before ++ elements_of l) (sym g.is)) later

-- Within a level of ORs the functions call one another from the branches down to an element's OR.
use Rattle.std.proofs.Common.{◌+◌, ◌*◌, ◌^◌, length}
use Rattle.tpol_read.proofs.elements.+reading.Given as goal

abbrev pub decreases-branch_list : goal.decreases-branch_list
decreases-branch_list l = l.levels * 2 ^ 80 + 2 ^ 76

abbrev pub decreases-branches : goal.decreases-branches
decreases-branches l = l.levels * 2 ^ 80 + 2 ^ 72 + 16 * length l.items.now

abbrev pub decreases-branch : goal.decreases-branch
decreases-branch l = l.levels * 2 ^ 80 + 2 ^ 72

abbrev pub decreases-policy : goal.decreases-policy
decreases-policy l = l.levels * 2 ^ 80 + 2 ^ 70 + 2

abbrev pub decreases-element_list : goal.decreases-element_list
decreases-element_list l = l.levels * 2 ^ 80 + 2 ^ 70 + 1

abbrev pub decreases-elements : goal.decreases-elements
decreases-elements l = l.levels * 2 ^ 80 + 16 * length l.items.now

abbrev pub decreases-counted : goal.decreases-counted
decreases-counted l = l.levels * 2 ^ 80 + 2

abbrev pub decreases-element : goal.decreases-element
decreases-element l = l.levels * 2 ^ 80 + 1

abbrev pub decreases-or : goal.decreases-or
decreases-or l = l.levels * 2 ^ 80

use Rattle.tpol_digest.proofs.Weights.{weight, weight_of_element, weight_of_branches}
use Rattle.tpol_choose.proofs.selection.+selection.Given as goal

abbrev pub decreases-first_of_elements : goal.decreases-first_of_elements
decreases-first_of_elements l = weight l.elements.now

abbrev pub decreases-first_of_element : goal.decreases-first_of_element
decreases-first_of_element l = weight_of_element l.element.now

abbrev pub decreases-first_of_branches : goal.decreases-first_of_branches
decreases-first_of_branches l = weight_of_branches l.branches.now

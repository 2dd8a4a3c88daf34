use Rattle.std.proofs.Common.{arith}
use Rattle.std.proofs.lemmas.Grind.{common_steps}
use Rattle.tpol_export.proofs.Foretold.{any_left, any_right}
use Rattle.tpol_export.proofs.differences.+walk.Goals as goal

pub push_branches-returns-then-here-clause-told : goal.push_branches-returns-then-here-clause-told
push_branches-returns-then-here-clause-told t c = grind (arith, common_steps, any_left)

pub push_branches-returns-else-here-clause-told : goal.push_branches-returns-else-here-clause-told
push_branches-returns-else-here-clause-told t c = grind (arith, common_steps, any_right)

pub push_elements-returns-then-here-clause-told : goal.push_elements-returns-then-here-clause-told
push_elements-returns-then-here-clause-told t c = grind (arith, common_steps, any_left)

pub push_elements-returns-else-here-clause-told : goal.push_elements-returns-else-here-clause-told
push_elements-returns-else-here-clause-told t c = grind (arith, common_steps, any_right)

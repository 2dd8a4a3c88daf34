use Rattle.std.proofs.Common.{length}
use Rattle.tpol_fill.specs.Groups.{branches_in}
use Rattle.tpol_fill.proofs.groups.+in_groups.Given as goal

abbrev pub decreases-in_groups : goal.decreases-in_groups
decreases-in_groups l = length (branches_in l.branches)

use Rattle.std.proofs.Common.{◌≡◌, map, take}
use Rattle.tpm_bindings.specs.Facts.{last_auth}
use Rattle.tpol_driver.specs.GoalUse.{bare_fact}
use Rattle.tpol_driver.proofs.goal_use.auth_of_path.Given as goal

-- what the first moves ask for is known
abbrev pub invariant-loop-act : goal.invariant-loop-act
invariant-loop-act l = l.auth ≡ last_auth (map bare_fact (take l.act-index l.moves))

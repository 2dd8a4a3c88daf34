use Rattle.std.proofs.Common.{arith}
use Rattle.tpol_generate.proofs.generated.two_branches.Goals as goal

pub returns-in_ok-branches-in-Ok-clause-branches : goal.returns-in_ok-branches-in-Ok-clause-branches
returns-in_ok-branches-in-Ok-clause-branches c =
    let behind = c.in-Ok.ensures in
    let all = c.in_ok-branches-in-Ok.ensures in
    λ first second. ((omega (arith, behind.count, all.count), omega (arith, behind.count, all.count)), all.within first (behind.within second tt))

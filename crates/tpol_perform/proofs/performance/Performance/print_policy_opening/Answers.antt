use Rattle.std.proofs.Common.{subst}
use Rattle.tpol_digest.specs.Paths.{paths_of}
use Rattle.tpol_lines.specs.OpeningLine.{IsListed}
use Rattle.tpol_perform.proofs.Chosen.{opening_listed}
use Rattle.tpol_perform.proofs.performance.Performance.print_policy_opening.Goals as goal

pub print_lines-told-requires-clause-listed : goal.print_lines-told-requires-clause-listed
print_lines-told-requires-clause-listed c =
    let listed = opening_listed c.filled.result.now.closed c.documents-approvals.result.now c.args.facts.now c.in_ok-opening.opening c.in_ok-opening.ensures.means in
    subst (λ l. IsListed (paths_of c.filled.result.now.closed l) c.in_ok-opening.opening) c.documents-approvals.ensures listed

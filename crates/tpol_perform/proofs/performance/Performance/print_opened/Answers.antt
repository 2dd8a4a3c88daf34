use Rattle.std.proofs.Common.{sym}
use Rattle.tpol_prepare.proofs.Walkable.{policy_walkable}
use Rattle.tpol_perform.proofs.performance.Performance.print_opened.Goals as goal

pub print_policy_opening-requires-clause-walked : goal.print_policy_opening-requires-clause-walked
print_policy_opening-requires-clause-walked c =
    policy_walkable c.args.scenario.now.approvals c.args.scenario.now.entities c.args.opened.now.entity c.in-Some.document.now.closed
    c.requires.walked (sym c.in-Some.ensures)

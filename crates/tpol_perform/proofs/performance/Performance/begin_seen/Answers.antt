use Rattle.std.proofs.Common.{sym}
use Rattle.tpol_prepare.proofs.Walkable.{document_walkable}
use Rattle.tpol_perform.proofs.performance.Performance.begin_seen.Goals as goal

pub begin_on-requires-clause-walked : goal.begin_on-requires-clause-walked
begin_on-requires-clause-walked c =
    document_walkable c.args.scenario.now.approvals c.args.scenario.now.begun c.args.policy.now c.in-Some.document.now
    c.requires.begun (sym c.in-Some.ensures)

use Rattle.std.proofs.Common.{sym}
use Rattle.tpol_prepare.proofs.Walkable.{document_walkable}
use Rattle.tpol_who.proofs.survey.Survey.tell_paths.Goals as goal

pub push_paths-requires-clause-walked : goal.push_paths-requires-clause-walked
push_paths-requires-clause-walked c =
    document_walkable c.args.scenario.now.approvals c.args.scenario.now.begun c.args.policy.now c.in-Some.document.now
    c.requires.begun (sym c.in-Some.ensures)

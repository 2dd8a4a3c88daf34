use Rattle.std.proofs.lemmas.Result.{IfOk-weaker}
use Rattle.tpol_trace.proofs.Entries.{none_table}
use Rattle.tpol_trace.proofs.Steps.{ask_length}
use Rattle.tpol_trace.proofs.ways.Ways.none.Goals as goal

pub returns-clause-none : goal.returns-clause-none
returns-clause-none c =
    IfOk-weaker c.all_at.result _ _ (λ table h approvals level moves asks. none_table approvals level moves table _ (ask_length c.args.facts.now moves asks) h) c.all_at.ensures

use Rattle.std.proofs.Common.{length, refl}
use Rattle.tpol_trace.proofs.Entries.{end_table}
use Rattle.tpol_trace.proofs.Steps.{ask_length}
use Rattle.tpol_trace.proofs.ways.Ways.end.Goals as goal

pub returns-clause-end : goal.returns-clause-end
returns-clause-end c = λ approvals level moves asks.
    end_table approvals level moves c.in_ok-ways.ways _ (length c.args.facts.now) (ask_length c.args.facts.now moves asks) c.in_ok-ways.ensures refl refl refl refl

use Rattle.std.proofs.Common.{rules, length, refl}
use Rattle.tpol_trace.proofs.Entries.{everywhere}
use Rattle.tpol_trace.proofs.ways.Ways.all_at.Goals as goal

pub returns : goal.returns
returns c =
    everywhere _ (length c.args.facts.now) c.args.first c.args.count refl (search rules) c.window_of.ensures.places

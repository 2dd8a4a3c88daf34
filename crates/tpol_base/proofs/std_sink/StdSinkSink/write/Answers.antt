use Rattle.std.proofs.Common.{rules}
use Rattle.tpol_base.proofs.Written.{first_parts}
use Rattle.tpol_base.proofs.std_sink.StdSinkSink.write.Goals as goal

pub loop-written-preserved : goal.loop-written-preserved
loop-written-preserved g c = record {
  within = search rules;
  grown = first_parts _ _ _ c.args.bytes.now c.loop-written.written c.in-Ok.count c.loop-written.invariant.grown c.in-Ok.ensures.bytes;
  faults = search rules;
}

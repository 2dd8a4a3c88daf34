use Rattle.std.proofs.Common.{arith}
use Rattle.std.proofs.lemmas.Grind.{common_steps}
use Rattle.std.proofs.lemmas.List.Concat.{flat_map-append}
use Rattle.tpol_store.proofs.approvals.push_compiled.Goals as goal

pub loop-wish-preserved : goal.loop-wish-preserved
loop-wish-preserved c = record {
  documents = grind (arith, common_steps, flat_map-append);
  form = λ readable before. c.in_ok-push_kept.ensures.form (c.in_ok-found.ensures.form readable) (c.loop-wish.invariant.form readable before);
  bounded = λ readable before. c.in_ok-push_kept.ensures.bounded (c.in_ok-found.ensures.bounded readable) (c.loop-wish.invariant.bounded readable before);
}

use Rattle.std.proofs.Common.{refl, ◌∙◌}
use Rattle.tpol_who.proofs.PathLines.{path_step}
use Rattle.tpol_who.proofs.paths.push_list.Goals as goal

pub loop-index-preserved : goal.loop-index-preserved
loop-index-preserved c =
    let index = c.loop-index.index in
    λ sight run paths e f.
    path_step sight run paths c.args.blocks.now c.args.labels.now index c.loop-index.lines c.push_path.new.lines c.get.result.now _ _ e f c.loop-index-test.true c.in_ok-push_path.ensures c.get.ensures refl
    ∙ c.loop-index.invariant sight run paths e f

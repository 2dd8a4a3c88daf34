use Rattle.std.proofs.Common.{◌++◌, ◌∷◌, [], sym, ap, ◌∙◌, append-nil, append_assoc, arith}
use Rattle.std.specs.Prelude.{slice_range}
use Rattle.tpol_lines.proofs.WholeLines.{range_more}
use Rattle.tpol_lines.proofs.lines.Lines.append.Goals as goal

pub loop-index-preserved : goal.loop-index-preserved
loop-index-preserved c =
    let line = c.parts.result.0.now ++ c.parts.result.1.now in
    let index = c.loop-index.index in
    let others = c.args.others.now in
    let more = range_more others c.args.start index line c.loop-index.invariant.started (omega (arith, c.loop-index-test.true, c.requires.within)) c.parts.ensures in
    let pushed = c.in-Ok.ensures.ok ∙ ap (λ l. c.loop-index.self ++ (c.parts.result.0.now ++ l) ∷ []) (append-nil c.parts.result.1.now) in
    record {
      lines = pushed ∙ ap (λ l. l ++ line ∷ []) c.loop-index.invariant.lines ∙ append_assoc c.args.self.now (slice_range others c.args.start index) (line ∷ []) ∙ ap (λ l. c.args.self.now ++ l) (sym more);
      started = omega (arith, c.loop-index.invariant.started);
    }

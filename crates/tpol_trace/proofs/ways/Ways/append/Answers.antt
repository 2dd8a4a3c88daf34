use Rattle.std.proofs.Common.{arith, refl}
use Rattle.tpol_trace.proofs.Entries.{joined_table}
use Rattle.tpol_trace.proofs.Steps.{join_start}
use Rattle.tpol_trace.proofs.ways.Ways.append.Goals as goal

pub loop-k-init : goal.loop-k-init
loop-k-init c = (refl, λ within. join_start c.args.self.now c.args.others.now c.args.others.now.window.from within refl)

pub returns-clause-both : goal.returns-clause-both
returns-clause-both c = λ approvals level moves ways more t u.
    let end = c.loop-k-test.false in
    let joined = c.loop-k.invariant.1 u.window in
    let counted = joined.count in
    joined_table approvals level moves c.loop-k.self c.args.self.now c.args.others.now _ c.loop-k.k c.min-self.result ways more joined (omega (arith, end)) (omega (arith, counted)) refl refl c.loop-k.invariant.0 c.around-self.ensures.first c.around-self.ensures.second t u

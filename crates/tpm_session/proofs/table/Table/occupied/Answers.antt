use Rattle.std.proofs.Common.{◌≡◌, ◌-◌, ap, ◌∙◌, arith, drop}
use Rattle.std.specs.Int.{bit_at}
use Rattle.tpm_session.specs.Slots.{bits_of}
use Rattle.tpm_session.proofs.Bits.{bit_at-bits}
use Rattle.tpm_session.proofs.table.Table.occupied.Goals as goal

pub returns-clause-bits : goal.returns-clause-bits
returns-clause-bits g c slot =
    let self = c.args.self.now in
    let over : c.len-count.result - c.loop-above.above ≡ 0 = omega arith in
    let whole = c.loop-above.invariant.0 ∙ ap (λ n. bits_of (drop n self)) over in
    ap (λ n. bit_at n slot) whole ∙ bit_at-bits self slot

use Rattle.std.proofs.Common.{◌∙◌, sym, ap, arith}
use Rattle.std.specs.Prelude.{not}
use Rattle.tpm_pcr.proofs.Signs.{other_test, same_test, signs_agree, signs_differ, signs_differ'}
use Rattle.tpm_pcr.proofs.comparison.signed_order.Goals as goal

pub returns-then-negative-is_negative : goal.returns-then-negative-is_negative
returns-then-negative-is_negative c =
    c.unsigned_order.ensures
    ∙ signs_agree c.args.a.now c.args.b.now c.requires
    (sym c.is_negative-negative.ensures ∙ same_test _ _ c.if-negative-is_negative.true ∙ c.is_negative.ensures)

pub returns-then-negative : goal.returns-then-negative
returns-then-negative c =
    signs_differ c.args.a.now c.args.b.now (λ i. omega (arith, c.type_inv.a i))
    (sym c.if-negative.true ∙ c.is_negative-negative.ensures)
    (ap not (sym c.if-negative.true) ∙ other_test _ _ c.if-negative-is_negative.false ∙ c.is_negative.ensures)

pub returns-else-negative : goal.returns-else-negative
returns-else-negative c =
    signs_differ' c.args.a.now c.args.b.now (λ i. omega (arith, c.type_inv.b i))
    (sym c.if-negative.false ∙ c.is_negative-negative.ensures)
    (ap not (sym c.if-negative.false) ∙ other_test _ _ c.if-negative-is_negative.false ∙ c.is_negative.ensures)

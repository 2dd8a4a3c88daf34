use Rattle.std.proofs.Common.{◌∙◌, arith}
use Rattle.tpm_pcr.proofs.Orders.{unsigned_order-bytes}
use Rattle.tpm_pcr.proofs.comparison.unsigned_order.Goals as goal

pub returns : goal.returns
returns c =
    c.order_of_bytes.ensures
    ∙ unsigned_order-bytes c.args.a.now c.args.b.now (λ i. omega (arith, c.type_inv.a i)) (λ i. omega (arith, c.type_inv.b i)) c.requires

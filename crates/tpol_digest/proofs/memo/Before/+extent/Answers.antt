use Rattle.std.proofs.Common.{subst}
use Rattle.tpol_digest.specs.Extent.{IsCapped, document_extent, extent_at, extent_at_element}
use Rattle.tpol_digest.proofs.Extents.{capped_both}
use Rattle.tpol_digest.proofs.memo.Before.+extent.Goals as goal

pub returns-in-More : goal.returns-in-More
returns-in-More t c =
    let within = document_extent c.args.approvals.now c.args.levels in
    let documents = c.args.approvals.now in
    let first = subst (λ e. IsCapped c.first_extent-first.result (extent_at_element within documents e)) c.deref.ensures c.first_extent-first.ensures in
    let others = subst (λ e. IsCapped c.extent.result (extent_at within documents e)) c.deref-in-More-4.ensures c.extent.ensures in
    rw c.in-More.is (capped_both c.first_extent-first.result c.extent.result c.then.result (extent_at_element within documents c.in-More.element.value) (extent_at within documents c.in-More.rest.value) first others c.then.ensures.paths c.then.ensures.moves)

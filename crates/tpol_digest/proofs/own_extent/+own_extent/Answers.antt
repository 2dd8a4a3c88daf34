use Rattle.std.proofs.Common.{subst}
use Rattle.tpol_digest.specs.Extent.{IsCapped, extent_at, extent_at_element}
use Rattle.tpol_digest.proofs.Extents.{capped_both}
use Rattle.tpol_digest.proofs.own_extent.+own_extent.Goals as goal

pub own_extent-returns-in_ok-others-in-More : goal.own_extent-returns-in_ok-others-in-More
own_extent-returns-in_ok-others-in-More t c = λ within documents.
    let first = subst (λ e. IsCapped c.in_ok-first-in-More.first (extent_at_element within documents e)) c.deref.ensures (c.in_ok-first-in-More.ensures within documents) in
    let others = subst (λ e. IsCapped c.in_ok-others-in-More.others (extent_at within documents e)) c.deref-in-More.ensures (c.in_ok-others-in-More.ensures within documents) in
    rw c.in-More.is (capped_both c.in_ok-first-in-More.first c.in_ok-others-in-More.others c.then.result (extent_at_element within documents c.in-More.element.value) (extent_at within documents c.in-More.rest.value) first others c.then.ensures.paths c.then.ensures.moves)

use Rattle.std.proofs.Common.{◌∙◌, sym, ap}
use Rattle.tpol_steps.proofs.SameDigests.{digests_are_same}
use Rattle.tpol_steps.proofs.same_policy.are_same_digests.Goals as goal

pub returns : goal.returns
returns c = λ h.
    sym c.as_slice.ensures ∙ digests_are_same c.as_slice.result.now c.as_slice-2.result.now (sym c.eq.ensures ∙ h) ∙ c.as_slice-2.ensures

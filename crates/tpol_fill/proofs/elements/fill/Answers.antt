use Rattle.std.proofs.Common.{ap, sym, ◌∙◌}
use Rattle.std.specs.Option.{option_copied}
use Rattle.tpol_digest.specs.Digest.{digest_at, zero_digest}
use Rattle.tpol_digest.specs.Paths.{paths_of}
use Rattle.tpol_digest.proofs.Erasures.{digest_at-erased, paths_of-erased}
use Rattle.tpol_fill.proofs.WellFormedLemmas.{approvals_lead-filled, branches-filled, form-filled, pcr_digests-filled, well_formed-filled}
use Rattle.tpol_fill.proofs.BoundLemmas.{bounded-filled}
use Rattle.tpol_fill.proofs.elements.fill.Goals as goal

pub returns-clause-well_formed : goal.returns-clause-well_formed
returns-clause-well_formed c =
    well_formed-filled _ c.args.policy.now.elements (option_copied c.args.sight) _ c.in_ok-elements.ensures.0 c.in_ok-elements.ensures.1

pub returns-clause-form : goal.returns-clause-form
returns-clause-form c = λ counts.
    form-filled _ c.args.policy.now.elements (option_copied c.args.sight) _ counts c.in_ok-elements.ensures.0 c.in_ok-elements.ensures.1

pub returns-clause-approvals_lead : goal.returns-clause-approvals_lead
returns-clause-approvals_lead c =
    approvals_lead-filled _ c.args.policy.now.elements (option_copied c.args.sight) _ c.in_ok-elements.ensures.0 c.in_ok-elements.ensures.1

pub returns-clause-pcr_digests : goal.returns-clause-pcr_digests
returns-clause-pcr_digests c =
    pcr_digests-filled c.args.policy.now.elements (option_copied c.args.sight) _ c.in_ok-elements.ensures.1

-- the digest does not depend on where the boxes lie
pub returns-clause-digest : goal.returns-clause-digest
returns-clause-digest c =
    sym (digest_at-erased c.in_ok-elements.elements zero_digest) ∙ ap (λ elements. digest_at elements zero_digest) c.in_ok-elements.ensures.1

pub returns-clause-paths : goal.returns-clause-paths
returns-clause-paths c = λ documents.
    sym (paths_of-erased (record { elements = c.in_ok-elements.elements }) documents) ∙ ap (λ elements. paths_of (record { elements = elements }) documents) c.in_ok-elements.ensures.1

pub returns-clause-branches : goal.returns-clause-branches
returns-clause-branches c = λ counts.
    branches-filled c.args.policy.now.elements (option_copied c.args.sight) _ counts c.in_ok-elements.ensures.1

pub returns-clause-bounded : goal.returns-clause-bounded
returns-clause-bounded c = λ bounds.
    bounded-filled _ c.args.policy.now.elements (option_copied c.args.sight) _ bounds c.in_ok-elements.ensures.0 c.in_ok-elements.ensures.1

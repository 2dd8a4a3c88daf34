use Rattle.std.proofs.Common.{ap, sym, ◌∙◌}
use Rattle.tpol_adopt.specs.Normal.{normal}
use Rattle.tpol_export.proofs.Documents.{spelling-says}
use Rattle.tpol_export.proofs.laws.exports_read_back.Goals as goal
use Rattle.tpol_export.specs.Spelling.{spelled}
use Rattle.tpol_read.specs.Documents.{policy_of}
use Rattle.tpol_write.proofs.CanonErased.{same_policy}

pub returns : goal.returns
returns c = λ d policy notes stands.
    let law = c.canonical_values_stand.ensures d policy notes stands in
    ap (λ v. policy_of (normal (spelled v))) (sym (same_policy policy))
    ∙ spelling-says policy (ap policy_of (same_policy policy) ∙ law.0.1)

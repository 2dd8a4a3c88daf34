-- The text of an export does not depend on where a policy's boxes lie.
use Rattle.std.proofs.Common.{◌≡◌, ap}
use Rattle.serde_json.specs.Written.{compact_text}
use Rattle.tpol_export.specs.Spelling.{spelled}
use Rattle.tpol_export.specs.Text.{export_text}
use Rattle.tpol_tree.specs.Erased.{erased_policy}
use Rattle.tpol_tree.specs.declared.policy.Policy.{Policy}
use Rattle.tpol_write.proofs.CanonErased.{same_policy}

pub export_text_erased : (policy : Policy) → export_text (erased_policy policy) ≡ export_text policy
export_text_erased policy = ap (λ v. compact_text (spelled v)) (same_policy policy)

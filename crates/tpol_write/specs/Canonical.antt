-- The canonical text of a policy.
use Rattle.std.specs.Prelude.{ℕ, List, ◌∷◌, codes}
use Rattle.serde_json.specs.Data.{Data, string}
use Rattle.serde_json.specs.Written.{compact_text}
use Rattle.tpol_tree.specs.declared.policy.Policy.{Policy}
use Rattle.tpol_write.specs.Approvals.{approvals_members}
use Rattle.tpol_write.specs.Elements.{elements_values}
use Rattle.tpol_write.specs.Objects.{object_of, list_of}

unfoldable pub policy_value : Policy → Data
policy_value policy = object_of (
    (codes "description", string policy.description) ∷ (codes "policy", list_of (elements_values policy.elements))
    ∷ approvals_members policy.approvals)

-- the text without spaces
abbrev pub canonical_text : Policy → List ℕ
canonical_text policy = compact_text (policy_value policy)

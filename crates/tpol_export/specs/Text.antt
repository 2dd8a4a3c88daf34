-- The text of a policy in FAPI's spelling.
use Rattle.std.specs.Prelude.{ℕ, List}
use Rattle.serde_json.specs.Written.{compact_text}
use Rattle.tpol_export.specs.Spelling.{policy_spelling}
use Rattle.tpol_tree.specs.declared.policy.Policy.{Policy}

-- the text without spaces
abbrev pub export_text : Policy → List ℕ
export_text policy = compact_text (policy_spelling policy)

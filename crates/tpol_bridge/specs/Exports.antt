-- Reading what FAPI exported: the policy is that of the document in the profile's spelling.
use Rattle.std.specs.Prelude.{ℕ, List, Option, Some, None, Ok, Err}
use Rattle.serde_json.specs.Data.{Data}
use Rattle.serde_json.specs.View.{view}
use Rattle.tpol_adopt.specs.Normal.{normal}
use Rattle.tpol_bridge.specs.declared.export.Export.{Export}
use Rattle.tpol_json.specs.Document.{document_of}
use Rattle.tpol_json.specs.declared.place.Place.{Place}
use Rattle.tpol_steps.specs.ReadStep.{read_document}
use Rattle.tpol_steps.specs.Refusals.{policy_not_json}
use Rattle.tpol_steps.specs.Steps.{Step, ◌>>=◌}
use Rattle.tpol_tree.specs.Erased.{erased_policy}
use Rattle.tpol_tree.specs.declared.policy.Policy.{Policy}

-- a document as it is written, the policy that it says, and the notes on it
pub record Exported : Type 0 where
  pub document : Data
  pub policy : Policy
  pub notes : List Place

-- what a document says in the profile's spelling
abbrev pub exported : Data → Step Exported
exported d = read_document (Some (normal d)) >>= λ read. Ok (record { document = d; policy = read.0; notes = read.1 })

abbrev pub exported_in : Option Data → Step Exported
exported_in None = Err (policy_not_json None)
exported_in (Some d) = exported d

-- what the bytes are the export of
unfoldable pub export_step : List ℕ → Step Exported
export_step input = exported_in (document_of input)

-- what a call that reads an export gives
abbrev pub seen : Export → Exported
seen export = record { document = view export.document; policy = erased_policy export.policy; notes = export.notes }

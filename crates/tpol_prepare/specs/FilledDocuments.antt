-- Documents of the shelf that a script names, filled.
use Rattle.std.specs.Prelude.{ℕ, List, [], ◌∷◌, ◌++◌, Bool, Option, Some, Ok, if◌then◌else◌}
use Rattle.std.specs.List.{list_any}
use Rattle.std.specs.Str.{bytes_eq}
use Rattle.tpol_name.specs.declared.sight.Sight.{Sight}
use Rattle.tpol_store.specs.Stores.{NamedPolicy}
use Rattle.tpol_prepare.specs.declared.references.Reference.{Reference}
use Rattle.tpol_prepare.specs.References.{policy_at}
use Rattle.tpol_steps.specs.declared.filled.FilledDocument.{FilledDocument}
use Rattle.tpol_steps.specs.Filled.{filled_step}
use Rattle.tpol_steps.specs.Steps.{Step, ◌>>=◌}

-- whether a document of this name is among these
abbrev pub is_filled : List ℕ → List FilledDocument → Bool
is_filled name documents = list_any (λ document. bytes_eq document.name name) documents

-- the document that is named, filled
unfoldable pub reference_step : List NamedPolicy → Option Sight → Reference → Step FilledDocument
reference_step store sight reference = do
  written ← policy_at store reference.name reference.place
  closed ← filled_step (Some reference.name) written sight
  Ok (record { name = reference.name; closed = closed })

-- the documents before, and behind them the one that is named, unless it is among them
unfoldable pub document_step : List NamedPolicy → Option Sight → List FilledDocument → Reference → Step (List FilledDocument)
document_step store sight before reference =
    if is_filled reference.name before then Ok before
    else (reference_step store sight reference >>= λ document. Ok (before ++ document ∷ []))

-- the documents that are named, in the order of their first references, behind those before
unfoldable pub documents_from : List NamedPolicy → Option Sight → List FilledDocument → List Reference → Step (List FilledDocument)
documents_from store sight before [] = Ok before
documents_from store sight before (reference ∷ rest) =
    document_step store sight before reference >>= λ after. documents_from store sight after rest

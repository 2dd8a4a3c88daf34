-- The command `import`.
use Rattle.std.specs.Prelude.{ℕ, List, ◌++◌, codes, Ok, Err}
use Rattle.tpol_base.specs.declared.document.Document.{Document}
use Rattle.tpol_base.specs.Documents.{put_document}
use Rattle.tpol_json.specs.declared.place.Place.{Place}
use Rattle.tpol_store.specs.FileNames.{file_name}
use Rattle.tpol_steps.specs.declared.answer.Answer.{Answer}
use Rattle.tpol_steps.specs.declared.answer.Verdict.TheVariants.{Done}
use Rattle.tpol_steps.specs.Answer.{one_line}
use Rattle.tpol_steps.specs.ReadStep.{read_step}
use Rattle.tpol_steps.specs.Steps.{Step, ◌>>=◌}
use Rattle.tpol_tree.specs.declared.policy.Policy.{Policy}
use Rattle.tpol_write.specs.Canonical.{canonical_text}

abbrev pub imported : List ℕ → Answer
imported name = one_line (codes "imported " ++ name) Done

-- what `import` prints of the document in the source
unfoldable pub import_step : List ℕ → List ℕ → Step Answer
import_step name input = read_step input >>= λ read. Ok (imported name)

-- the documents with the canonical text of what was read under this name
abbrev pub documents_with : List ℕ → Step (Policy × List Place) → List Document → List Document
documents_with name (Ok read) all = put_document (file_name name) (canonical_text read.0) all
documents_with name (Err answer) all = all

-- the shelf's documents afterwards
unfoldable pub documents_after_import : List ℕ → List ℕ → List Document → List Document
documents_after_import name input all = documents_with name (read_step input) all

-- The command `compile`.
use Rattle.std.specs.Prelude.{ℕ, List, [], ◌∷◌, ◌++◌, map, Option, None, Ok}
use Rattle.tpol_base.specs.declared.document.Document.{Document}
use Rattle.tpol_digest.specs.Digest.{policy_digest}
use Rattle.tpol_json.specs.declared.place.Place.{Place}
use Rattle.tpol_lines.specs.Lines.{line_of}
use Rattle.tpol_name.specs.declared.sight.Sight.{Sight}
use Rattle.tpol_steps.specs.declared.answer.Answer.{Answer}
use Rattle.tpol_steps.specs.declared.answer.Verdict.TheVariants.{Done}
use Rattle.tpol_steps.specs.Filled.{filled_step}
use Rattle.tpol_steps.specs.Lines.{digest_line, note_line}
use Rattle.tpol_prepare.specs.Shelved.{sight_step}
use Rattle.tpol_steps.specs.ReadStep.{read_step}
use Rattle.tpol_steps.specs.Steps.{Step, ◌>>=◌}
use Rattle.tpol_tree.specs.declared.closed.Closed.{Closed}
use Rattle.tpol_tree.specs.declared.policy.Policy.{Policy}

-- a line for each note, and the digest
unfoldable pub compiled : List Place → Closed → Answer
compiled notes closed = record {
  lines = map (λ place. line_of (note_line place)) notes ++ line_of (digest_line (policy_digest closed)) ∷ [];
  verdict = Done;
}

-- the same of a document that is filled
unfoldable pub compiled_in : Option Sight → Policy → List Place → Step Answer
compiled_in sight policy notes = filled_step None policy sight >>= λ closed. Ok (compiled notes closed)

-- the same of a document that is filled with the scene of the shelf, if one is named
unfoldable pub compiled_with : Option (List ℕ) → Policy → List Place → List Document → Step Answer
compiled_with scene policy notes all = sight_step scene all >>= λ sight. compiled_in sight policy notes

-- the same of the document in the source
unfoldable pub compile_step : Option (List ℕ) → List ℕ → List Document → Step Answer
compile_step scene input all = read_step input >>= λ read. compiled_with scene read.0 read.1 all

-- The command `digests`.
use Rattle.std.specs.Prelude.{ℕ, List, [], ◌∷◌, ◌++◌, map, Option, None, Ok}
use Rattle.std.specs.List.{flat_map}
use Rattle.tpol_adopt.specs.Dropped.{dropped}
use Rattle.tpol_base.specs.declared.document.Document.{Document}
use Rattle.tpol_bridge.specs.Exports.{Exported, export_step}
use Rattle.tpol_bridge.specs.Lines.{dropped_line, mark_lines}
use Rattle.tpol_marks.specs.Marks.{marks_of}
use Rattle.tpol_digest.specs.Digest.{policy_digest}
use Rattle.tpol_lines.specs.Lines.{line_of}
use Rattle.tpol_name.specs.declared.sight.Sight.{Sight}
use Rattle.tpol_prepare.specs.Shelved.{sight_step}
use Rattle.tpol_steps.specs.declared.answer.Answer.{Answer}
use Rattle.tpol_steps.specs.declared.answer.Verdict.TheVariants.{Done}
use Rattle.tpol_steps.specs.Filled.{filled_step}
use Rattle.tpol_steps.specs.Lines.{digest_line, note_line}
use Rattle.tpol_steps.specs.Steps.{Step, ◌>>=◌}
use Rattle.tpol_tree.specs.declared.closed.Closed.{Closed}

-- the authorizations that are left out, the notes, and the digest after each element, with those of the export that
-- are others
abbrev pub export_lines : Option Sight → Exported → List (List ℕ)
export_lines sight export =
    map (λ place. line_of (dropped_line place)) (dropped export.document)
    ++ map (λ place. line_of (note_line place)) export.notes
    ++ flat_map (mark_lines export.document) (marks_of sight export.policy)

-- the same, and the policy's digest
unfoldable pub told : Option Sight → Exported → Closed → Answer
told sight export closed = record {
  lines = export_lines sight export ++ line_of (digest_line (policy_digest closed)) ∷ [];
  verdict = Done;
}

-- the same of an export that is filled
unfoldable pub told_in : Option Sight → Exported → Step Answer
told_in sight export = filled_step None export.policy sight >>= λ closed. Ok (told sight export closed)

-- the same of an export that is filled with the scene of the shelf, if one is named
unfoldable pub told_with : Option (List ℕ) → Exported → List Document → Step Answer
told_with scene export all = sight_step scene all >>= λ sight. told_in sight export

-- the same of the export in the source
unfoldable pub digests_step : Option (List ℕ) → List ℕ → List Document → Step Answer
digests_step scene input all = export_step input >>= λ export. told_with scene export all

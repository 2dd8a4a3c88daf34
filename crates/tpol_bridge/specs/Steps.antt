-- The command `steps`: what is sent to a TPM on one path, with the digest of a session after each command.
use Rattle.std.specs.Prelude.{ℕ, zero, suc, List, [], ◌∷◌, ◌++◌, codes, slice_get, Option, Some, None, Ok, Err}
use Rattle.tpol_base.specs.declared.document.Document.{Document}
use Rattle.tpol_bridge.specs.Exports.{export_step}
use Rattle.tpol_digest.specs.Digest.{policy_digest}
use Rattle.tpol_digest.specs.Paths.{paths_of}
use Rattle.tpol_lines.specs.Lines.{line_of}
use Rattle.tpol_lines.specs.PathLine.{path_line}
use Rattle.tpol_moves.specs.Steps.{step_lines}
use Rattle.tpol_prepare.specs.Shelved.{closed_source}
use Rattle.tpol_steps.specs.declared.answer.Answer.{Answer}
use Rattle.tpol_steps.specs.declared.answer.Verdict.TheVariants.{Done, Usage}
use Rattle.tpol_steps.specs.Answer.{one_line}
use Rattle.tpol_steps.specs.Lines.{digest_line}
use Rattle.tpol_steps.specs.Steps.{Step, ◌>>=◌}
use Rattle.tpol_tree.specs.declared.closed.Closed.{Closed}
use Rattle.tpol_tree.specs.declared.path.Path.{Path}
use Rattle.tpol_tree.specs.declared.policy.Policy.{Policy}

-- ---- what is printed

-- the line of the path at this position, those of its policy commands, and the policy's digest
abbrev pub path_answer : Closed → ℕ → Path → Answer
path_answer closed position path = record {
  lines = line_of (path_line position path) ∷ step_lines [] path.moves ++ line_of (digest_line (policy_digest closed)) ∷ [];
  verdict = Done;
}

-- the path at a position, from 1
abbrev pub path_at : List Path → ℕ → Option Path
path_at paths zero = None
path_at paths (suc index) = slice_get paths index

-- a position that no path has is no word of the command
abbrev pub found_step : Closed → ℕ → Option Path → Step Answer
found_step closed position None = Err (one_line (codes "error Usage") Usage)
found_step closed position (Some path) = Ok (path_answer closed position path)

-- ---- the steps to it

-- of a policy that is filled with the scene of the shelf, if one is named
unfoldable pub stepped_with : ℕ → Option (List ℕ) → Policy → List Document → Step Answer
stepped_with position name policy all =
    closed_source name policy all >>= λ found. found_step found.closed position (path_at (paths_of found.closed found.approvals) position)

-- the same of the export in the source
unfoldable pub steps_step : ℕ → Option (List ℕ) → List ℕ → List Document → Step Answer
steps_step position name input all = export_step input >>= λ export. stepped_with position name export.policy all

-- The commands `paths` and `lint`, which differ in what they tell of a policy's paths.
use Rattle.std.specs.Prelude.{ℕ, List, [], ◌∷◌, ◌++◌, length, Option, Ok}
use Rattle.tpol_base.specs.declared.document.Document.{Document}
use Rattle.tpol_digest.specs.Digest.{policy_digest}
use Rattle.tpol_digest.specs.Paths.{paths_of}
use Rattle.tpol_lines.specs.Lines.{line_of}
use Rattle.tpol_lines.specs.LintLine.{dead_lines, lint_line}
use Rattle.tpol_lines.specs.PathLine.{path_lines}
use Rattle.tpol_lint.specs.Dead.{dead_paths}
use Rattle.tpol_steps.specs.declared.answer.Answer.{Answer}
use Rattle.tpol_steps.specs.declared.answer.Verdict.TheVariants.{Done}
use Rattle.tpol_steps.specs.Lines.{digest_line}
use Rattle.tpol_prepare.specs.Shelved.{closed_source}
use Rattle.tpol_steps.specs.ReadStep.{read_step}
use Rattle.tpol_steps.specs.Steps.{Step, ◌>>=◌}
use Rattle.tpol_tree.specs.declared.closed.Closed.{Closed}
use Rattle.tpol_tree.specs.declared.path.Path.{Path}
use Rattle.tpol_tree.specs.declared.policy.Policy.{Policy}
use Rattle.tpol_top.specs.declared.paths.PathView.{PathView}
use Rattle.tpol_top.specs.declared.paths.PathView.TheVariants as views

-- a line for each path, and the digest
abbrev pub path_answer : Closed → List Path → Answer
path_answer closed paths = record {
  lines = path_lines 1 paths ++ line_of (digest_line (policy_digest closed)) ∷ [];
  verdict = Done;
}

-- a line for each path that can never open, and how many of all they are
abbrev pub dead_answer : List Path → Answer
dead_answer paths = record {
  lines = dead_lines paths (dead_paths 1 paths) ++ line_of (lint_line (length (dead_paths 1 paths)) (length paths)) ∷ [];
  verdict = Done;
}

-- what is told of a policy's paths
abbrev pub view_answer : PathView → Closed → List Path → Answer
view_answer views.All closed paths = path_answer closed paths
view_answer views.Dead closed paths = dead_answer paths

-- of a policy that is filled with the scene of the shelf, if one is named
unfoldable pub listed_with : PathView → Option (List ℕ) → Policy → List Document → Step Answer
listed_with view name policy all =
    closed_source name policy all >>= λ found. Ok (view_answer view found.closed (paths_of found.closed found.approvals))

-- the same of the document in the source
unfoldable pub paths_step : PathView → Option (List ℕ) → List ℕ → List Document → Step Answer
paths_step view name input all = read_step input >>= λ read. listed_with view name read.0 all

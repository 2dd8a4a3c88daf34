-- The limits of the paths of policies.
use Rattle.std.specs.Prelude.{ℕ, List, [], ◌∷◌, codes, length, nat_lt, Bool, Option, Some, Ok, Err, if◌then◌else◌}
use Rattle.std.specs.List.{list_any}
use Rattle.tpol_digest.specs.Paths.{paths_of}
use Rattle.tpol_steps.specs.declared.filled.FilledDocument.{FilledDocument}
use Rattle.tpol_steps.specs.Refusals.{path_limit}
use Rattle.tpol_steps.specs.Steps.{Step, ◌>>=◌}
use Rattle.tpol_tree.specs.declared.closed.Closed.{Closed}
use Rattle.tpol_tree.specs.declared.path.ApprovedDoc.{ApprovedDoc}
use Rattle.tpol_tree.specs.declared.path.Path.{Path}

-- whether a path has more than 512 moves
abbrev pub is_too_long : Path → Bool
is_too_long path = nat_lt 512 (length path.moves)

-- there are at most 65,536 paths, and none is too long
abbrev pub within_limits : Option (List ℕ) → List Path → Step (Unit {0})
within_limits document paths =
    if nat_lt 65536 (length paths) then Err (path_limit (codes "TooManyPaths") document)
    else (if list_any is_too_long paths then Err (path_limit (codes "TooLong") document) else Ok tt)

-- the same of a policy's paths
unfoldable pub limit_step : Option (List ℕ) → Closed → List ApprovedDoc → Step (Unit {0})
limit_step document closed approvals = within_limits document (paths_of closed approvals)

-- the same of each of these documents
unfoldable pub limits_step : List ApprovedDoc → List FilledDocument → Step (Unit {0})
limits_step approvals [] = Ok tt
limits_step approvals (document ∷ rest) =
    limit_step (Some document.name) document.closed approvals >>= λ within. limits_step approvals rest

-- ---- policies whose paths a blind run tries

-- it tries at most 64 paths
abbrev pub few_to_try : Option (List ℕ) → List Path → Step (Unit {0})
few_to_try document paths =
    if nat_lt 64 (length paths) then Err (path_limit (codes "TooManyPaths") document) else Ok tt

-- a policy has at most 64 paths, and is within the limits besides
unfoldable pub tried_limit_step : Option (List ℕ) → Closed → List ApprovedDoc → Step (Unit {0})
tried_limit_step document closed approvals =
    few_to_try document (paths_of closed approvals) >>= λ few. limit_step document closed approvals

-- the same of each of these documents
unfoldable pub tried_limits_step : List ApprovedDoc → List FilledDocument → Step (Unit {0})
tried_limits_step approvals [] = Ok tt
tried_limits_step approvals (document ∷ rest) =
    tried_limit_step (Some document.name) document.closed approvals >>= λ within. tried_limits_step approvals rest

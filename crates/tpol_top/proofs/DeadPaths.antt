-- A dead path is one of the paths.
use Rattle.std.proofs.Common.{◌≡◌, ℕ, ◌-◌, ◌<◌, ◌≤◌, ◌∷◌, [], List, Some, length, slice_get, arith, suc, zero}
use Rattle.std.proofs.lemmas.Option.{none-some}
use Rattle.tpol_lint.specs.declared.dead.Dead.{Dead}
use Rattle.tpol_lint.specs.Dead.{IsDead}
use Rattle.tpol_tree.specs.declared.path.Path.{Path}

is_within : (paths : List Path) (i : ℕ) (path : Path) → slice_get paths i ≡ Some path → i < length paths
is_within [] i path h = absurd (none-some path h)
is_within (first ∷ rest) zero path h = omega arith
is_within (first ∷ rest) (suc i) path h = let within : i < length rest = is_within rest i path h in omega (arith, within)

pub is_position : (paths : List Path) (dead : Dead) → IsDead paths dead → (1 ≤ dead.path) × (dead.path ≤ length paths)
is_position paths dead is = let within : dead.path - 1 < length paths = is_within paths (dead.path - 1) is.path is.is_there in (is.counted, omega (arith, within, is.counted))

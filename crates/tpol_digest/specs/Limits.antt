-- The limits of what is walked.
use Rattle.std.specs.Prelude.{◌≤◌, List, length, All}
use Rattle.tpol_tree.specs.declared.path.Path.{Path}

-- there are at most 65,536 paths, and none has more than 512 moves
pub record AreWithinLimits (paths : List Path) : Type 0 where
  pub few : length paths ≤ 65536
  pub short : All (λ path. length path.moves ≤ 512) paths

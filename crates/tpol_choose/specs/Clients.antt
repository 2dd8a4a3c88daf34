-- Who wants to go a path.
use Rattle.std.specs.Prelude.{ℕ}
use Rattle.tpol_name.specs.declared.sight.Sight.{Sight}
use Rattle.tpol_goal.specs.declared.goal.Goal.{Goal}
use Rattle.tpol_goal.specs.declared.grants.Grants.{Grants}

-- a client: what it sees of the machine, what it may use, what it wants, and the locality that it sends from
pub record Client : Type 0 where
  pub sight : Sight
  pub grants : Grants
  pub goal : Goal
  pub locality : ℕ

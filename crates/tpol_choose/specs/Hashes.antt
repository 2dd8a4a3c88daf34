-- The hashes of the goal's command, as they are kept, and a use of a session with other ones.
use Rattle.std.specs.Prelude.{◌≡◌}
use Rattle.tpm_rules.specs.declared.checks.Use.{Use}
use Rattle.tpol_base.specs.declared.digest.Digest32.{Digest32}
use Rattle.tpol_goal.specs.declared.goal.Goal.{Goal}
use Rattle.tpol_goal.specs.Commands.{goal_cp_hash, goal_name_hash}
use Rattle.tpol_goal.specs.Entities.{name_in_sight}
use Rattle.tpol_name.specs.declared.sight.Sight.{Sight}

-- it is the cpHash, on a machine as a sight shows it
abbrev pub IsCpHash : Sight → Goal → Digest32 → Type 0
IsCpHash sight goal hash = hash ≡ goal_cp_hash (name_in_sight sight) goal

-- it is the nameHash there
abbrev pub IsNameHash : Sight → Goal → Digest32 → Type 0
IsNameHash sight goal hash = hash ≡ goal_name_hash (name_in_sight sight) goal

abbrev pub with_hashes : Use → Digest32 → Digest32 → Use
with_hashes occasion cp_hash name_hash = record occasion { cp_hash = cp_hash; name_hash = name_hash }

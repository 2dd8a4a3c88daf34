-- Entities by their path in the key store.
use Rattle.std.specs.Prelude.{ℕ, List, Option, Some, None, find, codes, if◌then◌else◌}
use Rattle.tpol_base.specs.Handle.{rh_owner, rh_endorsement, rh_lockout}
use Rattle.tpol_name.specs.declared.entries.IndexEntry.{IndexEntry}
use Rattle.tpol_name.specs.declared.entries.ObjectEntry.{ObjectEntry}
use Rattle.tpol_name.specs.Paths.{is_same_path}

-- the handle of the hierarchy that has this path: owner, endorsement, lockout
abbrev pub hierarchy_at : List ℕ → Option ℕ
hierarchy_at path =
    if is_same_path (codes "HS") path then Some rh_owner
    else (if is_same_path (codes "HE") path then Some rh_endorsement
    else (if is_same_path (codes "LOCKOUT") path then Some rh_lockout else None))

-- the first object and the first index that have this path
abbrev pub object_at : List ObjectEntry → List ℕ → Option ObjectEntry
object_at objects path = find (λ object. is_same_path object.path path) objects

abbrev pub index_at : List IndexEntry → List ℕ → Option IndexEntry
index_at indices path = find (λ index. is_same_path index.path path) indices

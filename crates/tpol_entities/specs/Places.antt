-- Where the entities stand whose policy is named.
use Rattle.std.specs.Prelude.{◌≡◌, ◌⊎◌, ◌≤◌, List, length, map, slice_get, Some}
use Rattle.tpol_name.specs.declared.entries.IndexEntry.{IndexEntry}
use Rattle.tpol_name.specs.declared.entries.ObjectEntry.{ObjectEntry}
use Rattle.tpol_entities.specs.declared.entities.EntityPolicy.{EntityPolicy}

-- an entity stands behind so many objects and so many indices: it is the next object or the next index
pub record StandsBehind (objects : List ObjectEntry) (indices : List IndexEntry) (policy : EntityPolicy) : Type 0 where
  pub objects_before : policy.objects_before ≤ length objects
  pub indices_before : policy.indices_before ≤ length indices
  pub is_next : (slice_get (map (λ o. o.handle) objects) policy.objects_before ≡ Some policy.handle)
      ⊎ (slice_get (map (λ i. i.public.index) indices) policy.indices_before ≡ Some policy.handle)

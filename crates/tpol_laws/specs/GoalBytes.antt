-- What a goal gives where it is served, of what the machine has: the secret of a sealed object; the HMAC of a buffer
-- under a key's secret; so many bytes of an index's content; the sensitive area of an object that is duplicated.
-- NV_Write and NV_Increment give no bytes.
use Rattle.std.specs.Prelude.{ℕ, List, [], drop, take}
use Rattle.std.specs.Option.{option_map_or}
use Rattle.tpm_nv.specs.Indices.{index_of}
use Rattle.tpm_world.specs.Duplicate.{sensitive_of}
use Rattle.tpm_world.specs.Objects.{object_of}
use Rattle.tpm_world.specs.World.{WorldState}
use Rattle.tpol_base.specs.Sized.{sized}
use Rattle.tpol_goal.specs.declared.goal.Goal.{Goal}
use Rattle.tpol_goal.specs.declared.goal.Goal.TheVariants.{Duplicate, Hmac, NvIncrement, NvRead, NvWrite, Unseal}
use Rattle.tpol_hash.specs.Hmac.{hmac_sha256}
use Rattle.tpol_name.specs.declared.entries.IndexEntry.{IndexEntry}
use Rattle.tpol_name.specs.declared.entries.ObjectEntry.{ObjectEntry}

-- of the object, or of the index, that has a handle; none where nothing has it
abbrev pub of_object : WorldState → ℕ → (ObjectEntry → List ℕ) → List ℕ
of_object world handle bytes = option_map_or bytes (object_of handle world.objects) []

abbrev pub of_index : WorldState → ℕ → (IndexEntry → List ℕ) → List ℕ
of_index world handle bytes = option_map_or bytes (index_of handle world.indices) []

abbrev pub goal_bytes : WorldState → Goal → List ℕ
goal_bytes world (Unseal object) = of_object world object (λ o. o.secret)
goal_bytes world (Hmac key buffer) = of_object world key (λ o. (hmac_sha256 o.secret buffer).bytes)
goal_bytes world (NvRead index size offset) = of_index world index (λ i. take size (drop offset i.content))
goal_bytes world (NvWrite index offset bytes) = []
goal_bytes world (NvIncrement index) = []
goal_bytes world (Duplicate object parent) = of_object world object (λ o. sized (sensitive_of o))

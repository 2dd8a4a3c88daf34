-- The Names of handles, joined, one handle further.
use Rattle.std.proofs.Common.{◌≡◌, ℕ, ◌≤◌, List, length, take, ap, ◌∙◌}
use Rattle.std.specs.List.{flat_map}
use Rattle.std.proofs.lemmas.List.{take_all}
use Rattle.tpol_base.specs.Name.{name_bytes}
use Rattle.tpol_wire.specs.Hashes.{joined_names}
use Rattle.tpm_world.specs.Entities.{name_at}
use Rattle.tpm_world.specs.World.{WorldState}

-- the bytes of a handle's Name
abbrev pub name_bytes_at : WorldState → ℕ → List ℕ
name_bytes_at world handle = name_bytes (name_at world handle)

-- the Names of all handles
pub names_all : (world : WorldState) (items handles : List ℕ) (i : ℕ) → length items ≤ i → items ≡ handles → flat_map (name_bytes_at world) (take i items) ≡ joined_names (name_at world) handles
unfolding joined_names
names_all world items handles i all same = ap (flat_map (name_bytes_at world)) (take_all i items all ∙ same)

-- The authPolicy of an entity never changes.
use Rattle.std.proofs.Common.{◌≡◌, ℕ, Bool, true, false, List, [], ◌∷◌, Option, None, Some, nat_eq, if◌then◌else◌, refl, ap, sym, ◌∙◌}
use Rattle.std.specs.Option.{option_map}
use Rattle.std.specs.Int.{to_be_bytes, w64}
use Rattle.tpol_base.specs.declared.handle.HandleKind.{HandleKind}
use Rattle.tpol_base.specs.declared.handle.HandleKind.TheVariants as kinds
use Rattle.tpol_base.specs.Handle.{kind_of_handle}
use Rattle.tpol_name.specs.declared.entries.IndexEntry.{IndexEntry}
use Rattle.tpol_name.specs.declared.setup.Setup.{Setup}
use Rattle.tpm_nv.specs.Contents.{written_entry}
use Rattle.tpm_nv.specs.Indices.{count_after, index_of, written_at}
use Rattle.tpm_rules.specs.Entity.{Index, auth_policy_of}
use Rattle.tpm_world.specs.Entities.{entity_at, entity_of_kind}
use Rattle.tpm_world.specs.World.{world_of}
use Rattle.tpm_engine.specs.declared.event.Event.{Event}
use Rattle.tpm_engine.specs.Deeds.{Deed, Writes, Increments, deed_of}
use Rattle.tpm_engine.specs.Views.{indices_after, indices_of, world_at}

abbrev policy_of_index : IndexEntry → List ℕ
policy_of_index entry = entry.public.auth_policy

-- the first of two entries with one policy, or the others
first-policy : (here : Bool) (x y : IndexEntry) (a b : Option IndexEntry) → policy_of_index x ≡ policy_of_index y → option_map policy_of_index a ≡ option_map policy_of_index b
    → option_map policy_of_index (if here then Some x else a) ≡ option_map policy_of_index (if here then Some y else b)
first-policy true x y a b same later = ap Some same
first-policy false x y a b same later = later

-- a write changes no handle and no policy
policy-written : (handle index offset : ℕ) (bytes : List ℕ) (indices : List IndexEntry)
    → option_map policy_of_index (index_of handle (written_at index offset bytes indices)) ≡ option_map policy_of_index (index_of handle indices)
policy-written handle index offset bytes [] = refl
policy-written handle index offset bytes (entry ∷ rest) =
    at (nat_eq index entry.public.index) (policy-written handle index offset bytes rest)
  where
    at : (b : Bool)
        → option_map policy_of_index (index_of handle (written_at index offset bytes rest)) ≡ option_map policy_of_index (index_of handle rest)
        → option_map policy_of_index (if nat_eq handle (if b then written_entry offset bytes entry else entry).public.index then Some (if b then written_entry offset bytes entry else entry) else index_of handle (written_at index offset bytes rest))
        ≡ option_map policy_of_index (if nat_eq handle entry.public.index then Some entry else index_of handle rest)
    at true later = first-policy (nat_eq handle entry.public.index) (written_entry offset bytes entry) entry _ _ refl later
    at false later = first-policy (nat_eq handle entry.public.index) entry entry _ _ refl later

policy-deed : (deed : Deed) (handle : ℕ) (indices : List IndexEntry)
    → option_map policy_of_index (index_of handle (indices_after deed indices)) ≡ option_map policy_of_index (index_of handle indices)
policy-deed (Writes index offset bytes) handle indices = policy-written handle index offset bytes indices
policy-deed (Increments index) handle indices = policy-written handle index 0 (to_be_bytes w64 (count_after index indices)) indices
policy-deed _ handle indices = refl

policy-index : (setup : Setup) (past : List Event) (handle : ℕ)
    → option_map policy_of_index (index_of handle (indices_of setup past)) ≡ option_map policy_of_index (index_of handle setup.indices)
unfolding indices_of
policy-index setup [] handle = refl
policy-index setup (event ∷ past) handle = policy-deed (deed_of event) handle (indices_of setup past) ∙ policy-index setup past handle

through-index : (found : Option IndexEntry) → option_map auth_policy_of (option_map Index found) ≡ option_map policy_of_index found
through-index None = refl
through-index (Some entry) = refl

policy-kind : (setup : Setup) (past : List Event) (handle : ℕ) (kind : Option HandleKind)
    → option_map auth_policy_of (entity_of_kind (world_at setup past) handle kind) ≡ option_map auth_policy_of (entity_of_kind (world_of setup) handle kind)
unfolding world_at
policy-kind setup past handle (Some kinds.Index) =
    through-index (index_of handle (indices_of setup past)) ∙ (policy-index setup past handle ∙ sym (through-index (index_of handle setup.indices)))
policy-kind setup past handle _ = refl

pub same-policy : (setup : Setup) (past : List Event) (handle : ℕ)
    → option_map auth_policy_of (entity_at (world_at setup past) handle) ≡ option_map auth_policy_of (entity_at (world_of setup) handle)
same-policy setup past handle = policy-kind setup past handle (kind_of_handle handle)

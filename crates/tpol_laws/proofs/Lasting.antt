-- What a machine keeps of its setup: its objects, and of each index its public area once it is written and its value.
use Rattle.std.proofs.Common.{◌≡◌, ℕ, Bool, true, false, cond, List, [], ◌∷◌, map, nat_eq, refl, ap, sym, ◌∙◌}
use Rattle.std.specs.Int.{to_be_bytes, w64}
use Rattle.tpol_name.specs.declared.areas.NvPublic.{NvPublic}
use Rattle.tpol_name.specs.declared.entries.IndexEntry.{IndexEntry}
use Rattle.tpol_name.specs.declared.setup.Setup.{Setup}
use Rattle.tpol_name.specs.Areas.{with_written}
use Rattle.tpm_engine.specs.declared.event.Event.{Event}
use Rattle.tpm_engine.specs.Deeds.{Deed, Idle, Passes, Shifts, Resets, Extends, Writes, Increments, Starts, Ends, Restarts, Saves, Loads, Shows, deed_of}
use Rattle.tpm_engine.specs.Views.{indices_after, indices_of, view_of, world_at}
use Rattle.tpm_nv.specs.Contents.{written_entry}
use Rattle.tpm_nv.specs.Indices.{changed_at, count_after, written_at}
use Rattle.tpm_world.specs.World.{WorldState}
use Rattle.tpol_laws.proofs.Finds.{area-twice}
use Rattle.tpol_laws.proofs.Named.{area}

-- what never changes of an index
abbrev pub kept : IndexEntry → NvPublic × List ℕ
kept entry = (with_written entry.public, entry.auth)

pub record IsKept (setup : Setup) (world : WorldState) : Type 0 where
  pub objects : world.objects ≡ setup.objects
  pub indices : map kept world.indices ≡ map kept setup.indices

map-changed : (handle : ℕ) (change : IndexEntry → IndexEntry) → ((entry : IndexEntry) → kept (change entry) ≡ kept entry) → (indices : List IndexEntry)
    → map kept (changed_at handle change indices) ≡ map kept indices
map-changed handle change same [] = refl
map-changed handle change same (e ∷ es) = λ i. by (nat_eq handle e.public.index) i ∷ map-changed handle change same es i
  where
    by : (b : Bool) → kept (cond b (change e) e) ≡ kept e
    by true = same e
    by false = refl

kept-written : (handle offset : ℕ) (bytes : List ℕ) (indices : List IndexEntry) → map kept (written_at handle offset bytes indices) ≡ map kept indices
kept-written handle offset bytes indices = map-changed handle (written_entry offset bytes) (λ entry. ap (λ (p : NvPublic). (p, entry.auth)) (area-twice entry.public)) indices

kept-after : (deed : Deed) (indices : List IndexEntry) → map kept (indices_after deed indices) ≡ map kept indices
kept-after Idle indices = refl
kept-after (Passes ms) indices = refl
kept-after (Shifts on) indices = refl
kept-after Resets indices = refl
kept-after (Extends pcr digest) indices = refl
kept-after (Writes index offset bytes) indices = kept-written index offset bytes indices
kept-after (Increments index) indices = kept-written index 0 (to_be_bytes w64 (count_after index indices)) indices
kept-after (Starts session) indices = refl
kept-after (Ends session) indices = refl
kept-after (Restarts session) indices = refl
kept-after (Saves session) indices = refl
kept-after (Loads session) indices = refl
kept-after (Shows session fact) indices = refl

kept-same : (setup : Setup) (past : List Event) → map kept (indices_of setup past) ≡ map kept setup.indices
unfolding indices_of
kept-same setup [] = refl
kept-same setup (event ∷ past) = kept-after (deed_of event) (indices_of setup past) ∙ kept-same setup past

pub is-kept : (setup : Setup) (past : List Event) → IsKept setup (view_of setup past).world
unfolding view_of world_at
is-kept setup past = record { objects = refl; indices = kept-same setup past }

-- ---- the public areas alone

areas-kept : (indices : List IndexEntry) → map area indices ≡ map (λ (p : NvPublic × List ℕ). p.0) (map kept indices)
areas-kept [] = refl
areas-kept (entry ∷ indices) = ap (λ areas. area entry ∷ areas) (areas-kept indices)

pub areas-same : (setup : Setup) (past : List Event) → map area (indices_of setup past) ≡ map area setup.indices
areas-same setup past = areas-kept (indices_of setup past) ∙ ap (map (λ (p : NvPublic × List ℕ). p.0)) (kept-same setup past) ∙ sym (areas-kept setup.indices)

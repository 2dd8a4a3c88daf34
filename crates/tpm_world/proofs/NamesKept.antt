-- A write leaves each index the Name that it has once it is written.
use Rattle.std.proofs.Common.{◌≡◌, ℕ, ◌==◌, Bool, true, false, cond, List, [], ◌∷◌, map, bit_or, refl, sym, ap, ◌∙◌, arith}
use Rattle.std.specs.Int.{to_be_bytes, w64}
use Rattle.std.specs.Prelude.{OnErr, OnOk, Result, Ok, Err}
use Rattle.std.specs.Int.Bits.{or_add_and}
use Rattle.std.proofs.lemmas.Nat.{and_or_self}
use Rattle.tpol_base.specs.Attributes.{nv_written}
use Rattle.tpol_base.specs.declared.name.Name.{Name}
use Rattle.tpol_base.specs.declared.rc.Rc.{Rc}
use Rattle.tpol_name.specs.declared.areas.NvPublic.{NvPublic}
use Rattle.tpol_name.specs.declared.entries.IndexEntry.{IndexEntry}
use Rattle.tpol_name.specs.Areas.{index_name, with_written}
use Rattle.tpm_nv.specs.Contents.{written_entry}
use Rattle.tpm_nv.specs.Indices.{changed_at, count_after, incremented_at, written_at}

-- the Name of an index once it is written
abbrev pub name_once_written : IndexEntry → Name
name_once_written index = index_name (with_written index.public)

-- WRITTEN is set once and for all
set-twice : (attributes : ℕ) → bit_or (bit_or attributes nv_written) nv_written ≡ bit_or attributes nv_written
set-twice attributes = omega (arith, or_add_and (bit_or attributes nv_written) nv_written, and_or_self nv_written attributes)

area-twice : (public : NvPublic) → with_written (with_written public) ≡ with_written public
area-twice public = ap (λ a. record public { attributes = a }) (set-twice public.attributes)

names-changed : (handle : ℕ) (change : IndexEntry → IndexEntry) → ((index : IndexEntry) → name_once_written (change index) ≡ name_once_written index) → (indices : List IndexEntry)
    → map name_once_written (changed_at handle change indices) ≡ map name_once_written indices
names-changed handle change same [] = refl
names-changed handle change same (e ∷ es) = λ i. by (handle == e.public.index) i ∷ names-changed handle change same es i
  where
    by : (b : Bool) → name_once_written (cond b (change e) e) ≡ name_once_written e
    by true = same e
    by false = refl

names-written : (handle offset : ℕ) (bytes : List ℕ) (indices : List IndexEntry) → map name_once_written (written_at handle offset bytes indices) ≡ map name_once_written indices
names-written handle offset bytes indices =
    names-changed handle (written_entry offset bytes) (λ index. ap index_name (area-twice index.public)) indices

-- the Names behind a write that was asked for
pub names_after_write : (handle offset : ℕ) (bytes : List ℕ) (result : Result (Unit {0}) Rc) (names : List Name) (indices after : List IndexEntry)
    → names ≡ map name_once_written indices → OnOk result (after ≡ written_at handle offset bytes indices) → OnErr result (after ≡ indices) → names ≡ map name_once_written after
names_after_write handle offset bytes (Ok x) names indices after same written err =
    same ∙ sym (ap (map name_once_written) written ∙ names-written handle offset bytes indices)
names_after_write handle offset bytes (Err rc) names indices after same written err = same ∙ sym (ap (map name_once_written) err)

-- and behind an increment that was asked for
pub names_after_increment : (handle : ℕ) (result : Result (Unit {0}) Rc) (names : List Name) (indices after : List IndexEntry)
    → names ≡ map name_once_written indices → OnOk result (after ≡ incremented_at handle indices) → OnErr result (after ≡ indices) → names ≡ map name_once_written after
names_after_increment handle result names indices after =
    names_after_write handle 0 (to_be_bytes w64 (count_after handle indices)) result names indices after

-- The entities of a setup that its directory finds by their Names, and the indices as they are later.
use Rattle.std.proofs.Common.{◌≡◌, ◌≤◌, ◌⊎◌, inl, inr, ℕ, Bool, true, false, List, map, nat_eq, refl, ap, sym, subst, ◌∙◌, arith}
use Rattle.std.specs.Prelude.{Option, Some, None, find, option_map, if◌then◌else◌}
use Rattle.std.specs.Option.{option_or}
use Rattle.std.proofs.lemmas.List.Elements.{recursion_from_All}
use Rattle.std.proofs.lemmas.Option.{none-some, same_Some}
use Rattle.tpol_base.specs.declared.name.Name.{Name}
use Rattle.tpol_base.specs.declared.name.Name.TheVariants.{Empty, Handle, Hash}
use Rattle.tpol_base.specs.Name.{is_same_name}
use Rattle.tpol_goal.specs.Entities.{entity_of_name, hierarchy_of_name, index_in_sight, index_of_name, is_hierarchy, object_in_sight, object_of_name}
use Rattle.tpol_goal.proofs.Directories.{entity_of_lines, index_of_lines, object_of_lines}
use Rattle.tpol_name.specs.declared.areas.NvPublic.{NvPublic}
use Rattle.tpol_name.specs.declared.entries.DirEntry.{DirEntry}
use Rattle.tpol_name.specs.declared.entries.IndexEntry.{IndexEntry}
use Rattle.tpol_name.specs.declared.entries.ObjectEntry.{ObjectEntry}
use Rattle.tpol_name.specs.declared.setup.Setup.{Setup}
use Rattle.tpol_name.specs.declared.sight.Sight.{Sight}
use Rattle.tpol_name.specs.Areas.{index_name, is_written, object_name, with_written}
use Rattle.tpol_name.specs.Directories.{directory_of, line_of_index, line_of_object}
use Rattle.tpol_name.specs.Setups.{IsIndex, IsObject, IsSetup, IsSight, first_sight}
use Rattle.tpm_nv.specs.Indices.{index_of}
use Rattle.tpol_laws.proofs.Finds.{area-written, by-key, find-each, find-map, find-passes, names-same}

-- a look-up that was mapped
pub record Mapped {A B : Type 0} (f : A → B) (o : Option A) (y : B) : Type 0 where
  pub value : A
  pub is : o ≡ Some value
  pub gives : f value ≡ y

pub mapped : {A B : Type 0} (f : A → B) (o : Option A) (y : B) → option_map f o ≡ Some y → Mapped f o y
mapped f None y h = absurd (none-some y h)
mapped f (Some x) y h = record { value = x; is = refl; gives = same_Some _ _ h }

-- ---- by their Names

pub record FoundObject (setup : Setup) (name : Name) (handle : ℕ) : Type 0 where
  pub object : ObjectEntry
  pub is : find (λ (o : ObjectEntry). nat_eq handle o.handle) setup.objects ≡ Some object
  pub named : object_name object.public ≡ name
  pub low : 0x80000000 ≤ handle
  pub high : handle ≤ 0x80ffffff

pub record FoundIndex (setup : Setup) (name : Name) (handle : ℕ) : Type 0 where
  pub entry : IndexEntry
  pub is : index_of handle setup.indices ≡ Some entry
  pub named : index_name (with_written entry.public) ≡ name
  pub low : 0x01000000 ≤ handle
  pub high : handle ≤ 0x01ffffff

pub record FoundHierarchy (name : Name) (handle : ℕ) : Type 0 where
  pub named : name ≡ Handle handle
  pub is : is_hierarchy handle ≡ true

abbrev pub FoundEntity : Setup → Name → ℕ → Type 0
FoundEntity setup name handle = FoundHierarchy name handle ⊎ (FoundObject setup name handle ⊎ FoundIndex setup name handle)

module _ (setup : Setup) (is : IsSetup setup) where
  sight : Sight
  sight = first_sight setup

  pub is-sight : IsSight (first_sight setup)
  is-sight = record { pcrs = is.pcrs; time = omega (arith, is.time); entities = is.entities }

  object-in : (name : Name) (object : ObjectEntry) → object_in_sight (first_sight setup) name ≡ Some object → FoundObject setup name object.handle
  object-in name object found =
      let each = find-each IsObject (λ (o : ObjectEntry). is_same_name (object_name o.public) name) setup.objects object (recursion_from_All IsObject setup.objects is.entities.each_object) found in
      record {
        object = object;
        is = by-key (λ (o : ObjectEntry). o.handle) (λ o. is_same_name (object_name o.public) name) setup.objects object is.entities.object_handles found;
        named = names-same _ _ (find-passes (λ (o : ObjectEntry). is_same_name (object_name o.public) name) setup.objects object found);
        low = each.least_handle;
        high = each.greatest_handle;
      }

  index-in : (name : Name) (entry : IndexEntry) → index_in_sight (first_sight setup) name ≡ Some entry → FoundIndex setup name entry.public.index
  index-in name entry found =
      let each = find-each IsIndex (λ (e : IndexEntry). is_same_name (index_name (with_written e.public)) name) setup.indices entry (recursion_from_All IsIndex setup.indices is.entities.each_index) found in
      record {
        entry = entry;
        is = by-key (λ (e : IndexEntry). e.public.index) (λ e. is_same_name (index_name (with_written e.public)) name) setup.indices entry is.entities.index_handles found;
        named = names-same _ _ (find-passes (λ (e : IndexEntry). is_same_name (index_name (with_written e.public)) name) setup.indices entry found);
        low = each.least_handle;
        high = each.greatest_handle;
      }

  pub object-found : (name : Name) (entry : DirEntry) → object_of_name (directory_of setup) name ≡ Some entry → FoundObject setup name entry.handle
  object-found name entry found =
      let it = mapped line_of_object (object_in_sight (first_sight setup) name) entry (object_of_lines (first_sight setup) name is-sight ∙ found) in
      subst (FoundObject setup name) (ap (λ (e : DirEntry). e.handle) it.gives) (object-in name it.value it.is)

  pub index-found : (name : Name) (entry : DirEntry) → index_of_name (directory_of setup) name ≡ Some entry → FoundIndex setup name entry.handle
  index-found name entry found =
      let it = mapped line_of_index (index_in_sight (first_sight setup) name) entry (index_of_lines (first_sight setup) name is-sight ∙ found) in
      subst (FoundIndex setup name) (ap (λ (e : DirEntry). e.handle) it.gives) (index-in name it.value it.is)

  pub hierarchy-in : (name : Name) (handle : ℕ) → hierarchy_of_name name ≡ Some handle → FoundHierarchy name handle
  hierarchy-in Empty handle h = absurd (none-some handle h)
  hierarchy-in (Handle own) handle h = at (is_hierarchy own) refl h
    where
      at : (b : Bool) → is_hierarchy own ≡ b → (if b then Some own else None) ≡ Some handle → FoundHierarchy (Handle own) handle
      at true e h =
          let same = same_Some _ _ h in
          record { named = ap Handle same; is = ap is_hierarchy (sym same) ∙ e }
      at false e h = absurd (none-some handle h)
  hierarchy-in (Hash digest) handle h = absurd (none-some handle h)

  pub entity-found : (name : Name) (handle : ℕ) → entity_of_name (directory_of setup) name ≡ Some handle → FoundEntity setup name handle
  entity-found name handle found =
      first (hierarchy_of_name name) refl (object_in_sight (first_sight setup) name) refl (index_in_sight (first_sight setup) name) refl (entity_of_lines (first_sight setup) name ∙ found)
    where
      first : (h : Option ℕ) → hierarchy_of_name name ≡ h → (o : Option ObjectEntry) → object_in_sight (first_sight setup) name ≡ o → (i : Option IndexEntry) → index_in_sight (first_sight setup) name ≡ i
          → option_or h (option_or (option_map (λ (object : ObjectEntry). object.handle) o) (option_map (λ (index : IndexEntry). index.public.index) i)) ≡ Some handle → FoundEntity setup name handle
      first (Some own) hs o os i is e = inl (hierarchy-in name handle (hs ∙ e))
      first None hs (Some object) os i is e = inr (inl (subst (FoundObject setup name) (same_Some _ _ e) (object-in name object os)))
      first None hs None os (Some entry) is e = inr (inr (subst (FoundIndex setup name) (same_Some _ _ e) (index-in name entry is)))
      first None hs None os None is e = absurd (none-some handle e)

-- ---- indices as they are later

-- the public area of an index once it is written, which never changes
abbrev pub area : IndexEntry → NvPublic
area entry = with_written entry.public

-- the index with a handle now, where there was one at first
pub record Now (handle : ℕ) (now : List IndexEntry) (first : IndexEntry) : Type 0 where
  pub entry : IndexEntry
  pub is : index_of handle now ≡ Some entry
  pub same : area entry ≡ area first

same-areas : (handle : ℕ) (indices : List IndexEntry) → option_map area (index_of handle indices) ≡ find (λ (p : NvPublic). nat_eq handle p.index) (map area indices)
same-areas handle indices = sym (find-map (λ (p : NvPublic). nat_eq handle p.index) area indices)

pub index-now : (handle : ℕ) (now first : List IndexEntry) (entry : IndexEntry) → map area now ≡ map area first → index_of handle first ≡ Some entry → Now handle now entry
index-now handle now first entry same found =
    let it = mapped area (index_of handle now) (area entry)
    (same-areas handle now ∙ ap (find (λ (p : NvPublic). nat_eq handle p.index)) same ∙ sym (same-areas handle first) ∙ ap (option_map area) found) in
    record { entry = it.value; is = it.is; same = it.gives }

-- where it is written it has the Name that it has in the directory
pub written-name : (handle : ℕ) (now : List IndexEntry) (first entry : IndexEntry) → Now handle now first → index_of handle now ≡ Some entry → is_written entry.public.attributes ≡ true
    → index_name entry.public ≡ index_name (with_written first.public)
written-name handle now first entry it found written =
    let same : it.entry ≡ entry = same_Some _ _ (sym it.is ∙ found) in
    ap index_name (sym (area-written entry.public written) ∙ ap area (sym same) ∙ it.same)

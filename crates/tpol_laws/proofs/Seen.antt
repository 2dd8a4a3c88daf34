-- The entities that a sight shows are those that the directory lists and that the machine has by their handles.
use Rattle.std.proofs.Common.{◌≡◌, ◌≤◌, ℕ, ◌*◌, ◌^◌, ◌/◌, ◌||◌, ◌&&◌, not, Bool, true, false, List, [], ◌∷◌, map, nat_eq, nat_lt, refl, ap, sym, subst, ◌∙◌, arith}
use Rattle.std.specs.Prelude.{Option, Some, None, find, is_some, option_map, bit_or, if◌then◌else◌}
use Rattle.std.specs.Int.{bit_at}
use Rattle.std.specs.Int.Bits.{or_add_and}
use Rattle.std.specs.List.{IsDistinct}
use Rattle.std.specs.Option.{option_or}
use Rattle.std.proofs.lemmas.Bool.{eq-eqb, eqb-true, false≢true}
use Rattle.std.proofs.lemmas.Bool.Decides.{nat_tests}
use Rattle.std.proofs.lemmas.List.Elements.{recursion_from_All}
use Rattle.std.proofs.lemmas.Nat.Bits.{and_pow}
use Rattle.std.proofs.lemmas.Option.{none-some, same_Some}
use Rattle.tpol_base.specs.declared.handle.HandleKind.{HandleKind}
use Rattle.tpol_base.specs.declared.handle.HandleKind.TheVariants as kinds
use Rattle.tpol_base.specs.declared.name.Name.{Name}
use Rattle.tpol_base.specs.Attributes.{has_attribute, nv_authread, nv_written}
use Rattle.tpol_base.specs.Handle.{kind_of_handle, rh_endorsement, rh_lockout, rh_owner}
use Rattle.tpol_base.specs.Name.{is_same_name}
use Rattle.tpol_choose.specs.Entities.{EntityAt, hierarchy_at, hierarchy_value, index_at, name_as_is, object_at, entity_of_name as entity_at_name}
use Rattle.tpol_choose.specs.Moves.{authority_at}
use Rattle.tpol_driver.specs.Commands.{index_authority, index_handle, or_null}
use Rattle.tpol_goal.specs.declared.grants.Grants.{Grants}
use Rattle.tpol_goal.specs.Entities.{entity_of_name, hierarchy_of_name, index_in_sight, index_of_name, is_hierarchy, object_in_sight, object_of_name}
use Rattle.tpol_goal.specs.Grants.{authority, is_granted}
use Rattle.tpol_goal.proofs.Directories.{entity_of_lines, index_of_lines, object_of_lines}
use Rattle.tpol_name.specs.declared.areas.NvPublic.{NvPublic}
use Rattle.tpol_name.specs.declared.entries.DirEntry.{DirEntry}
use Rattle.tpol_name.specs.declared.entries.IndexEntry.{IndexEntry}
use Rattle.tpol_name.specs.declared.entries.ObjectEntry.{ObjectEntry}
use Rattle.tpol_name.specs.declared.setup.Setup.{Setup}
use Rattle.tpol_name.specs.Areas.{index_name, object_name, with_written}
use Rattle.tpol_name.specs.Directories.{directory_of, line_of_index, line_of_object}
use Rattle.tpol_name.specs.Setups.{IsIndex, IsObject, IsSetup, first_sight}
use Rattle.tpm_nv.specs.Indices.{index_of}
use Rattle.tpm_rules.specs.Entity.{Entity, Hierarchy, Pcr, Object, Index}
use Rattle.tpm_world.specs.Entities.{entity_at, entity_of_kind, name_at, name_of_entity}
use Rattle.tpm_world.specs.Objects.{object_of}
use Rattle.tpm_world.specs.World.{WorldState, sight_of}
use Rattle.tpol_laws.proofs.Finds.{by-key, find-each, find-map, find-passes, names-same}
use Rattle.tpol_laws.proofs.Named.{area, hierarchy-in, is-sight, mapped}
use Rattle.tpol_laws.proofs.Own.{IsOf, object-range}

-- ---- handles by their kinds

pub index-range : (handle : ℕ) → 0x01000000 ≤ handle → handle ≤ 0x01ffffff → kind_of_handle handle ≡ Some kinds.Index
index-range handle low high =
    let pcr : nat_lt handle 24 ≡ false = grind (arith, nat_tests, low) in
    let index : nat_eq (handle / 2 ^ 24) 0x01 ≡ true = grind (arith, nat_tests, low, high) in
    rw (pcr, index) refl

pub object-there : (world : WorldState) (object : ObjectEntry) → 0x80000000 ≤ object.handle → object.handle ≤ 0x80ffffff → object_of object.handle world.objects ≡ Some object
    → entity_at world object.handle ≡ Some (Object object)
object-there world object low high there =
    ap (λ (kind : Option HandleKind). entity_of_kind world object.handle kind) (object-range object.handle low high) ∙ ap (option_map Object) there

pub index-there : (world : WorldState) (entry : IndexEntry) → 0x01000000 ≤ entry.public.index → entry.public.index ≤ 0x01ffffff → index_of entry.public.index world.indices ≡ Some entry
    → entity_at world entry.public.index ≡ Some (Index entry)
index-there world entry low high there =
    ap (λ (kind : Option HandleKind). entity_of_kind world entry.public.index kind) (index-range entry.public.index low high) ∙ ap (option_map Index) there

-- ---- attributes that writing leaves

authread-bit : (attributes : ℕ) → bit_at (bit_or attributes (2 ^ 29)) 18 ≡ bit_at attributes 18
authread-bit attributes = omega (arith, or_add_and attributes (2 ^ 29), and_pow attributes 29)

pub authread-kept : (attributes : ℕ) → has_attribute (bit_or attributes nv_written) nv_authread ≡ has_attribute attributes nv_authread
authread-kept attributes =
    ap (λ n. not (nat_eq n 0)) (and_pow (bit_or attributes (2 ^ 29)) 18 ∙ ap (λ bit. bit * 2 ^ 18) (authread-bit attributes) ∙ sym (and_pow attributes 18))

authread-same : (a b : NvPublic) → with_written a ≡ with_written b → has_attribute a.attributes nv_authread ≡ has_attribute b.attributes nv_authread
authread-same a b same =
    sym (authread-kept a.attributes) ∙ ap (λ (p : NvPublic). has_attribute p.attributes nv_authread) same ∙ authread-kept b.attributes

-- what authorizes the reading of an index is the same as it was
authority-same : (grants : Grants) (a b : NvPublic) → with_written a ≡ with_written b → authority grants a.index a.attributes ≡ authority grants b.index b.attributes
authority-same grants a b same =
    let handles : a.index ≡ b.index = ap (λ (p : NvPublic). p.index) same in
    ap (λ (n : ℕ). authority grants n a.attributes) handles
    ∙ ap (λ bit. if bit && is_granted grants.secrets b.index then b.index else rh_owner) (authread-same a b same)

-- ---- what is seen

pub record SeenObject (setup : Setup) (world : WorldState) (name : Name) (object : ObjectEntry) : Type 0 where
  pub listed : object_of_name (directory_of setup) name ≡ Some (line_of_object object)
  pub held : object_of object.handle world.objects ≡ Some object
  pub there : entity_at world object.handle ≡ Some (Object object)
  pub named : object_name object.public ≡ name

pub record SeenIndex (setup : Setup) (world : WorldState) (name : Name) (entry : IndexEntry) : Type 0 where
  pub line : DirEntry
  pub listed : index_of_name (directory_of setup) name ≡ Some line
  pub handle : line.handle ≡ entry.public.index
  pub authority : (grants : Grants) → authority grants line.handle line.attributes ≡ authority grants entry.public.index entry.public.attributes
  pub low : 0x01000000 ≤ entry.public.index
  pub high : entry.public.index ≤ 0x01ffffff
  pub held : index_of entry.public.index world.indices ≡ Some entry
  pub there : entity_at world entry.public.index ≡ Some (Index entry)
  pub named : index_name (with_written entry.public) ≡ name

pub record SeenEntity (setup : Setup) (world : WorldState) (name : Name) (found : EntityAt) : Type 0 where
  pub listed : entity_of_name (directory_of setup) name ≡ Some found.handle
  pub there : entity_at world found.handle ≡ Some found.entity

-- what authorizes the reading of an index is an entity with this handle
pub record ReadBy (world : WorldState) (handle : ℕ) (reader : EntityAt) : Type 0 where
  pub same : reader.handle ≡ handle
  pub there : entity_at world reader.handle ≡ Some reader.entity

-- the handles that the driver finds
pub index-handle : (setup : Setup) (world : WorldState) (name : Name) (entry : IndexEntry) → SeenIndex setup world name entry → index_handle (directory_of setup) name ≡ entry.public.index
index-handle setup world name entry seen = ap (λ (o : Option DirEntry). or_null (option_map (λ (line : DirEntry). line.handle) o)) seen.listed ∙ seen.handle

pub reader-handle : (setup : Setup) (world : WorldState) (name : Name) (entry : IndexEntry) → SeenIndex setup world name entry → (grants : Grants) → index_authority (directory_of setup) grants name ≡ authority grants entry.public.index entry.public.attributes
reader-handle setup world name entry seen grants =
    ap (λ (o : Option DirEntry). or_null (option_map (λ (line : DirEntry). authority grants line.handle line.attributes) o)) seen.listed ∙ seen.authority grants

-- something is found where it is mapped
pub some-map : {A B : Type 0} (f : A → B) (o : Option A) → is_some (option_map f o) ≡ is_some o
some-map f None = refl
some-map f (Some x) = refl

keys-areas : (indices : List IndexEntry) → map (λ (e : IndexEntry). e.public.index) indices ≡ map (λ (p : NvPublic). p.index) (map area indices)
keys-areas [] = refl
keys-areas (e ∷ es) = ap (λ keys. e.public.index ∷ keys) (keys-areas es)

module _ (setup : Setup) (is : IsSetup setup) (world : WorldState) (of : IsOf setup world) (free : ℕ) where
  first-object : (name : Name) → object_in_sight (sight_of world free) name ≡ object_in_sight (first_sight setup) name
  first-object name = ap (find (λ (object : ObjectEntry). is_same_name (object_name object.public) name)) of.objects

  -- the line of an object
  pub object-line : (name : Name) → option_map line_of_object (object_in_sight (sight_of world free) name) ≡ object_of_name (directory_of setup) name
  object-line name = ap (option_map line_of_object) (first-object name) ∙ object_of_lines (first_sight setup) name (is-sight setup is)

  pub see-object : (name : Name) (object : ObjectEntry) → object_in_sight (sight_of world free) name ≡ Some object → SeenObject setup world name object
  see-object name object found =
      let at_first = sym (first-object name) ∙ found in
      let each = find-each IsObject (λ (o : ObjectEntry). is_same_name (object_name o.public) name) setup.objects object (recursion_from_All IsObject setup.objects is.entities.each_object) at_first in
      let held = ap (object_of object.handle) of.objects ∙ by-key (λ (o : ObjectEntry). o.handle) (λ o. is_same_name (object_name o.public) name) setup.objects object is.entities.object_handles at_first in
      record {
        listed = sym (object-line name) ∙ ap (option_map line_of_object) found;
        held = held;
        there = object-there world object each.least_handle each.greatest_handle held;
        named = names-same _ _ (find-passes (λ (o : ObjectEntry). is_same_name (object_name o.public) name) setup.objects object at_first);
      }

  distinct : IsDistinct nat_eq (map (λ (e : IndexEntry). e.public.index) world.indices)
  distinct =
      subst (IsDistinct nat_eq) (sym (keys-areas world.indices ∙ ap (map (λ (p : NvPublic). p.index)) of.areas ∙ sym (keys-areas setup.indices))) is.entities.index_handles

  -- by their areas once they are written
  areas-found : (name : Name) → option_map area (index_in_sight (sight_of world free) name) ≡ option_map area (index_in_sight (first_sight setup) name)
  areas-found name =
      sym (find-map (λ (p : NvPublic). is_same_name (index_name p) name) area world.indices)
      ∙ ap (λ (areas : List NvPublic). find (λ (p : NvPublic). is_same_name (index_name p) name) areas) of.areas
      ∙ find-map (λ (p : NvPublic). is_same_name (index_name p) name) area setup.indices

  -- an index is seen where the directory lists it
  pub index-listed : (name : Name) → is_some (index_in_sight (sight_of world free) name) ≡ is_some (index_of_name (directory_of setup) name)
  index-listed name =
      sym (some-map area (index_in_sight (sight_of world free) name))
      ∙ ap is_some (areas-found name)
      ∙ some-map area (index_in_sight (first_sight setup) name)
      ∙ sym (some-map line_of_index (index_in_sight (first_sight setup) name))
      ∙ ap is_some (index_of_lines (first_sight setup) name (is-sight setup is))

  pub see-index : (name : Name) (entry : IndexEntry) → index_in_sight (sight_of world free) name ≡ Some entry → SeenIndex setup world name entry
  see-index name entry found =
      let it = mapped area (index_in_sight (first_sight setup) name) (area entry) (sym (areas-found name) ∙ ap (option_map area) found) in
      let each = find-each IsIndex (λ (e : IndexEntry). is_same_name (index_name (with_written e.public)) name) setup.indices it.value (recursion_from_All IsIndex setup.indices is.entities.each_index) it.is in
      let same : it.value.public.index ≡ entry.public.index = ap (λ (p : NvPublic). p.index) it.gives in
      let low : 0x01000000 ≤ entry.public.index = subst (λ (n : ℕ). 0x01000000 ≤ n) same each.least_handle in
      let high : entry.public.index ≤ 0x01ffffff = subst (λ (n : ℕ). n ≤ 0x01ffffff) same each.greatest_handle in
      let held = by-key (λ (e : IndexEntry). e.public.index) (λ e. is_same_name (index_name (with_written e.public)) name) world.indices entry distinct found in
      record {
        line = line_of_index it.value;
        listed = sym (index_of_lines (first_sight setup) name (is-sight setup is)) ∙ ap (option_map line_of_index) it.is;
        handle = same;
        authority = λ grants. authority-same grants it.value.public entry.public it.gives;
        low = low;
        high = high;
        held = held;
        there = index-there world entry low high held;
        named = names-same _ _ (find-passes (λ (e : IndexEntry). is_same_name (index_name (with_written e.public)) name) world.indices entry found);
      }

  -- ---- an entity that PolicySecret may name

  hierarchy-there : (handle : ℕ) → is_hierarchy handle ≡ true → entity_at world handle ≡ Some (Hierarchy handle (hierarchy_value (sight_of world free) handle))
  hierarchy-there handle h = at (nat_eq handle rh_owner) refl (nat_eq handle rh_endorsement) refl (nat_eq handle rh_lockout) refl h
    where
      at : (a : Bool) → nat_eq handle rh_owner ≡ a → (b : Bool) → nat_eq handle rh_endorsement ≡ b → (c : Bool) → nat_eq handle rh_lockout ≡ c
          → (a || b || c) ≡ true → entity_at world handle ≡ Some (Hierarchy handle (hierarchy_value (sight_of world free) handle))
      at true ea b eb c ec h = subst (λ (n : ℕ). entity_at world n ≡ Some (Hierarchy n (hierarchy_value (sight_of world free) n))) (sym (eqb-true handle rh_owner ea)) refl
      at false ea true eb c ec h = subst (λ (n : ℕ). entity_at world n ≡ Some (Hierarchy n (hierarchy_value (sight_of world free) n))) (sym (eqb-true handle rh_endorsement eb)) refl
      at false ea false eb true ec h = subst (λ (n : ℕ). entity_at world n ≡ Some (Hierarchy n (hierarchy_value (sight_of world free) n))) (sym (eqb-true handle rh_lockout ec)) refl
      at false ea false eb false ec h = absurd (false≢true h)

  -- the handle that the directory lists
  listed-handle : (name : Name) → entity_of_name (directory_of setup) name
      ≡ option_or (hierarchy_of_name name) (option_or (option_map (λ (o : ObjectEntry). o.handle) (object_in_sight (sight_of world free) name)) (option_map (λ (p : NvPublic). p.index) (option_map area (index_in_sight (sight_of world free) name))))
  listed-handle name =
      sym (entity_of_lines (first_sight setup) name)
      ∙ ap (λ (o : Option ObjectEntry). option_or (hierarchy_of_name name) (option_or (option_map (λ (o : ObjectEntry). o.handle) o) (option_map (λ (index : IndexEntry). index.public.index) (index_in_sight (first_sight setup) name)))) (sym (first-object name))
      ∙ ap (λ (i : Option ℕ). option_or (hierarchy_of_name name) (option_or (option_map (λ (o : ObjectEntry). o.handle) (object_in_sight (sight_of world free) name)) i))
      (area-handle (index_in_sight (first_sight setup) name) ∙ ap (option_map (λ (p : NvPublic). p.index)) (sym (areas-found name)))
    where
      area-handle : (o : Option IndexEntry) → option_map (λ (index : IndexEntry). index.public.index) o ≡ option_map (λ (p : NvPublic). p.index) (option_map area o)
      area-handle None = refl
      area-handle (Some entry) = refl

  -- an entity is seen where the directory lists it
  pub entity-listed : (name : Name) → is_some (entity_at_name (sight_of world free) name) ≡ is_some (entity_of_name (directory_of setup) name)
  entity-listed name =
      by (hierarchy_of_name name) (object_in_sight (sight_of world free) name) (index_in_sight (sight_of world free) name) ∙ sym (ap is_some (listed-handle name))
    where
      by : (h : Option ℕ) (o : Option ObjectEntry) (i : Option IndexEntry)
          → is_some (option_or (option_map (hierarchy_at (sight_of world free)) h) (option_or (option_map object_at o) (option_map index_at i)))
          ≡ is_some (option_or h (option_or (option_map (λ (o : ObjectEntry). o.handle) o) (option_map (λ (p : NvPublic). p.index) (option_map area i))))
      by (Some own) o i = refl
      by None (Some object) i = refl
      by None None (Some entry) = refl
      by None None None = refl

  pub see-entity : (name : Name) (found : EntityAt) → entity_at_name (sight_of world free) name ≡ Some found → SeenEntity setup world name found
  see-entity name found shown =
      first (hierarchy_of_name name) refl (object_in_sight (sight_of world free) name) refl (index_in_sight (sight_of world free) name) refl (listed-handle name) shown
    where
      first : (h : Option ℕ) → hierarchy_of_name name ≡ h → (o : Option ObjectEntry) → object_in_sight (sight_of world free) name ≡ o → (i : Option IndexEntry) → index_in_sight (sight_of world free) name ≡ i
          → entity_of_name (directory_of setup) name ≡ option_or h (option_or (option_map (λ (o : ObjectEntry). o.handle) o) (option_map (λ (p : NvPublic). p.index) (option_map area i)))
          → option_or (option_map (hierarchy_at (sight_of world free)) h) (option_or (option_map object_at o) (option_map index_at i)) ≡ Some found
          → SeenEntity setup world name found
      first (Some own) hs o object_is i index_is listed e =
          subst (SeenEntity setup world name) (same_Some _ _ e) (record { listed = listed; there = hierarchy-there own (hierarchy-in setup is name own hs).is })
      first None hs (Some object) object_is i index_is listed e =
          subst (SeenEntity setup world name) (same_Some _ _ e) (record { listed = listed; there = (see-object name object object_is).there })
      first None hs None object_is (Some entry) index_is listed e =
          subst (SeenEntity setup world name) (same_Some _ _ e) (record { listed = listed; there = (see-index name entry index_is).there })
      first None hs None object_is None index_is listed e = absurd (none-some found e)

  -- ---- what authorizes the reading of an index

  own-reader : (entry : IndexEntry) → entity_at world entry.public.index ≡ Some (Index entry) → ReadBy world entry.public.index (authority_at (sight_of world free) entry entry.public.index)
  own-reader entry there =
      subst (λ (b : Bool). ReadBy world entry.public.index (if b then index_at entry else hierarchy_at (sight_of world free) entry.public.index)) (sym (eq-eqb entry.public.index entry.public.index refl))
      (record { same = refl; there = there })

  owner-reader : (entry : IndexEntry) → entry.public.index ≤ 0x01ffffff → ReadBy world rh_owner (authority_at (sight_of world free) entry rh_owner)
  owner-reader entry high =
      let other : nat_eq rh_owner entry.public.index ≡ false = grind (arith, nat_tests, high) in
      subst (λ (b : Bool). ReadBy world rh_owner (if b then index_at entry else hierarchy_at (sight_of world free) rh_owner)) (sym other)
      (record { same = refl; there = refl })

  pub read-by : (grants : Grants) (name : Name) (entry : IndexEntry) → SeenIndex setup world name entry
      → ReadBy world (authority grants entry.public.index entry.public.attributes) (authority_at (sight_of world free) entry (authority grants entry.public.index entry.public.attributes))
  read-by grants name entry seen = at (has_attribute entry.public.attributes nv_authread && is_granted grants.secrets entry.public.index)
    where
      at : (b : Bool) → ReadBy world (if b then entry.public.index else rh_owner) (authority_at (sight_of world free) entry (if b then entry.public.index else rh_owner))
      at true = own-reader entry seen.there
      at false = owner-reader entry seen.high

-- the Name of an entity as it is
pub name-as-is : (world : WorldState) (handle : ℕ) (entity : Entity) → entity_at world handle ≡ Some entity → name_at world handle ≡ name_as_is handle entity
name-as-is world handle entity there = ap (name_of_entity handle) there ∙ by-entity entity
  where
    by-entity : (entity : Entity) → name_of_entity handle (Some entity) ≡ name_as_is handle entity
    by-entity (Hierarchy own auth) = refl
    by-entity Pcr = refl
    by-entity (Object object) = refl
    by-entity (Index entry) = refl

-- What there is at the handles of a goal: what a sight shows and a directory lists is what the machine finds there.
use Rattle.std.proofs.Common.{◌≡◌, ◌≤◌, ◌<◌, ℕ, Bool, false, cond, List, [], ◌∷◌, length, map, nat_eq, refl, ap, sym, subst, ◌∙◌, arith}
use Rattle.std.specs.Prelude.{Option, Some, None, find, option_map, unwrap_or}
use Rattle.std.specs.Option.{option_or}
use Rattle.std.specs.List.{AllByRecursion}
use Rattle.std.proofs.lemmas.Bool.{eqb-true}
use Rattle.std.proofs.lemmas.Bool.Decides.{nat_tests}
use Rattle.std.proofs.lemmas.List.Elements.{recursion_from_All}
use Rattle.std.proofs.lemmas.List.Folds.{find-append}
use Rattle.tpol_base.specs.declared.name.Name.{Name}
use Rattle.tpol_base.specs.declared.name.Name.TheVariants.{Handle}
use Rattle.tpol_base.specs.Handle.{rh_null}
use Rattle.tpol_goal.specs.Entities.{index_of_handle, name_in_sight, name_of_handle, name_of_index_or_handle, name_of_object_or_other, object_of_handle}
use Rattle.tpol_name.specs.declared.areas.NvPublic.{NvPublic}
use Rattle.tpol_name.specs.declared.entries.DirEntry.{DirEntry}
use Rattle.tpol_name.specs.declared.entries.IndexEntry.{IndexEntry}
use Rattle.tpol_name.specs.declared.entries.ObjectEntry.{ObjectEntry}
use Rattle.tpol_name.specs.declared.setup.Setup.{Setup}
use Rattle.tpol_name.specs.Areas.{index_name, object_name, with_written}
use Rattle.tpol_name.specs.Directories.{directory_of, line_of_index, line_of_object}
use Rattle.tpol_name.specs.Setups.{IsAuthValue, IsIndex, IsObject, IsSetup}
use Rattle.tpm_engine.specs.Stops.{handle_stop}
use Rattle.tpm_engine.specs.Tables.{TableState}
use Rattle.tpm_engine.proofs.Stopping.{map-none}
use Rattle.tpm_nv.specs.Indices.{index_of}
use Rattle.tpm_rules.specs.Entity.{Index, Object}
use Rattle.tpm_world.specs.Entities.{entity_at, entity_of_kind, name_at, name_of_entity}
use Rattle.tpm_world.specs.Objects.{object_of}
use Rattle.tpm_world.specs.World.{sight_of}
use Rattle.tpol_laws.proofs.Finds.{find-each, find-map, find-passes}
use Rattle.tpol_laws.proofs.Lasting.{IsKept, kept}
use Rattle.tpol_laws.proofs.Named.{mapped}
use Rattle.tpol_laws.proofs.Own.{object-range}
use Rattle.tpol_laws.proofs.Seen.{index-range}
use Rattle.tpol_laws.proofs.Unstopped.{entity-there}

-- ---- look-ups by handle

flip : (a b : ℕ) → nat_eq a b ≡ nat_eq b a
flip a b = grind (arith, nat_tests)

pub find-flip : {A : Type 0} (key : A → ℕ) (handle : ℕ) (xs : List A) → find (λ x. nat_eq (key x) handle) xs ≡ find (λ x. nat_eq handle (key x)) xs
find-flip key handle [] = refl
find-flip key handle (x ∷ xs) =
    ap (λ b. cond b (Some x) (find (λ y. nat_eq (key y) handle) xs)) (flip (key x) handle)
    ∙ ap (cond (nat_eq handle (key x)) (Some x)) (find-flip key handle xs)

find-none : {A : Type 0} (test : A → Bool) (xs : List A) → AllByRecursion (λ x. test x ≡ false) xs → find test xs ≡ None
find-none test [] each = refl
find-none test (x ∷ xs) each = ap (λ b. cond b (Some x) (find test xs)) each.0 ∙ find-none test xs each.1

below-objects : (handle : ℕ) (objects : List ObjectEntry) → handle < 0x80000000 → AllByRecursion IsObject objects → AllByRecursion (λ (o : ObjectEntry). nat_eq o.handle handle ≡ false) objects
below-objects handle [] low each = tt
below-objects handle (o ∷ objects) low each =
    let least : 0x80000000 ≤ o.handle = each.0.least_handle in
    (grind (arith, nat_tests, low, least), below-objects handle objects low each.1)

above-indices : (handle : ℕ) (indices : List IndexEntry) → 0x02000000 ≤ handle → AllByRecursion IsIndex indices → AllByRecursion (λ (i : IndexEntry). nat_eq i.public.index handle ≡ false) indices
above-indices handle [] high each = tt
above-indices handle (i ∷ indices) high each =
    let most : i.public.index ≤ 0x01ffffff = each.0.greatest_handle in
    (grind (arith, nat_tests, high, most), above-indices handle indices high each.1)

-- what is at a handle: its Name as it is, the one that the directory lists, and that no rule on handles stops it
pub record IsThere (setup : Setup) (tables : TableState) (free handle : ℕ) (now listed : Name) : Type 0 where
  pub is_now : name_at tables.world handle ≡ now
  pub is_seen : name_in_sight (sight_of tables.world free) handle ≡ now
  pub is_listed : name_of_handle (directory_of setup) handle ≡ listed
  pub is_free : (n : ℕ) → handle_stop tables n handle ≡ None

pub record IsObjectAt (setup : Setup) (tables : TableState) (free handle : ℕ) (object : ObjectEntry) : Type 0 where
  pub is : object_of handle tables.world.objects ≡ Some object
  pub entity : entity_at tables.world handle ≡ Some (Object object)
  pub same : object.handle ≡ handle
  pub low : 0x80000000 ≤ handle
  pub high : handle ≤ 0x80ffffff
  pub value : IsAuthValue object.auth
  pub secret : length object.secret ≤ 128
  pub there : IsThere setup tables free handle (object_name object.public) (object_name object.public)

pub record IsIndexAt (setup : Setup) (tables : TableState) (free handle : ℕ) (entry : IndexEntry) : Type 0 where
  pub is : index_of handle tables.world.indices ≡ Some entry
  pub entity : entity_at tables.world handle ≡ Some (Index entry)
  pub same : entry.public.index ≡ handle
  pub low : 0x01000000 ≤ handle
  pub high : handle ≤ 0x01ffffff
  pub value : IsAuthValue entry.auth
  pub size : entry.public.size ≤ 2048
  pub there : IsThere setup tables free handle (index_name entry.public) (index_name (with_written entry.public))

module _ (setup : Setup) (is : IsSetup setup) (tables : TableState) (of : IsKept setup tables.world) (free : ℕ) where
  each-object : AllByRecursion IsObject setup.objects
  each-object = recursion_from_All IsObject setup.objects is.entities.each_object

  each-index : AllByRecursion IsIndex setup.indices
  each-index = recursion_from_All IsIndex setup.indices is.entities.each_index

  -- the line of a handle among those of objects, and then of indices
  listed-line : (handle : ℕ) → find (λ (line : DirEntry). nat_eq line.handle handle) (directory_of setup)
      ≡ option_or (option_map line_of_object (find (λ (o : ObjectEntry). nat_eq o.handle handle) setup.objects)) (option_map line_of_index (find (λ (i : IndexEntry). nat_eq i.public.index handle) setup.indices))
  listed-line handle =
      find-append (λ (line : DirEntry). nat_eq line.handle handle) (map line_of_object setup.objects) (map line_of_index setup.indices)
      ∙ ap (λ found. option_or found (find (λ (line : DirEntry). nat_eq line.handle handle) (map line_of_index setup.indices))) (find-map (λ (line : DirEntry). nat_eq line.handle handle) line_of_object setup.objects)
      ∙ ap (option_or (option_map line_of_object (find (λ (o : ObjectEntry). nat_eq o.handle handle) setup.objects))) (find-map (λ (line : DirEntry). nat_eq line.handle handle) line_of_index setup.indices)

  listed-name : (handle : ℕ) (found : Option DirEntry) → find (λ (line : DirEntry). nat_eq line.handle handle) (directory_of setup) ≡ found → name_of_handle (directory_of setup) handle ≡ unwrap_or (option_map (λ (line : DirEntry). line.name) found) (Handle handle)
  listed-name handle found is = ap (λ (o : Option DirEntry). unwrap_or (option_map (λ (line : DirEntry). line.name) o) (Handle handle)) is

  -- ---- an object

  pub object-there : (handle : ℕ) (object : ObjectEntry) → object_of_handle (sight_of tables.world free) handle ≡ Some object → IsObjectAt setup tables free handle object
  object-there handle object found =
      let first : find (λ (o : ObjectEntry). nat_eq o.handle handle) setup.objects ≡ Some object = ap (find (λ (o : ObjectEntry). nat_eq o.handle handle)) (sym of.objects) ∙ found in
      let each = find-each IsObject (λ (o : ObjectEntry). nat_eq o.handle handle) setup.objects object each-object first in
      let same : object.handle ≡ handle = eqb-true object.handle handle (find-passes (λ (o : ObjectEntry). nat_eq o.handle handle) setup.objects object first) in
      let low : 0x80000000 ≤ handle = subst (λ n. 0x80000000 ≤ n) same each.least_handle in
      let high : handle ≤ 0x80ffffff = subst (λ n. n ≤ 0x80ffffff) same each.greatest_handle in
      let there : object_of handle tables.world.objects ≡ Some object = sym (find-flip (λ (o : ObjectEntry). o.handle) handle tables.world.objects) ∙ found in
      let entity : entity_at tables.world handle ≡ Some (Object object) = ap (entity_of_kind tables.world handle) (object-range handle low high) ∙ ap (option_map Object) there in
      let line = listed-line handle ∙ ap (λ o. option_or (option_map line_of_object o) (option_map line_of_index (find (λ (i : IndexEntry). nat_eq i.public.index handle) setup.indices))) first in
      record {
        is = there;
        entity = entity;
        same = same;
        low = low;
        high = high;
        value = each.auth;
        secret = each.secret;
        there = record {
          is_now = ap (name_of_entity handle) entity;
          is_seen = ap (name_of_object_or_other (sight_of tables.world free) handle) found;
          is_listed = listed-name handle (Some (line_of_object object)) line;
          is_free = λ n. entity-there tables n handle (Object object) entity;
        };
      }

  -- ---- an index

  pub same-indices : (handle : ℕ) → option_map kept (index_of handle tables.world.indices) ≡ option_map kept (index_of handle setup.indices)
  same-indices handle =
      sym (find-map (λ (p : NvPublic × List ℕ). nat_eq handle p.0.index) kept tables.world.indices)
      ∙ ap (find (λ (p : NvPublic × List ℕ). nat_eq handle p.0.index)) of.indices
      ∙ find-map (λ (p : NvPublic × List ℕ). nat_eq handle p.0.index) kept setup.indices

  pub index-there : (handle : ℕ) (entry : IndexEntry) → index_of_handle (sight_of tables.world free) handle ≡ Some entry → IsIndexAt setup tables free handle entry
  index-there handle entry found =
      let there : index_of handle tables.world.indices ≡ Some entry = sym (find-flip (λ (i : IndexEntry). i.public.index) handle tables.world.indices) ∙ found in
      let it = mapped kept (index_of handle setup.indices) (kept entry) (sym (same-indices handle) ∙ ap (option_map kept) there) in
      let each = find-each IsIndex (λ (i : IndexEntry). nat_eq handle i.public.index) setup.indices it.value each-index it.is in
      let own : handle ≡ it.value.public.index = eqb-true handle it.value.public.index (find-passes (λ (i : IndexEntry). nat_eq handle i.public.index) setup.indices it.value it.is) in
      let same : entry.public.index ≡ handle = ap (λ (p : NvPublic × List ℕ). p.0.index) (sym it.gives) ∙ sym own in
      let low : 0x01000000 ≤ handle = subst (λ n. 0x01000000 ≤ n) (sym own) each.least_handle in
      let high : handle ≤ 0x01ffffff = subst (λ n. n ≤ 0x01ffffff) (sym own) each.greatest_handle in
      let entity : entity_at tables.world handle ≡ Some (Index entry) = ap (entity_of_kind tables.world handle) (index-range handle low high) ∙ ap (option_map Index) there in
      let none : find (λ (o : ObjectEntry). nat_eq o.handle handle) setup.objects ≡ None = find-none (λ (o : ObjectEntry). nat_eq o.handle handle) setup.objects (below-objects handle setup.objects (omega (arith, high)) each-object) in
      let first : find (λ (i : IndexEntry). nat_eq i.public.index handle) setup.indices ≡ Some it.value = find-flip (λ (i : IndexEntry). i.public.index) handle setup.indices ∙ it.is in
      let line = listed-line handle ∙ ap (λ o. option_or (option_map line_of_object o) (option_map line_of_index (find (λ (i : IndexEntry). nat_eq i.public.index handle) setup.indices))) none ∙ ap (option_map line_of_index) first in
      record {
        is = there;
        entity = entity;
        same = same;
        low = low;
        high = high;
        value = subst IsAuthValue (ap (λ (p : NvPublic × List ℕ). p.1) it.gives) each.auth;
        size = subst (λ n. n ≤ 2048) (ap (λ (p : NvPublic × List ℕ). p.0.size) it.gives) each.greatest_size;
        there = record {
          is_now = ap (name_of_entity handle) entity;
          is_seen =
              ap (name_of_object_or_other (sight_of tables.world free) handle) (ap (find (λ (o : ObjectEntry). nat_eq o.handle handle)) of.objects ∙ none)
              ∙ ap (name_of_index_or_handle handle) found;
          is_listed = listed-name handle (Some (line_of_index it.value)) line ∙ ap (λ (p : NvPublic × List ℕ). index_name p.0) it.gives;
          is_free = λ n. entity-there tables n handle (Index entry) entity;
        };
      }

  -- ---- the null hierarchy

  pub null-there : IsThere setup tables free rh_null (Handle rh_null) (Handle rh_null)
  null-there =
      let objects : find (λ (o : ObjectEntry). nat_eq o.handle rh_null) setup.objects ≡ None = find-none (λ (o : ObjectEntry). nat_eq o.handle rh_null) setup.objects (below-objects rh_null setup.objects (omega arith) each-object) in
      let indices : find (λ (i : IndexEntry). nat_eq i.public.index rh_null) setup.indices ≡ None = find-none (λ (i : IndexEntry). nat_eq i.public.index rh_null) setup.indices (above-indices rh_null setup.indices (omega arith) each-index) in
      let first : index_of rh_null setup.indices ≡ None = sym (find-flip (λ (i : IndexEntry). i.public.index) rh_null setup.indices) ∙ indices in
      let now : find (λ (i : IndexEntry). nat_eq i.public.index rh_null) tables.world.indices ≡ None =
      find-flip (λ (i : IndexEntry). i.public.index) rh_null tables.world.indices ∙ map-none kept (index_of rh_null tables.world.indices) (same-indices rh_null ∙ ap (option_map kept) first) in
      record {
        is_now = refl;
        is_seen =
            ap (name_of_object_or_other (sight_of tables.world free) rh_null) (ap (find (λ (o : ObjectEntry). nat_eq o.handle rh_null)) of.objects ∙ objects)
            ∙ ap (name_of_index_or_handle rh_null) now;
        is_listed = listed-name rh_null None (listed-line rh_null
            ∙ ap (λ o. option_or (option_map line_of_object o) (option_map line_of_index (find (λ (i : IndexEntry). nat_eq i.public.index rh_null) setup.indices))) objects
            ∙ ap (option_map line_of_index) indices);
        is_free = λ n. refl;
      }

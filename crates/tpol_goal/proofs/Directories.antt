-- What is found in the lists of a sight is what is found in the directory that they make.
use Rattle.std.proofs.Common.{◌≡◌, ◌≤◌, ◌/◌, ◌^◌, ℕ, Bool, true, false, cond, ◌&&◌, ◌==◌, List, [], ◌∷◌, map, refl, ap, sym, ◌∙◌, arith}
use Rattle.std.specs.Prelude.{Option, Some, None, find, option_map}
use Rattle.std.specs.Option.{option_or}
use Rattle.std.specs.List.{AllByRecursion}
use Rattle.std.proofs.lemmas.List.Elements.{recursion_from_All}
use Rattle.std.proofs.lemmas.List.Folds.{find-append}
use Rattle.tpol_base.specs.declared.name.Name.{Name}
use Rattle.tpol_base.specs.Handle.{is_index, is_object}
use Rattle.tpol_base.specs.Name.{is_same_name}
use Rattle.tpol_name.specs.declared.entries.DirEntry.{DirEntry}
use Rattle.tpol_name.specs.declared.entries.IndexEntry.{IndexEntry}
use Rattle.tpol_name.specs.declared.entries.ObjectEntry.{ObjectEntry}
use Rattle.tpol_name.specs.declared.sight.Sight.{Sight}
use Rattle.tpol_name.specs.Directories.{line_of_index, line_of_object, lines_of}
use Rattle.tpol_name.specs.Setups.{IsIndex, IsObject, IsSight}
use Rattle.tpol_goal.specs.Entities.{entity_in_sight, entity_of_name, hierarchy_of_name, index_in_sight, index_of_name, object_in_sight, object_of_name}

-- ---- look-ups in lists

first-map : {X Y : Type 0} (f : X → Y) (b : Bool) (x : X) (found : Option Y) (other : Option X) → found ≡ option_map f other → cond b (Some (f x)) found ≡ option_map f (cond b (Some x) other)
first-map f true x found other e = refl
first-map f false x found other e = e

find-map : {X Y : Type 0} (test : Y → Bool) (f : X → Y) (xs : List X) → find test (map f xs) ≡ option_map f (find (λ x. test (f x)) xs)
find-map test f [] = refl
find-map test f (x ∷ xs) = first-map f (test (f x)) x _ _ (find-map test f xs)

map-or : {X Y : Type 0} (f : X → Y) (a b : Option X) → option_map f (option_or a b) ≡ option_or (option_map f a) (option_map f b)
map-or f (Some x) b = refl
map-or f None b = refl

or-none : {X : Type 0} (a : Option X) → option_or a None ≡ a
or-none (Some x) = refl
or-none None = refl

map-map : {X Y Z : Type 0} (g : Y → Z) (f : X → Y) (a : Option X) → option_map g (option_map f a) ≡ option_map (λ x. g (f x)) a
map-map g f (Some x) = refl
map-map g f None = refl

-- a look-up in the lines of objects and of indices
find-lines : (test : DirEntry → Bool) (objects : List ObjectEntry) (indices : List IndexEntry) → find test (lines_of objects indices)
    ≡ option_or (option_map line_of_object (find (λ object. test (line_of_object object)) objects))
    (option_map line_of_index (find (λ index. test (line_of_index index)) indices))
find-lines test objects indices =
    find-append test (map line_of_object objects) (map line_of_index indices)
    ∙ ap (λ found. option_or found (find test (map line_of_index indices))) (find-map test line_of_object objects)
    ∙ ap (option_or (option_map line_of_object (find (λ object. test (line_of_object object)) objects))) (find-map test line_of_index indices)

-- ---- entities

pub entity_of_lines : (sight : Sight) (name : Name) → entity_in_sight sight name ≡ entity_of_name (lines_of sight.objects sight.indices) name
entity_of_lines sight name =
    let object = object_in_sight sight name in
    let index = index_in_sight sight name in
    let handle : DirEntry → ℕ = λ entry. entry.handle in
    ap (option_or (hierarchy_of_name name)) (sym
    (ap (option_map handle) (find-lines (λ entry. is_same_name entry.name name) sight.objects sight.indices)
    ∙ map-or handle (option_map line_of_object object) (option_map line_of_index index)
    ∙ ap (λ found. option_or found (option_map handle (option_map line_of_index index))) (map-map handle line_of_object object)
    ∙ ap (option_or (option_map (λ o. o.handle) object)) (map-map handle line_of_index index)))

-- ---- objects and indices

-- a test that holds of each element may be asked or not, and one that holds of none finds nothing
find-asked : {X : Type 0} (asked test : X → Bool) (xs : List X) → AllByRecursion (λ x. asked x ≡ true) xs → find (λ x. asked x && test x) xs ≡ find test xs
find-asked asked test [] h = refl
find-asked asked test (x ∷ xs) h =
    ap (λ b. cond (b && test x) (Some x) (find (λ y. asked y && test y) xs)) h.0
    ∙ ap (cond (test x) (Some x)) (find-asked asked test xs h.1)

find-none : {X : Type 0} (asked test : X → Bool) (xs : List X) → AllByRecursion (λ x. asked x ≡ false) xs → find (λ x. asked x && test x) xs ≡ None
find-none asked test [] h = refl
find-none asked test (x ∷ xs) h =
    ap (λ b. cond (b && test x) (Some x) (find (λ y. asked y && test y) xs)) h.0
    ∙ find-none asked test xs h.1

-- handles of objects and of indices by their first byte
object_range : (handle : ℕ) → 0x80000000 ≤ handle → handle ≤ 0x80ffffff → handle / 2 ^ 24 ≡ 0x80
object_range handle least greatest = omega arith

index_range : (handle : ℕ) → 0x01000000 ≤ handle → handle ≤ 0x01ffffff → handle / 2 ^ 24 ≡ 0x01
index_range handle least greatest = omega arith

objects-are : (P : ℕ → Bool) (b : Bool) (objects : List ObjectEntry) → AllByRecursion IsObject objects → ((handle : ℕ) → handle / 2 ^ 24 ≡ 0x80 → P handle ≡ b) → AllByRecursion (λ object. P object.handle ≡ b) objects
objects-are P b [] h f = tt
objects-are P b (object ∷ objects) h f =
    (f object.handle (object_range object.handle h.0.least_handle h.0.greatest_handle), objects-are P b objects h.1 f)

indices-are : (P : ℕ → Bool) (b : Bool) (indices : List IndexEntry) → AllByRecursion IsIndex indices → ((handle : ℕ) → handle / 2 ^ 24 ≡ 0x01 → P handle ≡ b) → AllByRecursion (λ index. P index.public.index ≡ b) indices
indices-are P b [] h f = tt
indices-are P b (index ∷ indices) h f =
    (f index.public.index (index_range index.public.index h.0.least_handle h.0.greatest_handle), indices-are P b indices h.1 f)

is_kind : (handle first kind : ℕ) → handle / 2 ^ 24 ≡ first → (handle / 2 ^ 24 == kind) ≡ (first == kind)
is_kind handle first kind e = ap (λ byte. byte == kind) e

pub object_of_lines : (sight : Sight) (name : Name) → IsSight sight → option_map line_of_object (object_in_sight sight name) ≡ object_of_name (lines_of sight.objects sight.indices) name
object_of_lines sight name h =
    let test : DirEntry → Bool = λ entry. is_same_name entry.name name in
    let objects = recursion_from_All IsObject sight.objects h.entities.each_object in
    let indices = recursion_from_All IsIndex sight.indices h.entities.each_index in
    let asked = find-asked (λ (object : ObjectEntry). is_object object.handle) (λ object. test (line_of_object object)) sight.objects (objects-are is_object true sight.objects objects (λ handle e. is_kind handle 0x80 0x80 e)) in
    let none = find-none (λ (index : IndexEntry). is_object index.public.index) (λ index. test (line_of_index index)) sight.indices (indices-are is_object false sight.indices indices (λ handle e. is_kind handle 0x01 0x80 e)) in
    sym
    (find-lines (λ entry. is_object entry.handle && test entry) sight.objects sight.indices
    ∙ ap (λ found. option_or (option_map line_of_object found) (option_map line_of_index (find (λ (index : IndexEntry). is_object index.public.index && test (line_of_index index)) sight.indices))) asked
    ∙ ap (λ found. option_or (option_map line_of_object (object_in_sight sight name)) (option_map line_of_index found)) none
    ∙ or-none (option_map line_of_object (object_in_sight sight name)))

pub index_of_lines : (sight : Sight) (name : Name) → IsSight sight → option_map line_of_index (index_in_sight sight name) ≡ index_of_name (lines_of sight.objects sight.indices) name
index_of_lines sight name h =
    let test : DirEntry → Bool = λ entry. is_same_name entry.name name in
    let objects = recursion_from_All IsObject sight.objects h.entities.each_object in
    let indices = recursion_from_All IsIndex sight.indices h.entities.each_index in
    let none = find-none (λ (object : ObjectEntry). is_index object.handle) (λ object. test (line_of_object object)) sight.objects (objects-are is_index false sight.objects objects (λ handle e. is_kind handle 0x80 0x01 e)) in
    let asked = find-asked (λ (index : IndexEntry). is_index index.public.index) (λ index. test (line_of_index index)) sight.indices (indices-are is_index true sight.indices indices (λ handle e. is_kind handle 0x01 0x01 e)) in
    sym
    (find-lines (λ entry. is_index entry.handle && test entry) sight.objects sight.indices
    ∙ ap (λ found. option_or (option_map line_of_object found) (option_map line_of_index (find (λ (index : IndexEntry). is_index index.public.index && test (line_of_index index)) sight.indices))) none
    ∙ ap (option_map line_of_index) asked)

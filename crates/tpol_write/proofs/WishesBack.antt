-- Keys, indices, entities, parents and Names read back from the one member that canonical text writes of them.
use Rattle.std.proofs.Common.{◌≡◌, ℕ, zero, suc, ◌+◌, ◌&&◌, nat_le, Bool, true, false, List, [], ◌∷◌, ◌++◌, length, map, codes, Some, None, Ok, Err, refl, sym, ap, ◌∙◌, arith, length-append, append_assoc, append-nil, if◌then◌else◌}
use Rattle.std.proofs.lemmas.Bool.{cond-true}
use Rattle.serde_json.specs.Data.{Data, string, Items, no_items, item}
use Rattle.serde_json.specs.Find.{get}
use Rattle.serde_json.specs.View.{items_of}
use Rattle.tpol_base.specs.declared.name.Name.{Name}
use Rattle.tpol_members.proofs.OneOf.{all_of}
use Rattle.tpol_members.proofs.Limits.{digest-fits}
use Rattle.tpol_json.proofs.Limits.{FitsDigest}
use Rattle.tpol_write.proofs.BytesBack.{bound, digest-back}
use Rattle.tpol_write.proofs.OneBack.{one_of-back}
use Rattle.tpol_write.proofs.PublicsBack.{name_back, object_public_back, index_public_back}
use Rattle.tpol_json.specs.Places.{at_member, at_item}
use Rattle.tpol_json.specs.declared.place.Place.{Place}
use Rattle.tpol_json.proofs.AllFound.{AllFound, all_after, all_then, all_map, all_if}
use Rattle.tpol_json.specs.Members.{items_count}
use Rattle.tpol_members.specs.Values.{text_in, digest_in, name_in, full_name_in, is_empty_name, items_in, one_to_three}
use Rattle.tpol_base.specs.Answers.{◌>>=◌}
use Rattle.tpol_members.specs.Faults.{Found}
use Rattle.tpol_json.specs.Reading.{bad}
use Rattle.tpol_elements.specs.Publics.{object_public_in, index_public_in}
use Rattle.tpol_members.specs.Walks.{still}
use Rattle.tpol_elements.specs.Wishes.{key_at, key_in, index_at, index_in, entity_at, entity_in, parent_at, parent_in, each_from, names_at, names_in}
use Rattle.tpol_members.specs.declared.fault.PolicyKind.TheVariants.{BadHex, BadNumber}
use Rattle.tpol_members.specs.declared.walk.Walk.{Walk}
use Rattle.tpol_tree.specs.declared.wishes.ObjectPublicText.{ObjectPublicText}
use Rattle.tpol_tree.specs.declared.wishes.NvPublicText.{NvPublicText}
use Rattle.tpol_tree.specs.declared.wishes.KeyWish.{KeyWish}
use Rattle.tpol_tree.specs.declared.wishes.KeyWish.TheVariants as key
use Rattle.tpol_tree.specs.declared.wishes.IndexWish.{IndexWish}
use Rattle.tpol_tree.specs.declared.wishes.IndexWish.TheVariants as index
use Rattle.tpol_tree.specs.declared.wishes.EntityWish.{EntityWish}
use Rattle.tpol_tree.specs.declared.wishes.EntityWish.TheVariants as entity
use Rattle.tpol_tree.specs.declared.wishes.ParentWish.{ParentWish}
use Rattle.tpol_tree.specs.declared.wishes.ParentWish.TheVariants as parent
use Rattle.tpol_tree.specs.declared.wishes.NamesWish.{NamesWish}
use Rattle.tpol_tree.specs.declared.wishes.NamesWish.TheVariants as names
use Rattle.tpol_write.specs.Objects.{hex_text, list_of}
use Rattle.tpol_write.specs.Wishes.{object_public_value, nv_public_value, name_value}

-- ---- one of several members

-- what is found is so, and no element was counted
abbrev pub Leaving : {A : Type 0} → (A → Type 0) → Walk → A × Walk → Type 0
Leaving P walk found = (found.1.left ≡ walk.left) × P found.0

pub all_still : {A : Type 0} (P : A → Type 0) (found : Found A) (walk : Walk) → AllFound P found → AllFound (Leaving P walk) (still found walk)
all_still P (Ok x) walk all = (refl, all)
all_still P (Err fault) walk all = tt {0}

pub all_any : {A : Type 0} (P : A → Type 0) (found : Found A) → ((x : A) → P x) → AllFound P found
all_any P (Ok x) all = all x
all_any P (Err fault) all = tt {0}

-- ---- public areas and Names

abbrev pub ObjectBack : ObjectPublicText → Type 0
ObjectBack area = (place : Place) (walk : Walk) → object_public_in (object_public_value area) place walk ≡ Ok (area, walk)

abbrev pub IndexAreaBack : NvPublicText → Type 0
IndexAreaBack area = (place : Place) (walk : Walk) → index_public_in (nv_public_value area) place walk ≡ Ok (area, walk)

abbrev pub NameBack : Name → Type 0
NameBack name = (place : Place) → name_in (name_value name) place ≡ Ok name

-- ---- keys

abbrev pub FitsKey : KeyWish → Type 0
FitsKey (key.Path path) = Unit {0}
FitsKey (key.Public area) = ObjectBack area

-- of the members that name a key, the value has this one
abbrev pub HasKey : List ℕ → KeyWish → Data → Type 0
HasKey third (key.Path path) d = (get (codes "keyPath") d ≡ Some (string path)) × (get (codes "keyPublic") d ≡ None) × (get third d ≡ None)
HasKey third (key.Public area) d = (get (codes "keyPath") d ≡ None) × (get (codes "keyPublic") d ≡ Some (object_public_value area)) × (get third d ≡ None)

key_at-fits : (walk : Walk) (position : ℕ) (d : Data) (place : Place) → AllFound (Leaving FitsKey walk) (key_at walk position d place)
unfolding key_at
key_at-fits walk zero d place =
    all_still FitsKey (text_in d place >>= λ path. Ok (key.Path path)) walk (all_after FitsKey (text_in d place) _ (λ path. tt {0}))
key_at-fits walk (suc position) d place =
    all_then (Leaving ObjectBack walk) (Leaving FitsKey walk) (object_public_in d place walk) _ (object_public_back d place walk) (λ found fits. fits)

pub key-fits : (third : List ℕ) (d : Data) (place : Place) (walk : Walk) → AllFound (Leaving FitsKey walk) (key_in third d place walk)
unfolding key_in
key-fits third d place walk =
    all_of (Leaving FitsKey walk) (codes "keyPath" ∷ codes "keyPublic" ∷ third ∷ []) (key_at walk) d place (key_at-fits walk)

pub key-back : (third : List ℕ) (k : KeyWish) (d : Data) (place : Place) (walk : Walk) → FitsKey k → HasKey third k d → key_in third d place walk ≡ Ok (k, walk)
unfolding key_in key_at
key-back third (key.Path path) d place walk fits has =
    one_of-back [] (codes "keyPublic" ∷ third ∷ []) (codes "keyPath") (key_at walk) d (string path) place (key.Path path, walk) tt has.0 (has.1, (has.2, tt)) refl
key-back third (key.Public area) d place walk fits has =
    let at = at_member place (codes "keyPublic") in
    one_of-back (codes "keyPath" ∷ []) (third ∷ []) (codes "keyPublic") (key_at walk) d (object_public_value area) place (key.Public area, walk) (has.0, tt) has.1 (has.2, tt)
    (bound (object_public_in (object_public_value area) at walk) (area, walk) (λ found. Ok (key.Public found.0, found.1)) (Ok (key.Public area, walk)) (fits at walk) refl)

-- ---- indices

abbrev pub FitsIndex : IndexWish → Type 0
FitsIndex (index.Path path) = Unit {0}
FitsIndex (index.Public area) = IndexAreaBack area

abbrev pub HasIndex : IndexWish → Data → Type 0
HasIndex (index.Path path) d = (get (codes "nvPath") d ≡ Some (string path)) × (get (codes "nvPublic") d ≡ None)
HasIndex (index.Public area) d = (get (codes "nvPath") d ≡ None) × (get (codes "nvPublic") d ≡ Some (nv_public_value area))

index_at-fits : (walk : Walk) (position : ℕ) (d : Data) (place : Place) → AllFound (Leaving FitsIndex walk) (index_at walk position d place)
unfolding index_at
index_at-fits walk zero d place =
    all_still FitsIndex (text_in d place >>= λ path. Ok (index.Path path)) walk (all_after FitsIndex (text_in d place) _ (λ path. tt {0}))
index_at-fits walk (suc position) d place =
    all_then (Leaving IndexAreaBack walk) (Leaving FitsIndex walk) (index_public_in d place walk) _ (index_public_back d place walk) (λ found fits. fits)

pub index-fits : (d : Data) (place : Place) (walk : Walk) → AllFound (Leaving FitsIndex walk) (index_in d place walk)
unfolding index_in
index-fits d place walk = all_of (Leaving FitsIndex walk) (codes "nvPath" ∷ codes "nvPublic" ∷ []) (index_at walk) d place (index_at-fits walk)

pub index-back : (i : IndexWish) (d : Data) (place : Place) (walk : Walk) → FitsIndex i → HasIndex i d → index_in d place walk ≡ Ok (i, walk)
unfolding index_in index_at
index-back (index.Path path) d place walk fits has =
    one_of-back [] (codes "nvPublic" ∷ []) (codes "nvPath") (index_at walk) d (string path) place (index.Path path, walk) tt has.0 (has.1, tt) refl
index-back (index.Public area) d place walk fits has =
    let at = at_member place (codes "nvPublic") in
    one_of-back (codes "nvPath" ∷ []) [] (codes "nvPublic") (index_at walk) d (nv_public_value area) place (index.Public area, walk) (has.0, tt) has.1 tt
    (bound (index_public_in (nv_public_value area) at walk) (area, walk) (λ found. Ok (index.Public found.0, found.1)) (Ok (index.Public area, walk)) (fits at walk) refl)

-- ---- entities

abbrev pub FitsEntity : EntityWish → Type 0
FitsEntity (entity.Path path) = Unit {0}
FitsEntity (entity.Named name) = (place : Place) → full_name_in (name_value name) place ≡ Ok name

abbrev pub HasEntity : EntityWish → Data → Type 0
HasEntity (entity.Path path) d = (get (codes "objectPath") d ≡ Some (string path)) × (get (codes "objectName") d ≡ None)
HasEntity (entity.Named name) d = (get (codes "objectPath") d ≡ None) × (get (codes "objectName") d ≡ Some (name_value name))

full_or_bad : Name → Place → Bool → Found Name
full_or_bad name place empty = if empty then bad BadHex place else Ok name

full_name-back : (d : Data) (place : Place) → AllFound (λ name. (other : Place) → full_name_in (name_value name) other ≡ Ok name) (full_name_in d place)
unfolding full_or_bad
full_name-back d place =
    all_then NameBack (λ name. (other : Place) → full_name_in (name_value name) other ≡ Ok name) (name_in d place) _ (name_back d place)
    (λ name back. full name back (is_empty_name name) refl)
  where
    full : (name : Name) → NameBack name → (empty : Bool) → is_empty_name name ≡ empty → AllFound (λ n. (other : Place) → full_name_in (name_value n) other ≡ Ok n) (full_or_bad name place empty)
    full name back true is = tt {0}
    full name back false is = λ other.
        bound (name_in (name_value name) other) name (λ n. if is_empty_name n then bad BadHex other else Ok n) (Ok name) (back other) (ap (full_or_bad name other) is)

entity_at-fits : (position : ℕ) (d : Data) (place : Place) → AllFound FitsEntity (entity_at position d place)
unfolding entity_at
entity_at-fits zero d place = all_after FitsEntity (text_in d place) _ (λ path. tt {0})
entity_at-fits (suc position) d place =
    all_then (λ name. (other : Place) → full_name_in (name_value name) other ≡ Ok name) FitsEntity (full_name_in d place) _ (full_name-back d place) (λ name back. back)

pub entity-fits : (d : Data) (place : Place) → AllFound FitsEntity (entity_in d place)
unfolding entity_in
entity-fits d place = all_of FitsEntity (codes "objectPath" ∷ codes "objectName" ∷ []) entity_at d place entity_at-fits

pub entity-back : (e : EntityWish) (d : Data) (place : Place) → FitsEntity e → HasEntity e d → entity_in d place ≡ Ok e
unfolding entity_in entity_at
entity-back (entity.Path path) d place fits has =
    one_of-back [] (codes "objectName" ∷ []) (codes "objectPath") entity_at d (string path) place (entity.Path path) tt has.0 (has.1, tt) refl
entity-back (entity.Named name) d place fits has =
    let at = at_member place (codes "objectName") in
    one_of-back (codes "objectPath" ∷ []) [] (codes "objectName") entity_at d (name_value name) place (entity.Named name) (has.0, tt) has.1 tt
    (bound (full_name_in (name_value name) at) name (λ n. Ok (entity.Named n)) (Ok (entity.Named name)) (fits at) refl)

-- ---- parents

abbrev pub FitsParent : ParentWish → Type 0
FitsParent (parent.Path path) = Unit {0}
FitsParent (parent.Public area) = ObjectBack area
FitsParent (parent.Named name) = NameBack name

abbrev pub HasParent : ParentWish → Data → Type 0
HasParent (parent.Path path) d = (get (codes "newParentPath") d ≡ Some (string path)) × (get (codes "newParentPublic") d ≡ None) × (get (codes "newParentName") d ≡ None)
HasParent (parent.Public area) d = (get (codes "newParentPath") d ≡ None) × (get (codes "newParentPublic") d ≡ Some (object_public_value area)) × (get (codes "newParentName") d ≡ None)
HasParent (parent.Named name) d = (get (codes "newParentPath") d ≡ None) × (get (codes "newParentPublic") d ≡ None) × (get (codes "newParentName") d ≡ Some (name_value name))

parent_at-fits : (walk : Walk) (position : ℕ) (d : Data) (place : Place) → AllFound (Leaving FitsParent walk) (parent_at walk position d place)
unfolding parent_at
parent_at-fits walk zero d place =
    all_still FitsParent (text_in d place >>= λ path. Ok (parent.Path path)) walk (all_after FitsParent (text_in d place) _ (λ path. tt {0}))
parent_at-fits walk (suc zero) d place =
    all_then (Leaving ObjectBack walk) (Leaving FitsParent walk) (object_public_in d place walk) _ (object_public_back d place walk) (λ found fits. fits)
parent_at-fits walk (suc (suc position)) d place =
    all_still FitsParent (name_in d place >>= λ name. Ok (parent.Named name)) walk
    (all_then NameBack FitsParent (name_in d place) _ (name_back d place) (λ name back. back))

pub parent-fits : (d : Data) (place : Place) (walk : Walk) → AllFound (Leaving FitsParent walk) (parent_in d place walk)
unfolding parent_in
parent-fits d place walk =
    all_of (Leaving FitsParent walk) (codes "newParentPath" ∷ codes "newParentPublic" ∷ codes "newParentName" ∷ []) (parent_at walk) d place (parent_at-fits walk)

pub parent-back : (p : ParentWish) (d : Data) (place : Place) (walk : Walk) → FitsParent p → HasParent p d → parent_in d place walk ≡ Ok (p, walk)
unfolding parent_in parent_at
parent-back (parent.Path path) d place walk fits has =
    one_of-back [] (codes "newParentPublic" ∷ codes "newParentName" ∷ []) (codes "newParentPath") (parent_at walk) d (string path) place (parent.Path path, walk) tt has.0 (has.1, (has.2, tt)) refl
parent-back (parent.Public area) d place walk fits has =
    let at = at_member place (codes "newParentPublic") in
    one_of-back (codes "newParentPath" ∷ []) (codes "newParentName" ∷ []) (codes "newParentPublic") (parent_at walk) d (object_public_value area) place (parent.Public area, walk) (has.0, tt) has.1 (has.2, tt)
    (bound (object_public_in (object_public_value area) at walk) (area, walk) (λ found. Ok (parent.Public found.0, found.1)) (Ok (parent.Public area, walk)) (fits at walk) refl)
parent-back (parent.Named name) d place walk fits has =
    one_of-back (codes "newParentPath" ∷ codes "newParentPublic" ∷ []) [] (codes "newParentName") (parent_at walk) d (name_value name) place (parent.Named name, walk) (has.0, (has.1, tt)) has.2 tt
    (ap (λ (found : Found Name). still (found >>= λ n. Ok (parent.Named n)) walk) (fits (at_member place (codes "newParentName"))))

-- ---- lists

-- each item is so
abbrev pub Each : {A : Type 0} → (A → Type 0) → List A → Type 0
Each P [] = Unit {0}
Each P (x ∷ xs) = P x × Each P xs

pub each_append : {A : Type 0} (P : A → Type 0) (xs ys : List A) → Each P xs → Each P ys → Each P (xs ++ ys)
each_append P [] ys each more = more
each_append P (x ∷ xs) ys each more = (each.0, each_append P xs ys each.1 more)

pub count_of : {A : Type 0} (write : A → Data) (xs : List A) → items_count (items_of (map write xs)) ≡ length xs
count_of write [] = refl
count_of write (x ∷ xs) = ap suc (count_of write xs)

each_from-fits : {A : Type 0} (P : A → Type 0) (read : Data → Place → Found A) → ((d : Data) (place : Place) → AllFound P (read d place)) → (before : List A) (i : ℕ) (ds : Items) (place : Place) → Each P before → AllFound (λ xs. Each P xs × (length xs ≡ length before + items_count ds)) (each_from read before i ds place)
each_from-fits P read reads before i no_items place each = (each, omega arith)
each_from-fits P read reads before i (item d ds) place each =
    all_then P (λ xs. Each P xs × (length xs ≡ length before + suc (items_count ds))) (read d (at_item place i)) _ (reads d (at_item place i))
    (λ x fits. all_map (λ xs. Each P xs × (length xs ≡ length (before ++ x ∷ []) + items_count ds)) _ (each_from read (before ++ x ∷ []) (suc i) ds place)
    (each_from-fits P read reads (before ++ x ∷ []) (suc i) ds place (each_append P before (x ∷ []) each (fits, tt)))
    (λ xs are. let count = are.1 in (are.0, omega (arith, count, length-append before (x ∷ [])))))

each_from-back : {A : Type 0} (write : A → Data) (read : Data → Place → Found A) (xs before : List A) (i : ℕ) (place : Place) → Each (λ x. (other : Place) → read (write x) other ≡ Ok x) xs → each_from read before i (items_of (map write xs)) place ≡ Ok (before ++ xs)
each_from-back write read [] before i place each = ap Ok (sym (append-nil before))
each_from-back write read (x ∷ xs) before i place each =
    bound (read (write x) (at_item place i)) x (λ y. each_from read (before ++ y ∷ []) (suc i) (items_of (map write xs)) place) (Ok (before ++ x ∷ xs)) (each.0 (at_item place i))
    (each_from-back write read xs (before ++ x ∷ []) (suc i) place each.1 ∙ ap Ok (append_assoc before (x ∷ []) xs))

-- ---- the Names of a command's handles

abbrev is_one_to_three : ℕ → Bool
is_one_to_three count = nat_le 1 count && nat_le count 3

abbrev pub FitsNames : NamesWish → Type 0
FitsNames (names.Digest digest) = FitsDigest digest
FitsNames (names.Names list) = Each NameBack list × (is_one_to_three (length list) ≡ true)
FitsNames (names.Paths paths) = is_one_to_three (length paths) ≡ true

abbrev pub HasNames : NamesWish → Data → Type 0
HasNames (names.Digest digest) d = (get (codes "nameHash") d ≡ Some (hex_text digest.bytes)) × (get (codes "objectNames") d ≡ None) × (get (codes "namePaths") d ≡ None)
HasNames (names.Names list) d = (get (codes "nameHash") d ≡ None) × (get (codes "objectNames") d ≡ Some (list_of (map name_value list))) × (get (codes "namePaths") d ≡ None)
HasNames (names.Paths paths) d = (get (codes "nameHash") d ≡ None) × (get (codes "objectNames") d ≡ None) × (get (codes "namePaths") d ≡ Some (list_of (map string paths)))

three-fits : (d : Data) (place : Place) → AllFound (λ items. is_one_to_three (items_count items) ≡ true) (one_to_three d place)
three-fits d place =
    all_after (λ items. is_one_to_three (items_count items) ≡ true) (items_in d place) _
    (λ ds. all_if (λ items. is_one_to_three (items_count items) ≡ true) (is_one_to_three (items_count ds)) (Ok ds) _ (λ test. test) (tt {0}))

three-back : {A : Type 0} (write : A → Data) (xs : List A) (place : Place) → is_one_to_three (length xs) ≡ true → one_to_three (list_of (map write xs)) place ≡ Ok (items_of (map write xs))
three-back write xs place few =
    cond-true (is_one_to_three (items_count (items_of (map write xs)))) (Ok (items_of (map write xs))) (bad BadNumber place) (ap is_one_to_three (count_of write xs) ∙ few)

listed-fits : {A : Type 0} (P : A → Type 0) (read : Data → Place → Found A) → ((d : Data) (place : Place) → AllFound P (read d place)) → (d : Data) (place : Place) → AllFound (λ xs. Each P xs × (is_one_to_three (length xs) ≡ true)) (one_to_three d place >>= λ ds. each_from read [] 0 ds place)
listed-fits P read reads d place =
    all_then (λ items. is_one_to_three (items_count items) ≡ true) (λ xs. Each P xs × (is_one_to_three (length xs) ≡ true)) (one_to_three d place) _ (three-fits d place)
    (λ ds few. all_map (λ xs. Each P xs × (length xs ≡ 0 + items_count ds)) _ (each_from read [] 0 ds place) (each_from-fits P read reads [] 0 ds place (tt {0}))
    (λ xs are. let count : length xs ≡ items_count ds = omega (arith, are.1) in (are.0, ap is_one_to_three count ∙ few)))

names_list-fits : (d : Data) (place : Place) → AllFound FitsNames (names_at 1 d place)
unfolding names_at
names_list-fits d place =
    let P : List Name → Type 0 = λ xs. Each NameBack xs × (is_one_to_three (length xs) ≡ true) in
    elim_listed (one_to_three d place) (listed-fits NameBack name_in name_back d place)
  where
    elim_listed : (found : Found Items) → AllFound (λ xs. Each NameBack xs × (is_one_to_three (length xs) ≡ true)) (found >>= λ ds. each_from name_in [] 0 ds place) → AllFound FitsNames (found >>= λ ds. each_from name_in [] 0 ds place >>= λ list. Ok (names.Names list))
    elim_listed (Ok ds) all = all_then (λ xs. Each NameBack xs × (is_one_to_three (length xs) ≡ true)) FitsNames (each_from name_in [] 0 ds place) _ all (λ list fits. fits)
    elim_listed (Err fault) all = tt {0}

paths_list-fits : (d : Data) (place : Place) → AllFound FitsNames (names_at 2 d place)
unfolding names_at
paths_list-fits d place =
    elim_listed (one_to_three d place) (listed-fits (λ text. Unit {0}) text_in (λ e p. all_any (λ text. Unit {0}) (text_in e p) (λ text. tt {0})) d place)
  where
    elim_listed : (found : Found Items) → AllFound (λ xs. Each (λ text. Unit {0}) xs × (is_one_to_three (length xs) ≡ true)) (found >>= λ ds. each_from text_in [] 0 ds place) → AllFound FitsNames (found >>= λ ds. each_from text_in [] 0 ds place >>= λ list. Ok (names.Paths list))
    elim_listed (Ok ds) all = all_then (λ xs. Each (λ text. Unit {0}) xs × (is_one_to_three (length xs) ≡ true)) FitsNames (each_from text_in [] 0 ds place) _ all (λ list fits. fits.1)
    elim_listed (Err fault) all = tt {0}

names_at-fits : (position : ℕ) (d : Data) (place : Place) → AllFound FitsNames (names_at position d place)
unfolding names_at
names_at-fits zero d place = all_then FitsDigest FitsNames (digest_in d place) _ (digest-fits d place) (λ digest fits. fits)
names_at-fits (suc zero) d place = names_list-fits d place
names_at-fits (suc (suc position)) d place = paths_list-fits d place

pub names-fits : (d : Data) (place : Place) → AllFound FitsNames (names_in d place)
unfolding names_in
names-fits d place =
    all_of FitsNames (codes "nameHash" ∷ codes "objectNames" ∷ codes "namePaths" ∷ []) names_at d place names_at-fits

names_list-back : (list : List Name) (place : Place) → FitsNames (names.Names list) → names_at 1 (list_of (map name_value list)) place ≡ Ok (names.Names list)
unfolding names_at
names_list-back list place fits =
    bound (one_to_three (list_of (map name_value list)) place) (items_of (map name_value list)) _ (Ok (names.Names list)) (three-back name_value list place fits.1)
    (bound (each_from name_in [] 0 (items_of (map name_value list)) place) list (λ all. Ok (names.Names all)) (Ok (names.Names list)) (each_from-back name_value name_in list [] 0 place fits.0) refl)

each_text : (paths : List (List ℕ)) → Each (λ path. (other : Place) → text_in (string path) other ≡ Ok path) paths
each_text [] = tt
each_text (path ∷ paths) = (λ other. refl, each_text paths)

paths_list-back : (paths : List (List ℕ)) (place : Place) → FitsNames (names.Paths paths) → names_at 2 (list_of (map string paths)) place ≡ Ok (names.Paths paths)
unfolding names_at
paths_list-back paths place fits =
    bound (one_to_three (list_of (map string paths)) place) (items_of (map string paths)) _ (Ok (names.Paths paths)) (three-back string paths place fits)
    (bound (each_from text_in [] 0 (items_of (map string paths)) place) paths (λ all. Ok (names.Paths all)) (Ok (names.Paths paths)) (each_from-back string text_in paths [] 0 place (each_text paths)) refl)

pub names-back : (n : NamesWish) (d : Data) (place : Place) → FitsNames n → HasNames n d → names_in d place ≡ Ok n
unfolding names_in names_at
names-back (names.Digest digest) d place fits has =
    let at = at_member place (codes "nameHash") in
    one_of-back [] (codes "objectNames" ∷ codes "namePaths" ∷ []) (codes "nameHash") names_at d (hex_text digest.bytes) place (names.Digest digest) tt has.0 (has.1, (has.2, tt))
    (bound (digest_in (hex_text digest.bytes) at) digest (λ n. Ok (names.Digest n)) (Ok (names.Digest digest)) (digest-back digest at fits) refl)
names-back (names.Names list) d place fits has =
    one_of-back (codes "nameHash" ∷ []) (codes "namePaths" ∷ []) (codes "objectNames") names_at d (list_of (map name_value list)) place (names.Names list) (has.0, tt) has.1 (has.2, tt)
    (names_list-back list (at_member place (codes "objectNames")) fits)
names-back (names.Paths paths) d place fits has =
    one_of-back (codes "nameHash" ∷ codes "objectNames" ∷ []) [] (codes "namePaths") names_at d (list_of (map string paths)) place (names.Paths paths) (has.0, (has.1, tt)) has.2 tt
    (paths_list-back paths (at_member place (codes "namePaths")) fits)

-- Keys, indices, entities, parents and Names as they are asked for.
use Rattle.std.specs.Prelude.{ℕ, zero, suc, List, [], ◌∷◌, ◌++◌, codes, Ok}
use Rattle.serde_json.specs.Data.{Data, Items, no_items, item}
use Rattle.tpol_json.specs.declared.place.Place.{Place}
use Rattle.tpol_json.specs.Places.{at_item}
use Rattle.tpol_members.specs.declared.walk.Walk.{Walk}
use Rattle.tpol_tree.specs.declared.wishes.KeyWish.{KeyWish}
use Rattle.tpol_tree.specs.declared.wishes.KeyWish.TheVariants as key
use Rattle.tpol_tree.specs.declared.wishes.IndexWish.{IndexWish}
use Rattle.tpol_tree.specs.declared.wishes.IndexWish.TheVariants as index
use Rattle.tpol_tree.specs.declared.wishes.EntityWish.{EntityWish}
use Rattle.tpol_tree.specs.declared.wishes.EntityWish.TheVariants as entity
use Rattle.tpol_tree.specs.declared.wishes.ParentWish.{ParentWish}
use Rattle.tpol_tree.specs.declared.wishes.ParentWish.TheVariants as parent
use Rattle.tpol_tree.specs.declared.wishes.NamesWish.{NamesWish}
use Rattle.tpol_tree.specs.declared.wishes.NamesWish.TheVariants as names
use Rattle.tpol_members.specs.Values.{text_in, digest_in, name_in, full_name_in, one_to_three}
use Rattle.tpol_base.specs.Answers.{◌>>=◌}
use Rattle.tpol_members.specs.Faults.{Found}
use Rattle.tpol_members.specs.Members.{one_of}
use Rattle.tpol_elements.specs.Publics.{object_public_in, index_public_in}
use Rattle.tpol_members.specs.Walks.{Reading, still}

-- a path first, and then a public area
unfoldable pub key_at : Walk → ℕ → Data → Place → Found (KeyWish × Walk)
key_at walk zero d place = still (text_in d place >>= λ path. Ok (key.Path path)) walk
key_at walk (suc position) d place = object_public_in d place walk >>= λ found. Ok (key.Public found.0, found.1)

-- one of `keyPath`, `keyPublic` and a third name for the public area
unfoldable pub key_in : List ℕ → Data → Place → Reading KeyWish
key_in third d place walk = one_of (codes "keyPath" ∷ codes "keyPublic" ∷ third ∷ []) (key_at walk) d place

-- a path first, and then a public area
unfoldable pub index_at : Walk → ℕ → Data → Place → Found (IndexWish × Walk)
index_at walk zero d place = still (text_in d place >>= λ path. Ok (index.Path path)) walk
index_at walk (suc position) d place = index_public_in d place walk >>= λ found. Ok (index.Public found.0, found.1)

-- one of `nvPath` and `nvPublic`
unfoldable pub index_in : Data → Place → Reading IndexWish
index_in d place walk = one_of (codes "nvPath" ∷ codes "nvPublic" ∷ []) (index_at walk) d place

-- a path first, and then a Name that is not empty
unfoldable pub entity_at : ℕ → Data → Place → Found EntityWish
entity_at zero d place = text_in d place >>= λ path. Ok (entity.Path path)
entity_at (suc position) d place = full_name_in d place >>= λ name. Ok (entity.Named name)

-- one of `objectPath` and `objectName`
unfoldable pub entity_in : Data → Place → Found EntityWish
entity_in = one_of (codes "objectPath" ∷ codes "objectName" ∷ []) entity_at

-- a path first, then a public area, and then a Name
unfoldable pub parent_at : Walk → ℕ → Data → Place → Found (ParentWish × Walk)
parent_at walk zero d place = still (text_in d place >>= λ path. Ok (parent.Path path)) walk
parent_at walk (suc zero) d place = object_public_in d place walk >>= λ found. Ok (parent.Public found.0, found.1)
parent_at walk (suc (suc position)) d place = still (name_in d place >>= λ name. Ok (parent.Named name)) walk

-- one of `newParentPath`, `newParentPublic` and `newParentName`
unfoldable pub parent_in : Data → Place → Reading ParentWish
parent_in d place walk =
    one_of (codes "newParentPath" ∷ codes "newParentPublic" ∷ codes "newParentName" ∷ []) (parent_at walk) d place

-- each item read in order, from this index on, behind what was read before
abbrev pub each_from : {A : Type 0} → (Data → Place → Found A) → List A → ℕ → Items → Place → Found (List A)
each_from read before index no_items place = Ok before
each_from read before index (item d ds) place =
    read d (at_item place index) >>= λ x. each_from read (before ++ x ∷ []) (suc index) ds place

-- a digest first, then Names, and then paths
unfoldable pub names_at : ℕ → Data → Place → Found NamesWish
names_at zero d place = digest_in d place >>= λ digest. Ok (names.Digest digest)
names_at (suc zero) d place = one_to_three d place >>= λ ds. each_from name_in [] 0 ds place >>= λ list. Ok (names.Names list)
names_at (suc (suc position)) d place = one_to_three d place >>= λ ds. each_from text_in [] 0 ds place >>= λ list. Ok (names.Paths list)

-- one of `nameHash`, `objectNames` and `namePaths`
unfoldable pub names_in : Data → Place → Found NamesWish
names_in = one_of (codes "nameHash" ∷ codes "objectNames" ∷ codes "namePaths" ∷ []) names_at

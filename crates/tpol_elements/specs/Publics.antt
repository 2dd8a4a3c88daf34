-- Public areas of keys and of indices.
use Rattle.std.specs.Prelude.{◌≡◌, ℕ, List, [], ◌∷◌, codes, Bool, Option, Some, None, Ok, ⊤}
use Rattle.std.specs.Ordering.{nat_cmp, match_ordering}
use Rattle.std.specs.Cmp.Lexicographic.{slice_cmp}
use Rattle.serde_json.specs.Data.{Data, null, boolean, number, string, array, object, Members, no_members, member}
use Rattle.serde_json.specs.Find.{get}
use Rattle.tpol_json.specs.declared.place.Place.{Place}
use Rattle.tpol_json.specs.Places.{at_member}
use Rattle.tpol_members.specs.declared.walk.Walk.{Walk}
use Rattle.tpol_tree.specs.declared.wishes.ObjectPublicText.{ObjectPublicText}
use Rattle.tpol_tree.specs.declared.wishes.NvPublicText.{NvPublicText}
use Rattle.tpol_members.specs.Algorithms.{hash_in, key_type_in, scheme_in}
use Rattle.tpol_base.specs.Answers.{◌>>=◌}
use Rattle.tpol_members.specs.Faults.{Found}
use Rattle.tpol_json.specs.Members.{optional}
use Rattle.tpol_members.specs.Members.{object_in, needed, noted}
use Rattle.tpol_members.specs.Values.{empty_or_32, unsigned_in, u32_in}
use Rattle.tpol_members.specs.Walks.{Reading}

-- a reading, and then the wrapper's other members noted
abbrev pub then_noted : {A : Type 0} → List ℕ → Data → Place → Found (A × Walk) → Found (A × Walk)
then_noted name d place reading = reading >>= λ found. Ok (found.0, noted (name ∷ []) d place found.1)

-- An object with the member `name` stands for that member, which may have it again. It is looked for among
-- an object's members one after another.
unfoldable mutual
  pub through : {A : Type 0} → List ℕ → (Data → Place → Reading A) → Data → Place → Reading A
  through name read null place walk = read null place walk
  through name read (boolean b) place walk = read (boolean b) place walk
  through name read (number n) place walk = read (number n) place walk
  through name read (string s) place walk = read (string s) place walk
  through name read (array ds) place walk = read (array ds) place walk
  through name read (object ms) place walk = through_member name read (object ms) ms place walk

  pub through_member : {A : Type 0} → List ℕ → (Data → Place → Reading A) → Data → Members → Place → Reading A
  through_member name read whole no_members place walk = read whole place walk
  through_member name read whole (member other d ms) place walk =
      match_ordering (slice_cmp nat_cmp name other) (through_member name read whole ms place walk)
      (then_noted name whole place (through name read d (at_member place name) walk)) (through_member name read whole ms place walk)

-- What that is, by a look-up of the member: without it the value is read as it is, and else what it wraps, with
-- the value's other members noted after that.
abbrev pub through_wrapped : {A : Type 0} → List ℕ → (Data → Place → Reading A) → Option Data → Data → Place → Reading A
through_wrapped name read None d place walk = read d place walk
through_wrapped name read (Some wrapped) d place walk = then_noted name d place (through name read wrapped (at_member place name) walk)

abbrev pub ThroughLooksUp : Type 0 → Type 0
ThroughLooksUp A =
    (name : List ℕ) (read : Data → Place → Reading A) (d : Data) (place : Place) (walk : Walk) → through name read d place walk ≡ through_wrapped name read (get name d) d place walk

unfoldable pub key_type_member : Data → Place → Found ⊤
key_type_member = needed key_type_in (codes "type")

unfoldable pub name_hash_member : Data → Place → Found ⊤
name_hash_member = needed hash_in (codes "nameAlg")

unfoldable pub attributes_member : List ℕ → Data → Place → Found ℕ
attributes_member name = needed u32_in name

-- no byte or 32; no byte where the member is left out
unfoldable pub auth_policy_member : Data → Place → Found (List ℕ)
auth_policy_member = optional empty_or_32 [] (codes "authPolicy")

unfoldable pub scheme_member : Data → Place → Found Bool
scheme_member = needed scheme_in (codes "scheme")

unfoldable pub unique_member : Data → Place → Found (List ℕ)
unique_member = needed empty_or_32 (codes "unique")

unfoldable pub nv_index_member : Data → Place → Found ℕ
nv_index_member = needed (unsigned_in 0x01000000 0x01ffffff) (codes "nvIndex")

unfoldable pub data_size_member : Data → Place → Found ℕ
data_size_member = needed (unsigned_in 1 2048) (codes "dataSize")

-- the members of a key's public area, TPM 2.0 Part 2, TPMT_PUBLIC
unfoldable pub object_public : Data → Place → Reading ObjectPublicText
object_public d place walk = do
  is_object ← object_in d place
  key_type ← key_type_member d place
  name_hash ← name_hash_member d place
  attributes ← attributes_member (codes "objectAttributes") d place
  auth_policy ← auth_policy_member d place
  hmac ← scheme_member d place
  unique ← unique_member d place
  Ok (
    record { attributes = attributes; auth_policy = auth_policy; hmac = hmac; unique = unique },
    noted (codes "type" ∷ codes "nameAlg" ∷ codes "objectAttributes" ∷ codes "authPolicy" ∷ codes "scheme" ∷ codes "unique" ∷ []) d place walk,
  )

-- the members of an index's public area, TPM 2.0 Part 2, TPMS_NV_PUBLIC
unfoldable pub index_public : Data → Place → Reading NvPublicText
index_public d place walk = do
  is_object ← object_in d place
  index ← nv_index_member d place
  name_hash ← name_hash_member d place
  attributes ← attributes_member (codes "attributes") d place
  auth_policy ← auth_policy_member d place
  size ← data_size_member d place
  Ok (
    record { index = index; attributes = attributes; auth_policy = auth_policy; size = size },
    noted (codes "nvIndex" ∷ codes "nameAlg" ∷ codes "attributes" ∷ codes "authPolicy" ∷ codes "dataSize" ∷ []) d place walk,
  )

-- a key's public area, within any wrappers
unfoldable pub object_public_in : Data → Place → Reading ObjectPublicText
object_public_in = through (codes "publicArea") object_public

-- an index's public area, within any wrappers
unfoldable pub index_public_in : Data → Place → Reading NvPublicText
index_public_in = through (codes "nvPublic") index_public

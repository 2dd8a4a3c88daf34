-- Names and public areas read back.
use Rattle.std.proofs.Common.{◌≡◌, ℕ, zero, suc, ◌^◌, ◌-◌, ◌≤◌, Bool, true, false, List, [], ◌∷◌, ◌++◌, length, codes, Option, Some, None, Ok, refl, ap, ◌∙◌, arith, append-nil}
use Rattle.std.proofs.lemmas.Nat.{from_be_bytes-to_be_bytes_4}
use Rattle.hex.specs.Hex.{IsBytes}
use Rattle.serde_json.specs.Data.{Data, null, boolean, number, string, array, object, Members, no_members, member}
use Rattle.serde_json.specs.Find.{get}
use Rattle.tpol_base.proofs.Digests.{digest_again}
use Rattle.tpol_base.specs.Digest.{digest_of_bytes}
use Rattle.tpol_base.specs.Name.{name_bytes, name_of_bytes}
use Rattle.tpol_base.specs.declared.name.Name.{Name}
use Rattle.tpol_base.specs.declared.name.Name.TheVariants.{Empty, Handle, Hash}
use Rattle.std.specs.Cmp.Lexicographic.{slice_cmp}
use Rattle.std.specs.Ordering.{nat_cmp, match_ordering}
use Rattle.std.specs.declared.cmp.Ordering.{Ordering}
use Rattle.std.specs.declared.cmp.Ordering.TheVariants.{Less, Equal, Greater}
use Rattle.tpol_members.proofs.Limits.{empty_or_32-fits, name-fits, unsigned-fits}
use Rattle.tpol_json.proofs.Limits.{FitsBytes, FitsName, is_empty_or_32}
use Rattle.tpol_write.proofs.BytesBack.{as_member, bound, read_bytes-back, empty_or_32-back, unsigned-back}
use Rattle.tpol_json.specs.Bytes.{bytes_in}
use Rattle.tpol_json.specs.declared.place.Place.{Place}
use Rattle.tpol_json.proofs.AllFound.{AllFound, all_after, all_then, all_map}
use Rattle.tpol_json.specs.Places.{at_member}
use Rattle.tpol_json.specs.Values.{name_or_bad}
use Rattle.tpol_members.specs.Algorithms.{scheme_in}
use Rattle.tpol_members.specs.Values.{name_in, empty_or_32, u32_in, unsigned_in}
use Rattle.tpol_base.specs.Answers.{◌>>=◌}
use Rattle.tpol_members.specs.Faults.{Found, read_as}
use Rattle.tpol_json.specs.Members.{optional, read_optional}
use Rattle.tpol_members.specs.Members.{object_in, needed, read_needed, noted}
use Rattle.tpol_elements.specs.Publics.{then_noted, through, through_member, object_public, index_public, object_public_in, index_public_in, key_type_member, name_hash_member, attributes_member, auth_policy_member, scheme_member, unique_member, nv_index_member, data_size_member}
use Rattle.tpol_members.specs.Walks.{Reading}
use Rattle.tpol_json.specs.Words.{find_word}
use Rattle.tpol_members.specs.declared.walk.Walk.{Walk}
use Rattle.tpol_tree.specs.declared.wishes.ObjectPublicText.{ObjectPublicText}
use Rattle.tpol_tree.specs.declared.wishes.NvPublicText.{NvPublicText}
use Rattle.tpol_write.specs.Objects.{hex_text, natural}
use Rattle.tpol_write.specs.Wishes.{name_value, object_public_value, nv_public_value, scheme_name}

-- ---- Names

name_is_bytes : (name : Name) → FitsName name → IsBytes (name_bytes name)
name_is_bytes Empty fits i = omega arith
name_is_bytes (Handle handle) fits zero = omega arith
name_is_bytes (Handle handle) fits (suc zero) = omega arith
name_is_bytes (Handle handle) fits (suc (suc zero)) = omega arith
name_is_bytes (Handle handle) fits (suc (suc (suc zero))) = omega arith
name_is_bytes (Handle handle) fits (suc (suc (suc (suc i)))) = omega arith
name_is_bytes (Hash digest) fits zero = omega arith
name_is_bytes (Hash digest) fits (suc zero) = omega arith
name_is_bytes (Hash digest) fits (suc (suc i)) = fits i

long_name : (bytes : List ℕ) → length bytes ≡ 32 → name_of_bytes (0 ∷ 11 ∷ bytes) ≡ Some (Hash (digest_of_bytes bytes))
long_name bytes long = rw long

name_again : (name : Name) → FitsName name → name_of_bytes (name_bytes name) ≡ Some name
name_again Empty fits = refl
name_again (Handle handle) fits = ap (λ h. Some (Handle h)) (from_be_bytes-to_be_bytes_4 handle fits)
name_again (Hash digest) fits = long_name digest.bytes digest.whole ∙ ap (λ d. Some (Hash d)) (digest_again digest)

pub name_back : (d : Data) (place : Place) → AllFound (λ name. (other : Place) → name_in (name_value name) other ≡ Ok name) (name_in d place)
name_back d place =
    all_map FitsName (λ name. (other : Place) → name_in (name_value name) other ≡ Ok name) (name_in d place) (name-fits d place)
    (λ name fits other.
    ap read_as
    (bound (as_member (bytes_in (name_value name) other)) (name_bytes name) (λ bytes. name_or_bad (name_of_bytes bytes) other) (Ok name)
    (read_bytes-back (name_bytes name) other (name_is_bytes name fits)) (ap (λ o. name_or_bad o other) (name_again name fits))))

-- ---- wrappers

-- what was read keeps how many elements may still come
abbrev Keeps : {A : Type 0} → (A → Type 0) → Walk → A × Walk → Type 0
Keeps P walk found = (found.1.left ≡ walk.left) × P found.0

all_order : {A : Type 0} (P : A → Type 0) (order : Ordering) (less equal greater : Found A) → AllFound P less → AllFound P equal → AllFound P greater → AllFound P (match_ordering order less equal greater)
all_order P Less less equal greater l e g = l
all_order P Equal less equal greater l e g = e
all_order P Greater less equal greater l e g = g

module _ {A : Type 0} (P : A → Type 0) (name : List ℕ) (read : Data → Place → Reading A) (all : (d : Data) (place : Place) (walk : Walk) → AllFound (Keeps P walk) (read d place walk)) where
  all_noted : (d : Data) (place : Place) (walk : Walk) (reading : Found (A × Walk)) → AllFound (Keeps P walk) reading → AllFound (Keeps P walk) (then_noted name d place reading)
  unfolding noted
  all_noted d place walk reading all = all_then (Keeps P walk) (Keeps P walk) reading _ all (λ found keeps. keeps)

  mutual
    unfolding through through_member

    all_through : (d : Data) (place : Place) (walk : Walk) → AllFound (Keeps P walk) (through name read d place walk)
    all_through null place walk = all null place walk
    all_through (boolean b) place walk = all (boolean b) place walk
    all_through (number n) place walk = all (number n) place walk
    all_through (string s) place walk = all (string s) place walk
    all_through (array ds) place walk = all (array ds) place walk
    all_through (object ms) place walk = all_through_member (object ms) ms place walk

    all_through_member : (whole : Data) (ms : Members) (place : Place) (walk : Walk) → AllFound (Keeps P walk) (through_member name read whole ms place walk)
    all_through_member whole no_members place walk = all whole place walk
    all_through_member whole (member other d ms) place walk =
        let later = all_through_member whole ms place walk in
        all_order (Keeps P walk) (slice_cmp nat_cmp name other) (through_member name read whole ms place walk) (then_noted name whole place (through name read d (at_member place name) walk)) (through_member name read whole ms place walk)
        later (all_noted whole place walk (through name read d (at_member place name) walk) (all_through d (at_member place name) walk)) later

-- ---- members

all_needed : {A : Type 0} (P : A → Type 0) (read : Data → Place → Found A) → ((d : Data) (place : Place) → AllFound P (read d place)) → (name : List ℕ) (d : Data) (place : Place) → AllFound P (needed read name d place)
all_needed P read all name d place = of_member (get name d)
  where
    of_member : (o : Option Data) → AllFound P (read_needed read o (at_member place name))
    of_member None = tt {0}
    of_member (Some d) = all d (at_member place name)

all_optional : {A : Type 0} (P : A → Type 0) (read : Data → Place → Found A) (default : A) → ((d : Data) (place : Place) → AllFound P (read d place)) → P default → (name : List ℕ) (d : Data) (place : Place) → AllFound P (optional read default name d place)
all_optional P read default all left_out name d place = of_member (get name d)
  where
    of_member : (o : Option Data) → AllFound P (read_optional read default o (at_member place name))
    of_member None = left_out
    of_member (Some d) = all d (at_member place name)

no_policy : FitsBytes is_empty_or_32 []
no_policy = (λ i. omega arith, refl)

-- ---- public areas of keys

abbrev FitsObject : ObjectPublicText → Type 0
FitsObject area = (area.attributes ≤ 2 ^ 32 - 1) × FitsBytes is_empty_or_32 area.auth_policy × FitsBytes is_empty_or_32 area.unique

object_public-fits : (d : Data) (place : Place) (walk : Walk) → AllFound (Keeps FitsObject walk) (object_public d place walk)
unfolding object_public noted attributes_member auth_policy_member unique_member
object_public-fits d place walk =
    all_after (Keeps FitsObject walk) (object_in d place) _ (λ _.
    all_after (Keeps FitsObject walk) (key_type_member d place) _ (λ _.
    all_after (Keeps FitsObject walk) (name_hash_member d place) _ (λ _.
    all_then (λ n. (0 ≤ n) × (n ≤ 2 ^ 32 - 1)) (Keeps FitsObject walk) (attributes_member (codes "objectAttributes") d place) _
    (all_needed (λ n. (0 ≤ n) × (n ≤ 2 ^ 32 - 1)) u32_in (unsigned-fits 0 (2 ^ 32 - 1)) (codes "objectAttributes") d place) (λ attributes small.
    all_then (FitsBytes is_empty_or_32) (Keeps FitsObject walk) (auth_policy_member d place) _
    (all_optional (FitsBytes is_empty_or_32) empty_or_32 [] empty_or_32-fits no_policy (codes "authPolicy") d place) (λ auth_policy policy_fits.
    all_after (Keeps FitsObject walk) (scheme_member d place) _ (λ _.
    all_then (FitsBytes is_empty_or_32) (Keeps FitsObject walk) (unique_member d place) _
    (all_needed (FitsBytes is_empty_or_32) empty_or_32 empty_or_32-fits (codes "unique") d place) (λ unique unique_fits.
    (refl, (small.1, policy_fits, unique_fits)))))))))

-- what the members of a written area give
abbrev object_found : Found ℕ → Found (List ℕ) → Found Bool → Found (List ℕ) → Walk → Found (ObjectPublicText × Walk)
object_found attributes auth_policy hmac unique walk =
    attributes >>= λ a. auth_policy >>= λ p. hmac >>= λ h. unique >>= λ u.
    Ok (record { attributes = a; auth_policy = p; hmac = h; unique = u }, walk)

scheme_back : (hmac : Bool) (place : Place) → scheme_in (string (scheme_name hmac)) place ≡ Ok hmac
unfolding find_word
scheme_back true place = refl
scheme_back false place = refl

-- nothing more noted
walk_again : (walk : Walk) → record walk { notes = walk.notes ++ [] } ≡ walk
walk_again walk = ap (λ notes. record walk { notes = notes }) (append-nil walk.notes)

object_written : (area : ObjectPublicText) (place : Place) (walk : Walk) → object_public_in (object_public_value area) place walk
    ≡ object_found (u32_in (natural area.attributes) (at_member place (codes "objectAttributes"))) (empty_or_32 (hex_text area.auth_policy) (at_member place (codes "authPolicy")))
    (scheme_in (string (scheme_name area.hmac)) (at_member place (codes "scheme"))) (empty_or_32 (hex_text area.unique) (at_member place (codes "unique"))) (record walk { notes = walk.notes ++ [] })
unfolding object_public_in through through_member object_public key_type_member name_hash_member attributes_member auth_policy_member scheme_member unique_member noted find_word
object_written area place walk = refl

object_back : (area : ObjectPublicText) (place : Place) (walk : Walk) → FitsObject area → object_public_in (object_public_value area) place walk ≡ Ok (area, walk)
object_back area place walk fits =
    object_written area place walk
    ∙ ap (λ r. object_found r policy hmac unique after) (unsigned-back 0 (2 ^ 32 - 1) area.attributes (at_member place (codes "objectAttributes")) (omega arith) fits.0 (omega (arith, fits.0)))
    ∙ ap (λ r. object_found (Ok area.attributes) r hmac unique after) (empty_or_32-back area.auth_policy (at_member place (codes "authPolicy")) fits.1)
    ∙ ap (λ r. object_found (Ok area.attributes) (Ok area.auth_policy) r unique after) (scheme_back area.hmac (at_member place (codes "scheme")))
    ∙ ap (λ r. object_found (Ok area.attributes) (Ok area.auth_policy) (Ok area.hmac) r after) (empty_or_32-back area.unique (at_member place (codes "unique")) fits.2)
    ∙ ap (λ w. Ok (area, w)) (walk_again walk)
  where
    policy : Found (List ℕ)
    policy = empty_or_32 (hex_text area.auth_policy) (at_member place (codes "authPolicy"))

    hmac : Found Bool
    hmac = scheme_in (string (scheme_name area.hmac)) (at_member place (codes "scheme"))

    unique : Found (List ℕ)
    unique = empty_or_32 (hex_text area.unique) (at_member place (codes "unique"))

    after : Walk
    after = record walk { notes = walk.notes ++ [] }

pub object_public_back : (d : Data) (place : Place) (walk : Walk) → AllFound (λ found. (found.1.left ≡ walk.left) × ((other : Place) (before : Walk) → object_public_in (object_public_value found.0) other before ≡ Ok (found.0, before))) (object_public_in d place walk)
unfolding object_public_in
object_public_back d place walk =
    all_map (Keeps FitsObject walk) (λ found. (found.1.left ≡ walk.left) × ((other : Place) (before : Walk) → object_public_in (object_public_value found.0) other before ≡ Ok (found.0, before))) (object_public_in d place walk)
    (all_through FitsObject (codes "publicArea") object_public object_public-fits d place walk)
    (λ found keeps. (keeps.0, λ other before. object_back found.0 other before keeps.1))

-- ---- public areas of indices

abbrev IsWithin : ℕ → ℕ → ℕ → Type 0
IsWithin least greatest n = (least ≤ n) × (n ≤ greatest)

abbrev FitsIndex : NvPublicText → Type 0
FitsIndex area = IsWithin 0x01000000 0x01ffffff area.index × IsWithin 0 (2 ^ 32 - 1) area.attributes × FitsBytes is_empty_or_32 area.auth_policy × IsWithin 1 2048 area.size

index_public-fits : (d : Data) (place : Place) (walk : Walk) → AllFound (Keeps FitsIndex walk) (index_public d place walk)
unfolding index_public noted nv_index_member attributes_member auth_policy_member data_size_member
index_public-fits d place walk =
    all_after (Keeps FitsIndex walk) (object_in d place) _ (λ _.
    all_then (IsWithin 0x01000000 0x01ffffff) (Keeps FitsIndex walk) (nv_index_member d place) _
    (all_needed (IsWithin 0x01000000 0x01ffffff) (unsigned_in 0x01000000 0x01ffffff) (unsigned-fits 0x01000000 0x01ffffff) (codes "nvIndex") d place) (λ index index_fits.
    all_after (Keeps FitsIndex walk) (name_hash_member d place) _ (λ _.
    all_then (IsWithin 0 (2 ^ 32 - 1)) (Keeps FitsIndex walk) (attributes_member (codes "attributes") d place) _
    (all_needed (IsWithin 0 (2 ^ 32 - 1)) u32_in (unsigned-fits 0 (2 ^ 32 - 1)) (codes "attributes") d place) (λ attributes attributes_fit.
    all_then (FitsBytes is_empty_or_32) (Keeps FitsIndex walk) (auth_policy_member d place) _
    (all_optional (FitsBytes is_empty_or_32) empty_or_32 [] empty_or_32-fits no_policy (codes "authPolicy") d place) (λ auth_policy policy_fits.
    all_then (IsWithin 1 2048) (Keeps FitsIndex walk) (data_size_member d place) _
    (all_needed (IsWithin 1 2048) (unsigned_in 1 2048) (unsigned-fits 1 2048) (codes "dataSize") d place) (λ size size_fits.
    (refl, (index_fits, attributes_fit, policy_fits, size_fits))))))))

abbrev index_found : Found ℕ → Found ℕ → Found (List ℕ) → Found ℕ → Walk → Found (NvPublicText × Walk)
index_found index attributes auth_policy size walk =
    index >>= λ i. attributes >>= λ a. auth_policy >>= λ p. size >>= λ s.
    Ok (record { index = i; attributes = a; auth_policy = p; size = s }, walk)

index_written : (area : NvPublicText) (place : Place) (walk : Walk) → index_public_in (nv_public_value area) place walk
    ≡ index_found (unsigned_in 0x01000000 0x01ffffff (natural area.index) (at_member place (codes "nvIndex"))) (u32_in (natural area.attributes) (at_member place (codes "attributes")))
    (empty_or_32 (hex_text area.auth_policy) (at_member place (codes "authPolicy"))) (unsigned_in 1 2048 (natural area.size) (at_member place (codes "dataSize"))) (record walk { notes = walk.notes ++ [] })
unfolding index_public_in through through_member index_public nv_index_member name_hash_member attributes_member auth_policy_member data_size_member noted find_word
index_written area place walk = refl

index_back : (area : NvPublicText) (place : Place) (walk : Walk) → FitsIndex area → index_public_in (nv_public_value area) place walk ≡ Ok (area, walk)
index_back area place walk fits =
    index_written area place walk
    ∙ ap (λ r. index_found r attributes policy size after) (unsigned-back 0x01000000 0x01ffffff area.index (at_member place (codes "nvIndex")) fits.0.0 fits.0.1 (omega (arith, fits.0.1)))
    ∙ ap (λ r. index_found (Ok area.index) r policy size after) (unsigned-back 0 (2 ^ 32 - 1) area.attributes (at_member place (codes "attributes")) fits.1.0 fits.1.1 (omega (arith, fits.1.1)))
    ∙ ap (λ r. index_found (Ok area.index) (Ok area.attributes) r size after) (empty_or_32-back area.auth_policy (at_member place (codes "authPolicy")) fits.2)
    ∙ ap (λ r. index_found (Ok area.index) (Ok area.attributes) (Ok area.auth_policy) r after) (unsigned-back 1 2048 area.size (at_member place (codes "dataSize")) fits.3.0 fits.3.1 (omega (arith, fits.3.1)))
    ∙ ap (λ w. Ok (area, w)) (walk_again walk)
  where
    attributes : Found ℕ
    attributes = u32_in (natural area.attributes) (at_member place (codes "attributes"))

    policy : Found (List ℕ)
    policy = empty_or_32 (hex_text area.auth_policy) (at_member place (codes "authPolicy"))

    size : Found ℕ
    size = unsigned_in 1 2048 (natural area.size) (at_member place (codes "dataSize"))

    after : Walk
    after = record walk { notes = walk.notes ++ [] }

pub index_public_back : (d : Data) (place : Place) (walk : Walk) → AllFound (λ found. (found.1.left ≡ walk.left) × ((other : Place) (before : Walk) → index_public_in (nv_public_value found.0) other before ≡ Ok (found.0, before))) (index_public_in d place walk)
unfolding index_public_in
index_public_back d place walk =
    all_map (Keeps FitsIndex walk) (λ found. (found.1.left ≡ walk.left) × ((other : Place) (before : Walk) → index_public_in (nv_public_value found.0) other before ≡ Ok (found.0, before))) (index_public_in d place walk)
    (all_through FitsIndex (codes "nvPublic") index_public index_public-fits d place walk)
    (λ found keeps. (keeps.0, λ other before. index_back found.0 other before keeps.1))

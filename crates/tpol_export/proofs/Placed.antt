-- Public areas say the same wherever they stand, and within a wrapper.
use Rattle.std.proofs.Common.{◌≡◌, ℕ, ℤ, pos, unsigned_abs, ◌&&◌, ◌-◌, ◌^◌, ◌++◌, Bool, true, false, List, [], ◌∷◌, Option, Some, None, Ok, Err, codes, refl, ap, ◌∙◌, append-nil, if◌then◌else◌}
use Rattle.std.specs.Prelude.{int_le}
use Rattle.serde_json.specs.Data.{Data}
use Rattle.hex.specs.Hex.{encode_lower}
use Rattle.tpol_adopt.proofs.Keeping.{Follows, follows_then}
use Rattle.tpol_base.specs.Answers.{◌>>=◌}
use Rattle.tpol_elements.specs.Publics.{through, through_member, index_public, object_public, index_public_in, object_public_in, key_type_member, name_hash_member, attributes_member, auth_policy_member, scheme_member, unique_member, nv_index_member, data_size_member}
use Rattle.tpol_json.proofs.Limits.{is_empty_or_32}
use Rattle.tpol_json.specs.Bytes.{bytes_of_text, hex_or_bad}
use Rattle.tpol_json.specs.Faults as members
use Rattle.tpol_json.specs.Numbers.{whole_number, within}
use Rattle.tpol_json.specs.Places.{at_member}
use Rattle.tpol_json.specs.Reading as reading
use Rattle.tpol_json.specs.Reading.{bad}
use Rattle.tpol_json.specs.declared.fault.JsonKind.TheVariants.{BadNumber}
use Rattle.tpol_json.specs.declared.fault.MemberKind.TheVariants.{BadHex}
use Rattle.tpol_json.specs.declared.place.Place.{Place}
use Rattle.tpol_json.specs.Members.{unknown}
use Rattle.tpol_json.specs.Words.{find_word}
use Rattle.tpol_members.specs.Faults.{Found, read_as}
use Rattle.tpol_members.specs.Members.{noted}
use Rattle.tpol_members.specs.Values.{empty_or_32, unsigned_in}
use Rattle.tpol_members.specs.declared.walk.Walk.{Walk}
use Rattle.tpol_tree.specs.declared.wishes.ObjectPublicText.{ObjectPublicText}
use Rattle.tpol_tree.specs.declared.wishes.NvPublicText.{NvPublicText}
use Rattle.tpol_write.specs.Objects.{natural, object_of, hex_text}
use Rattle.tpol_write.specs.Wishes.{nv_public_value, object_public_value}

abbrev as_member : {A : Type 0} → members.FoundValue A → members.Found A
as_member = reading.read_as members.kind_of

-- ---- single values

limited : (test : Bool) (n : ℤ) (one other : Place) → Follows (read_as (as_member (if test then Ok n else bad BadNumber one) >>= λ z. Ok (unsigned_abs z))) (read_as (as_member (if test then Ok n else bad BadNumber other) >>= λ z. Ok (unsigned_abs z)))
limited true n one other = refl
limited false n one other = tt {0}

whole-placed : (least greatest : ℕ) (o : Option ℤ) (one other : Place) → Follows (read_as (as_member (within (pos least) (pos greatest) o one) >>= λ z. Ok (unsigned_abs z))) (read_as (as_member (within (pos least) (pos greatest) o other) >>= λ z. Ok (unsigned_abs z)))
whole-placed least greatest None one other = tt {0}
whole-placed least greatest (Some n) one other = limited (int_le (pos least) n && int_le n (pos greatest)) n one other

pub unsigned-placed : (least greatest n : ℕ) (one other : Place) → Follows (unsigned_in least greatest (natural n) one) (unsigned_in least greatest (natural n) other)
unsigned-placed least greatest n one other = whole-placed least greatest (whole_number (natural n)) one other

sized : (test : Bool) (bytes : List ℕ) (one other : Place) → Follows (read_as (if test then Ok bytes else bad BadHex one)) (read_as (if test then Ok bytes else bad BadHex other))
sized true bytes one other = refl
sized false bytes one other = tt {0}

hex-placed : (o : Option (List ℕ)) (one other : Place) → Follows (read_as (as_member (hex_or_bad o one) >>= λ bytes. if is_empty_or_32 bytes then Ok bytes else bad BadHex one)) (read_as (as_member (hex_or_bad o other) >>= λ bytes. if is_empty_or_32 bytes then Ok bytes else bad BadHex other))
hex-placed None one other = tt {0}
hex-placed (Some bytes) one other = sized (is_empty_or_32 bytes) bytes one other

pub empty_or_32-placed : (bytes : List ℕ) (one other : Place) → Follows (empty_or_32 (hex_text bytes) one) (empty_or_32 (hex_text bytes) other)
empty_or_32-placed bytes one other = hex-placed (bytes_of_text (encode_lower bytes)) one other

-- ---- notes

-- an object whose members are all known leaves no note
pub noted-none : (known : List (List ℕ)) (d : Data) (place : Place) (walk : Walk) → unknown known d place ≡ [] → noted known d place walk ≡ walk
unfolding noted
noted-none known d place walk none =
    let P : List Place → Walk = λ notes. record walk { notes = notes } in
    ap (λ more. P (walk.notes ++ more)) none ∙ ap P (append-nil walk.notes)

within_wrapper : {A : Type 0} (found again : Found (A × Walk)) (note : Walk → Walk) → Follows found again → ((walk : Walk) → note walk ≡ walk) → Follows found (again >>= λ x. Ok (x.0, note x.1))
within_wrapper (Ok x) again note is none = ap (λ r. r >>= λ y. Ok (y.0, note y.1)) is ∙ ap (λ walk. Ok (x.0, walk)) (none x.1)
within_wrapper (Err fault) again note is none = tt {0}

-- ---- areas

pub index-placed : (area : NvPublicText) (one other : Place) (walk : Walk) → Follows (index_public_in (nv_public_value area) one walk) (index_public_in (nv_public_value area) other walk)
unfolding index_public_in through through_member index_public nv_index_member name_hash_member attributes_member auth_policy_member data_size_member noted find_word
index-placed area one other walk =
    follows_then _ _ _ _ (unsigned-placed 0x01000000 0x01ffffff area.index (at_member one (codes "nvIndex")) (at_member other (codes "nvIndex")))
    (λ index _. follows_then _ _ _ _ (unsigned-placed 0 (2 ^ 32 - 1) area.attributes (at_member one (codes "attributes")) (at_member other (codes "attributes")))
    (λ attributes _. follows_then _ _ _ _ (empty_or_32-placed area.auth_policy (at_member one (codes "authPolicy")) (at_member other (codes "authPolicy")))
    (λ auth_policy _. follows_then _ _ _ _ (unsigned-placed 1 2048 area.size (at_member one (codes "dataSize")) (at_member other (codes "dataSize")))
    (λ size _. refl))))

abbrev pub wrapped_index : NvPublicText → Data
wrapped_index area = object_of ((codes "nvPublic", nv_public_value area) ∷ [])

pub index-wrapped : (area : NvPublicText) (place : Place) (walk : Walk) → Follows (index_public_in (nv_public_value area) place walk) (index_public_in (wrapped_index area) place walk)
unfolding index_public_in through through_member
index-wrapped area place walk =
    within_wrapper (index_public_in (nv_public_value area) place walk) (index_public_in (nv_public_value area) (at_member place (codes "nvPublic")) walk)
    (noted (codes "nvPublic" ∷ []) (wrapped_index area) place) (index-placed area place (at_member place (codes "nvPublic")) walk)
    (λ w. noted-none (codes "nvPublic" ∷ []) (wrapped_index area) place w refl)

key-of : (attributes : ℕ) (auth_policy unique : List ℕ) (hmac : Bool) (one other : Place) (walk : Walk) →
    let area : ObjectPublicText = record { attributes = attributes; auth_policy = auth_policy; hmac = hmac; unique = unique } in
    Follows (object_public_in (object_public_value area) one walk) (object_public_in (object_public_value area) other walk)
unfolding object_public_in through through_member object_public key_type_member name_hash_member attributes_member auth_policy_member scheme_member unique_member noted find_word
key-of attributes auth_policy unique true one other walk =
    follows_then _ _ _ _ (unsigned-placed 0 (2 ^ 32 - 1) attributes (at_member one (codes "objectAttributes")) (at_member other (codes "objectAttributes")))
    (λ attributes _. follows_then _ _ _ _ (empty_or_32-placed auth_policy (at_member one (codes "authPolicy")) (at_member other (codes "authPolicy")))
    (λ auth_policy _. follows_then _ _ _ _ (empty_or_32-placed unique (at_member one (codes "unique")) (at_member other (codes "unique")))
    (λ unique _. refl)))
key-of attributes auth_policy unique false one other walk =
    follows_then _ _ _ _ (unsigned-placed 0 (2 ^ 32 - 1) attributes (at_member one (codes "objectAttributes")) (at_member other (codes "objectAttributes")))
    (λ attributes _. follows_then _ _ _ _ (empty_or_32-placed auth_policy (at_member one (codes "authPolicy")) (at_member other (codes "authPolicy")))
    (λ auth_policy _. follows_then _ _ _ _ (empty_or_32-placed unique (at_member one (codes "unique")) (at_member other (codes "unique")))
    (λ unique _. refl)))

pub key-placed : (area : ObjectPublicText) (one other : Place) (walk : Walk) → Follows (object_public_in (object_public_value area) one walk) (object_public_in (object_public_value area) other walk)
key-placed area one other walk = key-of area.attributes area.auth_policy area.unique area.hmac one other walk

abbrev pub wrapped_key : ObjectPublicText → Data
wrapped_key area = object_of ((codes "publicArea", object_public_value area) ∷ [])

pub key-wrapped : (area : ObjectPublicText) (place : Place) (walk : Walk) → Follows (object_public_in (object_public_value area) place walk) (object_public_in (wrapped_key area) place walk)
unfolding object_public_in through through_member
key-wrapped area place walk =
    within_wrapper (object_public_in (object_public_value area) place walk) (object_public_in (object_public_value area) (at_member place (codes "publicArea")) walk)
    (noted (codes "publicArea" ∷ []) (wrapped_key area) place) (key-placed area place (at_member place (codes "publicArea")) walk)
    (λ w. noted-none (codes "publicArea" ∷ []) (wrapped_key area) place w refl)

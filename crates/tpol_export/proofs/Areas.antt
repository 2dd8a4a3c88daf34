-- Public areas come back out of FAPI's spelling, and say the same wherever they stand.
use Rattle.std.proofs.Common.{◌≡◌, ℕ, ◌-◌, ◌^◌, nat_le, Bool, true, false, List, [], ◌∷◌, Option, Some, None, codes, refl, ap, ◌∙◌, if◌then◌else◌}
use Rattle.std.proofs.lemmas.Bool.{eqb-true}
use Rattle.serde_json.specs.Data.{Data, string, object, Members}
use Rattle.tpol_adopt.specs.Edits.{edited as adopted, number_or}
use Rattle.tpol_adopt.specs.Flags.{bits_from}
use Rattle.tpol_adopt.specs.Normal.{normal_as, normal_members}
use Rattle.tpol_adopt.specs.Rules.{member_rule, new_scheme}
use Rattle.tpol_adopt.specs.declared.edits.Edit.TheVariants.{Number as AdoptedNumber}
use Rattle.tpol_adopt.specs.declared.flags.Flags.{Flags}
use Rattle.tpol_adopt.specs.declared.flags.Flags.TheVariants.{OfIndex, OfObject}
use Rattle.tpol_adopt.specs.declared.rules.Part.TheVariants.{IndexPublic as AdoptedIndex, KeyPublic as AdoptedKey}
use Rattle.tpol_export.specs.Rules.{member_rule as spelling_rule, more_entries, new_name}
use Rattle.tpol_export.specs.Spelling.{spelled_as, spelled_members}
use Rattle.tpol_export.specs.Values.{edited, is_number, number_members, object_or}
use Rattle.tpol_export.specs.declared.rules.Part.TheVariants.{IndexPublic, KeyPublic}
use Rattle.tpol_export.specs.declared.values.Edit.TheVariants.{Number}
use Rattle.tpol_tree.specs.declared.wishes.ObjectPublicText.{ObjectPublicText}
use Rattle.tpol_tree.specs.declared.wishes.NvPublicText.{NvPublicText}
use Rattle.tpol_write.specs.Objects.{natural, object_of, hex_text}
use Rattle.tpol_write.specs.Wishes.{nv_public_value, object_public_value, scheme_name}

-- ---- numbers of flags

is_some : (n : ℕ) (o : Option ℕ) → is_number n o ≡ true → o ≡ Some n
is_some n None is = cc
is_some n (Some m) is = ap Some (eqb-true m n is)

plain : (flags : Flags) (n : ℕ) → adopted (AdoptedNumber flags) (natural n) ≡ natural n
plain flags n = refl

by_test : (flags : Flags) (ms : Members) (n : ℕ) (test : Bool) → is_number n (bits_from flags 0 ms) ≡ test → adopted (AdoptedNumber flags) (if test then object ms else natural n) ≡ natural n
by_test flags ms n true is = ap (λ o. number_or o (object ms)) (is_some n (bits_from flags 0 ms) is)
by_test flags ms n false is = plain flags n

by_size : (flags : Flags) (n : ℕ) (test : Bool) → adopted (AdoptedNumber flags) (if test then object_or flags (number_members flags n) n (natural n) else natural n) ≡ natural n
by_size flags n true = by_test flags (number_members flags n) n (is_number n (bits_from flags 0 (number_members flags n))) refl
by_size flags n false = plain flags n

pub flags-back : (flags : Flags) (n : ℕ) → adopted (AdoptedNumber flags) (edited (Number flags) (natural n)) ≡ natural n
unfolding edited
flags-back flags n = by_size flags n (nat_le n (2 ^ 32 - 1))

-- ---- public areas

abbrev index_area : NvPublicText → Data → Data
index_area area attributes = object_of (
    (codes "nvIndex", natural area.index) ∷ (codes "nameAlg", string (codes "SHA256"))
    ∷ (codes "attributes", attributes) ∷ (codes "authPolicy", hex_text area.auth_policy)
    ∷ (codes "dataSize", natural area.size) ∷ [])

index-spelled : (area : NvPublicText) → normal_as AdoptedIndex (spelled_as IndexPublic (nv_public_value area)) ≡ index_area area (adopted (AdoptedNumber OfIndex) (edited (Number OfIndex) (natural area.attributes)))
unfolding spelled_as spelled_members spelling_rule new_name more_entries normal_as normal_members member_rule new_scheme
index-spelled area = refl

pub index-back : (area : NvPublicText) → normal_as AdoptedIndex (spelled_as IndexPublic (nv_public_value area)) ≡ nv_public_value area
index-back area = index-spelled area ∙ ap (index_area area) (flags-back OfIndex area.attributes)

abbrev key_area : ObjectPublicText → Data → Data
key_area area attributes = object_of (
    (codes "type", string (codes "KEYEDHASH")) ∷ (codes "nameAlg", string (codes "SHA256"))
    ∷ (codes "objectAttributes", attributes) ∷ (codes "authPolicy", hex_text area.auth_policy)
    ∷ (codes "scheme", string (scheme_name area.hmac)) ∷ (codes "unique", hex_text area.unique) ∷ [])

key-spelled : (attributes : ℕ) (auth_policy unique : List ℕ) (hmac : Bool) →
    let area : ObjectPublicText = record { attributes = attributes; auth_policy = auth_policy; hmac = hmac; unique = unique } in
    normal_as AdoptedKey (spelled_as KeyPublic (object_public_value area)) ≡ key_area area (adopted (AdoptedNumber OfObject) (edited (Number OfObject) (natural attributes)))
unfolding spelled_as spelled_members spelling_rule new_name more_entries normal_as normal_members member_rule new_scheme edited
key-spelled attributes auth_policy unique true = refl
key-spelled attributes auth_policy unique false = refl

pub key-back : (area : ObjectPublicText) → normal_as AdoptedKey (spelled_as KeyPublic (object_public_value area)) ≡ object_public_value area
key-back area = key-spelled area.attributes area.auth_policy area.unique area.hmac ∙ ap (key_area area) (flags-back OfObject area.attributes)

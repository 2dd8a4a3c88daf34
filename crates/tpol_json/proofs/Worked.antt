-- Worked values of the definitions.
use Rattle.std.proofs.Common.{◌≡◌, [], ◌∷◌, codes, true, false, Ok, pos, refl}
use Rattle.std.specs.Fmt.{digits}
use Rattle.hex.proofs.OnLiterals.{hex_on_literals}
use Rattle.json.specs.Print.{escape_byte}
use Rattle.serde_json.specs.Data.{Data, number, unsigned, string, array, item, no_items, object, member, no_members, null}
use Rattle.tpol_json.specs.Bytes.{bytes_from, bytes_in}
use Rattle.tpol_json.specs.Members.{needed, optional}
use Rattle.tpol_json.specs.Numbers.{number_in}
use Rattle.tpol_json.specs.Places.{root, at_item, at_member}
use Rattle.tpol_json.specs.PlaceText.{steps_text, text_of_place}
use Rattle.tpol_json.specs.Reading.{bad}
use Rattle.tpol_json.specs.Truth.{truth_in}
use Rattle.tpol_json.specs.Values.{digest_in, text_in}
use Rattle.tpol_json.specs.Words.{same_word}
use Rattle.tpol_json.specs.declared.fault.JsonKind.TheVariants.{WrongKind, BadHex, BadNumber}
use Rattle.tpol_json.specs.declared.fault.MemberKind.TheVariants as kinds
use Rattle.tpol_json.specs.declared.place.Place.{Place}

-- ---- places

inner : Place
inner = at_member (at_item (at_member (at_item (at_member (at_item (at_member root (codes "policy")) 0) (codes "branches")) 1) (codes "policy")) 2) (codes "code")

inner_text : text_of_place inner ≡ codes "policy[0].branches[1].policy[2].code"
unfolding inner steps_text digits
inner_text = refl

root_text : text_of_place root ≡ codes "$"
root_text = refl

strange_text : text_of_place (at_member (at_member root (codes "a b")) []) ≡ codes "\"a b\".\"\""
unfolding steps_text escape_byte
strange_text = refl

-- ---- bytes

any_case : bytes_in (string (codes "0xAb01")) root ≡ Ok (171 ∷ 1 ∷ [])
unfolding hex_on_literals
any_case = refl

no_digits : bytes_in (string (codes "0x")) root ≡ Ok []
unfolding hex_on_literals
no_digits = refl

odd_digits : bytes_in (string (codes "abc")) root ≡ bad BadHex root
unfolding hex_on_literals
odd_digits = refl

listed : bytes_in (array (item (number (unsigned 255)) (item (string (codes "0x10")) no_items))) root ≡ Ok (255 ∷ 16 ∷ [])
unfolding bytes_from
listed = refl

past_a_byte : bytes_in (array (item (number (unsigned 1)) (item (number (unsigned 256)) no_items))) root ≡ bad BadNumber (at_item root 1)
unfolding bytes_from
past_a_byte = refl

no_bytes : bytes_in null root ≡ bad WrongKind root
no_bytes = refl

-- ---- numbers

hex_number : number_in (pos 0) (pos 31) (string (codes "0x1F")) root ≡ Ok (pos 31)
hex_number = refl

past_the_greatest : number_in (pos 0) (pos 30) (string (codes "0x1f")) root ≡ bad BadNumber root
past_the_greatest = refl

prefix_alone : number_in (pos 0) (pos 31) (string (codes "0x")) root ≡ bad BadNumber root
prefix_alone = refl

sixteen_digits : number_in (pos 0) (pos 31) (string (codes "0x0000000000000001")) root ≡ bad BadNumber root
sixteen_digits = refl

-- ---- words

without_prefix : same_word (codes "unseal") (codes "TPM2_CC_") (codes "Unseal") ≡ true
without_prefix = refl

with_prefix : same_word (codes "tpm2_cc_UNSEAL") (codes "TPM2_CC_") (codes "Unseal") ≡ true
with_prefix = refl

half_a_prefix : same_word (codes "cc_unseal") (codes "TPM2_CC_") (codes "Unseal") ≡ false
half_a_prefix = refl

yes : truth_in (string (codes "yes")) root ≡ Ok true
yes = refl

two : truth_in (number (unsigned 2)) root ≡ bad BadNumber root
two = refl

-- ---- members

null_name : Data
null_name = object (member (codes "name") null no_members)

-- a member that is null is there
null_is_there : optional text_in [] (codes "name") null_name root ≡ bad kinds.WrongKind (at_member root (codes "name"))
unfolding null_name
null_is_there = refl

-- a member that is not there is Missing at its own place
missing_key : needed kinds.Missing digest_in (codes "digest") null_name root ≡ bad kinds.Missing (at_member root (codes "digest"))
unfolding null_name
missing_key = refl

-- Single values as FAPI spells them.
use Rattle.std.specs.Prelude.{ℕ, ◌/◌, ◌==◌, ◌++◌, ◌-◌, ◌^◌, nat_le, Bool, false, bit_and, List, [], ◌∷◌, codes, Option, Some, None, option_and_then, if◌then◌else◌}
use Rattle.std.specs.Int.{to_be_bytes, w32}
use Rattle.hex.specs.Hex.{encode_lower}
use Rattle.serde_json.specs.Data.{Data, null, boolean, number, string, array, object, Members, no_members}
use Rattle.serde_json.specs.Find.{as_str}
use Rattle.tpol_adopt.specs.Flags.{bits_from, count_in, index_flags, index_types, locality_flags, object_flags}
use Rattle.tpol_adopt.specs.Words.{is_word}
use Rattle.tpol_adopt.specs.declared.flags.Flags.{Flags}
use Rattle.tpol_adopt.specs.declared.flags.Flags.TheVariants.{OfIndex, OfObject, OfLocality}
use Rattle.tpol_export.specs.declared.values.Edit.{Edit}
use Rattle.tpol_export.specs.declared.values.Edit.TheVariants.{Number, Truth, Scheme, Signature, Hierarchy}
use Rattle.tpol_name.specs.Entities.{hierarchy_at}
use Rattle.tpol_write.specs.Objects.{Entry, natural, with_members, object_of}

-- ---- attributes and localities, as objects of zeros and ones

abbrev pub flag_value : ℕ → ℕ → Data
flag_value n flag = natural (if bit_and n flag == 0 then 0 else 1)

-- each flag with its bit of the number
abbrev pub flag_entries : List (List ℕ × ℕ) → ℕ → List Entry
flag_entries [] n = []
flag_entries (row ∷ rows) n = (row.0, flag_value n row.1) ∷ flag_entries rows n

-- the first of these words that stands for the number
abbrev pub word_for : List (List ℕ × ℕ) → ℕ → Option (List ℕ)
word_for [] n = None
word_for (row ∷ rows) n = if row.1 == n then Some row.0 else word_for rows n

-- the type of an index, if it has a name
abbrev pub type_entries : Option (List ℕ) → List Entry
type_entries None = []
type_entries (Some name) = (codes "TPM2_NT", string name) ∷ []

abbrev pub number_entries : Flags → ℕ → List Entry
number_entries OfIndex n = type_entries (word_for index_types (bit_and n 0xf0)) ++ flag_entries index_flags n
number_entries OfObject n = flag_entries object_flags n
number_entries OfLocality n = (codes "Extended", natural (n / 32)) ∷ flag_entries locality_flags n

unfoldable pub number_members : Flags → ℕ → Members
number_members flags n = with_members (number_entries flags n) no_members

abbrev pub is_number : ℕ → Option ℕ → Bool
is_number n None = false
is_number n (Some m) = m == n

-- the object, where its members say this number
abbrev pub object_or : Flags → Members → ℕ → Data → Data
object_or flags ms n d = if is_number n (bits_from flags 0 ms) then object ms else d

abbrev pub flagged_number : Flags → Option ℕ → Data → Data
flagged_number flags None d = d
flagged_number flags (Some n) d = if nat_le n (2 ^ 32 - 1) then object_or flags (number_members flags n) n d else d

-- ---- texts

abbrev pub truth_text : Data → Data
truth_text null = null
truth_text (boolean b) = string (if b then codes "YES" else codes "NO")
truth_text (number n) = number n
truth_text (string s) = string s
truth_text (array ds) = array ds
truth_text (object ms) = object ms

-- the scheme of a key: of an HMAC key with its hash
abbrev pub scheme_value : Data → Data
scheme_value d =
    if is_word (codes "HMAC") (as_str d)
    then object_of ((codes "details", object_of ((codes "hashAlg", string (codes "SHA256")) ∷ [])) ∷ (codes "scheme", d) ∷ [])
    else object_of ((codes "scheme", d) ∷ [])

-- an HMAC's signature
abbrev pub signature_value : Data → Data
signature_value d = object_of (
    (codes "sigAlg", string (codes "HMAC"))
    ∷ (codes "signature", object_of ((codes "digest", d) ∷ (codes "hashAlg", string (codes "SHA256")) ∷ [])) ∷ [])

-- the hierarchy that a path names
unfoldable pub hierarchy_in : Data → Option ℕ
hierarchy_in d = option_and_then hierarchy_at (as_str d)

abbrev pub handle_or : Option ℕ → Data → Data
handle_or None d = d
handle_or (Some handle) d = string (encode_lower (to_be_bytes w32 handle))

-- A value in FAPI's spelling: a number as the object of its flags, where such an object says all of it; a truth value
-- as a word; the path of a hierarchy as its handle; another value stays. A scheme goes within `parameters`,
-- and a digest becomes an HMAC's signature, whatever the value is.
unfoldable pub edited : Edit → Data → Data
edited (Number flags) d = flagged_number flags (count_in d) d
edited Truth d = truth_text d
edited Scheme d = object_of ((codes "scheme", scheme_value d) ∷ [])
edited Signature d = signature_value d
edited Hierarchy d = handle_or (hierarchy_in d) d

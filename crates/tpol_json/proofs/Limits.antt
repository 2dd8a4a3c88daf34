-- What readings of numbers, bytes, digests and Names find lies within their limits.
use Rattle.std.proofs.Common.{◌≡◌, T, ℕ, zero, suc, ◌+◌, ◌<◌, ◌≤◌, ◌^◌, ◌-◌, ◌==◌, nat_le, ◌&&◌, ◌||◌, Bool, true, false, leb, ℤ, pos, negsuc, int_le, unsigned_abs, ◌≤ℤ◌, List, ◌∷◌, length, drop, slice_index, Option, Some, None, Result, Ok, Err, refl, sym, subst, arith, if◌then◌else◌, unwrap_or, eqb-true, length-drop, get_or-drop}
use Rattle.std.proofs.lemmas.Bool.{leb-true, and_parts}
use Rattle.std.proofs.lemmas.Float.{T_from_true}
use Rattle.std.specs.Cmp.{first_so, second_so}
use Rattle.std.specs.Int.{from_be_bytes, w32}
use Rattle.std.specs.Result.{result_ok}
use Rattle.hex.specs.Hex.{IsBytes, decode_of}
use Rattle.hex.proofs.HexLemmas.{decode_of-ok}
use Rattle.hex.specs.declared.error.FromHexError.{FromHexError}
use Rattle.serde_json.specs.Data.{Data, null, boolean, number, string, array, object, Items, no_items, item}
use Rattle.tpol_base.proofs.Digests.{digest_of_whole}
use Rattle.tpol_base.specs.Answers.{◌>>=◌}
use Rattle.tpol_base.specs.Digest.{digest_of_bytes}
use Rattle.tpol_base.specs.Name.{name_of_bytes}
use Rattle.tpol_base.specs.declared.digest.Digest32.{Digest32}
use Rattle.tpol_base.specs.declared.name.Name.{Name}
use Rattle.tpol_base.specs.declared.name.Name.TheVariants.{Empty, Handle, Hash}
use Rattle.tpol_json.proofs.AllFound.{AllFound, all_then, all_if, all_read}
use Rattle.tpol_json.specs.Bytes.{bytes_in, bytes_from, byte_in, byte_or_bad, hex_or_bad}
use Rattle.tpol_json.specs.Faults.{kind_of}
use Rattle.tpol_json.specs.Numbers.{after_0x, number_in, within, whole_number}
use Rattle.tpol_json.specs.Places.{at_item}
use Rattle.tpol_json.specs.Reading.{bad, read_as}
use Rattle.tpol_json.specs.Values.{bytes_up_to, digest_in, empty_or_32, name_in, name_or_bad, signed_in, unsigned_in}
use Rattle.tpol_json.specs.declared.fault.MemberKind.TheVariants.{BadHex}
use Rattle.tpol_json.specs.declared.place.Place.{Place}

-- ---- numbers

within-fits : (least greatest : ℤ) (o : Option ℤ) (place : Place) → AllFound (λ n. (least ≤ℤ n) × (n ≤ℤ greatest)) (within least greatest o place)
within-fits least greatest None place = tt {0}
within-fits least greatest (Some n) place =
    all_if (λ m. (least ≤ℤ m) × (m ≤ℤ greatest)) (int_le least n && int_le n greatest) (Ok n) _
    (λ test. (
      record { le = T_from_true (int_le least n) (first_so (int_le least n) (int_le n greatest) test) },
      record { le = T_from_true (int_le n greatest) (second_so (int_le least n) (int_le n greatest) test) },
    ))
    (tt {0})

pub number_in-fits : (least greatest : ℤ) (d : Data) (place : Place) → AllFound (λ n. (least ≤ℤ n) × (n ≤ℤ greatest)) (number_in least greatest d place)
number_in-fits least greatest null place = tt {0}
number_in-fits least greatest (boolean b) place = tt {0}
number_in-fits least greatest (number n) place = within-fits least greatest (whole_number (number n)) place
number_in-fits least greatest (string s) place = within-fits least greatest (whole_number (string s)) place
number_in-fits least greatest (array ds) place = tt {0}
number_in-fits least greatest (object ms) place = tt {0}

pub passed : (b : Bool) → T b → b ≡ true
passed true h = refl
passed false h = absurd h

-- a number that a document writes where it has to lie between two limits lies between them
unsigned_of : (least greatest : ℕ) (z : ℤ) → pos least ≤ℤ z → z ≤ℤ pos greatest → (least ≤ unsigned_abs z) × (unsigned_abs z ≤ greatest)
unsigned_of least greatest (pos n) low high = (leb-true least n (passed (leb least n) low.le), leb-true n greatest (passed (leb n greatest) high.le))
unsigned_of least greatest (negsuc n) low high = absurd low.le

pub unsigned-fits : (least greatest : ℕ) (d : Data) (place : Place) → AllFound (λ n. (least ≤ n) × (n ≤ greatest)) (unsigned_in least greatest d place)
unsigned-fits least greatest d place =
    all_then (λ z. (pos least ≤ℤ z) × (z ≤ℤ pos greatest)) (λ n. (least ≤ n) × (n ≤ greatest)) (read_as kind_of (number_in (pos least) (pos greatest) d place)) _
    (all_read (λ z. (pos least ≤ℤ z) × (z ≤ℤ pos greatest)) kind_of (number_in (pos least) (pos greatest) d place) (number_in-fits (pos least) (pos greatest) d place))
    (λ z limits. unsigned_of least greatest z limits.0 limits.1)

-- a number of 32 bits with a sign
abbrev pub IsSigned32 : ℤ → Type 0
IsSigned32 z = (negsuc (2 ^ 31 - 1) ≤ℤ z) × (z ≤ℤ pos (2 ^ 31 - 1))

pub signed-fits : (d : Data) (place : Place) → AllFound IsSigned32 (signed_in d place)
signed-fits d place =
    all_read (λ z. (negsuc (2 ^ 31 - 1) ≤ℤ z) × (z ≤ℤ pos (2 ^ 31 - 1))) kind_of _ (number_in-fits (negsuc (2 ^ 31 - 1)) (pos (2 ^ 31 - 1)) d place)

-- ---- bytes

byte-fits : (o : Option ℤ) (place : Place) → AllFound (λ b. b < 256) (byte_or_bad o place)
byte-fits None place = tt {0}
byte-fits (Some (pos n)) place =
    all_if (λ b. b < 256) (int_le (pos 0) (pos n) && int_le (pos n) (pos 255)) (Ok n) _
    (λ test. omega (arith, leb-true n 255 (second_so (int_le (pos 0) (pos n)) (leb n 255) test)))
    (tt {0})
byte-fits (Some (negsuc n)) place = tt {0}

cons_bytes : (b : ℕ) (bytes : List ℕ) → b < 256 → IsBytes bytes → IsBytes (b ∷ bytes)
cons_bytes b bytes h hs zero = h
cons_bytes b bytes h hs (suc i) = hs i

bytes_from-fits : (index : ℕ) (ds : Items) (place : Place) → AllFound IsBytes (bytes_from index ds place)
unfolding bytes_from
bytes_from-fits index no_items place = λ i. omega arith
bytes_from-fits index (item d ds) place =
    all_then (λ b. b < 256) IsBytes (byte_in d (at_item place index)) _ (byte-fits (whole_number d) (at_item place index))
    (λ byte small. all_then IsBytes IsBytes (bytes_from (suc index) ds place) _ (bytes_from-fits (suc index) ds place) (λ bytes are. cons_bytes byte bytes small are))

decoded-fits : (text : List ℕ) (r : Result (List ℕ) FromHexError) (place : Place) → decode_of text ≡ r → AllFound IsBytes (hex_or_bad (result_ok r) place)
decoded-fits text (Ok bytes) place e = (decode_of-ok text bytes e).3
decoded-fits text (Err fault) place e = tt {0}

pub bytes-fits : (d : Data) (place : Place) → AllFound IsBytes (bytes_in d place)
bytes-fits null place = tt {0}
bytes-fits (boolean b) place = tt {0}
bytes-fits (number n) place = tt {0}
bytes-fits (string s) place = decoded-fits (unwrap_or (after_0x s) s) (decode_of (unwrap_or (after_0x s) s)) place refl
bytes-fits (array ds) place = bytes_from-fits 0 ds place
bytes-fits (object ms) place = tt {0}

pub read_bytes-fits : (d : Data) (place : Place) → AllFound IsBytes (read_as kind_of (bytes_in d place))
read_bytes-fits d place = all_read IsBytes kind_of (bytes_in d place) (bytes-fits d place)

-- bytes of a length that is wanted
abbrev pub FitsBytes : (List ℕ → Bool) → List ℕ → Type 0
FitsBytes test bytes = IsBytes bytes × (test bytes ≡ true)

bytes_by-fits : (test : List ℕ → Bool) (d : Data) (place : Place) → AllFound (FitsBytes test) (read_as kind_of (bytes_in d place) >>= λ bytes. if test bytes then Ok bytes else bad BadHex place)
bytes_by-fits test d place =
    all_then IsBytes (FitsBytes test) (read_as kind_of (bytes_in d place)) _ (read_bytes-fits d place)
    (λ bytes are. all_if (FitsBytes test) (test bytes) (Ok bytes) _ (λ passes. (are, passes)) (tt {0}))

abbrev pub is_up_to : ℕ → List ℕ → Bool
is_up_to limit bytes = nat_le (length bytes) limit

pub up_to-fits : (limit : ℕ) (d : Data) (place : Place) → AllFound (FitsBytes (is_up_to limit)) (bytes_up_to limit d place)
up_to-fits limit d place = bytes_by-fits (is_up_to limit) d place

abbrev pub is_empty_or_32 : List ℕ → Bool
is_empty_or_32 bytes = length bytes == 0 || length bytes == 32

pub empty_or_32-fits : (d : Data) (place : Place) → AllFound (FitsBytes is_empty_or_32) (empty_or_32 d place)
empty_or_32-fits d place = bytes_by-fits is_empty_or_32 d place

-- ---- digests and Names

abbrev pub FitsDigest : Digest32 → Type 0
FitsDigest digest = IsBytes digest.bytes

pub digest-fits : (d : Data) (place : Place) → AllFound FitsDigest (digest_in d place)
digest-fits d place =
    all_then IsBytes FitsDigest (read_as kind_of (bytes_in d place)) _ (read_bytes-fits d place)
    (λ bytes are. all_if FitsDigest (length bytes == 32) (Ok (digest_of_bytes bytes)) _
    (λ passes. subst IsBytes (sym (digest_of_whole bytes (eqb-true (length bytes) 32 passes))) are) (tt {0}))

-- a Name that was read: its handle fits, or its digest is of bytes
abbrev pub FitsName : Name → Type 0
FitsName Empty = Unit {0}
FitsName (Handle handle) = handle < 2 ^ 32
FitsName (Hash digest) = IsBytes digest.bytes

-- the Name of bytes, where a test passes, and else another
fits_if : (test : Bool) (name : Name) (other : Option Name) (place : Place) → (test ≡ true → FitsName name) → AllFound FitsName (name_or_bad other place) → AllFound FitsName (name_or_bad (if test then Some name else other) place)
fits_if true name other place fits others = fits refl
fits_if false name other place fits others = others

four_fit : (bytes : List ℕ) → IsBytes bytes → from_be_bytes w32 bytes < 2 ^ 32
four_fit bytes are = omega (arith, are 0, are 1, are 2, are 3)

digest_fits : (bytes : List ℕ) → IsBytes bytes → length bytes ≡ 34 → IsBytes (digest_of_bytes (drop 2 bytes)).bytes
digest_fits bytes are long =
    subst IsBytes (sym (digest_of_whole (drop 2 bytes) (omega (arith, length-drop 2 bytes)))) (λ i. rw (get_or-drop 2 bytes i 0) (are (2 + i)))

read_name-fits : (bytes : List ℕ) (place : Place) → IsBytes bytes → AllFound FitsName (name_or_bad (name_of_bytes bytes) place)
read_name-fits bytes place are =
    fits_if (length bytes == 0) Empty _ place (λ passes. tt {0})
    (fits_if (length bytes == 4) (Handle (from_be_bytes w32 bytes)) _ place (λ passes. four_fit bytes are)
    (fits_if (length bytes == 34 && (slice_index bytes 0 == 0 && slice_index bytes 1 == 11)) (Hash (digest_of_bytes (drop 2 bytes))) None place
    (λ passes. digest_fits bytes are (eqb-true (length bytes) 34 (and_parts (length bytes == 34) _ passes).0)) (tt {0})))

pub name-fits : (d : Data) (place : Place) → AllFound FitsName (name_in d place)
name-fits d place =
    all_then IsBytes FitsName (read_as kind_of (bytes_in d place)) _ (read_bytes-fits d place) (λ bytes are. read_name-fits bytes place are)

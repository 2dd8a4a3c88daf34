-- What members say lies within the bounds of the wire.
use Rattle.std.proofs.Common.{ℕ, suc, ◌^◌, ◌-◌, ◌≤◌, ◌<◌, bit_or, leb, ℤ, pos, negsuc, Bool, true, false, List, [], ◌∷◌, codes, length, Option, Some, None, Ok, Err, refl, arith, if◌then◌else◌}
use Rattle.std.specs.Int.{w32}
use Rattle.std.specs.Prelude.{FitsSigned}
use Rattle.std.proofs.lemmas.Bool.{leb-true}
use Rattle.std.proofs.lemmas.Nat.{or_lt, pow_below, le_or_r}
use Rattle.serde_json.specs.Data.{Data, Items, no_items, item, null, boolean, number, string, array, object}
use Rattle.serde_json.specs.Find.{get, as_array}
use Rattle.tpol_base.specs.declared.name.Name.{Name}
use Rattle.tpol_base.specs.declared.name.Name.TheVariants as names
use Rattle.tpol_base.specs.CommandCode.{command_codes}
use Rattle.tpol_json.proofs.AllFound.{AllFound, all_then, all_map, all_if, all_read, needed-fits, optional-fits}
use Rattle.tpol_json.proofs.Limits as json
use Rattle.tpol_json.proofs.Limits.{FitsBytes, FitsDigest, FitsName, IsSigned32, is_up_to, passed}
use Rattle.tpol_json.specs.Places.{at_member, at_item}
use Rattle.tpol_json.specs.Values as values
use Rattle.tpol_json.specs.Words.{find_word, same_word, word_in}
use Rattle.tpol_json.specs.declared.place.Place.{Place}
use Rattle.tpol_members.specs.Faults.{Found, kind_of}
use Rattle.tpol_json.specs.Reading.{bad}
use Rattle.tpol_members.specs.Fields.{policy_ref_in, expiration_in, operand_in, offset_in}
use Rattle.tpol_members.specs.Localities.{locality_word_in, localities_from, locality_list, localities_or, locality_in}
use Rattle.tpol_members.specs.Operations.{code_in}
use Rattle.tpol_members.specs.Pcrs.{pcr_bit, mask_from, mask_of_list, mask_in}
use Rattle.tpol_members.specs.Values.{bytes_up_to, digest_in, empty_or_32, full_name_in, is_empty_name, name_in, signed_in, u32_in, unsigned_in}
use Rattle.tpol_members.specs.Walks.{still}
use Rattle.tpol_members.specs.Words.{found_or, localities}
use Rattle.tpol_members.specs.declared.fault.PolicyKind.TheVariants.{BadHex, BadNumber, Missing}
use Rattle.tpol_members.specs.declared.walk.Walk.{Walk}
use Rattle.tpol_tree.specs.Bounds.{NameHasBounds, ReferenceHasBounds, OffsetHasBounds, LocalityHasBounds}

-- what holds of all that is found holds where a walk goes along
pub all_still : {A : Type 0} (P : A → Type 0) (found : Found A) (walk : Walk) → AllFound P found → AllFound (λ (f : A × Walk). P f.0) (still found walk)
all_still P (Ok x) walk all = all
all_still P (Err fault) walk all = tt {0}

-- ---- numbers, bytes, digests and Names

pub unsigned-fits : (least greatest : ℕ) (d : Data) (place : Place) → AllFound (λ n. (least ≤ n) × (n ≤ greatest)) (unsigned_in least greatest d place)
unsigned-fits least greatest d place =
    all_read (λ n. (least ≤ n) × (n ≤ greatest)) kind_of (values.unsigned_in least greatest d place) (json.unsigned-fits least greatest d place)

pub signed-fits : (d : Data) (place : Place) → AllFound IsSigned32 (signed_in d place)
signed-fits d place = all_read IsSigned32 kind_of (values.signed_in d place) (json.signed-fits d place)

pub up_to-fits : (limit : ℕ) (d : Data) (place : Place) → AllFound (FitsBytes (is_up_to limit)) (bytes_up_to limit d place)
up_to-fits limit d place = all_read (FitsBytes (is_up_to limit)) kind_of (values.bytes_up_to limit d place) (json.up_to-fits limit d place)

pub empty_or_32-fits : (d : Data) (place : Place) → AllFound (FitsBytes json.is_empty_or_32) (empty_or_32 d place)
empty_or_32-fits d place = all_read (FitsBytes json.is_empty_or_32) kind_of (values.empty_or_32 d place) (json.empty_or_32-fits d place)

pub digest-fits : (d : Data) (place : Place) → AllFound FitsDigest (digest_in d place)
digest-fits d place = all_read FitsDigest kind_of (values.digest_in d place) (json.digest-fits d place)

pub name-fits : (d : Data) (place : Place) → AllFound FitsName (name_in d place)
name-fits d place = all_read FitsName kind_of (values.name_in d place) (json.name-fits d place)

name-bounds : (name : Name) → FitsName name → NameHasBounds name
name-bounds names.Empty fits = tt {0}
name-bounds (names.Handle handle) fits = fits
name-bounds (names.Hash digest) fits = tt {0}

pub name-bounded : (d : Data) (place : Place) → AllFound NameHasBounds (name_in d place)
name-bounded d place = all_map FitsName NameHasBounds (name_in d place) (name-fits d place) name-bounds

pub full_name-bounded : (d : Data) (place : Place) → AllFound NameHasBounds (full_name_in d place)
full_name-bounded d place =
    all_then NameHasBounds NameHasBounds (name_in d place) _ (name-bounded d place)
    (λ name has. all_if NameHasBounds (is_empty_name name) (bad BadHex place) (Ok name) (λ _. tt {0}) has)

-- ---- policyRef, expiration, what is compared

abbrev pub FitsRef : List ℕ → Type 0
FitsRef policy_ref = FitsBytes (is_up_to 64) policy_ref

reference-bounds : (bytes : List ℕ) → FitsRef bytes → ReferenceHasBounds bytes
reference-bounds bytes fits = leb-true (length bytes) 64 fits.1

pub policy_ref-fits : (d : Data) (place : Place) → AllFound FitsRef (policy_ref_in d place)
unfolding policy_ref_in
policy_ref-fits d place =
    optional-fits FitsRef (bytes_up_to 64) [] (get (codes "policyRef") d) (at_member place (codes "policyRef")) (λ i. omega arith, refl) (up_to-fits 64)

pub policy_ref-bounded : (d : Data) (place : Place) → AllFound ReferenceHasBounds (policy_ref_in d place)
policy_ref-bounded d place = all_map FitsRef ReferenceHasBounds (policy_ref_in d place) (policy_ref-fits d place) reference-bounds

pub operand-fits : (d : Data) (place : Place) → AllFound FitsRef (operand_in d place)
unfolding operand_in
operand-fits d place = needed-fits FitsRef Missing (bytes_up_to 64) (get (codes "operandB") d) (at_member place (codes "operandB")) (up_to-fits 64)

pub operand-bounded : (d : Data) (place : Place) → AllFound ReferenceHasBounds (operand_in d place)
operand-bounded d place = all_map FitsRef ReferenceHasBounds (operand_in d place) (operand-fits d place) reference-bounds

abbrev pub FitsOffset : ℕ → Type 0
FitsOffset offset = (0 ≤ offset) × (offset ≤ 65535)

pub offset-fits : (d : Data) (place : Place) → AllFound FitsOffset (offset_in d place)
unfolding offset_in
offset-fits d place =
    optional-fits FitsOffset (unsigned_in 0 65535) 0 (get (codes "offset") d) (at_member place (codes "offset")) (omega arith, omega arith) (unsigned-fits 0 65535)

pub offset-bounded : (d : Data) (place : Place) → AllFound OffsetHasBounds (offset_in d place)
offset-bounded d place = all_map FitsOffset OffsetHasBounds (offset_in d place) (offset-fits d place) (λ offset fits. omega (arith, fits.1))

pub expiration-fits : (d : Data) (place : Place) → AllFound IsSigned32 (expiration_in d place)
unfolding expiration_in
expiration-fits d place =
    optional-fits IsSigned32 signed_in (pos 0) (get (codes "expiration") d) (at_member place (codes "expiration")) (record { le = tt }, record { le = tt }) signed-fits

signed-bounds : (z : ℤ) → IsSigned32 z → FitsSigned w32 z
signed-bounds (pos n) fits = record { sfits = omega (arith, leb-true n (2 ^ 31 - 1) (passed (leb n (2 ^ 31 - 1)) fits.1.le)) }
signed-bounds (negsuc n) fits = record { sfits = omega (arith, leb-true n (2 ^ 31 - 1) (passed (leb n (2 ^ 31 - 1)) fits.0.le)) }

pub expiration-bounded : (d : Data) (place : Place) → AllFound (FitsSigned w32) (expiration_in d place)
expiration-bounded d place = all_map IsSigned32 (FitsSigned w32) (expiration_in d place) (expiration-fits d place) signed-bounds

-- ---- commands

-- each of these words stands for a number that is so
abbrev pub AllWords : {A : Type 0} → (A → Type 0) → List (List ℕ × A) → Type 0
AllWords P [] = Unit {0}
AllWords P (word ∷ words) = P word.1 × AllWords P words

module _ {A : Type 0} (P : A → Type 0) where
  word_or : (same : Bool) (x : A) (later : Option A) (otherwise : Found A) → P x → AllFound P (found_or later otherwise) → AllFound P (found_or (if same then Some x else later) otherwise)
  word_or true x later otherwise is all = is
  word_or false x later otherwise is all = all

  pub words_found : (prefix text : List ℕ) (words : List (List ℕ × A)) (otherwise : Found A) → AllWords P words → AllFound P otherwise → AllFound P (found_or (find_word prefix words text) otherwise)
  unfolding find_word
  words_found prefix text [] otherwise all other = other
  words_found prefix text (word ∷ words) otherwise all other =
      word_or (same_word text prefix word.0) word.1 (find_word prefix words text) otherwise all.0 (words_found prefix text words otherwise all.1 other)

  word_in-found : (prefix : List ℕ) (words : List (List ℕ × A)) (d : Data) (otherwise : Found A) → AllWords P words → AllFound P otherwise → AllFound P (found_or (word_in prefix words d) otherwise)
  word_in-found prefix words null otherwise all other = other
  word_in-found prefix words (boolean b) otherwise all other = other
  word_in-found prefix words (number n) otherwise all other = other
  word_in-found prefix words (string s) otherwise all other = words_found prefix s words otherwise all other
  word_in-found prefix words (array ds) otherwise all other = other
  word_in-found prefix words (object ms) otherwise all other = other

-- a number of 32 bits
abbrev pub Is32 : ℕ → Type 0
Is32 n = n < 2 ^ 32

u32-fits : (d : Data) (place : Place) → AllFound Is32 (u32_in d place)
u32-fits d place = all_map (λ n. (0 ≤ n) × (n ≤ 2 ^ 32 - 1)) Is32 (u32_in d place) (unsigned-fits 0 (2 ^ 32 - 1) d place) (λ n fits. omega (arith, fits.1))

codes-fit : AllWords Is32 command_codes
codes-fit = search arith

pub code-fits : (d : Data) (place : Place) → AllFound Is32 (code_in d place)
code-fits d place = word_in-found Is32 (codes "TPM2_CC_") command_codes d (u32_in d place) codes-fit (u32-fits d place)

-- ---- localities

locality_word-fits : (d : Data) (place : Place) → AllFound LocalityHasBounds (locality_word_in d place)
locality_word-fits null place = tt {0}
locality_word-fits (boolean b) place = tt {0}
locality_word-fits (number n) place = tt {0}
locality_word-fits (string s) place = words_found LocalityHasBounds (codes "TPM2_LOC_") s localities (bad BadNumber place) (search arith) (tt {0})
locality_word-fits (array ds) place = tt {0}
locality_word-fits (object ms) place = tt {0}

-- two sets together
both : (m n : ℕ) → m ≤ 31 → LocalityHasBounds n → LocalityHasBounds (bit_or m n)
both m n below fits = (omega (arith, fits.0, le_or_r m n), omega (arith, or_lt 5 m n (omega arith) (omega (arith, fits.1))))

localities_from-fits : (set index : ℕ) (ds : Items) (place : Place) → LocalityHasBounds set → AllFound LocalityHasBounds (localities_from set index ds place)
localities_from-fits set index no_items place fits = fits
localities_from-fits set index (item d ds) place fits =
    all_then LocalityHasBounds LocalityHasBounds (locality_word_in d (at_item place index)) _ (locality_word-fits d (at_item place index))
    (λ bit is. localities_from-fits (bit_or set bit) (suc index) ds place (both set bit fits.1 is))

locality_list-fits : (ds : Items) (place : Place) → AllFound LocalityHasBounds (locality_list ds place)
locality_list-fits no_items place = tt {0}
locality_list-fits (item d ds) place =
    all_then LocalityHasBounds LocalityHasBounds (locality_word_in d (at_item place 0)) _ (locality_word-fits d (at_item place 0))
    (λ bit is. localities_from-fits (bit_or 0 bit) 1 ds place (both 0 bit (omega arith) is))

localities_or-fits : (list : Option Items) (d : Data) (place : Place) → AllFound LocalityHasBounds (localities_or list (unsigned_in 1 31 d place) place)
localities_or-fits None d place = unsigned-fits 1 31 d place
localities_or-fits (Some ds) d place = locality_list-fits ds place

pub localities-fits : (d : Data) (place : Place) → AllFound LocalityHasBounds (locality_in d place)
localities-fits d place = localities_or-fits (as_array d) d place

-- ---- masks

pcr_bit-fits : (d : Data) (place : Place) → AllFound Is32 (pcr_bit d place)
pcr_bit-fits d place =
    all_then (λ pcr. (0 ≤ pcr) × (pcr ≤ 31)) Is32 (unsigned_in 0 31 d place) _ (unsigned-fits 0 31 d place)
    (λ pcr limits. pow_below pcr 32 (omega (arith, limits.1)))

mask_from-fits : (mask index : ℕ) (ds : Items) (place : Place) → Is32 mask → AllFound Is32 (mask_from mask index ds place)
mask_from-fits mask index no_items place is = is
mask_from-fits mask index (item d ds) place is =
    all_then Is32 Is32 (pcr_bit d (at_item place index)) _ (pcr_bit-fits d (at_item place index))
    (λ bit small. mask_from-fits (bit_or mask bit) (suc index) ds place (or_lt 32 mask bit is small))

mask_of_list-fits : (list : Option Items) (place : Place) → AllFound Is32 (mask_of_list list place)
mask_of_list-fits None place = tt {0}
mask_of_list-fits (Some ds) place = mask_from-fits 0 0 ds place (omega arith)

pub mask-fits : (d : Data) (place : Place) → AllFound Is32 (mask_in d place)
mask-fits d place = mask_of_list-fits (as_array d) place

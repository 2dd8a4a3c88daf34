-- What holds of the spelling of every document: its notes and its numbers, what it leaves alone, and that a document
-- of the profile says what it said.
use Rattle.std.specs.Prelude.{◌≡◌, ◌≢◌, ℕ, ◌*◌, ◌^◌, ◌≤◌, ◌==◌, Bool, false, ◌⊎◌, List, [], ◌∷◌, ◌++◌, codes, Some, Ok}
use Rattle.std.specs.Int.{bit_at}
use Rattle.std.specs.List.{list_any}
use Rattle.std.specs.Str.{bytes_eq}
use Rattle.serde_json.specs.Data.{Data, number, string, object, unsigned, Members, no_members, member}
use Rattle.serde_json.specs.Find.{get}
use Rattle.tpol_json.specs.declared.place.Place.{Place}
use Rattle.tpol_read.specs.Documents.{policy_of}
use Rattle.tpol_tree.specs.declared.policy.Policy.{Policy}
use Rattle.tpol_adopt.specs.Edits.{edited}
use Rattle.tpol_adopt.specs.Flags.{index_types}
use Rattle.tpol_adopt.specs.Normal.{normal, normal_as}
use Rattle.tpol_adopt.specs.Rules.{Rows, rows_of}
use Rattle.tpol_adopt.specs.Words.{meaning_of_word}
use Rattle.tpol_adopt.specs.declared.edits.Edit.TheVariants.{Number}
use Rattle.tpol_adopt.specs.declared.flags.Flags.TheVariants.{OfIndex, OfObject, OfLocality}
use Rattle.tpol_adopt.specs.declared.rules.Part.{Part}

-- the items of one list stand in another, in this order
abbrev pub IsSublist : {A : Type 0} → List A → List A → Type 0
IsSublist [] ys = Unit {0}
IsSublist (x ∷ xs) [] = ⊥
IsSublist (x ∷ xs) (y ∷ ys) = ((x ≡ y) × IsSublist xs ys) ⊎ IsSublist (x ∷ xs) ys

-- A document that says a policy says the same policy in its new spelling, with some of the notes.
abbrev pub IsConservative : Type 0
IsConservative =
    (d : Data) (policy : Policy) (notes : List Place) → policy_of d ≡ Ok (policy, notes)
    → (kept : List Place) × (policy_of (normal d) ≡ Ok (policy, kept)) × IsSublist kept notes

-- a document in its new spelling has no other
abbrev pub IsIdempotent : Type 0
IsIdempotent = (d : Data) → normal (normal d) ≡ normal d

-- ---- frame

abbrev pub has_row : List ℕ → Rows → Bool
has_row name rows = list_any (λ row. bytes_eq name row.0) rows

-- A member that no row names is the same afterwards, `scheme` aside, which alone may be a new one.
abbrev pub LeavesOthers : Type 0
LeavesOthers =
    (part : Part) (d : Data) (name : List ℕ) → has_row name (rows_of part d) ≡ false → name ≢ codes "scheme"
    → get name (normal_as part d) ≡ get name d

-- ---- numbers

-- the names of flags with the positions of their bits, in the order of an object's members
abbrev pub Positions : Type 0
Positions = List (List ℕ × ℕ)

-- the attributes of an index before and after `TPM2_NT`
abbrev pub first_index_bits : Positions
first_index_bits =
    (codes "AUTHREAD", 18) ∷ (codes "AUTHWRITE", 2) ∷ (codes "CLEAR_STCLEAR", 27) ∷ (codes "GLOBALLOCK", 15)
    ∷ (codes "NO_DA", 25) ∷ (codes "ORDERLY", 26) ∷ (codes "OWNERREAD", 17) ∷ (codes "OWNERWRITE", 1)
    ∷ (codes "PLATFORMCREATE", 30) ∷ (codes "POLICYREAD", 19) ∷ (codes "POLICYWRITE", 3)
    ∷ (codes "POLICY_DELETE", 10) ∷ (codes "PPREAD", 16) ∷ (codes "PPWRITE", 0) ∷ (codes "READLOCKED", 28)
    ∷ (codes "READ_STCLEAR", 31) ∷ []

abbrev pub last_index_bits : Positions
last_index_bits =
    (codes "WRITEALL", 12) ∷ (codes "WRITEDEFINE", 13) ∷ (codes "WRITELOCKED", 11) ∷ (codes "WRITE_STCLEAR", 14)
    ∷ (codes "WRITTEN", 29) ∷ []

abbrev pub object_bits : Positions
object_bits =
    (codes "adminWithPolicy", 7) ∷ (codes "decrypt", 17) ∷ (codes "encryptedDuplication", 11)
    ∷ (codes "fixedParent", 4) ∷ (codes "fixedTPM", 1) ∷ (codes "noDA", 10) ∷ (codes "restricted", 16)
    ∷ (codes "sensitiveDataOrigin", 5) ∷ (codes "sign", 18) ∷ (codes "stClear", 2) ∷ (codes "userWithAuth", 6) ∷ []

abbrev pub locality_bits : Positions
locality_bits =
    (codes "FOUR", 4) ∷ (codes "ONE", 1) ∷ (codes "THREE", 3) ∷ (codes "TWO", 2) ∷ (codes "ZERO", 0) ∷ []

-- each flag with its bit of the number, in front of these members
abbrev pub spelled : Positions → ℕ → Members → Members
spelled [] n ms = ms
spelled (row ∷ rows) n ms = member row.0 (number (unsigned (bit_at n row.1))) (spelled rows n ms)

-- a bit at one of these positions
abbrev pub is_position : ℕ → Positions → Bool
is_position i rows = list_any (λ row. row.1 == i) rows

-- a number and another have the same bits but for those at these positions
abbrev pub SameElsewhere : Positions → ℕ → ℕ → Type 0
SameElsewhere rows n other = (i : ℕ) → is_position i rows ≡ false → bit_at n i ≡ bit_at other i

-- the attributes of an index, as FAPI writes them, with a type of this name
abbrev pub index_spelling : ℕ → List ℕ → Data
index_spelling n type =
    object (spelled first_index_bits n (member (codes "TPM2_NT") (string type) (spelled last_index_bits n no_members)))

-- FAPI's spelling of attributes becomes their number, for each number that FAPI can spell: its bits are flags, or
-- those of its type.
abbrev pub IndexNumbers : Type 0
IndexNumbers =
    (n : ℕ) (type : List ℕ) (bits : ℕ) → meaning_of_word index_types type ≡ Some bits
    → SameElsewhere (first_index_bits ++ last_index_bits) n bits
    → edited (Number OfIndex) (index_spelling n type) ≡ number (unsigned n)

abbrev pub ObjectNumbers : Type 0
ObjectNumbers =
    (n : ℕ) → SameElsewhere object_bits n 0
    → edited (Number OfObject) (object (spelled object_bits n no_members)) ≡ number (unsigned n)

-- the same of localities, where `Extended` has the bits 5 to 7
abbrev pub LocalityNumbers : Type 0
LocalityNumbers =
    (n extended : ℕ) → extended ≤ 7 → SameElsewhere locality_bits n (extended * 2 ^ 5)
    → edited (Number OfLocality) (object (member (codes "Extended") (number (unsigned extended)) (spelled locality_bits n no_members)))
    ≡ number (unsigned n)

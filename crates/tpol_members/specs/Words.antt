-- Words, which are read in any case, and most with or without a prefix.
use Rattle.std.specs.Prelude.{ℕ, List, [], ◌∷◌, codes, Option, Some, None, Ok, Bool, true, false}
use Rattle.serde_json.specs.Data.{Data}
use Rattle.tpol_base.specs.Answers.{◌>>=◌}
use Rattle.tpol_json.specs.Values.{one_word}
use Rattle.tpol_json.specs.declared.place.Place.{Place}
use Rattle.tpol_members.specs.declared.fault.PolicyKind.{PolicyKind}
use Rattle.tpol_members.specs.Faults.{Found, read_as}
use Rattle.tpol_json.specs.Reading.{bad}

-- what was found, or else what is read otherwise
abbrev pub found_or : {A : Type 0} → Option A → Found A → Found A
found_or (Some x) otherwise = Ok x
found_or None otherwise = otherwise

-- one of these words and nothing else: another text is a fault of this kind
abbrev pub only_word : {A : Type 0} → List ℕ → List (List ℕ × A) → PolicyKind → Data → Place → Found A
only_word prefix words kind d place =
    read_as (one_word prefix words d place) >>= λ meaning. found_or meaning (bad kind place)

-- localities as bits
abbrev pub localities : List (List ℕ × ℕ)
localities = (codes "ZERO", 1) ∷ (codes "ONE", 2) ∷ (codes "TWO", 4) ∷ (codes "THREE", 8) ∷ (codes "FOUR", 16) ∷ []

-- the types of objects, TPM 2.0 Part 2, TPM_ALG_ID
abbrev pub key_types : List (List ℕ × ℕ)
key_types = (codes "KEYEDHASH", 8) ∷ (codes "RSA", 1) ∷ (codes "ECC", 35) ∷ []

-- the schemes of keyed hashes: whether it is an HMAC key
abbrev pub schemes : List (List ℕ × Bool)
schemes = (codes "HMAC", true) ∷ (codes "NULL", false) ∷ []

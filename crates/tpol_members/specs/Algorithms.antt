-- Algorithms of public areas: hashes, types of keys and schemes (TPM 2.0 Part 2, TPM_ALG_ID).
use Rattle.std.specs.Prelude.{ℕ, ◌==◌, ◌||◌, [], ◌∷◌, codes, Result, Ok, Err, Bool, if◌then◌else◌, ⊤}
use Rattle.serde_json.specs.Data.{Data}
use Rattle.tpol_base.specs.Answers.{◌>>=◌}
use Rattle.tpol_json.specs.Reading.{bad}
use Rattle.tpol_json.specs.Reading as json
use Rattle.tpol_json.specs.Words.{word_in}
use Rattle.tpol_json.specs.declared.fault.Fault.{Fault}
use Rattle.tpol_json.specs.declared.place.Place.{Place}
use Rattle.tpol_members.specs.declared.fault.PolicyKind.{PolicyKind}
use Rattle.tpol_members.specs.declared.fault.PolicyKind.TheVariants.{BadNumber, UnknownType, AsymmetricKey, OtherHash}
use Rattle.tpol_members.specs.Faults.{Found}
use Rattle.tpol_members.specs.Values.{unsigned_in}
use Rattle.tpol_members.specs.Words.{found_or, only_word, key_types, schemes}

-- this kind in the place of BadNumber
abbrev pub kind_instead : PolicyKind → PolicyKind → PolicyKind
kind_instead kind BadNumber = kind
kind_instead kind other = other

-- the same of what a call answers
abbrev pub answer_instead : {A : Type 0} → PolicyKind → Result A (Fault PolicyKind) → Result A (Fault PolicyKind)
answer_instead kind (Ok x) = Ok x
answer_instead kind (Err fault) = Err (json.fault_of (kind_instead kind) fault)

-- what was found, with this kind in the place of BadNumber
abbrev pub instead : {A : Type 0} → PolicyKind → Found A → Found A
instead kind = json.read_as (kind_instead kind)

-- the number of SHA-256
abbrev pub hash_number_in : Data → Place → Found ⊤
hash_number_in d place = unsigned_in 11 11 d place >>= λ n. Ok tt

-- SHA-256, by its name or its number
abbrev pub hash_in : Data → Place → Found ⊤
hash_in d place =
    instead OtherHash (found_or (word_in (codes "TPM2_ALG_") ((codes "SHA256", tt) ∷ []) d) (hash_number_in d place))

abbrev pub keyed_hash : ℕ → Place → Found ⊤
keyed_hash n place =
    if n == 8 then Ok tt else (if n == 1 || n == 35 then bad AsymmetricKey place else bad UnknownType place)

-- the type of an object, by its name or its number
abbrev pub key_algorithm_in : Data → Place → Found ℕ
key_algorithm_in d place =
    instead UnknownType (found_or (word_in (codes "TPM2_ALG_") key_types d) (unsigned_in 0 65535 d place))

-- a keyed hash; an asymmetric key is told apart from all else
abbrev pub key_type_in : Data → Place → Found ⊤
key_type_in d place = key_algorithm_in d place >>= λ n. keyed_hash n place

-- whether the scheme is HMAC
abbrev pub scheme_in : Data → Place → Found Bool
scheme_in = only_word (codes "TPM2_ALG_") schemes BadNumber

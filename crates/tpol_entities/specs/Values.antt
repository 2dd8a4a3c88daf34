-- The values of a scene's members.
use Rattle.std.specs.Prelude.{ℕ, List, Bool, Ok, ⊤}
use Rattle.serde_json.specs.Data.{Data, Items}
use Rattle.tpol_base.specs.Answers.{◌>>=◌}
use Rattle.tpol_base.specs.TrailingZeros.{without_trailing_zeros}
use Rattle.tpol_base.specs.declared.digest.Digest32.{Digest32}
use Rattle.tpol_json.specs.Values as json
use Rattle.tpol_json.specs.declared.place.Place.{Place}
use Rattle.tpol_entities.specs.Faults.{Found, read_as}

-- an object is wanted
abbrev pub object_in : Data → Place → Found ⊤
object_in d place = read_as (json.object_in d place)

-- the items of a list
abbrev pub items_in : Data → Place → Found Items
items_in d place = read_as (json.items_in d place)

-- a text
abbrev pub text_in : Data → Place → Found (List ℕ)
text_in d place = read_as (json.text_in d place)

-- a truth value
abbrev pub truth_in : Data → Place → Found Bool
truth_in d place = read_as (json.truth_in d place)

-- a whole number that is not negative, from least to greatest
abbrev pub unsigned_in : ℕ → ℕ → Data → Place → Found ℕ
unsigned_in least greatest d place = read_as (json.unsigned_in least greatest d place)

-- a number of 32 bits
abbrev pub u32_in : Data → Place → Found ℕ
u32_in d place = read_as (json.u32_in d place)

-- at most so many bytes
abbrev pub bytes_up_to : ℕ → Data → Place → Found (List ℕ)
bytes_up_to limit d place = read_as (json.bytes_up_to limit d place)

-- no byte, or 32
abbrev pub empty_or_32 : Data → Place → Found (List ℕ)
empty_or_32 d place = read_as (json.empty_or_32 d place)

-- 32 bytes
abbrev pub digest_in : Data → Place → Found Digest32
digest_in d place = read_as (json.digest_in d place)

-- an authorization value: at most 32 bytes, and the zero bytes at their end are taken away
abbrev pub auth_in : Data → Place → Found (List ℕ)
auth_in d place = bytes_up_to 32 d place >>= λ bytes. Ok (without_trailing_zeros bytes)

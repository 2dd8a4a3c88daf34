-- The values of members, with the faults of a policy.
use Rattle.std.specs.Prelude.{ℕ, ℤ, ◌&&◌, nat_le, List, Bool, true, false, if◌then◌else◌, Ok}
use Rattle.serde_json.specs.Data.{Data, Items}
use Rattle.tpol_base.specs.Answers.{◌>>=◌}
use Rattle.tpol_base.specs.declared.digest.Digest32.{Digest32}
use Rattle.tpol_base.specs.declared.name.Name.{Name}
use Rattle.tpol_base.specs.declared.name.Name.TheVariants.{Empty, Handle, Hash}
use Rattle.tpol_json.specs.Members.{items_count}
use Rattle.tpol_json.specs.Values as json
use Rattle.tpol_json.specs.declared.place.Place.{Place}
use Rattle.tpol_members.specs.declared.fault.PolicyKind.TheVariants.{BadHex, BadNumber}
use Rattle.tpol_members.specs.Faults.{Found, read_as}
use Rattle.tpol_json.specs.Reading.{bad}

-- a text
abbrev pub text_in : Data → Place → Found (List ℕ)
text_in d place = read_as (json.text_in d place)

-- a truth value
abbrev pub truth_in : Data → Place → Found Bool
truth_in d place = read_as (json.truth_in d place)

-- a whole number that is not negative, from least to greatest
abbrev pub unsigned_in : ℕ → ℕ → Data → Place → Found ℕ
unsigned_in least greatest d place = read_as (json.unsigned_in least greatest d place)

-- a whole number of 32 bits with a sign
abbrev pub signed_in : Data → Place → Found ℤ
signed_in d place = read_as (json.signed_in d place)

-- a number of 32 bits
abbrev pub u32_in : Data → Place → Found ℕ
u32_in d place = read_as (json.u32_in d place)

-- at most so many bytes
abbrev pub bytes_up_to : ℕ → Data → Place → Found (List ℕ)
bytes_up_to limit d place = read_as (json.bytes_up_to limit d place)

-- no byte, or 32
abbrev pub empty_or_32 : Data → Place → Found (List ℕ)
empty_or_32 d place = read_as (json.empty_or_32 d place)

-- 32 bytes
abbrev pub digest_in : Data → Place → Found Digest32
digest_in d place = read_as (json.digest_in d place)

-- the bytes of a Name
abbrev pub name_in : Data → Place → Found Name
name_in d place = read_as (json.name_in d place)

abbrev pub is_empty_name : Name → Bool
is_empty_name Empty = true
is_empty_name (Handle handle) = false
is_empty_name (Hash digest) = false

-- the bytes of a Name that is not empty
abbrev pub full_name_in : Data → Place → Found Name
full_name_in d place = name_in d place >>= λ name. if is_empty_name name then bad BadHex place else Ok name

-- the items of a list
abbrev pub items_in : Data → Place → Found Items
items_in d place = read_as (json.items_in d place)

-- the items of a list of 1 to 3
abbrev pub one_to_three : Data → Place → Found Items
one_to_three d place = items_in d place >>= λ ds.
    if nat_le 1 (items_count ds) && nat_le (items_count ds) 3 then Ok ds else bad BadNumber place

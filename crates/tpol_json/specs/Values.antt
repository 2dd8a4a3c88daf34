-- The values of members: texts, truth values, numbers, bytes of certain lengths, digests and Names.
use Rattle.std.specs.Borrow.{Bor}
use Rattle.std.specs.Prelude.{ℕ, ℤ, pos, negsuc, unsigned_abs, ◌^◌, ◌-◌, ◌==◌, ◌||◌, nat_le, List, length, Option, Some, None, Bool, if◌then◌else◌, Ok, ⊤}
use Rattle.serde_json.specs.Data.{Data, Items, null, boolean, number, string, array, object}
use Rattle.tpol_base.specs.declared.digest.Digest32.{Digest32}
use Rattle.tpol_base.specs.declared.name.Name.{Name}
use Rattle.tpol_base.specs.Answers.{◌>>=◌}
use Rattle.tpol_base.specs.Digest.{digest_of_bytes}
use Rattle.tpol_base.specs.Name.{name_of_bytes}
use Rattle.tpol_json.specs.declared.fault.MemberKind.TheVariants.{WrongKind, BadHex, TooMany}
use Rattle.serde_json.specs.View.{items_view}
use Rattle.serde_json.specs.declared.value.Value.{Value}
use Rattle.tpol_json.specs.declared.place.Place.{Place}
use Rattle.tpol_json.specs.Bytes.{bytes_in}
use Rattle.tpol_json.specs.Faults.{Found, kind_of}
use Rattle.tpol_json.specs.Numbers.{number_in}
use Rattle.tpol_json.specs.Reading.{bad, read_as}
use Rattle.tpol_json.specs.Truth as json
use Rattle.tpol_json.specs.Members.{within_limit}
use Rattle.tpol_json.specs.Words.{find_word}

-- an object is wanted
abbrev pub object_in : Data → Place → Found ⊤
object_in null place = bad WrongKind place
object_in (boolean b) place = bad WrongKind place
object_in (number n) place = bad WrongKind place
object_in (string s) place = bad WrongKind place
object_in (array ds) place = bad WrongKind place
object_in (object ms) place = Ok tt

-- the items of a list
abbrev pub items_in : Data → Place → Found Items
items_in null place = bad WrongKind place
items_in (boolean b) place = bad WrongKind place
items_in (number n) place = bad WrongKind place
items_in (string s) place = bad WrongKind place
items_in (array ds) place = Ok ds
items_in (object ms) place = bad WrongKind place

-- a text
abbrev pub text_in : Data → Place → Found (List ℕ)
text_in d place = read_as kind_of (json.text_in d place)

-- a truth value
abbrev pub truth_in : Data → Place → Found Bool
truth_in d place = read_as kind_of (json.truth_in d place)

-- a whole number that is not negative, from least to greatest
abbrev pub unsigned_in : ℕ → ℕ → Data → Place → Found ℕ
unsigned_in least greatest d place = read_as kind_of (number_in (pos least) (pos greatest) d place) >>= λ n. Ok (unsigned_abs n)

-- a number of 32 bits
abbrev pub u32_in : Data → Place → Found ℕ
u32_in = unsigned_in 0 (2 ^ 32 - 1)

-- a number of 32 bits with a sign
abbrev pub signed_in : Data → Place → Found ℤ
signed_in d place = read_as kind_of (number_in (negsuc (2 ^ 31 - 1)) (pos (2 ^ 31 - 1)) d place)

-- bytes of any number
abbrev pub any_bytes : Data → Place → Found (List ℕ)
any_bytes d place = read_as kind_of (bytes_in d place)

-- at most so many bytes
abbrev pub bytes_up_to : ℕ → Data → Place → Found (List ℕ)
bytes_up_to limit d place = do
  bytes ← any_bytes d place
  if nat_le (length bytes) limit then Ok bytes else bad BadHex place

-- no byte, or 32
abbrev pub empty_or_32 : Data → Place → Found (List ℕ)
empty_or_32 d place = do
  bytes ← any_bytes d place
  if length bytes == 0 || length bytes == 32 then Ok bytes else bad BadHex place

-- 32 bytes
abbrev pub digest_in : Data → Place → Found Digest32
digest_in d place = do
  bytes ← any_bytes d place
  if length bytes == 32 then Ok (digest_of_bytes bytes) else bad BadHex place

abbrev pub name_or_bad : Option Name → Place → Found Name
name_or_bad None place = bad BadHex place
name_or_bad (Some name) place = Ok name

-- the bytes of a Name
abbrev pub name_in : Data → Place → Found Name
name_in d place = any_bytes d place >>= λ bytes. name_or_bad (name_of_bytes bytes) place

-- what one of these words stands for, in a text; other texts say nothing
abbrev pub one_word : {A : Type 0} → List ℕ → List (List ℕ × A) → Data → Place → Found (Option A)
one_word prefix words d place = text_in d place >>= λ text. Ok (find_word prefix words text)

-- an item past so many is one too many
abbrev pub is_within_limit : ℕ → ℕ → Place → Found ⊤
is_within_limit = within_limit TooMany

-- the items of the values that a call gives
abbrev pub items_of : Bor (List Value) → Items
items_of values = items_view values.now

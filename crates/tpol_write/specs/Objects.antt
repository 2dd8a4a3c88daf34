-- The values that canonical text is made of.
use Rattle.std.specs.Prelude.{ℕ, ℤ, List, [], ◌∷◌}
use Rattle.hex.specs.Hex.{encode_lower}
use Rattle.serde_json.specs.Data.{Data, number, unsigned, string, array, object, Members, no_members, put}
use Rattle.serde_json.specs.Find.{of_integer}
use Rattle.serde_json.specs.View.{items_of}

-- a member's name and value
abbrev pub Entry : Type 0
Entry = List ℕ × Data

abbrev pub with_members : List Entry → Members → Members
with_members [] found = found
with_members (entry ∷ entries) found = with_members entries (put entry.0 entry.1 found)

-- the object with these members, which stand in ascending byte order of their names
abbrev pub object_of : List Entry → Data
object_of entries = object (with_members entries no_members)

-- bytes are lower-case hexadecimal text
abbrev pub hex_text : List ℕ → Data
hex_text bytes = string (encode_lower bytes)

abbrev pub natural : ℕ → Data
natural n = number (unsigned n)

abbrev pub integer : ℤ → Data
integer n = number (of_integer n)

abbrev pub list_of : List Data → Data
list_of values = array (items_of values)

-- Objects by handle, and what a table by handle holds.
use Rattle.std.specs.Prelude.{◌≡◌, ℕ, ◌==◌, List, find, Option, All}
use Rattle.tpol_name.specs.declared.entries.ObjectEntry.{ObjectEntry}

-- the object with this handle
abbrev pub object_of : ℕ → List ObjectEntry → Option ObjectEntry
object_of handle objects = find (λ object. handle == object.handle) objects

-- an object stands under its handle
abbrev pub IsUnderHandle : ℕ × ObjectEntry → Type 0
IsUnderHandle pair = pair.0 ≡ pair.1.handle

-- each object does
abbrev pub IsByHandle : List (ℕ × ObjectEntry) → Type 0
IsByHandle entries = All IsUnderHandle entries

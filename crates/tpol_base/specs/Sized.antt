-- Sized buffers (TPM 2.0 Part 2, "TPM2B").
use Rattle.std.specs.Prelude.{ℕ, List, ◌++◌, length}
use Rattle.std.specs.Int.{to_be_bytes, w16}

-- the last two bytes of the length, the high one first, and the bytes
abbrev pub sized : List ℕ → List ℕ
sized bytes = to_be_bytes w16 (length bytes) ++ bytes

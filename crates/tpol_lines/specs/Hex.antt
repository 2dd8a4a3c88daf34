-- Bytes in hexadecimal.
use Rattle.std.specs.Prelude.{ℕ, List, [], ◌∷◌, codes, length, nat_lt, slice_range, if◌then◌else◌}
use Rattle.std.specs.Int.{to_be_bytes, w32}
use Rattle.hex.specs.Hex.{encode_lower}

-- eight digits
abbrev pub code_text : ℕ → List ℕ
code_text code = encode_lower (to_be_bytes w32 code)

-- the code of a command or of a reply: bytes 7 to 10, behind the tag and the size, whatever they say
-- (TPM 2.0 Part 1, "Command/Response Structure")
abbrev pub code_of_buffer : List ℕ → List ℕ
code_of_buffer buffer = if nat_lt (length buffer) 10 then codes "--------" else encode_lower (slice_range buffer 6 10)

-- bytes, and `-` where there are none
abbrev pub bytes_text : List ℕ → List ℕ
bytes_text [] = codes "-"
bytes_text (byte ∷ rest) = encode_lower (byte ∷ rest)

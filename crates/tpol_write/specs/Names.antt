-- The names of commands.
use Rattle.std.specs.Prelude.{ℕ, List, ◌++◌, codes, Option, Some, None}
use Rattle.std.specs.Int.{to_be_bytes, w32}
use Rattle.hex.specs.Hex.{encode_lower}
use Rattle.tpol_base.specs.CommandCode.{command_name}

-- a name (TPM 2.0 Part 2, TPM_CC), or the text of `0x` and eight digits
abbrev pub name_or_digits : Option (List ℕ) → ℕ → List ℕ
name_or_digits (Some name) code = name
name_or_digits None code = codes "0x" ++ encode_lower (to_be_bytes w32 code)

abbrev pub code_text : ℕ → List ℕ
code_text code = name_or_digits (command_name code) code

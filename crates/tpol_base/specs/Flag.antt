-- Truth values (TPM 2.0 Part 2, TPMI_YES_NO).
use Rattle.std.specs.Prelude.{ℕ, Bool, true, false}

-- the byte of a truth value
abbrev pub yes_no : Bool → ℕ
yes_no true = 1
yes_no false = 0

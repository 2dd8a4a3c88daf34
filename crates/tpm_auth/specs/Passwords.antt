-- Passwords (TPM 2.0 Part 1, "Authorization Values and Trailing Zeros").
use Rattle.std.specs.Prelude.{ℕ, Bool, List}
use Rattle.std.specs.Str.{bytes_eq}
use Rattle.tpol_base.specs.TrailingZeros.{without_trailing_zeros}

-- whether a value that was given is the authorization value
abbrev pub is_password : List ℕ → List ℕ → Bool
is_password auth given = bytes_eq (without_trailing_zeros auth) (without_trailing_zeros given)

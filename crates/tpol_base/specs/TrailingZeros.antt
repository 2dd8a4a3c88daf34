-- Zero bytes at the end of authorization values (TPM 2.0 Part 1, "Authorization Values and Trailing Zeros").
use Rattle.std.specs.Prelude.{ℕ, ◌-◌, List, length, take, nat_eq}
use Rattle.std.specs.List.{suffix_len}

-- bytes without the zero bytes at their end
unfoldable pub without_trailing_zeros : List ℕ → List ℕ
without_trailing_zeros bytes = take (length bytes - suffix_len (nat_eq 0) bytes) bytes

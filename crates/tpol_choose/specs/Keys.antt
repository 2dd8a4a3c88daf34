-- HMAC keys, judged without an HMAC (FIPS 198-1): two keys give the same HMACs where their blocks are one.
use Rattle.std.specs.Prelude.{ℕ, Bool, List}
use Rattle.std.specs.Str.{bytes_eq}
use Rattle.tpol_hash.specs.Hmac.{block_key}

-- whether two keys have the same block
abbrev pub is_same_block : List ℕ → List ℕ → Bool
is_same_block a b = bytes_eq (block_key a) (block_key b)

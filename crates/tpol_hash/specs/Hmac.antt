-- HMAC over SHA-256 (FIPS 198-1, section 4). Its block is 64 bytes.
use Rattle.std.specs.Prelude.{ℕ, ◌-◌, List, ◌++◌, length, map, replicate, bit_xor, nat_lt, if◌then◌else◌}
use Rattle.sha2.specs.Sha256.{sha256}
use Rattle.tpol_base.specs.declared.digest.Digest32.{Digest32}
use Rattle.tpol_hash.specs.Sha256.{sha256_digest}

-- a key of at most one block; a longer one is hashed
abbrev pub short_key : List ℕ → List ℕ
short_key key = if nat_lt 64 (length key) then sha256 key else key

-- K0: the key with zero bytes behind it, up to one block
abbrev pub block_key : List ℕ → List ℕ
block_key key = short_key key ++ replicate (64 - length (short_key key)) 0

-- K0 with each byte added to a pad's byte without carry
abbrev pub padded_key : List ℕ → ℕ → List ℕ
padded_key key pad = map (λ byte. bit_xor byte pad) (block_key key)

-- H((K0 xor opad) || H((K0 xor ipad) || text)), where ipad is the byte 0x36 and opad the byte 0x5c
abbrev pub hmac_sha256 : List ℕ → List ℕ → Digest32
hmac_sha256 key text =
    sha256_digest (padded_key key 0x5c ++ sha256 (padded_key key 0x36 ++ text))

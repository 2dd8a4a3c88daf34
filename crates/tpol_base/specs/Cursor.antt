-- What a cursor takes from the bytes that are left.
use Rattle.std.specs.Prelude.{◌≡◌, ◌<◌, ◌≤◌, ℕ, List, length, take, drop, Option, Some, None}
use Rattle.std.specs.Int.{Width, byte_len, from_be_bytes}

-- the big-endian number at the front and the bytes behind it; none exactly where too few bytes are left, and then the same bytes are left
abbrev pub NumberTaken : Width → List ℕ → List ℕ → Option ℕ → Type 0
NumberTaken w old new None = (length old < byte_len w) × (new ≡ old)
NumberTaken w old new (Some n) = (byte_len w ≤ length old) × (n ≡ from_be_bytes w (take (byte_len w) old)) × (new ≡ drop (byte_len w) old)

-- The kinds of fields on the wire: what a field holds, its spelling, its bounds, and how it is read from the front of bytes.
-- Numbers are big-endian. A 2B is a length of two bytes and that many bytes.
use Rattle.std.specs.Prelude.{◌<◌, ◌≤◌, ◌+◌, ◌*◌, ◌^◌, ◌==◌, ◌&&◌, ◌||◌, ℕ, ℤ, zero, suc, Bool, true, IsTrue, List, [], ◌∷◌, ◌++◌, length, take, drop, slice_index, Option, Some, None, Result, Ok, Err, nat_lt, nat_le, if◌then◌else◌, FitsSigned}
use Rattle.std.specs.Int.{Width, w8, w16, w32, w64, byte_len, from_be_bytes, to_be_bytes, bytes_low_first, cast_signed, cast_unsigned}
use Rattle.std.specs.List.{flat_map}
use Rattle.tpol_base.specs.declared.compare.Compare.{Compare}
use Rattle.tpol_base.specs.declared.digest.Digest32.{Digest32}
use Rattle.tpol_base.specs.declared.name.Name.{Name}
use Rattle.tpol_base.specs.declared.name.Name.TheVariants as names
use Rattle.tpol_base.specs.Compare.{number_of_compare, compare_of_number}
use Rattle.tpol_base.specs.Digest.{digest_of_bytes}
pub use Rattle.tpol_base.specs.Digest.{optional_bytes}
use Rattle.tpol_base.specs.Flag.{yes_no}
use Rattle.tpol_base.specs.Handle.{rh_null, rh_owner}
use Rattle.tpol_base.specs.Name.{name_bytes, name_of_bytes}
pub use Rattle.tpol_base.specs.Sized.{sized}
use Rattle.tpol_fields.specs.declared.ticket.Ticket.{Ticket}
use Rattle.tpol_base.specs.Answers.{◌>>=◌}
use Rattle.tpol_base.specs.ResponseCode.{rc_value, rc_size, rc_insufficient}

pub data Kind : Type 0 where
  -- no bytes
  Nothing : Kind
  -- a number of this width that passes the test; any other is refused with the code
  Number : Width → (ℕ → Bool) → ℕ → Kind
  -- a signed number of 32 bits
  Signed : Kind
  -- one byte, 0x00 or 0x01 (TPMI_YES_NO)
  Truth : Kind
  -- the number of a comparison, in two bytes
  Operation : Kind
  -- 32 bytes
  Digest : Kind
  -- three bytes with bit n mod 8 of byte n / 8 for PCR n
  Mask : Kind
  -- a 2B of at most so many bytes
  Sized : ℕ → Kind
  -- a 2B of 0 or 32 bytes
  Optional : Kind
  -- a 2B of the bytes of a Name
  Named : Kind
  -- tag, hierarchy and a 2B of at most 64 bytes
  Ticketed : Kind
  -- a 2B of 0 or 8 bytes, and a ticket of this tag that goes with it
  TimedTicket : ℕ → Kind
  -- a count of four bytes, from a least to a greatest number, and that many 2Bs of 32 bytes
  Digests : ℕ → ℕ → Kind
  -- a number that is fixed, any other being refused with the code, and a field behind it
  Behind : Width → ℕ → ℕ → Kind → Kind
  -- two fields that count as one parameter
  Together : Kind → Kind → Kind

-- what a field holds
abbrev pub ValueOf : Kind → Type 0
ValueOf Nothing = Unit {0}
ValueOf (Number w test code) = ℕ
ValueOf Signed = ℤ
ValueOf Truth = Bool
ValueOf Operation = Compare
ValueOf Digest = Digest32
ValueOf Mask = ℕ
ValueOf (Sized most) = List ℕ
ValueOf Optional = Option Digest32
ValueOf Named = Name
ValueOf Ticketed = Ticket
ValueOf (TimedTicket tag) = Option ℕ × Ticket
ValueOf (Digests least most) = List Digest32
ValueOf (Behind w n code kind) = ValueOf kind
ValueOf (Together first second) = ValueOf first × ValueOf second

-- ---- spellings

-- the bytes of a deadline, where there is one
abbrev pub timeout_bytes : Option ℕ → List ℕ
timeout_bytes None = []
timeout_bytes (Some deadline) = to_be_bytes w64 deadline

abbrev pub ticket_bytes : Ticket → List ℕ
ticket_bytes ticket = to_be_bytes w16 ticket.tag ++ to_be_bytes w32 ticket.hierarchy ++ sized ticket.digest

unfoldable pub spell : (kind : Kind) → ValueOf kind → List ℕ
spell Nothing v = []
spell (Number w test code) n = to_be_bytes w n
spell Signed z = to_be_bytes w32 (cast_unsigned w32 z)
spell Truth b = yes_no b ∷ []
spell Operation operation = to_be_bytes w16 (number_of_compare operation)
spell Digest digest = digest.bytes
spell Mask mask = bytes_low_first 0 3 mask
spell (Sized most) bytes = sized bytes
spell Optional given = sized (optional_bytes given)
spell Named name = sized (name_bytes name)
spell Ticketed ticket = ticket_bytes ticket
spell (TimedTicket tag) v = sized (timeout_bytes v.0) ++ ticket_bytes v.1
spell (Digests least most) digests = to_be_bytes w32 (length digests) ++ flat_map (λ digest. sized digest.bytes) digests
spell (Behind w n code kind) v = to_be_bytes w n ++ spell kind v
spell (Together first second) v = spell first v.0 ++ spell second v.1

-- ---- bounds

-- the first number that is too great for a width
abbrev pub limit : Width → ℕ
limit w = 2 ^ (8 * byte_len w)

abbrev pub NameFits : Name → Type 0
NameFits names.Empty = Unit {0}
NameFits (names.Handle handle) = handle < 2 ^ 32
NameFits (names.Hash digest) = Unit {0}

pub record TicketFits (ticket : Ticket) : Type 0 where
  pub tag : ticket.tag < 2 ^ 16
  pub hierarchy : ticket.hierarchy < 2 ^ 32
  pub digest : length ticket.digest ≤ 64

-- with a deadline the ticket is of the owner hierarchy and has 32 bytes, without one of the null hierarchy and has none
abbrev pub goes_with : Option ℕ → Ticket → Bool
goes_with None ticket = ticket.hierarchy == rh_null && length ticket.digest == 0
goes_with (Some deadline) ticket = ticket.hierarchy == rh_owner && length ticket.digest == 32

abbrev pub TimeoutFits : Option ℕ → Type 0
TimeoutFits None = Unit {0}
TimeoutFits (Some deadline) = deadline < 2 ^ 64

unfoldable pub Fits : (kind : Kind) → ValueOf kind → Type 0
Fits Nothing v = Unit {0}
Fits (Number w test code) n = (n < limit w) × IsTrue (test n)
Fits Signed z = FitsSigned w32 z
Fits Truth b = Unit {0}
Fits Operation operation = Unit {0}
Fits Digest digest = Unit {0}
Fits Mask mask = mask < 2 ^ 24
Fits (Sized most) bytes = length bytes ≤ most
Fits Optional given = Unit {0}
Fits Named name = NameFits name
Fits Ticketed ticket = TicketFits ticket
Fits (TimedTicket tag) v = TimeoutFits v.0 × TicketFits v.1 × IsTrue (v.1.tag == tag && goes_with v.0 v.1)
Fits (Digests least most) digests = (least ≤ length digests) × (length digests ≤ most)
Fits (Behind w n code kind) v = Fits kind v
Fits (Together first second) v = Fits first v.0 × Fits second v.1

-- ---- reading

-- Each reading adds the field's position to the code of a refusal.
-- a number at the front
abbrev pub number_at : ℕ → Width → List ℕ → Result (ℕ × List ℕ) ℕ
number_at position w bytes = if nat_lt (length bytes) (byte_len w) then Err (rc_insufficient + position) else Ok (from_be_bytes w (take (byte_len w) bytes), drop (byte_len w) bytes)

-- so many bytes at the front
abbrev pub bytes_at : ℕ → ℕ → List ℕ → Result (List ℕ × List ℕ) ℕ
bytes_at position n bytes = if nat_lt (length bytes) n then Err (rc_insufficient + position) else Ok (take n bytes, drop n bytes)

-- a 2B whose length passes a test
unfoldable pub sized_at : ℕ → (ℕ → Bool) → List ℕ → Result (List ℕ × List ℕ) ℕ
sized_at position test bytes = do
  n ← number_at position w16 bytes
  if test n.0 then bytes_at position n.0 n.1 else Err (rc_size + position)

-- the lengths of 2Bs
abbrev pub is_any_length : ℕ → Bool
is_any_length n = true

abbrev pub is_digest_length : ℕ → Bool
is_digest_length n = n == 32

abbrev pub is_optional_length : ℕ → Bool
is_optional_length n = n == 0 || n == 32

-- the digest that a 2B of 0 or 32 bytes holds
abbrev pub optional_of_bytes : List ℕ → Option Digest32
optional_of_bytes bytes = if length bytes == 0 then None else Some (digest_of_bytes bytes)

abbrev pub is_timeout_length : ℕ → Bool
is_timeout_length n = n == 0 || n == 8

-- the deadline that a 2B of 0 or 8 bytes holds
abbrev pub timeout_of_bytes : List ℕ → Option ℕ
timeout_of_bytes bytes = if length bytes == 0 then None else Some (from_be_bytes w64 bytes)

-- the mask that three bytes hold
abbrev pub mask_of_bytes : List ℕ → ℕ
mask_of_bytes bytes = slice_index bytes 0 + 256 * slice_index bytes 1 + 65536 * slice_index bytes 2

-- the value, or a refusal where there is none
abbrev pub or_refused : {A : Type 0} → Option A → ℕ → List ℕ → Result (A × List ℕ) ℕ
or_refused None code rest = Err code
or_refused (Some x) code rest = Ok (x, rest)

-- a 2B of 32 bytes
unfoldable pub listed_digest : ℕ → List ℕ → Result (Digest32 × List ℕ) ℕ
listed_digest position bytes = do
  taken ← sized_at position is_digest_length bytes
  Ok (digest_of_bytes taken.0, taken.1)

-- so many of them
unfoldable pub digests_at : ℕ → ℕ → List ℕ → Result (List Digest32 × List ℕ) ℕ
digests_at position zero bytes = Ok ([], bytes)
digests_at position (suc n) bytes = do
  first ← listed_digest position bytes
  others ← digests_at position n first.1
  Ok (first.0 ∷ others.0, others.1)

-- tag, hierarchy and a 2B of at most 64 bytes
unfoldable pub ticket_at : ℕ → List ℕ → Result (Ticket × List ℕ) ℕ
ticket_at position bytes = do
  tag ← number_at position w16 bytes
  hierarchy ← number_at position w32 tag.1
  digest ← sized_at position (λ n. nat_le n 64) hierarchy.1
  Ok (record { tag = tag.0; hierarchy = hierarchy.0; digest = digest.0 }, digest.1)

-- a 2B of 0 or 8 bytes
unfoldable pub timeout_at : ℕ → List ℕ → Result (Option ℕ × List ℕ) ℕ
timeout_at position bytes = do
  taken ← sized_at position is_timeout_length bytes
  Ok (timeout_of_bytes taken.0, taken.1)

unfoldable pub read : ℕ → (kind : Kind) → List ℕ → Result (ValueOf kind × List ℕ) ℕ
read position Nothing bytes = Ok (tt, bytes)
read position (Number w test code) bytes = do
  n ← number_at position w bytes
  if test n.0 then Ok n else Err (code + position)
read position Signed bytes = do
  n ← number_at position w32 bytes
  Ok (cast_signed w32 n.0, n.1)
read position Truth bytes = do
  n ← number_at position w8 bytes
  if nat_lt n.0 2 then Ok (n.0 == 1, n.1) else Err (rc_value + position)
read position Operation bytes = do
  n ← number_at position w16 bytes
  or_refused (compare_of_number n.0) (rc_value + position) n.1
read position Digest bytes = do
  taken ← bytes_at position 32 bytes
  Ok (digest_of_bytes taken.0, taken.1)
read position Mask bytes = do
  taken ← bytes_at position 3 bytes
  Ok (mask_of_bytes taken.0, taken.1)
read position (Sized most) bytes = sized_at position (λ n. nat_le n most) bytes
read position Optional bytes = do
  taken ← sized_at position is_optional_length bytes
  Ok (optional_of_bytes taken.0, taken.1)
read position Named bytes = do
  taken ← sized_at position is_any_length bytes
  or_refused (name_of_bytes taken.0) (rc_size + position) taken.1
read position Ticketed bytes = ticket_at position bytes
read position (TimedTicket tag) bytes = do
  timeout ← timeout_at position bytes
  ticket ← ticket_at position timeout.1
  if ticket.0.tag == tag && goes_with timeout.0 ticket.0 then Ok ((timeout.0, ticket.0), ticket.1) else Err (rc_value + position)
read position (Digests least most) bytes = do
  n ← number_at position w32 bytes
  if nat_le least n.0 && nat_le n.0 most then digests_at position n.0 n.1 else Err (rc_size + position)
read position (Behind w n code kind) bytes = do
  found ← number_at position w bytes
  if found.0 == n then read position kind found.1 else Err (code + position)
read position (Together first second) bytes = do
  a ← read position first bytes
  b ← read position second a.1
  Ok ((a.0, b.0), b.1)

-- The rules of fields by the places where they stand: what is asked of the bytes at a place, in what order, and with what
-- code a field is refused (TPM 2.0 Part 2, "Response Code Formats"). Nothing is read here: each rule looks at the whole buffer.
-- A place is counted from 0. A position is what the code of a refusal is raised by: 0x100n of handle n, 0x040 + 0x100n of parameter n.
use Rattle.std.specs.Prelude.{◌+◌, ◌*◌, ◌==◌, ◌&&◌, ℕ, zero, suc, Bool, List, [], ◌∷◌, ◌++◌, length, take, drop, nat_lt, nat_le, Option, Some, None, if◌then◌else◌}
use Rattle.std.specs.Int.{Width, w8, w16, w32, byte_len, from_be_bytes}
use Rattle.std.specs.Option.{is_some}
use Rattle.tpol_base.specs.Compare.{compare_of_number}
use Rattle.tpol_base.specs.Name.{name_of_bytes}
use Rattle.tpol_base.specs.ResponseCode.{rc_value, rc_size, rc_insufficient}
use Rattle.tpol_fields.specs.declared.ticket.Ticket.{Ticket}
use Rattle.tpol_fields.specs.Kinds.{Kind, Nothing, Number, Signed, Truth, Operation, Digest, Mask, Sized, Optional, Named, Ticketed, TimedTicket, Digests, Behind, Together, goes_with, is_any_length, is_digest_length, is_optional_length, is_timeout_length, timeout_of_bytes}

-- ---- rules

-- whether it holds, and the code of its being broken
pub record Rule : Type 0 where
  pub holds : Bool
  pub code : ℕ

abbrev pub rule : Bool → ℕ → Rule
rule holds code = record { holds = holds; code = code }

-- the code of the first rule that is broken
abbrev pub first_broken : List Rule → Option ℕ
first_broken [] = None
first_broken (first ∷ rules) = if first.holds then first_broken rules else Some first.code

-- ---- places

-- so many bytes from a place on
abbrev pub bytes_in : ℕ → ℕ → List ℕ → List ℕ
bytes_in place n bytes = take n (drop place bytes)

-- the number at a place
abbrev pub number_in : Width → ℕ → List ℕ → ℕ
number_in w place bytes = from_be_bytes w (bytes_in place (byte_len w) bytes)

-- the ticket at a place: tag, hierarchy and a 2B
abbrev pub ticket_in : ℕ → List ℕ → Ticket
ticket_in place bytes = record {
  tag = number_in w16 place bytes;
  hierarchy = number_in w32 (place + 2) bytes;
  digest = bytes_in (place + 2 + 4 + 2) (number_in w16 (place + 2 + 4) bytes) bytes;
}

-- the place behind a 2B, by its length
abbrev pub place_behind_sized : ℕ → List ℕ → ℕ
place_behind_sized place bytes = place + 2 + number_in w16 place bytes

-- the place behind a field, by the lengths and counts in it
unfoldable pub place_behind : Kind → ℕ → List ℕ → ℕ
place_behind Nothing place bytes = place
place_behind (Number w test code) place bytes = place + byte_len w
place_behind Signed place bytes = place + 4
place_behind Truth place bytes = place + 1
place_behind Operation place bytes = place + 2
place_behind Digest place bytes = place + 32
place_behind Mask place bytes = place + 3
place_behind (Sized most) place bytes = place_behind_sized place bytes
place_behind Optional place bytes = place_behind_sized place bytes
place_behind Named place bytes = place_behind_sized place bytes
place_behind Ticketed place bytes = place_behind_sized (place + 2 + 4) bytes
place_behind (TimedTicket tag) place bytes = place_behind_sized (place_behind_sized place bytes + 2 + 4) bytes
place_behind (Digests least most) place bytes = place + 4 + 34 * number_in w32 place bytes
place_behind (Behind w n code kind) place bytes = place_behind kind (place + byte_len w) bytes
place_behind (Together first second) place bytes = place_behind second (place_behind first place bytes) bytes

-- ---- the rules of each kind of field

-- so many bytes stand at a place
abbrev pub there : ℕ → ℕ → ℕ → List ℕ → Rule
there position place n bytes = rule (nat_le (place + n) (length bytes)) (rc_insufficient + position)

-- a 2B: its length is there and passes the test, and so many bytes are there
abbrev pub sized_rules : ℕ → (ℕ → Bool) → ℕ → List ℕ → List Rule
sized_rules position test place bytes =
    there position place 2 bytes
    ∷ rule (test (number_in w16 place bytes)) (rc_size + position)
    ∷ there position (place + 2) (number_in w16 place bytes) bytes
    ∷ []

-- so many 2Bs of 32 bytes
unfoldable pub listed_rules : ℕ → ℕ → ℕ → List ℕ → List Rule
listed_rules position zero place bytes = []
listed_rules position (suc n) place bytes = sized_rules position is_digest_length place bytes ++ listed_rules position n (place + 34) bytes

-- a ticket
abbrev pub ticket_rules : ℕ → ℕ → List ℕ → List Rule
ticket_rules position place bytes =
    there position place 2 bytes
    ∷ there position (place + 2) 4 bytes
    ∷ sized_rules position (λ n. nat_le n 64) (place + 2 + 4) bytes

-- the deadline and the ticket at these places go together, and the ticket has this tag
abbrev pub are_together : ℕ → ℕ → ℕ → List ℕ → Bool
are_together tag deadline ticket bytes =
    number_in w16 ticket bytes == tag
    && goes_with (timeout_of_bytes (bytes_in (deadline + 2) (number_in w16 deadline bytes) bytes)) (ticket_in ticket bytes)

-- what is asked of a field at a place, in order
unfoldable pub field_rules : ℕ → Kind → ℕ → List ℕ → List Rule
field_rules position Nothing place bytes = []
field_rules position (Number w test code) place bytes =
    there position place (byte_len w) bytes ∷ rule (test (number_in w place bytes)) (code + position) ∷ []
field_rules position Signed place bytes = there position place 4 bytes ∷ []
field_rules position Truth place bytes =
    there position place 1 bytes ∷ rule (nat_lt (number_in w8 place bytes) 2) (rc_value + position) ∷ []
field_rules position Operation place bytes =
    there position place 2 bytes ∷ rule (is_some (compare_of_number (number_in w16 place bytes))) (rc_value + position) ∷ []
field_rules position Digest place bytes = there position place 32 bytes ∷ []
field_rules position Mask place bytes = there position place 3 bytes ∷ []
field_rules position (Sized most) place bytes = sized_rules position (λ n. nat_le n most) place bytes
field_rules position Optional place bytes = sized_rules position is_optional_length place bytes
field_rules position Named place bytes =
    sized_rules position is_any_length place bytes
    ++ rule (is_some (name_of_bytes (bytes_in (place + 2) (number_in w16 place bytes) bytes))) (rc_size + position)
    ∷ []
field_rules position Ticketed place bytes = ticket_rules position place bytes
field_rules position (TimedTicket tag) place bytes =
    sized_rules position is_timeout_length place bytes
    ++ ticket_rules position (place_behind_sized place bytes) bytes
    ++ rule (are_together tag place (place_behind_sized place bytes) bytes) (rc_value + position)
    ∷ []
field_rules position (Digests least most) place bytes =
    there position place 4 bytes
    ∷ rule (nat_le least (number_in w32 place bytes) && nat_le (number_in w32 place bytes) most) (rc_size + position)
    ∷ listed_rules position (number_in w32 place bytes) (place + 4) bytes
field_rules position (Behind w n code kind) place bytes =
    there position place (byte_len w) bytes
    ∷ rule (number_in w place bytes == n) (code + position)
    ∷ field_rules position kind (place + byte_len w) bytes
field_rules position (Together first second) place bytes =
    field_rules position first place bytes ++ field_rules position second (place_behind first place bytes) bytes

-- ---- fields one after the other

-- the place behind all of them
unfoldable pub place_behind_all : List Kind → ℕ → List ℕ → ℕ
place_behind_all [] place bytes = place
place_behind_all (kind ∷ kinds) place bytes = place_behind_all kinds (place_behind kind place bytes) bytes

-- what is asked of them, of which the first has this position; that of each is 0x100 more than that of the one before
unfoldable pub fields_rules : ℕ → List Kind → ℕ → List ℕ → List Rule
fields_rules position [] place bytes = []
fields_rules position (kind ∷ kinds) place bytes =
    field_rules position kind place bytes ++ fields_rules (position + 0x100) kinds (place_behind kind place bytes) bytes

-- Each code by which bytes are refused that spell no command has 32 bits, and none is 0.
use Rattle.std.proofs.Common.{◌≡◌, ◌≤◌, ℕ, zero, suc, ◌+◌, ◌*◌, ◌==◌, ◌&&◌, ◌||◌, Bool, true, false, not, if◌then◌else◌, nat_le, nat_lt, drop, length, List, [], ◌∷◌, Option, Some, None, Result, Ok, Err, refl, arith}
use Rattle.std.specs.Prelude.{IfErr}
use Rattle.std.specs.Int.{Width, w8, w16, w32}
use Rattle.std.proofs.lemmas.Bool.{leb-true}
use Rattle.tpol_base.specs.Answers.{◌>>=◌}
use Rattle.tpol_base.specs.CommandCode.{code_of_number}
use Rattle.tpol_base.specs.Compare.{compare_of_number}
use Rattle.tpol_base.specs.Name.{name_of_bytes}
use Rattle.tpol_base.specs.ResponseCode.{of_handle, of_parameter, of_session, rc_attributes, rc_auth_context, rc_auth_missing, rc_authsize, rc_bad_tag, rc_command_code, rc_command_size, rc_insufficient, rc_nonce, rc_size, rc_value}
use Rattle.tpol_base.specs.declared.command_code.CommandCode.{CommandCode}
use Rattle.tpol_base.specs.declared.command_code.CommandCode.TheVariants as codes
use Rattle.tpol_fields.specs.Kinds.{Behind, Digest, Digests, Kind, Mask, Named, Nothing, Number, Operation, Optional, Signed, Sized, Ticketed, TimedTicket, Together, Truth, bytes_at, digests_at, is_any_length, is_digest_length, is_optional_length, is_timeout_length, listed_digest, number_at, or_refused, read, sized_at, ticket_at, timeout_at}
use Rattle.tpol_wire.specs.Answers.{with_code}
use Rattle.tpol_wire.specs.Authorizations.{area_at, authorization_at, judged, no_area, sized_area}
use Rattle.tpol_wire.specs.declared.auth_area.AuthArea.{AuthArea}
use Rattle.tpol_wire.specs.Commands.{tag}
use Rattle.tpol_wire.specs.FieldRules.{number_in}
use Rattle.tpol_wire.specs.Reading.{body_at, front_at, header_of, known, reading, values_at}
use Rattle.tpol_wire.specs.Rows.{row}
use Rattle.tpol_laws.proofs.Codes.{IsCode, and-both, coded}

-- ---- steps

record HasNoOther {A : Type 0} (result : Result A ℕ) : Type 0 where
  pub only : IfErr result IsCode

fine : {A : Type 0} {x : A} → HasNoOther (Ok x)
fine = record { only = tt }

refused : {A : Type 0} (n : ℕ) → IsCode n → HasNoOther {A = A} (Err n)
refused n is = record { only = is }

code-then : {A B : Type 0} (first : Result A ℕ) (next : A → Result B ℕ) → HasNoOther first → ((x : A) → HasNoOther (next x)) → HasNoOther (first >>= next)
code-then (Ok x) next one other = other x
code-then (Err n) next one other = record { only = one.only }

code-if : {A : Type 0} (b : Bool) (first rest : Result A ℕ) → HasNoOther first → HasNoOther rest → HasNoOther (if b then first else rest)
code-if true first rest one other = one
code-if false first rest one other = other

-- ---- fields

-- a position of a field, as it is added to a code
record IsPlace (position : ℕ) : Type 0 where
  pub least : 1 ≤ position
  pub most : position ≤ 65536

placed : (n position : ℕ) → n ≤ 65536 → IsPlace position → IsCode (n + position)
placed n position small at =
    let least : 1 ≤ position = at.least in
    let most : position ≤ 65536 = at.most in
    record { fails = λ zero. absurd (omega (arith, least, zero)); fits = omega (arith, small, most) }

number-code : (position : ℕ) (w : Width) (bytes : List ℕ) → IsPlace position → HasNoOther (number_at position w bytes)
number-code position w bytes at = code-if _ _ _ (refused _ (placed rc_insufficient position (omega arith) at)) fine

bytes-code : (position n : ℕ) (bytes : List ℕ) → IsPlace position → HasNoOther (bytes_at position n bytes)
bytes-code position n bytes at = code-if _ _ _ (refused _ (placed rc_insufficient position (omega arith) at)) fine

sized-code : (position : ℕ) (test : ℕ → Bool) (bytes : List ℕ) → IsPlace position → HasNoOther (sized_at position test bytes)
unfolding sized_at
sized-code position test bytes at =
    code-then (number_at position w16 bytes) _ (number-code position w16 bytes at)
    (λ n. code-if (test n.0) _ _ (bytes-code position n.0 n.1 at) (refused _ (placed rc_size position (omega arith) at)))

refused-code : {A : Type 0} (found : Option A) (n : ℕ) (rest : List ℕ) → IsCode n → HasNoOther (or_refused found n rest)
refused-code None n rest is = refused n is
refused-code (Some x) n rest is = fine

listed-code : (position : ℕ) (bytes : List ℕ) → IsPlace position → HasNoOther (listed_digest position bytes)
unfolding listed_digest
listed-code position bytes at = code-then (sized_at position is_digest_length bytes) _ (sized-code position is_digest_length bytes at) (λ taken. fine)

digests-code : (position n : ℕ) (bytes : List ℕ) → IsPlace position → HasNoOther (digests_at position n bytes)
unfolding digests_at
digests-code position zero bytes at = fine
digests-code position (suc n) bytes at =
    code-then (listed_digest position bytes) _ (listed-code position bytes at)
    (λ first. code-then (digests_at position n first.1) _ (digests-code position n first.1 at) (λ others. fine))

ticket-code : (position : ℕ) (bytes : List ℕ) → IsPlace position → HasNoOther (ticket_at position bytes)
unfolding ticket_at
ticket-code position bytes at =
    code-then (number_at position w16 bytes) _ (number-code position w16 bytes at)
    (λ found. code-then (number_at position w32 found.1) _ (number-code position w32 found.1 at)
    (λ hierarchy. code-then (sized_at position (λ n. nat_le n 64) hierarchy.1) _ (sized-code position (λ n. nat_le n 64) hierarchy.1 at) (λ digest. fine)))

timeout-code : (position : ℕ) (bytes : List ℕ) → IsPlace position → HasNoOther (timeout_at position bytes)
unfolding timeout_at
timeout-code position bytes at = code-then (sized_at position is_timeout_length bytes) _ (sized-code position is_timeout_length bytes at) (λ taken. fine)

-- the codes of a kind of field are small
abbrev is_small : Kind → Bool
is_small (Number w test n) = nat_le n 65536
is_small (Behind w n other kind) = nat_le other 65536 && is_small kind
is_small (Together first second) = is_small first && is_small second
is_small kind = true

read-code : (position : ℕ) (kind : Kind) (bytes : List ℕ) → is_small kind ≡ true → IsPlace position → HasNoOther (read position kind bytes)
unfolding read
read-code position Nothing bytes small at = fine
read-code position (Number w test n) bytes small at =
    code-then (number_at position w bytes) _ (number-code position w bytes at)
    (λ found. code-if (test found.0) _ _ fine (refused _ (placed n position (leb-true n 65536 small) at)))
read-code position Signed bytes small at = code-then (number_at position w32 bytes) _ (number-code position w32 bytes at) (λ n. fine)
read-code position Truth bytes small at =
    code-then (number_at position w8 bytes) _ (number-code position w8 bytes at) (λ n. code-if (nat_lt n.0 2) _ _ fine (refused _ (placed rc_value position (omega arith) at)))
read-code position Operation bytes small at =
    code-then (number_at position w16 bytes) _ (number-code position w16 bytes at)
    (λ n. refused-code (compare_of_number n.0) (rc_value + position) n.1 (placed rc_value position (omega arith) at))
read-code position Digest bytes small at = code-then (bytes_at position 32 bytes) _ (bytes-code position 32 bytes at) (λ taken. fine)
read-code position Mask bytes small at = code-then (bytes_at position 3 bytes) _ (bytes-code position 3 bytes at) (λ taken. fine)
read-code position (Sized most) bytes small at = sized-code position (λ n. nat_le n most) bytes at
read-code position Optional bytes small at = code-then (sized_at position is_optional_length bytes) _ (sized-code position is_optional_length bytes at) (λ taken. fine)
read-code position Named bytes small at =
    code-then (sized_at position is_any_length bytes) _ (sized-code position is_any_length bytes at)
    (λ taken. refused-code (name_of_bytes taken.0) (rc_size + position) taken.1 (placed rc_size position (omega arith) at))
read-code position Ticketed bytes small at = ticket-code position bytes at
read-code position (TimedTicket number) bytes small at =
    code-then (timeout_at position bytes) _ (timeout-code position bytes at)
    (λ timeout. code-then (ticket_at position timeout.1) _ (ticket-code position timeout.1 at) (λ ticket. code-if _ _ _ fine (refused _ (placed rc_value position (omega arith) at))))
read-code position (Digests least most) bytes small at =
    code-then (number_at position w32 bytes) _ (number-code position w32 bytes at)
    (λ n. code-if _ _ _ (digests-code position n.0 n.1 at) (refused _ (placed rc_size position (omega arith) at)))
read-code position (Behind w n other kind) bytes small at =
    let parts = and-both (nat_le other 65536) (is_small kind) small in
    code-then (number_at position w bytes) _ (number-code position w bytes at)
    (λ found. code-if (found.0 == n) _ _ (read-code position kind found.1 parts.1 at) (refused _ (placed other position (leb-true other 65536 parts.0) at)))
read-code position (Together first second) bytes small at =
    let parts = and-both (is_small first) (is_small second) small in
    code-then (read position first bytes) _ (read-code position first bytes parts.0 at)
    (λ a. code-then (read position second a.1) _ (read-code position second a.1 parts.1 at) (λ b. fine))

-- ---- rows

abbrev are_small : List Kind → Bool
are_small [] = true
are_small (kind ∷ kinds) = is_small kind && are_small kinds

values-code : (position : ℕ) (kinds : List Kind) (bytes : List ℕ) → are_small kinds ≡ true → 1 ≤ position → position + 256 * length kinds ≤ 65536 → HasNoOther (values_at position kinds bytes)
unfolding values_at
values-code position [] bytes small least most = fine
values-code position (kind ∷ kinds) bytes small least most =
    let parts = and-both (is_small kind) (are_small kinds) small in
    code-then (read position kind bytes) _ (read-code position kind bytes parts.0 (record { least = least; most = omega (arith, most) }))
    (λ first. code-then (values_at (position + 0x100) kinds first.1) _ (values-code (position + 0x100) kinds first.1 parts.1 (omega (arith, least)) (omega (arith, most))) (λ others. fine))

abbrev is_small_row : CommandCode → Bool
is_small_row number = (are_small (row number).handles && nat_le (length (row number).handles) 8) && (are_small (row number).parameters && nat_le (length (row number).parameters) 8)

small-row : (number : CommandCode) → is_small_row number ≡ true
small-row codes.StartAuthSession = refl
small-row number = refl

-- ---- authorizations

judged-code : (area : AuthArea) → HasNoOther (judged area)
unfolding judged
judged-code area =
    code-if _ _ _ (refused _ (coded (rc_size + of_session 1) refl))
    (code-if _ _ _ (refused _ (coded (rc_value + of_session 1) refl))
    (code-if _ _ _ (refused _ (coded (rc_attributes + of_session 1) refl))
    (code-if _ _ _ (refused _ (coded (rc_nonce + of_session 1) refl)) fine)))

with-code : {A : Type 0} (n : ℕ) (found : Result A ℕ) → IsCode n → HasNoOther (with_code n found)
with-code n (Ok x) is = fine
with-code n (Err other) is = refused n is

area-code : (tagged : Bool) (bytes : List ℕ) → HasNoOther (area_at tagged bytes)
unfolding area_at
area-code false bytes = refused _ (coded rc_auth_missing refl)
area-code true bytes =
    code-then (with_code rc_authsize (sized_area bytes)) _ (with-code rc_authsize (sized_area bytes) (coded rc_authsize refl))
    (λ found. code-then (judged found.0) _ (judged-code found.0) (λ area. fine))

none-code : (tagged : Bool) → HasNoOther (no_area tagged)
none-code false = fine
none-code true = refused _ (coded rc_auth_context refl)

authorization-code : (authorized tagged : Bool) (bytes : List ℕ) → HasNoOther (authorization_at authorized tagged bytes)
authorization-code true tagged bytes = area-code tagged bytes
authorization-code false tagged bytes = code-then (no_area tagged) _ (none-code tagged) (λ none. fine)

-- ---- commands

body-code : (number : CommandCode) (tagged : Bool) (bytes : List ℕ) → HasNoOther (body_at number tagged bytes)
unfolding body_at front_at
body-code number tagged bytes =
    let handles = (row number).handles in
    let parameters = (row number).parameters in
    let parts = and-both (are_small handles && nat_le (length handles) 8) (are_small parameters && nat_le (length parameters) 8) (small-row number) in
    let first = and-both (are_small handles) (nat_le (length handles) 8) parts.0 in
    let second = and-both (are_small parameters) (nat_le (length parameters) 8) parts.1 in
    let few : length handles ≤ 8 = leb-true (length handles) 8 first.1 in
    let few_parameters : length parameters ≤ 8 = leb-true (length parameters) 8 second.1 in
    code-then (front_at handles (row number).is_authorized tagged bytes) _
    (code-then (values_at (of_handle 1) handles bytes) _ (values-code (of_handle 1) handles bytes first.0 (omega arith) (omega (arith, few)))
    (λ values. code-then (authorization_at (row number).is_authorized tagged values.1) _ (authorization-code (row number).is_authorized tagged values.1) (λ area. fine)))
    (λ front. code-then (values_at (of_parameter 1) parameters front.1) _ (values-code (of_parameter 1) parameters front.1 second.0 (omega arith) (omega (arith, few_parameters))) (λ values. fine))

known-code : (number : Option CommandCode) (tagged : Bool) → HasNoOther (known number tagged)
known-code None tagged = refused _ (coded rc_command_code refl)
known-code (Some number) tagged = fine

header-code : (bytes : List ℕ) → HasNoOther (header_of bytes)
unfolding header_of
header-code bytes =
    code-if (nat_lt (length bytes) 10 || nat_lt 4096 (length bytes) || not (number_in w32 2 bytes == length bytes)) _ _ (refused _ (coded rc_command_size refl))
    (code-if (number_in w16 0 bytes == tag false) _ _ (known-code (code_of_number (number_in w32 6 bytes)) false)
    (code-if (number_in w16 0 bytes == tag true) _ _ (known-code (code_of_number (number_in w32 6 bytes)) true) (refused _ (coded rc_bad_tag refl))))

read-all : (bytes : List ℕ) → HasNoOther (reading bytes)
unfolding reading
read-all bytes =
    code-then (header_of bytes) _ (header-code bytes)
    (λ header. code-then (body_at header.0 header.1 (drop 10 bytes)) _ (body-code header.0 header.1 (drop 10 bytes)) (λ found. code-if _ _ _ fine (refused _ (coded rc_size refl))))

pub reading-code : (bytes : List ℕ) → IfErr (reading bytes) IsCode
reading-code bytes = (read-all bytes).only

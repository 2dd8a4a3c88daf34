-- Authorizations (TPM 2.0 Part 2, TPMS_AUTH_COMMAND and TPMS_AUTH_RESPONSE): spelling, bounds and reading.
use Rattle.std.specs.Prelude.{◌≡◌, ◌<◌, ◌≤◌, ◌+◌, ◌^◌, ◌==◌, ◌||◌, ◌&&◌, not, ℕ, Bool, true, false, IsTrue, List, [], ◌∷◌, ◌++◌, length, nat_lt, nat_le, Result, Ok, Err, if◌then◌else◌}
use Rattle.std.specs.Int.{w8, w32, to_be_bytes}
use Rattle.tpol_wire.specs.declared.auth_area.AuthArea.{AuthArea}
use Rattle.tpol_wire.specs.declared.auth_area.ReplyAuth.{ReplyAuth}
use Rattle.tpol_fields.specs.Kinds.{sized, number_at, sized_at, bytes_at, is_any_length}
use Rattle.tpol_base.specs.Answers.{◌>>=◌}
use Rattle.tpol_base.specs.Handle.{is_policy_session, rs_pw}
use Rattle.tpol_base.specs.ResponseCode.{of_session, rc_auth_missing, rc_auth_context, rc_authsize, rc_attributes, rc_nonce, rc_size, rc_value}
use Rattle.tpol_wire.specs.Answers.{with_code}

-- nonce, attributes and hmac
abbrev pub spell_tail : List ℕ → ℕ → List ℕ → List ℕ
spell_tail nonce attributes hmac = sized nonce ++ attributes ∷ sized hmac

abbrev pub spell_area : AuthArea → List ℕ
spell_area area = to_be_bytes w32 area.session ++ spell_tail area.nonce area.attributes area.hmac

abbrev pub spell_reply_auth : ReplyAuth → List ℕ
spell_reply_auth auth = spell_tail auth.nonce auth.attributes auth.hmac

-- the password's handle, or a policy session
abbrev pub is_auth_session : ℕ → Bool
is_auth_session session = session == rs_pw || is_policy_session session

-- an area that breaks no rule
pub record AreaFits (area : AuthArea) : Type 0 where
  pub nonce : length area.nonce ≤ 32
  pub hmac : length area.hmac ≤ 64
  pub session : IsTrue (is_auth_session area.session)
  -- bit 0 alone may be set
  pub attributes : area.attributes < 2
  pub password : area.session ≡ rs_pw → area.nonce ≡ []

pub record ReplyAuthFits (auth : ReplyAuth) : Type 0 where
  pub nonce : length auth.nonce ≤ 32
  pub attributes : auth.attributes < 2 ^ 8
  pub hmac : length auth.hmac ≤ 64

-- what there is of an authorization
abbrev pub AreaOf : Bool → Type 0
AreaOf true = AuthArea
AreaOf false = Unit {0}

-- the size of the one area, and the area
abbrev pub authorization : (authorized : Bool) → AreaOf authorized → List ℕ
authorization true area = to_be_bytes w32 (length (spell_area area)) ++ spell_area area
authorization false area = []

abbrev pub AuthorizationFits : (authorized : Bool) → AreaOf authorized → Type 0
AuthorizationFits true area = AreaFits area
AuthorizationFits false area = Unit {0}

-- ---- reading

-- exactly one nonce, attributes and hmac
unfoldable pub tail_of : List ℕ → Result (List ℕ × ℕ × List ℕ) ℕ
tail_of bytes = do
  nonce ← sized_at 0 is_any_length bytes
  attributes ← number_at 0 w8 nonce.1
  hmac ← sized_at 0 is_any_length attributes.1
  if length hmac.1 == 0 then Ok (nonce.0, attributes.0, hmac.0) else Err rc_size

-- the area of these parts
abbrev pub area_with : ℕ → List ℕ → ℕ → List ℕ → AuthArea
area_with session nonce attributes hmac = record { session = session; nonce = nonce; attributes = attributes; hmac = hmac }

-- exactly one area
unfoldable pub whole_area : List ℕ → Result AuthArea ℕ
whole_area bytes = do
  session ← number_at 0 w32 bytes
  rest ← tail_of session.1
  Ok (area_with session.0 rest.0 rest.1 rest.2)

-- a size, and exactly one area of that size
unfoldable pub sized_area : List ℕ → Result (AuthArea × List ℕ) ℕ
sized_area bytes = do
  size ← number_at 0 w32 bytes
  taken ← bytes_at 0 size.0 size.1
  area ← whole_area taken.0
  Ok (area, taken.1)

-- the area, or the first of its rules that it breaks
unfoldable pub judged : AuthArea → Result AuthArea ℕ
judged area =
    if nat_lt 32 (length area.nonce) || nat_lt 64 (length area.hmac) then Err (rc_size + of_session 1) else (
    if not (is_auth_session area.session) then Err (rc_value + of_session 1) else (
    if nat_le 2 area.attributes then Err (rc_attributes + of_session 1) else (
    if area.session == rs_pw && not (length area.nonce == 0) then Err (rc_nonce + of_session 1) else Ok area)))

-- a command that takes an authorization
unfoldable pub area_at : Bool → List ℕ → Result (AuthArea × List ℕ) ℕ
area_at false bytes = Err rc_auth_missing
area_at true bytes = do
  found ← with_code rc_authsize (sized_area bytes)
  area ← judged found.0
  Ok (area, found.1)

-- a command that takes none
abbrev pub no_area : Bool → Result (Unit {0}) ℕ
no_area false = Ok tt
no_area true = Err rc_auth_context

-- the authorization of a command that is authorized or not, with a tag that says that there is one or none
abbrev pub authorization_at : (authorized : Bool) → Bool → List ℕ → Result (AreaOf authorized × List ℕ) ℕ
authorization_at true tagged bytes = area_at tagged bytes
authorization_at false tagged bytes = no_area tagged >>= λ none. Ok (none, bytes)

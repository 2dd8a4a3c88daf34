-- The rules that a buffer has to obey to be a command, in their order (TPM 2.0 Part 3, "Command Processing"). Each
-- is said of the whole buffer, by places; what a reader does is not asked.
use Rattle.std.specs.Prelude.{◌+◌, ◌==◌, ◌&&◌, ◌||◌, not, ℕ, Bool, true, false, List, [], ◌∷◌, ◌++◌, length, nat_lt, nat_le, Option}
use Rattle.std.specs.Int.{w8, w16, w32}
use Rattle.std.specs.Option.{is_some, option_map_or}
use Rattle.tpol_base.specs.CommandCode.{code_of_number}
use Rattle.tpol_base.specs.Constants.{st_no_sessions, st_sessions}
use Rattle.tpol_base.specs.declared.command_code.CommandCode.{CommandCode}
use Rattle.tpol_base.specs.Handle.{rs_pw}
use Rattle.tpol_base.specs.ResponseCode.{of_handle, of_parameter, of_session, rc_attributes, rc_auth_context, rc_auth_missing, rc_authsize, rc_bad_tag, rc_command_code, rc_command_size, rc_nonce, rc_size, rc_value}
use Rattle.tpol_wire.specs.Authorizations.{is_auth_session}
use Rattle.tpol_wire.specs.FieldRules.{Rule, rule, first_broken, number_in, bytes_in, place_behind_sized, place_behind_all, fields_rules}
use Rattle.tpol_wire.specs.Rows.{Row, row}

-- ---- the header: tag in two bytes, size and code in four each

-- 1. there are 10 to 4,096 bytes, and the size field says how many
abbrev pub size_rules : List ℕ → List Rule
size_rules bytes =
    rule (nat_le 10 (length bytes)) rc_command_size
    ∷ rule (nat_le (length bytes) 4096) rc_command_size
    ∷ rule (number_in w32 2 bytes == length bytes) rc_command_size
    ∷ []

-- the tag says that there is an authorization
abbrev pub is_tagged : List ℕ → Bool
is_tagged bytes = number_in w16 0 bytes == st_sessions

-- 2. the tag is one of the two
abbrev pub tag_rule : List ℕ → Rule
tag_rule bytes = rule (number_in w16 0 bytes == st_no_sessions || is_tagged bytes) rc_bad_tag

-- the command of the table that has the code
abbrev pub code_in : List ℕ → Option CommandCode
code_in bytes = code_of_number (number_in w32 6 bytes)

-- 3. the code is one of the table
abbrev pub code_rule : List ℕ → Rule
code_rule bytes = rule (is_some (code_in bytes)) rc_command_code

-- ---- the handles, which stand behind the header

-- 4. each handle is there and of its kind
abbrev pub handle_rules : Row → List ℕ → List Rule
handle_rules row bytes = fields_rules (of_handle 1) row.handles 10 bytes

abbrev pub place_behind_handles : Row → List ℕ → ℕ
place_behind_handles row bytes = place_behind_all row.handles 10 bytes

-- ---- the authorization, which stands behind the handles: a size of four bytes, and an area

-- 5. the tag says that there is an authorization exactly where the row has one
abbrev pub tagged_rule : Bool → Bool → Rule
tagged_rule true tagged = rule tagged rc_auth_missing
tagged_rule false tagged = rule (not tagged) rc_auth_context

-- the bytes of the area, as many as its size says, or fewer where there are no more
abbrev pub area_bytes : ℕ → List ℕ → List ℕ
area_bytes place bytes = bytes_in (place + 4) (number_in w32 place bytes) bytes

-- in an area the session stands at 0, the nonce at 4, the attributes behind the nonce, and the hmac behind the attributes
abbrev pub attributes_place : List ℕ → ℕ
attributes_place area = place_behind_sized 4 area

abbrev pub hmac_place : List ℕ → ℕ
hmac_place area = attributes_place area + 1

-- all bytes of the area are there, and behind the hmac it ends
abbrev pub is_area : ℕ → List ℕ → Bool
is_area size area = size == length area && place_behind_sized (hmac_place area) area == length area

-- 6. the size is that of one well-formed area, and the area is within its bounds
abbrev pub bounds_rules : List ℕ → List Rule
bounds_rules area =
    rule (nat_le (number_in w16 4 area) 32) (rc_size + of_session 1)
    ∷ rule (nat_le (number_in w16 (hmac_place area) area) 64) (rc_size + of_session 1)
    ∷ rule (is_auth_session (number_in w32 0 area)) (rc_value + of_session 1)
    ∷ rule (nat_lt (number_in w8 (attributes_place area) area) 2) (rc_attributes + of_session 1)
    ∷ rule (not (number_in w32 0 area == rs_pw) || number_in w16 4 area == 0) (rc_nonce + of_session 1)
    ∷ []

abbrev pub area_rules : Bool → ℕ → List ℕ → List Rule
area_rules true place bytes =
    rule (is_area (number_in w32 place bytes) (area_bytes place bytes)) rc_authsize ∷ bounds_rules (area_bytes place bytes)
area_rules false place bytes = []

abbrev pub place_behind_area : Bool → ℕ → List ℕ → ℕ
place_behind_area true place bytes = place + 4 + number_in w32 place bytes
place_behind_area false place bytes = place

-- ---- the parameters, which stand behind the authorization

abbrev pub place_behind_authorization : Row → List ℕ → ℕ
place_behind_authorization row bytes = place_behind_area row.is_authorized (place_behind_handles row bytes) bytes

-- 7. each parameter is there and within its bounds
abbrev pub parameter_rules : Row → List ℕ → List Rule
parameter_rules row bytes = fields_rules (of_parameter 1) row.parameters (place_behind_authorization row bytes) bytes

-- 8. no bytes are left over
abbrev pub end_rule : Row → List ℕ → Rule
end_rule row bytes = rule (nat_le (length bytes) (place_behind_all row.parameters (place_behind_authorization row bytes) bytes)) rc_size

-- ---- all of them

-- the rules that depend on the command's row
abbrev pub row_rules : Row → List ℕ → List Rule
row_rules row bytes =
    handle_rules row bytes
    ++ (tagged_rule row.is_authorized (is_tagged bytes) ∷ area_rules row.is_authorized (place_behind_handles row bytes) bytes)
    ++ parameter_rules row bytes
    ++ (end_rule row bytes ∷ [])

abbrev pub wire_rules : List ℕ → List Rule
wire_rules bytes =
    size_rules bytes
    ++ (tag_rule bytes ∷ code_rule bytes ∷ option_map_or (λ code. row_rules (row code) bytes) (code_in bytes) [])

-- the code of the first rule that is broken
abbrev pub wire_refusal : List ℕ → Option ℕ
wire_refusal bytes = first_broken (wire_rules bytes)

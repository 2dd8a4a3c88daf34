-- How bytes are read as a command; how the fields of a reply are read.
use Rattle.std.specs.Prelude.{◌+◌, ◌==◌, ◌||◌, not, ℕ, Bool, true, false, List, [], ◌∷◌, length, drop, nat_lt, Option, Some, None, Result, Ok, Err, if◌then◌else◌}
use Rattle.std.specs.Int.{w16, w32}
use Rattle.tpol_wire.specs.declared.command.Command.{Command}
use Rattle.tpol_wire.specs.declared.reply.Reply.{Reply}
use Rattle.tpol_base.specs.declared.command_code.CommandCode.{CommandCode}
use Rattle.tpol_wire.specs.Authorizations.{AreaOf, authorization_at}
use Rattle.tpol_base.specs.CommandCode.{code_of_number}
use Rattle.tpol_wire.specs.Commands.{Values, command_of, tag}
use Rattle.tpol_fields.specs.Kinds.{Kind, read}
use Rattle.tpol_base.specs.Answers.{◌>>=◌}
use Rattle.tpol_base.specs.ResponseCode.{of_handle, of_parameter, rc_size, rc_bad_tag, rc_command_code, rc_command_size}
use Rattle.tpol_wire.specs.Replies.{reply_of}
use Rattle.tpol_wire.specs.FieldRules.{number_in}
use Rattle.tpol_wire.specs.Rows.{row}

-- fields one after the other; the position of each is 0x100 more than that of the one before
unfoldable pub values_at : ℕ → (kinds : List Kind) → List ℕ → Result (Values kinds × List ℕ) ℕ
values_at position [] bytes = Ok (tt, bytes)
values_at position (kind ∷ kinds) bytes = do
  first ← read position kind bytes
  others ← values_at (position + 0x100) kinds first.1
  Ok ((first.0, others.0), others.1)

-- what stands behind the header of a command before its parameters: handles, and the authorization where the tag says that there is one
unfoldable pub front_at : (handles : List Kind) (authorized : Bool) → Bool → List ℕ → Result ((Values handles × AreaOf authorized) × List ℕ) ℕ
front_at handles authorized tagged bytes = do
  values ← values_at (of_handle 1) handles bytes
  area ← authorization_at authorized tagged values.1
  Ok ((values.0, area.0), area.1)

-- what stands behind the header of a command
unfoldable pub body_at : CommandCode → Bool → List ℕ → Result (Command × List ℕ) ℕ
body_at code tagged bytes = do
  front ← front_at (row code).handles (row code).is_authorized tagged bytes
  parameters ← values_at (of_parameter 1) (row code).parameters front.1
  Ok (command_of code (record { handles = front.0.0; area = front.0.1; parameters = parameters.0 }), parameters.1)

-- the fields of a reply
unfoldable pub reply_at : CommandCode → List ℕ → Result (Reply × List ℕ) ℕ
reply_at code bytes = do
  values ← values_at (of_parameter 1) (row code).reply bytes
  Ok (reply_of code values.0, values.1)

-- the code of a command of the table
abbrev pub known : Option CommandCode → Bool → Result (CommandCode × Bool) ℕ
known None tagged = Err rc_command_code
known (Some code) tagged = Ok (code, tagged)

-- the command's code, and whether the tag says that there is an authorization
unfoldable pub header_of : List ℕ → Result (CommandCode × Bool) ℕ
header_of bytes =
    if nat_lt (length bytes) 10 || nat_lt 4096 (length bytes) || not (number_in w32 2 bytes == length bytes) then Err rc_command_size else (
    if number_in w16 0 bytes == tag false then known (code_of_number (number_in w32 6 bytes)) false else (
    if number_in w16 0 bytes == tag true then known (code_of_number (number_in w32 6 bytes)) true else Err rc_bad_tag))

-- the command that bytes spell, or the code that refuses them
unfoldable pub reading : List ℕ → Result Command ℕ
reading bytes = do
  header ← header_of bytes
  found ← body_at header.0 header.1 (drop 10 bytes)
  if length found.1 == 0 then Ok found.0 else Err rc_size

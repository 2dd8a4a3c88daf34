-- How bytes are read as a reply.
use Rattle.std.specs.Prelude.{◌==◌, ◌&&◌, ◌||◌, ℕ, Bool, true, false, List, length, nat_lt, Option, Some, None, if◌then◌else◌}
use Rattle.std.specs.Result.{result_ok}
use Rattle.std.specs.Int.{w16, w32}
use Rattle.tpol_base.specs.CommandCode.{code_of_number}
use Rattle.tpol_base.specs.declared.command_code.CommandCode.{CommandCode}
use Rattle.tpol_wire.specs.declared.auth_area.ReplyAuth.{ReplyAuth}
use Rattle.tpol_wire.specs.declared.reply.Reply.{Reply}
use Rattle.tpol_wire.specs.declared.reply.Reply.TheVariants as replies
use Rattle.tpol_wire.specs.Authorizations.{tail_of}
use Rattle.tpol_wire.specs.Commands.{tag}
use Rattle.tpol_fields.specs.Kinds.{number_at, bytes_at}
use Rattle.tpol_wire.specs.Reading.{reply_at}
use Rattle.tpol_wire.specs.Replies.{refusal_tag}
use Rattle.tpol_wire.specs.Rows.{row}

-- a step after another, as long as there is a value
infixl 10 ◌>>=◌
abbrev pub ◌>>=◌ : {A B : Type 0} → Option A → (A → Option B) → Option B
(Some x) >>= next = next x
None >>= next = None

-- the fields of a reply, and nothing behind them
unfoldable pub all_fields_of : CommandCode → List ℕ → Option Reply
all_fields_of code bytes = do
  found ← result_ok (reply_at code bytes)
  if length found.1 == 0 then Some found.0 else None

-- exactly one authorization within its bounds
unfoldable pub reply_auth_of : List ℕ → Option ReplyAuth
reply_auth_of bytes = do
  tail ← result_ok (tail_of bytes)
  if nat_lt 32 (length tail.0) || nat_lt 64 (length tail.2) then None else Some (record { nonce = tail.0; attributes = tail.1; hmac = tail.2 })

-- what stands behind the code 0: the fields, and those of an authorized command's reply between their size and an authorization
unfoldable pub served_at : CommandCode → Bool → List ℕ → Option (Reply × Option ReplyAuth)
served_at code false bytes = do
  reply ← all_fields_of code bytes
  Some (reply, None)
served_at code true bytes = do
  size ← result_ok (number_at 0 w32 bytes)
  fields ← result_ok (bytes_at 0 size.0 size.1)
  reply ← all_fields_of code fields.0
  auth ← reply_auth_of fields.1
  Some (reply, Some auth)

-- a refusal with this tag and code, and nothing behind
unfoldable pub refusal_of : ℕ → ℕ → List ℕ → Option (Reply × Option ReplyAuth)
refusal_of tag code rest = if tag == refusal_tag code && length rest == 0 then Some (replies.Refused (record { code = code }), None) else None

-- a reply with the code 0 and this tag to a command
unfoldable pub answer_of : Option CommandCode → ℕ → List ℕ → Option (Reply × Option ReplyAuth)
answer_of None found rest = None
answer_of (Some code) found rest = if found == tag (row code).is_authorized then served_at code (row code).is_authorized rest else None

-- the reply that bytes are to the command of this code, with its authorization, where they are one
unfoldable pub reply_reading : ℕ → List ℕ → Option (Reply × Option ReplyAuth)
reply_reading number bytes = do
  tag ← result_ok (number_at 0 w16 bytes)
  size ← result_ok (number_at 0 w32 tag.1)
  code ← result_ok (number_at 0 w32 size.1)
  if size.0 == length bytes then (if code.0 == 0 then answer_of (code_of_number number) tag.0 code.1 else refusal_of tag.0 code.0 code.1) else None

-- Replies: their fields in their rows, what bytes spell a reply, and how one is read.
use Rattle.std.specs.Prelude.{◌≡◌, ◌≢◌, ◌<◌, ◌^◌, ◌==◌, ℕ, Bool, true, false, List, [], ◌++◌, length, Option, Some, None, Result, Ok, Err, if◌then◌else◌}
use Rattle.std.specs.Int.{w32, to_be_bytes}
use Rattle.tpol_base.specs.declared.rc.Rc.{Rc}
use Rattle.tpol_wire.specs.declared.auth_area.ReplyAuth.{ReplyAuth}
use Rattle.tpol_wire.specs.declared.reply.Reply.{Reply}
use Rattle.tpol_wire.specs.declared.reply.Reply.TheVariants as replies
use Rattle.tpol_base.specs.declared.command_code.CommandCode.{CommandCode}
use Rattle.tpol_base.specs.declared.command_code.CommandCode.TheVariants as codes
use Rattle.tpol_wire.specs.Authorizations.{spell_reply_auth, ReplyAuthFits}
use Rattle.tpol_base.specs.CommandCode.{number_of_code}
use Rattle.tpol_wire.specs.Commands.{Values, spell_values, ValuesFit, tag}
use Rattle.tpol_base.specs.Constants.{st_no_sessions, st_rsp_command}
use Rattle.tpol_base.specs.ResponseCode.{rc_bad_tag}
use Rattle.tpol_wire.specs.Rows.{row}
use Rattle.tpol_wire.specs.Spellings.{message_bytes}

-- a reply taken apart: the fields behind the code 0, or the code of a refusal
pub data Parts : Type 0 where
  Served : (code : CommandCode) → Values (row code).reply → Parts
  Refusal : Rc → Parts

abbrev pub parts_of : Reply → Parts
parts_of (replies.StartAuthSession session nonce) = Served codes.StartAuthSession (session, (nonce, tt))
parts_of replies.FlushContext = Served codes.FlushContext tt
parts_of (replies.ContextSave sequence session digest) = Served codes.ContextSave ((sequence, (session, digest)), tt)
parts_of (replies.ContextLoad session) = Served codes.ContextLoad (session, tt)
parts_of replies.PolicyRestart = Served codes.PolicyRestart tt
parts_of (replies.PolicyGetDigest digest) = Served codes.PolicyGetDigest (digest, tt)
parts_of replies.PcrExtend = Served codes.PcrExtend tt
parts_of (replies.PcrRead counter mask digests) = Served codes.PcrRead (counter, (mask, (digests, tt)))
parts_of (replies.VerifySignature ticket) = Served codes.VerifySignature (ticket, tt)
parts_of (replies.Unseal bytes) = Served codes.Unseal (bytes, tt)
parts_of (replies.Hmac digest) = Served codes.Hmac (digest, tt)
parts_of (replies.NvRead bytes) = Served codes.NvRead (bytes, tt)
parts_of replies.NvWrite = Served codes.NvWrite tt
parts_of replies.NvIncrement = Served codes.NvIncrement tt
parts_of (replies.Duplicate bytes) = Served codes.Duplicate (tt, (bytes, (tt, tt)))
parts_of replies.PolicyNv = Served codes.PolicyNv tt
parts_of replies.PolicyCpHash = Served codes.PolicyCpHash tt
parts_of replies.PolicyNameHash = Served codes.PolicyNameHash tt
parts_of replies.PolicyAuthValue = Served codes.PolicyAuthValue tt
parts_of replies.PolicyPassword = Served codes.PolicyPassword tt
parts_of replies.PolicyPhysicalPresence = Served codes.PolicyPhysicalPresence tt
parts_of replies.PolicyCommandCode = Served codes.PolicyCommandCode tt
parts_of replies.PolicyCounterTimer = Served codes.PolicyCounterTimer tt
parts_of replies.PolicyLocality = Served codes.PolicyLocality tt
parts_of replies.PolicyPcr = Served codes.PolicyPcr tt
parts_of replies.PolicyDuplicationSelect = Served codes.PolicyDuplicationSelect tt
parts_of replies.PolicyNvWritten = Served codes.PolicyNvWritten tt
parts_of (replies.PolicySigned timeout ticket) = Served codes.PolicySigned ((timeout, ticket), tt)
parts_of (replies.PolicySecret timeout ticket) = Served codes.PolicySecret ((timeout, ticket), tt)
parts_of replies.PolicyTicket = Served codes.PolicyTicket tt
parts_of replies.PolicyAuthorize = Served codes.PolicyAuthorize tt
parts_of replies.PolicyOr = Served codes.PolicyOr tt
parts_of replies.PolicyAuthorizeNv = Served codes.PolicyAuthorizeNv tt
parts_of (replies.Refused rc) = Refusal rc

-- the reply with these fields
abbrev pub reply_of : (code : CommandCode) → Values (row code).reply → Reply
reply_of codes.StartAuthSession values = replies.StartAuthSession values.0 values.1.0
reply_of codes.FlushContext values = replies.FlushContext
reply_of codes.ContextSave values = replies.ContextSave values.0.0 values.0.1.0 values.0.1.1
reply_of codes.ContextLoad values = replies.ContextLoad values.0
reply_of codes.PolicyRestart values = replies.PolicyRestart
reply_of codes.PolicyGetDigest values = replies.PolicyGetDigest values.0
reply_of codes.PcrExtend values = replies.PcrExtend
reply_of codes.PcrRead values = replies.PcrRead values.0 values.1.0 values.1.1.0
reply_of codes.VerifySignature values = replies.VerifySignature values.0
reply_of codes.Unseal values = replies.Unseal values.0
reply_of codes.Hmac values = replies.Hmac values.0
reply_of codes.NvRead values = replies.NvRead values.0
reply_of codes.NvWrite values = replies.NvWrite
reply_of codes.NvIncrement values = replies.NvIncrement
reply_of codes.Duplicate values = replies.Duplicate values.1.0
reply_of codes.PolicyNv values = replies.PolicyNv
reply_of codes.PolicyCpHash values = replies.PolicyCpHash
reply_of codes.PolicyNameHash values = replies.PolicyNameHash
reply_of codes.PolicyAuthValue values = replies.PolicyAuthValue
reply_of codes.PolicyPassword values = replies.PolicyPassword
reply_of codes.PolicyPhysicalPresence values = replies.PolicyPhysicalPresence
reply_of codes.PolicyCommandCode values = replies.PolicyCommandCode
reply_of codes.PolicyCounterTimer values = replies.PolicyCounterTimer
reply_of codes.PolicyLocality values = replies.PolicyLocality
reply_of codes.PolicyPcr values = replies.PolicyPcr
reply_of codes.PolicyDuplicationSelect values = replies.PolicyDuplicationSelect
reply_of codes.PolicyNvWritten values = replies.PolicyNvWritten
reply_of codes.PolicySigned values = replies.PolicySigned values.0.0 values.0.1
reply_of codes.PolicySecret values = replies.PolicySecret values.0.0 values.0.1
reply_of codes.PolicyTicket values = replies.PolicyTicket
reply_of codes.PolicyAuthorize values = replies.PolicyAuthorize
reply_of codes.PolicyOr values = replies.PolicyOr
reply_of codes.PolicyAuthorizeNv values = replies.PolicyAuthorizeNv

-- the command that is answered, or the code of a refusal
abbrev pub answered_by : Parts → Result CommandCode Rc
answered_by (Served code values) = Ok code
answered_by (Refusal rc) = Err rc

-- ---- spellings and bounds

-- the bytes of the fields alone
abbrev pub spell_fields : Parts → List ℕ
spell_fields (Served code values) = spell_values (row code).reply values
spell_fields (Refusal rc) = []

-- the bytes of a reply's fields
abbrev pub reply_fields_of : Reply → List ℕ
reply_fields_of reply = spell_fields (parts_of reply)

-- behind the fields of an authorized command's reply stands its authorization, and before them their size
abbrev pub reply_body : List ℕ → Option ReplyAuth → List ℕ
reply_body fields None = fields
reply_body fields (Some auth) = to_be_bytes w32 (length fields) ++ fields ++ spell_reply_auth auth

-- the tag of a refusal: that of TPM 1.2 where the tag was refused
abbrev pub refusal_tag : ℕ → ℕ
refusal_tag code = if code == rc_bad_tag then st_rsp_command else st_no_sessions

abbrev pub spell_parts : Parts → Option ReplyAuth → List ℕ
spell_parts (Served code values) auth = message_bytes (tag (row code).is_authorized) 0 (reply_body (spell_values (row code).reply values) auth)
spell_parts (Refusal rc) auth = message_bytes (refusal_tag rc.code) rc.code []

-- an authorization is there exactly where the row has one, and it is within its bounds
abbrev pub AuthFits : Bool → Option ReplyAuth → Type 0
AuthFits true None = ⊥
AuthFits true (Some auth) = ReplyAuthFits auth
AuthFits false auth = auth ≡ None

abbrev pub PartsFit : Parts → Option ReplyAuth → Type 0
PartsFit (Served code values) auth = ValuesFit (row code).reply values × AuthFits (row code).is_authorized auth
PartsFit (Refusal rc) auth = (rc.code ≢ 0) × (rc.code < 2 ^ 32) × (auth ≡ None)

-- a refusal answers any command
abbrev pub PartsAnswer : ℕ → Parts → Type 0
PartsAnswer number (Served code values) = number_of_code code ≡ number
PartsAnswer number (Refusal rc) = Unit {0}

-- each field is within its row's bounds, and an authorization is there exactly where the row has one, within its
-- bounds; a refusal has a code that is not 0, and no authorization
abbrev pub FitsReply : Reply → Option ReplyAuth → Type 0
FitsReply reply auth = PartsFit (parts_of reply) auth

-- the one spelling of a reply
abbrev pub spell_reply : Reply → Option ReplyAuth → List ℕ
spell_reply reply auth = spell_parts (parts_of reply) auth

-- the bytes are a reply to the command of this code
pub record SpellsReply (code : ℕ) (bytes : List ℕ) (reply : Reply) (auth : Option ReplyAuth) : Type 0 where
  pub whole : bytes ≡ spell_reply reply auth
  pub fits : FitsReply reply auth
  pub answers : PartsAnswer code (parts_of reply)

-- The fields of commands in their rows, and what bytes spell a command.
use Rattle.std.specs.Prelude.{◌≡◌, ℕ, Bool, true, false, List, [], ◌∷◌, ◌++◌}
use Rattle.tpol_base.specs.Constants.{st_no_sessions, st_sessions}
use Rattle.tpol_wire.specs.declared.command.Command.{Command}
use Rattle.tpol_wire.specs.declared.command.Command.TheVariants as commands
use Rattle.tpol_base.specs.declared.command_code.CommandCode.{CommandCode}
use Rattle.tpol_base.specs.declared.command_code.CommandCode.TheVariants as codes
use Rattle.tpol_wire.specs.Authorizations.{AreaOf, authorization, AuthorizationFits}
use Rattle.tpol_base.specs.CommandCode.{number_of_code}
use Rattle.tpol_fields.specs.Kinds.{Kind, ValueOf, spell, Fits}
use Rattle.tpol_wire.specs.Rows.{Row, row}
use Rattle.tpol_wire.specs.Spellings.{message_bytes}

-- ---- the fields of a row

abbrev pub Values : List Kind → Type 0
Values [] = Unit {0}
Values (kind ∷ kinds) = ValueOf kind × Values kinds

pub record Fields (row : Row) : Type 0 where
  pub handles : Values row.handles
  pub area : AreaOf row.is_authorized
  pub parameters : Values row.parameters

unfoldable pub spell_values : (kinds : List Kind) → Values kinds → List ℕ
spell_values [] values = []
spell_values (kind ∷ kinds) values = spell kind values.0 ++ spell_values kinds values.1

unfoldable pub ValuesFit : (kinds : List Kind) → Values kinds → Type 0
ValuesFit [] values = Unit {0}
ValuesFit (kind ∷ kinds) values = Fits kind values.0 × ValuesFit kinds values.1

-- ---- commands

abbrev pub code_of_command : Command → CommandCode
code_of_command (commands.StartAuthSession tpm_key bind nonce) = codes.StartAuthSession
code_of_command (commands.FlushContext session) = codes.FlushContext
code_of_command (commands.ContextSave session) = codes.ContextSave
code_of_command (commands.ContextLoad sequence session digest) = codes.ContextLoad
code_of_command (commands.PolicyRestart session) = codes.PolicyRestart
code_of_command (commands.PolicyGetDigest session) = codes.PolicyGetDigest
code_of_command (commands.PcrExtend pcr auth digest) = codes.PcrExtend
code_of_command (commands.PcrRead mask) = codes.PcrRead
code_of_command (commands.VerifySignature key digest signature) = codes.VerifySignature
code_of_command (commands.Unseal object auth) = codes.Unseal
code_of_command (commands.Hmac key auth buffer hash) = codes.Hmac
code_of_command (commands.NvRead authority index auth size offset) = codes.NvRead
code_of_command (commands.NvWrite authority index auth bytes offset) = codes.NvWrite
code_of_command (commands.NvIncrement authority index auth) = codes.NvIncrement
code_of_command (commands.Duplicate object parent auth) = codes.Duplicate
code_of_command (commands.PolicyNv authority index session auth operand offset operation) = codes.PolicyNv
code_of_command (commands.PolicyCpHash session digest) = codes.PolicyCpHash
code_of_command (commands.PolicyNameHash session digest) = codes.PolicyNameHash
code_of_command (commands.PolicyAuthValue session) = codes.PolicyAuthValue
code_of_command (commands.PolicyPassword session) = codes.PolicyPassword
code_of_command (commands.PolicyPhysicalPresence session) = codes.PolicyPhysicalPresence
code_of_command (commands.PolicyCommandCode session code) = codes.PolicyCommandCode
code_of_command (commands.PolicyCounterTimer session operand offset operation) = codes.PolicyCounterTimer
code_of_command (commands.PolicyLocality session locality) = codes.PolicyLocality
code_of_command (commands.PolicyPcr session given mask) = codes.PolicyPcr
code_of_command (commands.PolicyDuplicationSelect session object parent include) = codes.PolicyDuplicationSelect
code_of_command (commands.PolicyNvWritten session written) = codes.PolicyNvWritten
code_of_command (commands.PolicySigned key session nonce cp_hash policy_ref expiration signature) = codes.PolicySigned
code_of_command (commands.PolicySecret entity session auth nonce cp_hash policy_ref expiration) = codes.PolicySecret
code_of_command (commands.PolicyTicket session timeout cp_hash policy_ref key ticket) = codes.PolicyTicket
code_of_command (commands.PolicyAuthorize session approved policy_ref key ticket) = codes.PolicyAuthorize
code_of_command (commands.PolicyOr session digests) = codes.PolicyOr
code_of_command (commands.PolicyAuthorizeNv authority index session auth) = codes.PolicyAuthorizeNv

-- the fields of a command in its row; what the row fixes holds nothing
abbrev pub fields_of : (command : Command) → Fields (row (code_of_command command))
fields_of (commands.StartAuthSession tpm_key bind nonce) = record { handles = (tpm_key, (bind, tt)); area = tt; parameters = (nonce, (tt, (tt, (tt, (tt, tt))))) }
fields_of (commands.FlushContext session) = record { handles = tt; area = tt; parameters = (session, tt) }
fields_of (commands.ContextSave session) = record { handles = (session, tt); area = tt; parameters = tt }
fields_of (commands.ContextLoad sequence session digest) = record { handles = tt; area = tt; parameters = ((sequence, (session, digest)), tt) }
fields_of (commands.PolicyRestart session) = record { handles = (session, tt); area = tt; parameters = tt }
fields_of (commands.PolicyGetDigest session) = record { handles = (session, tt); area = tt; parameters = tt }
fields_of (commands.PcrExtend pcr auth digest) = record { handles = (pcr, tt); area = auth; parameters = (digest, tt) }
fields_of (commands.PcrRead mask) = record { handles = tt; area = tt; parameters = (mask, tt) }
fields_of (commands.VerifySignature key digest signature) = record { handles = (key, tt); area = tt; parameters = (digest, (signature, tt)) }
fields_of (commands.Unseal object auth) = record { handles = (object, tt); area = auth; parameters = tt }
fields_of (commands.Hmac key auth buffer hash) = record { handles = (key, tt); area = auth; parameters = (buffer, (hash, tt)) }
fields_of (commands.NvRead authority index auth size offset) = record { handles = (authority, (index, tt)); area = auth; parameters = (size, (offset, tt)) }
fields_of (commands.NvWrite authority index auth bytes offset) = record { handles = (authority, (index, tt)); area = auth; parameters = (bytes, (offset, tt)) }
fields_of (commands.NvIncrement authority index auth) = record { handles = (authority, (index, tt)); area = auth; parameters = tt }
fields_of (commands.Duplicate object parent auth) = record { handles = (object, (parent, tt)); area = auth; parameters = (tt, (tt, tt)) }
fields_of (commands.PolicyNv authority index session auth operand offset operation) = record { handles = (authority, (index, (session, tt))); area = auth; parameters = (operand, (offset, (operation, tt))) }
fields_of (commands.PolicyCpHash session digest) = record { handles = (session, tt); area = tt; parameters = (digest, tt) }
fields_of (commands.PolicyNameHash session digest) = record { handles = (session, tt); area = tt; parameters = (digest, tt) }
fields_of (commands.PolicyAuthValue session) = record { handles = (session, tt); area = tt; parameters = tt }
fields_of (commands.PolicyPassword session) = record { handles = (session, tt); area = tt; parameters = tt }
fields_of (commands.PolicyPhysicalPresence session) = record { handles = (session, tt); area = tt; parameters = tt }
fields_of (commands.PolicyCommandCode session code) = record { handles = (session, tt); area = tt; parameters = (code, tt) }
fields_of (commands.PolicyCounterTimer session operand offset operation) = record { handles = (session, tt); area = tt; parameters = (operand, (offset, (operation, tt))) }
fields_of (commands.PolicyLocality session locality) = record { handles = (session, tt); area = tt; parameters = (locality, tt) }
fields_of (commands.PolicyPcr session given mask) = record { handles = (session, tt); area = tt; parameters = (given, (mask, tt)) }
fields_of (commands.PolicyDuplicationSelect session object parent include) = record { handles = (session, tt); area = tt; parameters = (object, (parent, (include, tt))) }
fields_of (commands.PolicyNvWritten session written) = record { handles = (session, tt); area = tt; parameters = (written, tt) }
fields_of (commands.PolicySigned key session nonce cp_hash policy_ref expiration signature) = record { handles = (key, (session, tt)); area = tt; parameters = (nonce, (cp_hash, (policy_ref, (expiration, (signature, tt))))) }
fields_of (commands.PolicySecret entity session auth nonce cp_hash policy_ref expiration) = record { handles = (entity, (session, tt)); area = auth; parameters = (nonce, (cp_hash, (policy_ref, (expiration, tt)))) }
fields_of (commands.PolicyTicket session timeout cp_hash policy_ref key ticket) = record { handles = (session, tt); area = tt; parameters = (timeout, (cp_hash, (policy_ref, (key, (ticket, tt))))) }
fields_of (commands.PolicyAuthorize session approved policy_ref key ticket) = record { handles = (session, tt); area = tt; parameters = (approved, (policy_ref, (key, (ticket, tt)))) }
fields_of (commands.PolicyOr session digests) = record { handles = (session, tt); area = tt; parameters = (digests, tt) }
fields_of (commands.PolicyAuthorizeNv authority index session auth) = record { handles = (authority, (index, (session, tt))); area = auth; parameters = tt }

-- the command of a row with these fields
abbrev pub command_of : (code : CommandCode) → Fields (row code) → Command
command_of codes.StartAuthSession fields = commands.StartAuthSession fields.handles.0 fields.handles.1.0 fields.parameters.0
command_of codes.FlushContext fields = commands.FlushContext fields.parameters.0
command_of codes.ContextSave fields = commands.ContextSave fields.handles.0
command_of codes.ContextLoad fields = commands.ContextLoad fields.parameters.0.0 fields.parameters.0.1.0 fields.parameters.0.1.1
command_of codes.PolicyRestart fields = commands.PolicyRestart fields.handles.0
command_of codes.PolicyGetDigest fields = commands.PolicyGetDigest fields.handles.0
command_of codes.PcrExtend fields = commands.PcrExtend fields.handles.0 fields.area fields.parameters.0
command_of codes.PcrRead fields = commands.PcrRead fields.parameters.0
command_of codes.VerifySignature fields = commands.VerifySignature fields.handles.0 fields.parameters.0 fields.parameters.1.0
command_of codes.Unseal fields = commands.Unseal fields.handles.0 fields.area
command_of codes.Hmac fields = commands.Hmac fields.handles.0 fields.area fields.parameters.0 fields.parameters.1.0
command_of codes.NvRead fields = commands.NvRead fields.handles.0 fields.handles.1.0 fields.area fields.parameters.0 fields.parameters.1.0
command_of codes.NvWrite fields = commands.NvWrite fields.handles.0 fields.handles.1.0 fields.area fields.parameters.0 fields.parameters.1.0
command_of codes.NvIncrement fields = commands.NvIncrement fields.handles.0 fields.handles.1.0 fields.area
command_of codes.Duplicate fields = commands.Duplicate fields.handles.0 fields.handles.1.0 fields.area
command_of codes.PolicyNv fields = commands.PolicyNv fields.handles.0 fields.handles.1.0 fields.handles.1.1.0 fields.area fields.parameters.0 fields.parameters.1.0 fields.parameters.1.1.0
command_of codes.PolicyCpHash fields = commands.PolicyCpHash fields.handles.0 fields.parameters.0
command_of codes.PolicyNameHash fields = commands.PolicyNameHash fields.handles.0 fields.parameters.0
command_of codes.PolicyAuthValue fields = commands.PolicyAuthValue fields.handles.0
command_of codes.PolicyPassword fields = commands.PolicyPassword fields.handles.0
command_of codes.PolicyPhysicalPresence fields = commands.PolicyPhysicalPresence fields.handles.0
command_of codes.PolicyCommandCode fields = commands.PolicyCommandCode fields.handles.0 fields.parameters.0
command_of codes.PolicyCounterTimer fields = commands.PolicyCounterTimer fields.handles.0 fields.parameters.0 fields.parameters.1.0 fields.parameters.1.1.0
command_of codes.PolicyLocality fields = commands.PolicyLocality fields.handles.0 fields.parameters.0
command_of codes.PolicyPcr fields = commands.PolicyPcr fields.handles.0 fields.parameters.0 fields.parameters.1.0
command_of codes.PolicyDuplicationSelect fields = commands.PolicyDuplicationSelect fields.handles.0 fields.parameters.0 fields.parameters.1.0 fields.parameters.1.1.0
command_of codes.PolicyNvWritten fields = commands.PolicyNvWritten fields.handles.0 fields.parameters.0
command_of codes.PolicySigned fields = commands.PolicySigned fields.handles.0 fields.handles.1.0 fields.parameters.0 fields.parameters.1.0 fields.parameters.1.1.0 fields.parameters.1.1.1.0 fields.parameters.1.1.1.1.0
command_of codes.PolicySecret fields = commands.PolicySecret fields.handles.0 fields.handles.1.0 fields.area fields.parameters.0 fields.parameters.1.0 fields.parameters.1.1.0 fields.parameters.1.1.1.0
command_of codes.PolicyTicket fields = commands.PolicyTicket fields.handles.0 fields.parameters.0 fields.parameters.1.0 fields.parameters.1.1.0 fields.parameters.1.1.1.0 fields.parameters.1.1.1.1.0
command_of codes.PolicyAuthorize fields = commands.PolicyAuthorize fields.handles.0 fields.parameters.0 fields.parameters.1.0 fields.parameters.1.1.0 fields.parameters.1.1.1.0
command_of codes.PolicyOr fields = commands.PolicyOr fields.handles.0 fields.parameters.0
command_of codes.PolicyAuthorizeNv fields = commands.PolicyAuthorizeNv fields.handles.0 fields.handles.1.0 fields.handles.1.1.0 fields.area

-- ---- spellings

-- the tag of a command with an authorization, and of one without
abbrev pub tag : Bool → ℕ
tag true = st_sessions
tag false = st_no_sessions

-- handles, authorization and parameters
abbrev pub body : (code : CommandCode) → Fields (row code) → List ℕ
body code fields = spell_values (row code).handles fields.handles ++ authorization (row code).is_authorized fields.area ++ spell_values (row code).parameters fields.parameters

-- the body behind its header
abbrev pub layout : (code : CommandCode) → Fields (row code) → List ℕ
layout code fields = message_bytes (tag (row code).is_authorized) (number_of_code code) (body code fields)

pub record FieldsFit (code : CommandCode) (fields : Fields (row code)) : Type 0 where
  pub handles : ValuesFit (row code).handles fields.handles
  pub area : AuthorizationFits (row code).is_authorized fields.area
  pub parameters : ValuesFit (row code).parameters fields.parameters

-- each field is within its row's bounds, and the authorization, where there is one, breaks no rule
abbrev pub FitsCommand : Command → Type 0
FitsCommand command = FieldsFit (code_of_command command) (fields_of command)

-- the one spelling of a command
abbrev pub spelling : Command → List ℕ
spelling command = layout (code_of_command command) (fields_of command)

-- the bytes of the parameters of a command
abbrev pub spell_parameters : Command → List ℕ
spell_parameters command = spell_values (row (code_of_command command)).parameters (fields_of command).parameters

-- a policy command that asserts an authorization of a key or an entity
abbrev pub is_assertion : CommandCode → Bool
is_assertion codes.PolicySigned = true
is_assertion codes.PolicySecret = true
is_assertion codes.PolicyTicket = true
is_assertion codes.PolicyAuthorize = true
is_assertion code = false

-- the bytes of its handles and its authorization
abbrev pub spell_front : Command → List ℕ
spell_front command = spell_values (row (code_of_command command)).handles (fields_of command).handles ++ authorization (row (code_of_command command)).is_authorized (fields_of command).area

-- the bytes are the command's one spelling, and its fields are within their bounds
pub record Spells (bytes : List ℕ) (command : Command) : Type 0 where
  pub whole : bytes ≡ spelling command
  pub fits : FitsCommand command

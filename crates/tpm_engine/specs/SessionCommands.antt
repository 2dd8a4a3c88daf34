-- The commands on sessions themselves: StartAuthSession, FlushContext, ContextSave, ContextLoad, PolicyRestart
-- and PolicyGetDigest (TPM 2.0 Part 3). A saved session is kept under the number of the event that saved it.
use Rattle.std.specs.Prelude.{ℕ, ◌+◌, ◌||◌, Bool, true, false, Option, None, is_some}
use Rattle.std.specs.Option.{option_map_or}
use Rattle.tpol_base.specs.declared.digest.Digest32.{Digest32}
use Rattle.tpol_base.specs.Digest.{zero_digest, is_same_digest}
use Rattle.tpol_base.specs.ResponseCode.{of_parameter, rc_handle, rc_integrity, rc_reference_h0, rc_session_memory}
use Rattle.tpol_wire.specs.declared.command.Command.{Command}
use Rattle.tpol_wire.specs.declared.command.Command.TheVariants as commands
use Rattle.tpol_wire.specs.declared.reply.Reply.{Reply}
use Rattle.tpol_wire.specs.declared.reply.Reply.TheVariants as replies
use Rattle.tpm_context.specs.Saved.{has_sequence, is_saved}
use Rattle.tpm_rules.specs.Rule.{or_else, unless}
use Rattle.tpm_rules.specs.Session.{policy_digest_of}
use Rattle.tpm_session.specs.Slots.{bits_of, content_at, first_free, handle_of_slot, is_live, state_at}
use Rattle.tpm_world.specs.Hashes.{context_mac, nonce_of_event, proof_of}
use Rattle.tpm_engine.specs.Tables.{TableState}

-- whether it is one of these commands
abbrev pub is_session_command : Command → Bool
is_session_command (commands.StartAuthSession tpm_key bind nonce) = true
is_session_command (commands.FlushContext session) = true
is_session_command (commands.ContextSave session) = true
is_session_command (commands.ContextLoad sequence session digest) = true
is_session_command (commands.PolicyRestart session) = true
is_session_command (commands.PolicyGetDigest session) = true
is_session_command _ = false

-- the least slot that has neither a live nor a saved session
abbrev pub free_slot : TableState → Option ℕ
free_slot tables = first_free tables.sessions (bits_of tables.saved)

-- that a session is live, as the rule on handles asks too
abbrev pub live_rule : TableState → ℕ → Option ℕ
live_rule tables session = unless (is_live tables.sessions session) rc_reference_h0

-- that there is a free slot
abbrev pub start_rule : TableState → Option ℕ
start_rule tables = unless (is_some (free_slot tables)) rc_session_memory

-- that the session to be flushed is live or saved
abbrev pub flush_rule : TableState → ℕ → Option ℕ
flush_rule tables session = unless (is_live tables.sessions session || is_saved tables.saved session) (rc_handle + of_parameter 1)

-- that the context to be loaded is one of this machine, and that its session is saved under its sequence number
abbrev pub load_rule : TableState → ℕ → ℕ → Digest32 → Option ℕ
load_rule tables sequence session digest =
    or_else (unless (is_same_digest digest (context_mac (proof_of tables.world.seed) sequence session)) (rc_integrity + of_parameter 1))
    (unless (has_sequence (content_at tables.saved session) sequence) (rc_handle + of_parameter 1))

-- the first rule that one of them breaks
abbrev pub session_rule : TableState → Command → Option ℕ
session_rule tables (commands.StartAuthSession tpm_key bind nonce) = start_rule tables
session_rule tables (commands.FlushContext session) = flush_rule tables session
session_rule tables (commands.ContextSave session) = live_rule tables session
session_rule tables (commands.ContextLoad sequence session digest) = load_rule tables sequence session digest
session_rule tables (commands.PolicyRestart session) = live_rule tables session
session_rule tables (commands.PolicyGetDigest session) = live_rule tables session
session_rule tables _ = None

-- the reply to StartAuthSession: the handle of the free slot, and the nonce of the event
abbrev pub started_reply : TableState → ℕ → Reply
started_reply tables number =
    replies.StartAuthSession (option_map_or handle_of_slot (free_slot tables) 0) (nonce_of_event tables.world.seed number)

-- the reply to PolicyGetDigest: the session's policyDigest
abbrev pub digest_reply : TableState → ℕ → Reply
digest_reply tables session = replies.PolicyGetDigest (option_map_or policy_digest_of (state_at tables.sessions session) zero_digest)

-- the reply to one of them
abbrev pub session_reply : TableState → ℕ → Command → Reply
session_reply tables number (commands.StartAuthSession tpm_key bind nonce) = started_reply tables number
session_reply tables number (commands.FlushContext session) = replies.FlushContext
session_reply tables number (commands.ContextSave session) =
    replies.ContextSave number session (context_mac (proof_of tables.world.seed) number session)
session_reply tables number (commands.ContextLoad sequence session digest) = replies.ContextLoad session
session_reply tables number (commands.PolicyRestart session) = replies.PolicyRestart
session_reply tables number (commands.PolicyGetDigest session) = digest_reply tables session
session_reply tables number _ = replies.FlushContext

-- What a command that is no policy command does is its deed.
use Rattle.std.proofs.Common.{◌≡◌, ℕ, true, false, List, None, refl, sym}
use Rattle.std.proofs.lemmas.Bool.{false≢true}
use Rattle.tpol_wire.specs.declared.command.Command.{Command}
use Rattle.tpol_wire.specs.declared.command.Command.TheVariants as commands
use Rattle.tpol_wire.specs.Replies.{spell_reply}
use Rattle.tpol_wire.specs.Handles.{is_policy_command}
use Rattle.tpm_world.specs.Plain.{world_after}
use Rattle.tpm_engine.specs.Answers.{succeeding}
use Rattle.tpm_engine.specs.Deeds.{after_deed, command_deed, plain_deed}
use Rattle.tpm_engine.specs.SessionCommands.{is_session_command, session_reply}
use Rattle.tpm_engine.specs.Tables.{TableState}
use Rattle.tpm_engine.proofs.Slotted.{tables_of}

-- the reply to a command on sessions has no authorization
pub session-deed : (tables : TableState) (number : ℕ) (command : Command) → is_session_command command ≡ true
    → plain_deed command (spell_reply (session_reply tables number command) None) ≡ command_deed command (succeeding tables number command).reply
session-deed tables number (commands.StartAuthSession tpm_key bind nonce) h = refl
session-deed tables number (commands.FlushContext session) h = refl
session-deed tables number (commands.ContextSave session) h = refl
session-deed tables number (commands.ContextLoad sequence session digest) h = refl
session-deed tables number (commands.PolicyRestart session) h = refl
session-deed tables number (commands.PolicyGetDigest session) h = refl
session-deed tables number _ h = absurd (false≢true h)

-- a command on entities and PCRs leaves the sessions
pub plain-deed : (tables : TableState) (number : ℕ) (command : Command) (reply : List ℕ) → is_policy_command command ≡ false → is_session_command command ≡ false
    → tables_of (world_after tables.world command) tables.sessions tables.saved ≡ after_deed number (command_deed command reply) tables
plain-deed tables number (commands.StartAuthSession tpm_key bind nonce) reply p s = absurd (false≢true (sym s))
plain-deed tables number (commands.FlushContext session) reply p s = absurd (false≢true (sym s))
plain-deed tables number (commands.ContextSave session) reply p s = absurd (false≢true (sym s))
plain-deed tables number (commands.ContextLoad sequence session digest) reply p s = absurd (false≢true (sym s))
plain-deed tables number (commands.PolicyRestart session) reply p s = absurd (false≢true (sym s))
plain-deed tables number (commands.PolicyGetDigest session) reply p s = absurd (false≢true (sym s))
plain-deed tables number (commands.PcrExtend pcr auth digest) reply p s = refl
plain-deed tables number (commands.PcrRead mask) reply p s = refl
plain-deed tables number (commands.VerifySignature key digest signature) reply p s = refl
plain-deed tables number (commands.Unseal object auth) reply p s = refl
plain-deed tables number (commands.Hmac key auth buffer hash) reply p s = refl
plain-deed tables number (commands.NvRead authority index auth size offset) reply p s = refl
plain-deed tables number (commands.NvWrite authority index auth bytes offset) reply p s = refl
plain-deed tables number (commands.NvIncrement authority index auth) reply p s = refl
plain-deed tables number (commands.Duplicate object parent auth) reply p s = refl
plain-deed tables number _ reply p s = absurd (false≢true (sym p))

-- What events show: the digest of a PolicyPCR is that of the PCRs of its moment.
use Rattle.std.proofs.Common.{ℕ, ◌==◌, Bool, true, false, List, Option, None, Some, Result, Ok, Err, cond, if◌then◌else◌, refl}
use Rattle.std.specs.Prelude.{pos}
use Rattle.std.specs.Option.{option_and_then, option_map_or}
use Rattle.tpol_base.specs.declared.command_code.CommandCode.TheVariants.{StartAuthSession}
use Rattle.tpol_base.specs.declared.digest.Digest32.{Digest32}
use Rattle.tpol_base.specs.declared.name.Name.{Name}
use Rattle.tpol_base.specs.CommandCode.{number_of_code}
use Rattle.tpol_base.specs.Constants.{st_auth_secret}
use Rattle.tpol_tree.specs.declared.closed.Assertion.TheVariants.{Secret, Signed}
use Rattle.tpol_tree.specs.declared.path.Move.TheVariants.{Assert}
use Rattle.tpol_wire.specs.declared.command.Command.{Command}
use Rattle.tpol_wire.specs.declared.command.Command.TheVariants as commands
use Rattle.tpol_wire.specs.Reading.{reading}
use Rattle.tpol_wire.specs.ReplyReading.{reply_reading}
use Rattle.tpm_pcr.specs.Bank.{Bank}
use Rattle.tpm_engine.specs.declared.event.Event.{Event}
use Rattle.tpm_engine.specs.declared.event.Event.TheVariants as events
use Rattle.tpm_engine.specs.Deeds.{Deed, Idle, Starts, command_deed, deed_in, deed_of, started_session}
use Rattle.tpm_engine.specs.Events.{is_success}
use Rattle.tpm_engine.specs.Facts.{Moment}
use Rattle.tpm_engine.specs.Uses.{IsOfPcrs}
use Rattle.tpm_engine.proofs.PcrsChanged.{ShowsPcrs}

started : (session : Option ℕ) (now : Moment) → ShowsPcrs (option_map_or Starts session Idle) now
started None now = tt
started (Some session) now = tt

-- a ticket stands for a PolicySecret or a PolicySigned
ticketed : (pcrs : Bank) (secret : Bool) (key : Name) (policy_ref : List ℕ) (cp_hash : Option Digest32)
    → IsOfPcrs pcrs (Assert (cond secret (Secret key policy_ref cp_hash (pos 0)) (Signed key policy_ref cp_hash (pos 0))))
ticketed pcrs true key policy_ref cp_hash = tt
ticketed pcrs false key policy_ref cp_hash = tt

command-pcrs : (command : Command) (reply : List ℕ) (now : Moment) → ShowsPcrs (command_deed command reply) now
command-pcrs (commands.StartAuthSession tpm_key bind nonce) reply now = started (option_and_then (λ found. started_session found.0) (reply_reading (number_of_code StartAuthSession) reply)) now
command-pcrs (commands.PolicyPcr session given mask) reply now = refl
command-pcrs (commands.PolicyTicket session timeout cp_hash policy_ref key ticket) reply now = ticketed now.world.pcrs (ticket.tag == st_auth_secret) key policy_ref cp_hash
command-pcrs _ reply now = tt

deed-pcrs : (read : Result Command ℕ) (reply : List ℕ) (now : Moment) → ShowsPcrs (deed_in read reply) now
deed-pcrs (Ok command) reply now = command-pcrs command reply now
deed-pcrs (Err code) reply now = tt

chosen : (success : Bool) (deed : Deed) (now : Moment) → ShowsPcrs deed now → ShowsPcrs (if success then deed else Idle) now
chosen true deed now shows = shows
chosen false deed now shows = tt

pub shows-pcrs : (event : Event) (now : Moment) → ShowsPcrs (deed_of event) now
shows-pcrs (events.Command client locality buffer reply outcome) now = chosen (is_success outcome) (deed_in (reading buffer) reply) now (deed-pcrs (reading buffer) reply now)
shows-pcrs (events.Time ms) now = tt
shows-pcrs (events.Presence on) now = tt
shows-pcrs events.Reset now = tt

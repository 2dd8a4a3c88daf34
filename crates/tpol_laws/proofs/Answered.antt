-- What the machine answers to a command, and what is heard of it: a stop is heard as a denial, and a command that
-- nothing stops did what it does.
use Rattle.std.proofs.Common.{◌≡◌, ℕ, Bool, true, false, List, Option, None, Some, IfSome, Result, Ok, Err, is_some, if◌then◌else◌, refl, ap, sym, subst, ◌∙◌}
use Rattle.std.specs.Prelude.{⊤}
use Rattle.std.specs.Option.{option_map}
use Rattle.tpol_base.specs.Handle.{rs_pw}
use Rattle.tpol_wire.specs.declared.auth_area.AuthArea.{AuthArea}
use Rattle.tpol_wire.specs.declared.command.Command.{Command}
use Rattle.tpol_wire.specs.declared.reply.Reply.TheVariants as replies
use Rattle.tpol_wire.specs.Commands.{FitsCommand, spelling}
use Rattle.tpol_wire.specs.Reading.{reading}
use Rattle.tpol_wire.specs.Replies.{spell_reply}
use Rattle.tpol_wire.specs.ReplyReading.{reply_reading}
use Rattle.tpol_wire.proofs.CommandLaws.{command_read}
use Rattle.tpol_wire.proofs.ReplyLaws.{reply_read}
use Rattle.tpm_rules.specs.declared.outcome.Outcome.{Outcome}
use Rattle.tpm_rules.specs.declared.outcome.Outcome.TheVariants.{Accepted, Denied, Refused, Served}
use Rattle.tpol_wire.specs.Handles.{area_of}
use Rattle.tpm_engine.specs.declared.event.Event.{Event}
use Rattle.tpm_engine.specs.declared.stop.Stop.{Stop}
use Rattle.tpm_engine.specs.Answers.{answer, answer_to_reading, answer_unless, early_stop, first_stop, own_rule, stopped, succeeding, success_of}
use Rattle.tpm_engine.specs.Deeds.{Deed, Idle, SessionUse, area_use, command_deed, deed_in, deed_of, use_in, use_of}
use Rattle.tpm_engine.specs.Events.{Answered, event_of, is_served, is_success}
use Rattle.tpm_engine.specs.Stops.{refuses}
use Rattle.tpm_engine.specs.Tables.{TableState}
use Rattle.tpm_engine.proofs.Serving.{first-fails, success-is}
use Rattle.tpm_engine.proofs.Stopping.{map-none, or_else-none}
use Rattle.tpol_laws.proofs.Codes.{Coded, IsCode}

-- what a command within its bounds spells is read as that command
pub read-back : (command : Command) → FitsCommand command → reading (spelling command) ≡ Ok command
read-back command fits = command_read (spelling command) command (record { whole = refl; fits = fits })

-- a refusal is read as one, whatever was sent
pub refusal-read : (number code : ℕ) → IsCode code
    → reply_reading number (spell_reply (replies.Refused (record { code = code })) None) ≡ Some (replies.Refused (record { code = code }), None)
refusal-read number code is =
    reply_read number _ (replies.Refused (record { code = code })) None (record { whole = refl; fits = (is.fails, is.fits, refl); answers = tt })

-- ---- stopped, or not

by-stop : (P : Answered → Type 0) (first : Option Stop) (done : Answered)
    → ((stop : Stop) → first ≡ Some stop → P (stopped stop)) → (first ≡ None → P done) → P (answer_unless first done)
by-stop P None done stops goes = goes refl
by-stop P (Some stop) done stops goes = stops stop refl

pub on-answer : (P : Answered → Type 0) (tables : TableState) (number locality : ℕ) (buffer : List ℕ) (command : Command) → reading buffer ≡ Ok command
    → ((stop : Stop) → first_stop tables locality command ≡ Some stop → P (stopped stop))
    → (first_stop tables locality command ≡ None → P (succeeding tables number command))
    → P (answer tables number locality buffer)
unfolding answer
on-answer P tables number locality buffer command reads stops goes =
    subst P (ap (answer_to_reading tables number locality) (sym reads))
    (by-stop P (first_stop tables locality command) (succeeding tables number command) stops goes)

-- bytes that spell no command are refused
pub on-refusal : (P : Answered → Type 0) (tables : TableState) (number locality : ℕ) (buffer : List ℕ) (code : ℕ) → reading buffer ≡ Err code
    → P (stopped (refuses code)) → P (answer tables number locality buffer)
unfolding answer
on-refusal P tables number locality buffer code reads refused =
    subst P (ap (answer_to_reading tables number locality) (sym reads)) refused

-- where nothing stops a command its own rules hold
pub own-passed : (tables : TableState) (locality : ℕ) (command : Command) → first_stop tables locality command ≡ None → own_rule tables command ≡ None
own-passed tables locality command none =
    map-none refuses (own_rule tables command) (or_else-none (early_stop tables locality command) (option_map refuses (own_rule tables command)) none).1

-- a stop has a code where each may have one
pub stop-code : (first : Option Stop) (stop : Stop) → Coded first → first ≡ Some stop → IsCode stop.code
stop-code first stop coded is = subst Coded is coded

-- ---- the event

-- a command that is stopped did nothing
pub record DidNothing (event : Event) : Type 0 where
  pub deed : deed_of event ≡ Idle
  pub uses : use_of event ≡ None

unserved : (b : Bool) → b ≡ false → (deed : Deed) → (if b then deed else Idle) ≡ Idle
unserved true h deed = absurd cc
unserved false h deed = refl

unused : (b : Bool) → b ≡ false → (served : Option SessionUse) → (if b then served else None) ≡ None
unused true h served = absurd cc
unused false h served = refl

not-served : (stop : Stop) → is_success stop.outcome ≡ false → is_served stop.outcome ≡ false
not-served stop fails = served stop.outcome fails
  where
    served : (outcome : Outcome) → is_success outcome ≡ false → is_served outcome ≡ false
    served Accepted h = absurd cc
    served Served h = absurd cc
    served (Denied denial) h = refl
    served (Refused rc) h = refl

pub stopped-idle : (client locality : ℕ) (buffer : List ℕ) (stop : Stop) → is_success stop.outcome ≡ false → DidNothing (event_of client locality buffer (stopped stop))
stopped-idle client locality buffer stop fails = record {
  deed = unserved (is_success stop.outcome) fails (deed_in (reading buffer) (stopped stop).reply);
  uses = unused (is_served stop.outcome) (not-served stop fails) (use_in (reading buffer));
}

pub stop-fails : (tables : TableState) (locality : ℕ) (command : Command) (stop : Stop) → first_stop tables locality command ≡ Some stop → is_success stop.outcome ≡ false
stop-fails tables locality command stop is = subst (λ (o : Option Stop). IfSome o (λ s. is_success s.outcome ≡ false)) is (first-fails tables locality command)

-- a command that nothing stops did what it does
pub done-deed : (tables : TableState) (number client locality : ℕ) (buffer : List ℕ) (command : Command) → reading buffer ≡ Ok command
    → deed_of (event_of client locality buffer (succeeding tables number command)) ≡ command_deed command (succeeding tables number command).reply
done-deed tables number client locality buffer command reads =
    ap (λ b. if b then deed_in (reading buffer) (succeeding tables number command).reply else Idle) (success-is command)
    ∙ ap (λ (read : Result Command ℕ). deed_in read (succeeding tables number command).reply) reads

served-use : (o : Option AuthArea) → (if is_served (if is_some o then Served else Accepted) then area_use o else None) ≡ area_use o
served-use None = refl
served-use (Some area) = refl

pub done-use : (tables : TableState) (number client locality : ℕ) (buffer : List ℕ) (command : Command) → reading buffer ≡ Ok command
    → use_of (event_of client locality buffer (succeeding tables number command)) ≡ area_use (area_of command)
done-use tables number client locality buffer command reads =
    ap (λ (read : Result Command ℕ). if is_served (success_of command) then use_in read else None) reads ∙ served-use (area_of command)

-- by a password, or with no authorization, no session is used
abbrev pub IsByPassword : Option AuthArea → Type 0
IsByPassword None = ⊤
IsByPassword (Some area) = area.session ≡ rs_pw

pub password-use : (area : Option AuthArea) → IsByPassword area → area_use area ≡ None
password-use None h = refl
password-use (Some area) h = rw h refl

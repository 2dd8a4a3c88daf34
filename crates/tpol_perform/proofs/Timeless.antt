-- Commands take no time and reset nothing, and each is one event more.
use Rattle.std.proofs.Common.{◌≡◌, ◌∙◌, ℕ, ◌+◌, Bool, true, false, List, ◌∷◌, length, if◌then◌else◌, Option, Some, None, Result, Ok, Err, add-one, ap, refl, sym}
use Rattle.std.specs.Option.{option_map_or}
use Rattle.tpm_engine.specs.Deeds.{Deed, Idle, Shows, Starts, deed_in, deed_of, plain_deed}
use Rattle.tpm_engine.specs.Events.{Answered, event_of, is_success}
use Rattle.tpm_engine.specs.Facts.{shown_by, Shown}
use Rattle.tpm_engine.specs.Views.{reset_count_after, reset_count_of, time_after, time_of}
use Rattle.tpol_name.specs.declared.setup.Setup.{Setup}
use Rattle.tpol_wire.specs.declared.command.Command.{Command}
use Rattle.tpol_wire.specs.declared.command.Command.TheVariants as commands
use Rattle.tpol_wire.specs.Reading.{reading}
use Rattle.tpm_engine.specs.declared.event.Event.{Event}
use Rattle.tpol_perform.specs.CommandsTold.{command_told}
use Rattle.tpol_perform.specs.Performance.{PerformanceState}

-- a deed leaves the time and the reset count
abbrev Leaves : Deed → ℕ → ℕ → Type 0
Leaves deed time count = (time_after deed time ≡ time) × (reset_count_after deed count ≡ count)

starts : (session : Option ℕ) (time count : ℕ) → Leaves (option_map_or Starts session Idle) time count
starts None time count = (refl, refl)
starts (Some session) time count = (refl, refl)

plain : (command : Command) (reply : List ℕ) (time count : ℕ) → Leaves (plain_deed command reply) time count
plain (commands.StartAuthSession tpm_key bind nonce) reply time count = starts _ time count
plain command reply time count = (refl, refl)

shown_or : (shown : Option Shown) (deed : Deed) (time count : ℕ) → Leaves deed time count → Leaves (option_map_or (λ s. Shows s.0 s.1) shown deed) time count
shown_or None deed time count h = h
shown_or (Some shown) deed time count h = (refl, refl)

of_reading : (found : Result Command ℕ) (reply : List ℕ) (time count : ℕ) → Leaves (deed_in found reply) time count
of_reading (Ok command) reply time count = shown_or (shown_by command) (plain_deed command reply) time count (plain command reply time count)
of_reading (Err code) reply time count = (refl, refl)

of_success : (success : Bool) (found : Result Command ℕ) (reply : List ℕ) (time count : ℕ) → Leaves (if success then deed_in found reply else Idle) time count
of_success true found reply time count = of_reading found reply time count
of_success false found reply time count = (refl, refl)

pub command_takes_no_time : (setup : Setup) (past : List Event) (client locality : ℕ) (buffer : List ℕ) (answered : Answered) → time_of setup (event_of client locality buffer answered ∷ past) ≡ time_of setup past
unfolding time_of
command_takes_no_time setup past client locality buffer answered =
    (of_success (is_success answered.outcome) (reading buffer) answered.reply (time_of setup past) 0).0

pub command_resets_nothing : (setup : Setup) (past : List Event) (client locality : ℕ) (buffer : List ℕ) (answered : Answered) → reset_count_of setup (event_of client locality buffer answered ∷ past) ≡ reset_count_of setup past
unfolding reset_count_of
command_resets_nothing setup past client locality buffer answered =
    (of_success (is_success answered.outcome) (reading buffer) answered.reply 0 (reset_count_of setup past)).1

-- the reset count behind an event
pub counts_on : (event : Event) (before after : Setup) (past events : List Event) → after ≡ before → events ≡ event ∷ past
    → reset_count_after (deed_of event) (reset_count_of before past) ≡ reset_count_of after events
unfolding reset_count_of
counts_on event before after past events same there =
    sym (ap (λ (s : Setup). reset_count_of s events) same ∙ ap (reset_count_of before) there)

-- what a command and the lines behind it leave
pub one_event_more : (client locality : ℕ) (buffer : List ℕ) (answered : Answered) (old told new : PerformanceState) → told ≡ command_told client locality buffer answered old
    → new.past ≡ told.past → length new.past ≡ length old.past + 1
one_event_more client locality buffer answered old told new command past =
    ap length (past ∙ ap (λ (p : PerformanceState). p.past) command) ∙ sym (add-one (length old.past))

pub same_setup : (client locality : ℕ) (buffer : List ℕ) (answered : Answered) (old told new : PerformanceState) → told ≡ command_told client locality buffer answered old
    → new.setup ≡ told.setup → new.setup ≡ old.setup
same_setup client locality buffer answered old told new command setup = setup ∙ ap (λ (p : PerformanceState). p.setup) command

pub same_time : (client locality : ℕ) (buffer : List ℕ) (answered : Answered) (old told new : PerformanceState) → told ≡ command_told client locality buffer answered old
    → new.past ≡ told.past → new.setup ≡ told.setup → time_of new.setup new.past ≡ time_of old.setup old.past
same_time client locality buffer answered old told new command past setup =
    ap (λ (s : Setup). time_of s new.past) (same_setup client locality buffer answered old told new command setup)
    ∙ (ap (time_of old.setup) (past ∙ ap (λ (p : PerformanceState). p.past) command)
    ∙ command_takes_no_time old.setup old.past client locality buffer answered)

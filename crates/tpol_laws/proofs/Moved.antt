-- One turn of a run that stands where its chooser does: its session starts, an approval is verified, a move is made.
use Rattle.std.proofs.Common.{◌≡◌, ◌<◌, ◌≤◌, ◌-◌, ℕ, ◌+◌, ◌&&◌, true, false, All, List, [], ◌∷◌, ◌++◌, length, nat_le, nat_lt, refl, ap, sym, subst, ◌∙◌, arith}
use Rattle.std.specs.Prelude.{Option, Some, None, slice_get, if◌then◌else◌}
use Rattle.std.specs.Option.{option_map_or}
use Rattle.std.proofs.lemmas.Bool.Decides.{nat_tests}
use Rattle.std.proofs.lemmas.List.{map-append}
use Rattle.std.proofs.lemmas.Option.{none-some}
use Rattle.tpol_base.specs.CommandCode.{number_of_code}
use Rattle.tpol_choose.specs.Clients.{Client}
use Rattle.tpol_choose.specs.Facts.{counter_after, fact_of_move, session_after}
use Rattle.tpol_choose.specs.Moves.{move_block}
use Rattle.tpol_digest.specs.Laws.{MoveHasBounds}
use Rattle.tpol_driver.specs.declared.session.Session.{Session}
use Rattle.tpol_driver.specs.declared.tickets.HeldTicket.{HeldTicket}
use Rattle.tpol_driver.specs.Answers.{answer_of}
use Rattle.tpol_driver.specs.Commands.{command_of_move}
use Rattle.tpol_driver.specs.Driving.{Moving, Standing, goes_on, heard_on_path, is_verification, move_heard, next_command}
use Rattle.tpol_driver.specs.Plans.{is_known_move}
use Rattle.tpol_driver.specs.Tickets.{ticket_command, ticket_for}
use Rattle.tpol_name.specs.declared.entries.DirEntry.{DirEntry}
use Rattle.tpol_name.specs.declared.sight.Sight.{Sight}
use Rattle.tpol_name.specs.Directories.{directory_of}
use Rattle.tpol_tree.specs.declared.closed.Assertion.TheVariants.{Secret, Signed}
use Rattle.tpol_tree.specs.declared.facts.Fact.{Fact}
use Rattle.tpol_tree.specs.declared.path.Move.{Move}
use Rattle.tpol_tree.specs.declared.path.Move.TheVariants.{Assert}
use Rattle.tpol_wire.specs.declared.command.Command.{Command}
use Rattle.tpol_fields.specs.declared.ticket.Ticket.{Ticket}
use Rattle.tpol_wire.specs.Commands.{FitsCommand, code_of_command, spelling}
use Rattle.tpol_wire.specs.ReplyReading.{reply_reading}
use Rattle.tpm_bindings.specs.Facts.{is_before, is_pcr}
use Rattle.tpm_bindings.specs.State.{SessionState}
use Rattle.tpm_session.specs.Kept.{counter_after as first_counter, with_fact}
use Rattle.tpm_session.specs.Slots.{IsSlotHandle, bits_of, free_count, state_at}
use Rattle.tpol_wire.specs.Handles.{area_of, is_policy_command}
use Rattle.tpm_world.specs.World.{WorldState}
use Rattle.tpm_engine.specs.declared.event.Event.{Event}
use Rattle.tpm_engine.specs.Answers.{first_stop, succeeding}
use Rattle.tpm_engine.specs.Deeds.{Shows, deed_of, plain_deed, use_of}
use Rattle.tpm_engine.specs.Events.{Answered, event_of}
use Rattle.tpm_engine.specs.Facts.{Shown}
use Rattle.tpm_engine.specs.Sights.{sight_after}
use Rattle.tpm_engine.specs.Views.{live_at, live_slot, next_number, session_state, view_of, world_at}
use Rattle.tpm_engine.proofs.Lookups.{content-table, is_slot_handle}
use Rattle.tpol_laws.specs.Acts.{Course, Run, Turn, after_act, answer_in, event_in}
use Rattle.tpol_laws.specs.HeldTickets.{IsUsable, TicketHasBounds}
use Rattle.tpol_laws.specs.Runs.{IsRun}
use Rattle.tpol_laws.proofs.Alike.{more-in-time, pcr-bound}
use Rattle.tpol_laws.proofs.Answered.{IsByPassword, done-deed, done-use, on-answer, password-use, read-back}
use Rattle.tpol_laws.proofs.Heard.{heard-stands, policy-heard}
use Rattle.tpol_laws.proofs.HeldTickets.{found-each, found-stands, held-command, own-ticket, plain-command}
use Rattle.tpol_laws.proofs.Kept.{Held, shows-on}
use Rattle.tpol_laws.proofs.Own.{own-move}
use Rattle.tpol_laws.proofs.Passing.{Passes, client_on, move-passes}
use Rattle.tpol_laws.proofs.Standing.{AreAlike, Stands, bind_of, chooser_of}
use Rattle.tpol_laws.proofs.Step.{is-of}
use Rattle.tpol_laws.proofs.TicketPasses.{IsTaken, taken, ticket-passes}

-- ---- a command that nothing stops

pub carried-out : (run : Run) (past : List Event) (command : Command) → FitsCommand command → first_stop (view_of run.setup past) run.locality command ≡ None
    → answer_in run past command ≡ succeeding (view_of run.setup past) (next_number past) command
carried-out run past command fits first =
    on-answer (λ a. a ≡ succeeding (view_of run.setup past) (next_number past) command) (view_of run.setup past) (next_number past) run.locality (spelling command) command (read-back command fits)
    (λ stop stops. absurd (none-some stop (sym first ∙ stops)))
    (λ none. refl)

-- ---- the session, as the tables have it

pub slot-handle : (handle : ℕ) → IsSlotHandle handle → is_slot_handle handle ≡ true
slot-handle handle slot =
    let least : 0x03000000 ≤ handle = slot.0 in
    let most : handle < 0x03000000 + 64 = slot.1 in
    let low : nat_le 0x03000000 handle ≡ true = grind (arith, nat_tests, least) in
    let high : nat_lt (handle - 0x03000000) 64 ≡ true = grind (arith, nat_tests, least, most) in
    rw (low, high) refl

pub stands-live : (run : Run) (first past : List Event) (session : Session) (chosen : SessionState) → Stands run first past session chosen
    → state_at (view_of run.setup past).sessions session.handle ≡ Some (session_state run.setup past session.handle)
unfolding view_of
stands-live run first past session chosen on =
    content-table (live_at run.setup past) session.handle
    ∙ ap (λ b. if b then live_at run.setup past session.handle else None) (slot-handle session.handle on.slot)
    ∙ (λ i. live_slot (on.held i) (on.unsaved i) (session_state run.setup past session.handle))

-- ---- the chooser's view of the world, which stays

pub chooser-now : (run : Run) (first past : List Event) → world_at run.setup past ≡ world_at run.setup first
    → client_on (view_of run.setup past).world (free_count (view_of run.setup first).sessions (bits_of (view_of run.setup first).saved)) run.plan.grants run.plan.goal run.locality ≡ chooser_of run first
unfolding sight_after view_of
chooser-now run first past same =
    ap (λ (w : WorldState). client_on w (free_count (view_of run.setup first).sessions (bits_of (view_of run.setup first).saved)) run.plan.grants run.plan.goal run.locality) same

-- and its time is the machine's
pub time-now : (run : Run) (first past : List Event) → world_at run.setup past ≡ world_at run.setup first → (sight_after run.setup first).time ≡ (view_of run.setup past).world.time
unfolding sight_after view_of
time-now run first past same = ap (λ (w : WorldState). w.time) (sym same)

-- ---- one more fact

fact-pcr : (sight : Sight) (session : SessionState) (act : Move) → is_pcr (fact_of_move sight session act).act ≡ is_pcr act
fact-pcr sight session (Assert (Secret entity policy_ref cp_hash expiration)) = refl
fact-pcr sight session (Assert (Signed key policy_ref cp_hash expiration)) = refl
fact-pcr sight session act = refl

pub more-alike : (kept chosen : SessionState) (sight : Sight) (act : Move) (fact : Fact) (counter : ℕ) → AreAlike kept chosen → bind_of fact ≡ bind_of (fact_of_move sight chosen act)
    → is_before chosen.start fact.deadline ≡ is_before chosen.start (fact_of_move sight chosen act).deadline → counter ≡ sight.pcr_counter
    → AreAlike (with_fact kept fact counter) (session_after sight chosen act)
more-alike kept chosen sight act fact counter alike same timely now =
    let new = fact_of_move sight chosen act in
    let pcrs : is_pcr fact.act ≡ is_pcr act = sym (pcr-bound fact.act) ∙ ap (λ (f : Fact). is_pcr f.act) same ∙ pcr-bound (fact_of_move sight chosen act).act ∙ fact-pcr sight chosen act in
    record {
      start = alike.start;
      binds = map-append bind_of kept.facts (fact ∷ []) ∙ (λ i. alike.binds i ++ same i ∷ []) ∙ sym (map-append bind_of chosen.facts (new ∷ []));
      counter = counters kept.counter chosen.counter alike.counter pcrs;
      in_time = more-in-time kept.facts fact chosen.start ∙ (λ i. alike.in_time i && timely i) ∙ sym (more-in-time chosen.facts new chosen.start);
    }
  where
    at : (o : Option ℕ) → is_pcr fact.act ≡ is_pcr act → first_counter o fact.act counter ≡ counter_after sight.pcr_counter o act
    at None pcrs = λ i. if pcrs i then Some (now i) else None
    at (Some n) pcrs = refl

    counters : (a b : Option ℕ) → a ≡ b → is_pcr fact.act ≡ is_pcr act → first_counter a fact.act counter ≡ counter_after sight.pcr_counter b act
    counters a b e pcrs = ap (λ (o : Option ℕ). first_counter o fact.act counter) e ∙ at b pcrs

-- ---- a ticket that the machine takes at the begin it takes now

taken-now : (run : Run) (first past : List Event) (held : HeldTicket) → world_at run.setup past ≡ world_at run.setup first → IsUsable run.setup first held → IsTaken run.setup (view_of run.setup past).world held
unfolding view_of
taken-now run first past held same usable = subst (λ (w : WorldState). IsTaken run.setup w held) (sym same) (taken run.setup first held usable)

-- ---- where a turn leads

-- the run goes on, and stands where its chooser does
pub record Moved (run : Run) (first : List Event) (session : Session) (sent : ℕ) (ticket : Option Ticket) (done : ℕ) (chosen : SessionState) (course : Course) : Type 0 where
  pub past : List Event
  pub is : course ≡ record { past = past; standing = Moving session sent ticket done }
  pub stands : Stands run first past session chosen

-- the course after what was sent
abbrev pub after_sent : Run → List Event → Session → ℕ → Option Ticket → ℕ → Option Move → Command → Course
after_sent run past session sent ticket done act command = record {
  past = event_in run past command ∷ past;
  standing = heard_on_path run.plan session sent ticket done act (answer_of (reply_reading (number_of_code (code_of_command command)) (answer_in run past command).reply));
}

pub turn-sends : (run : Run) (past : List Event) (session : Session) (sent : ℕ) (ticket : Option Ticket) (done : ℕ)
    → after_act run (record { past = past; standing = Moving session sent ticket done }) Turn
    ≡ after_sent run past session sent ticket done (slice_get run.plan.path.moves done) (next_command run.plan session sent ticket (slice_get run.plan.path.moves done))
turn-sends run past session sent ticket done = refl

-- with the directory of the setup, where no ticket stands for the move
pub move-sends : (run : Run) → run.plan.directory ≡ directory_of run.setup → (past : List Event) (session : Session) (sent : ℕ) (ticket : Option Ticket) (done : ℕ) (act : Move) → slice_get run.plan.path.moves done ≡ Some act
    → ticket_for run.plan.tickets act ≡ None
    → after_act run (record { past = past; standing = Moving session sent ticket done }) Turn
    ≡ after_sent run past session sent ticket done (Some act) (command_of_move (directory_of run.setup) run.plan.grants session ticket act)
move-sends run directory past session sent ticket done act at none =
    turn-sends run past session sent ticket done
    ∙ ap (λ (o : Option Move). after_sent run past session sent ticket done o (next_command run.plan session sent ticket o)) at
    ∙ ap (λ (c : Command). after_sent run past session sent ticket done (Some act) c) (plain-command run.plan session ticket act none)
    ∙ ap (λ (d : List DirEntry). after_sent run past session sent ticket done (Some act) (command_of_move d run.plan.grants session ticket act)) directory

-- and where one does
pub ticket-sends : (run : Run) (past : List Event) (session : Session) (sent : ℕ) (ticket : Option Ticket) (done : ℕ) (act : Move) → slice_get run.plan.path.moves done ≡ Some act
    → (held : HeldTicket) → ticket_for run.plan.tickets act ≡ Some held
    → after_act run (record { past = past; standing = Moving session sent ticket done }) Turn ≡ after_sent run past session sent ticket done (Some act) (ticket_command session held)
ticket-sends run past session sent ticket done act at held found =
    turn-sends run past session sent ticket done
    ∙ ap (λ (o : Option Move). after_sent run past session sent ticket done o (next_command run.plan session sent ticket o)) at
    ∙ ap (λ (c : Command). after_sent run past session sent ticket done (Some act) c) (held-command run.plan session ticket act held found)

-- ---- a policy command

module _ (run : Run) (first past : List Event) (session : Session) (chosen : SessionState) (on : Stands run first past session chosen) (act : Move) (command : Command) (fits : FitsCommand command) (area : IsByPassword (area_of command)) where
  pub shown-stands : Passes (view_of run.setup past) run.locality session.handle (session_state run.setup past session.handle) (chooser_of run first) chosen act command
      → Stands run first (event_in run past command ∷ past) session (session_after (sight_after run.setup first) chosen act)
  unfolding view_of session_state sight_after
  shown-stands passes =
      let made = carried-out run past command fits passes.first in
      let reads = read-back command fits in
      let deed : deed_of (event_in run past command) ≡ Shows session.handle passes.fact =
      ap (λ (a : Answered). deed_of (event_of run.client run.locality (spelling command) a)) made
      ∙ done-deed (view_of run.setup past) (next_number past) run.client run.locality (spelling command) command reads
      ∙ ap (λ (o : Option Shown). option_map_or (λ (shown : Shown). Shows shown.0 shown.1) o (plain_deed command (succeeding (view_of run.setup past) (next_number past) command).reply)) passes.shows in
      let uses : use_of (event_in run past command) ≡ None =
      ap (λ (a : Answered). use_of (event_of run.client run.locality (spelling command) a)) made
      ∙ done-use (view_of run.setup past) (next_number past) run.client run.locality (spelling command) command reads
      ∙ password-use (area_of command) area in
      let shows = shows-on run.setup past (event_in run past command) session.handle passes.fact deed uses in
      record {
        slot = on.slot;
        held = ap (λ (h : Held). h.held) shows.held ∙ on.held;
        unsaved = ap (λ (h : Held). h.sequence) shows.held ∙ on.unsaved;
        nonce = ap (λ (h : Held). h.state.nonce) shows.held ∙ on.nonce;
        alike = subst (λ (s : SessionState). AreAlike s (session_after (sight_after run.setup first) chosen act)) (sym (ap (λ (h : Held). h.state) shows.held))
            (more-alike (session_state run.setup past session.handle) chosen (sight_after run.setup first) act _ (world_at run.setup past).pcrs.counter on.alike (passes.same (next_number past)) (passes.in_time (next_number past)) (ap (λ (w : WorldState). w.pcrs.counter) on.world));
        since = on.since;
        world = shows.world ∙ on.world;
      }

  pub shown-moved : (sent done : ℕ) (ticket : Option Ticket) → is_policy_command command ≡ true → is_verification ticket act ≡ false
      → Passes (view_of run.setup past) run.locality session.handle (session_state run.setup past session.handle) (chooser_of run first) chosen act command
      → Moved run first session (sent + 1) None (done + 1) (session_after (sight_after run.setup first) chosen act) (after_sent run past session sent ticket done (Some act) command)
  shown-moved sent done ticket policy other passes =
      record {
        past = event_in run past command ∷ past;
        is = ap (λ (s : Standing). record { past = event_in run past command ∷ past; standing = s })
            (ap (λ (a : Answered). goes_on session sent done (move_heard ticket act (done + 1) (answer_of (reply_reading (number_of_code (code_of_command command)) a.reply)))) (carried-out run past command fits passes.first)
            ∙ heard-stands session.handle session.nonce sent done (done + 1) (number_of_code (code_of_command command)) ticket act _ (policy-heard (view_of run.setup past) (next_number past) command policy area) other);
        stands = shown-stands passes;
      }

-- a move that is no approval, by its own command or by a ticket that the machine takes
pub plain-moved : (run : Run) → IsRun run → (first : List Event) → All (IsUsable run.setup first) run.plan.tickets → (past : List Event) (session : Session) (sent done : ℕ) (chosen : SessionState) → Stands run first past session chosen
    → length (session_state run.setup past session.handle).facts < 512
    → (act : Move) → slice_get run.plan.path.moves done ≡ Some act → is_verification None act ≡ false → MoveHasBounds act → is_known_move (directory_of run.setup) run.plan.grants act ≡ true
    → move_block (chooser_of run first) chosen act ≡ None
    → Moved run first session (sent + 1) None (done + 1) (session_after (sight_after run.setup first) chosen act) (after_act run (record { past = past; standing = Moving session sent None done }) Turn)
plain-moved run is first usable past session sent done chosen on few act at other bounds known opens = by (ticket_for run.plan.tickets act) refl
  where
    by : (o : Option HeldTicket) → ticket_for run.plan.tickets act ≡ o
        → Moved run first session (sent + 1) None (done + 1) (session_after (sight_after run.setup first) chosen act) (after_act run (record { past = past; standing = Moving session sent None done }) Turn)
    by None none =
        let free = free_count (view_of run.setup first).sessions (bits_of (view_of run.setup first).saved) in
        let now = chooser-now run first past on.world in
        let opens_now = subst (λ (c : Client). move_block c chosen act ≡ None) (sym now) opens in
        let made = own-move run.setup is.setup (view_of run.setup past).world (is-of run.setup past) run.plan.grants is.grants session.handle session.nonce on.slot None act tt bounds known other in
        let command = command_of_move (directory_of run.setup) run.plan.grants session None act in
        let passes = move-passes run.setup is.setup (view_of run.setup past) (is-of run.setup past) free run.plan.grants run.plan.goal run.locality session.handle on.slot (session_state run.setup past session.handle)
        (stands-live run first past session chosen on) few session.nonce on.nonce chosen on.alike act other opens_now in
        subst (Moved run first session (sent + 1) None (done + 1) (session_after (sight_after run.setup first) chosen act)) (sym (move-sends run is.directory past session sent None done act at none))
        (shown-moved run first past session chosen on act command made.fits made.area sent done None made.policy other
        (subst (λ (c : Client). Passes (view_of run.setup past) run.locality session.handle (session_state run.setup past session.handle) c chosen act command) now passes))
    by (Some held) found =
        let free = free_count (view_of run.setup first).sessions (bits_of (view_of run.setup first).saved) in
        let now = chooser-now run first past on.world in
        let opens_now = subst (λ (c : Client). move_block c chosen act ≡ None) (sym now) opens in
        let stands = found-stands run.plan.tickets act held found in
        let made = own-ticket (view_of run.setup past).world session.handle session.nonce on.slot held (found-each TicketHasBounds run.plan.tickets act held is.tickets found) act stands bounds in
        let command = ticket_command session held in
        let takes = taken-now run first past held on.world (found-each (IsUsable run.setup first) run.plan.tickets act held usable found) in
        let passes = ticket-passes run.setup is.setup (view_of run.setup past) (is-of run.setup past) free run.plan.grants run.plan.goal run.locality session.handle on.slot (session_state run.setup past session.handle)
        (stands-live run first past session chosen on) few session.nonce chosen on.alike (on.since ∙ time-now run first past on.world) held takes act stands opens_now in
        subst (Moved run first session (sent + 1) None (done + 1) (session_after (sight_after run.setup first) chosen act)) (sym (ticket-sends run past session sent None done act at held found))
        (shown-moved run first past session chosen on act command made.fits made.area sent done None made.policy other
        (subst (λ (c : Client). Passes (view_of run.setup past) run.locality session.handle (session_state run.setup past session.handle) c chosen act command) now passes))

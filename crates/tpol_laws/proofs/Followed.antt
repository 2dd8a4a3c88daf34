-- A run of a scene's script is a run among others: its turns are turns of the run.
use Rattle.std.proofs.Common.{◌≡◌, ◌⊎◌, inl, inr, ℕ, zero, suc, ◌+◌, ◌<◌, ◌^◌, if◌then◌else◌, true≢false, Bool, true, false, List, [], ◌∷◌, ◌++◌, ◌-◌, slice_get, IfSome, Option, Some, None, nat_eq, refl, ap, sym, subst, ◌∙◌, arith, append_assoc}
use Rattle.std.specs.List.{AllByRecursion}
use Rattle.std.specs.Prelude.{⊤, All, Contains, find, replicate}
use Rattle.std.proofs.lemmas.Bool.{eqb-true}
use Rattle.std.proofs.lemmas.List.Elements.{All-append, All-cons, All-nil, Contains-append_left, Contains-append_right, Contains-push}
use Rattle.std.proofs.lemmas.Option.{none-some, same_Some}
use Rattle.tpol_driver.specs.declared.blind_end.BlindEnd.{BlindEnd}
use Rattle.tpol_driver.specs.declared.blind_end.BlindEnd.TheVariants as blind_ends
use Rattle.tpol_driver.specs.declared.blind_plan.BlindPlan.{BlindPlan}
use Rattle.tpol_driver.specs.declared.end.End.{End}
use Rattle.tpol_driver.specs.declared.end.End.TheVariants as ends
use Rattle.tpol_driver.specs.declared.plan.Plan.{Plan}
use Rattle.tpol_driver.specs.Blind as blind
use Rattle.tpol_driver.specs.Blind.{BlindDrive, blind_sends}
use Rattle.tpol_driver.specs.Driving.{Closing, Drive, Ends, Moving, Over, Sends, Standing, Starting, sends}
use Rattle.tpol_driver.specs.declared.tickets.HeldTicket.{HeldTicket}
use Rattle.tpol_lines.specs.Lines.{line_of}
use Rattle.tpol_lines.specs.Runs.{chosen_line, end_line, over_line}
use Rattle.tpol_name.specs.declared.setup.Setup.{Setup}
use Rattle.tpol_perform.specs.Blind.{with_blind_end, with_path}
use Rattle.tpol_perform.specs.Performance.{PerformanceState, with_line}
use Rattle.tpol_perform.specs.CommandsTold.{commanded}
use Rattle.tpol_perform.specs.Script.{all_happened, happened, turn_told}
use Rattle.tpol_perform.specs.Turns.{most_turns, sent, sent_now, replied, turned, turned_and, turned_by, turned_on, turned_times, turned_to_end, turned_to_end_by, with_end, heard_now}
use Rattle.tpol_perform.specs.declared.tickets.Kept.{Kept}
use Rattle.tpol_perform.specs.Tickets.{with_kept}
use Rattle.tpol_prepare.specs.declared.scenario.Scenario.{Scenario}
use Rattle.tpol_prepare.specs.Scenario.{paths_named}
use Rattle.tpol_scene.specs.declared.script.ScriptEvent.{ScriptEvent}
use Rattle.tpol_scene.specs.declared.script.ScriptEvent.TheVariants.{Command, Begin, Turn, Time, Presence, Reset}
use Rattle.tpol_laws.specs.Told.{IsAlone, is_turn_of, times_given, turns_for, turns_given}
use Rattle.tpol_runs.specs.declared.ended.Ended.{Ended}
use Rattle.tpol_runs.specs.declared.ended.Ended.TheVariants as ended
use Rattle.tpol_runs.specs.declared.numbered.Numbered.{Numbered}
use Rattle.tpol_runs.specs.Courses.{blind_command_in, blind_end, command_in, command_of, end_of, end_told, goes_on, heard_by, heard_of, next_of, sent_in, sighted_end, underway_at}
use Rattle.tpol_runs.specs.Runs.{has_number, run_in, with_run}
use Rattle.tpol_runs.specs.Underway.{Blind, Driver, Sighted, Underway}
use Rattle.tpol_runs.proofs.Driven.{ends_step, goes_step, sends_step}
use Rattle.tpol_wire.specs.declared.command.Command.{Command as WireCommand}
use Rattle.tpol_wire.specs.Commands.{spelling}
use Rattle.tpol_tree.specs.declared.path.Path.{Path}
use Rattle.tpm_engine.specs.declared.event.Event.{Event}
use Rattle.tpm_engine.specs.Events.{Answered, event_of}
use Rattle.tpm_engine.specs.Legal.{answer_to}
use Rattle.tpm_engine.specs.Views.{reset_count_of}
use Rattle.tpol_laws.specs.Acts.{Course, Run, Turn as OwnTurn, after_act, after_acts, turned as turned_in}
use Rattle.tpol_laws.specs.BlindRuns.{BlindCourse, BlindRun, after_blind_turn, blind_turned, blind_turns}
use Rattle.tpol_laws.proofs.Prints.{Allows, IsBehind, IsOther, Spares, command-printed, found-there, happened-spares, nobranch-printed}
use Rattle.tpol_laws.proofs.Unlike.{IsUnserved, allows-unserved, bad-apart, denied-apart}

-- ---- a run by its driver

-- where a run's commands come from: what the machine started from, the client that sends them, from which locality
pub record Seat : Type 0 where
  pub setup : Setup
  pub client : ℕ
  pub locality : ℕ

-- how far the run is: the machine's events, newest first, and its driver
pub record Driving : Type 0 where
  pub past : List Event
  pub driver : Driver

abbrev answer_from : Seat → List Event → WireCommand → Answered
answer_from seat past command = answer_to seat.setup past seat.locality (spelling command)

abbrev event_from : Seat → List Event → WireCommand → Event
event_from seat past command = event_of seat.client seat.locality (spelling command) (answer_from seat past command)

-- the run after the machine has executed its command, if it has one
abbrev driven_by : Seat → Driving → Option WireCommand → Driving
driven_by seat run None = run
driven_by seat run (Some command) = record {
  past = event_from seat run.past command ∷ run.past;
  driver = heard_of run.driver (reset_count_of seat.setup (event_from seat run.past command ∷ run.past)) (answer_from seat run.past command).reply;
}

abbrev driven_once : Seat → Driving → Driving
driven_once seat run = driven_by seat run (command_of run.driver)

-- after so many turns
abbrev pub driven_times : Seat → ℕ → Driving → Driving
driven_times seat zero run = run
driven_times seat (suc n) run = driven_times seat n (driven_once seat run)

-- the run of a script, as the table of runs has it
abbrev pub underway_from : Seat → Driver → Underway
underway_from seat driver = record { client = seat.client; locality = seat.locality; driver = driver }

abbrev pub entry_at : Seat → ℕ → Driver → Numbered
entry_at seat number driver = record { number = number; run = underway_at (underway_from seat driver) driver }

-- it hears a reply, at this reset count of the machine, and goes on from where it stood
record Hears (seat : Seat) (driver : Driver) (resets : ℕ) (reply : List ℕ) : Type 0 where
  goes : goes_on (heard_by (underway_at (underway_from seat driver) driver) resets reply) ≡ underway_at (underway_from seat (heard_of driver resets reply)) (heard_of driver resets reply)
  ends : end_told (heard_by (underway_at (underway_from seat driver) driver) resets reply) ≡ end_of (heard_of driver resets reply)

hears-reply : (seat : Seat) (driver : Driver) (command : WireCommand) (resets : ℕ) (reply : List ℕ) → command_of driver ≡ Some command → Hears seat driver resets reply
hears-reply seat driver command resets reply is = record {
  goes = goes_step (underway_from seat driver) driver resets reply;
  ends = ends_step (underway_from seat driver) driver command resets reply is;
}

-- ---- what its end prints

-- lines have that of this path at this position, and right behind it that the run is served with these bytes
pub record TellsServed (number position : ℕ) (bytes : List ℕ) (path : Path) (lines : List (List ℕ)) : Type 0 where
  pub before : List (List ℕ)
  pub after : List (List ℕ)
  pub are : lines ≡ before ++ line_of (chosen_line number position path.steps) ∷ (line_of (end_line number (ends.Served bytes)) ∷ after)

-- the lines that tell the end of a blind run on these paths; of those where no path was served nothing is said
abbrev pub TellsBlindEnd : List Path → ℕ → List (List ℕ) → BlindEnd → Type 0
TellsBlindEnd paths number lines (blind_ends.Served position bytes) = IfSome (slice_get paths (position - 1)) (λ path. TellsServed number position bytes path lines)
TellsBlindEnd paths number lines (blind_ends.NoBranch tries) = ⊤
TellsBlindEnd paths number lines (blind_ends.Denied at rc) = Contains lines (line_of (end_line number (ends.Denied at rc)))
TellsBlindEnd paths number lines (blind_ends.BadReply at) = Contains lines (line_of (end_line number (ends.BadReply at)))

abbrev pub TellsEnd : Scenario → ℕ → List (List ℕ) → Ended → Type 0
TellsEnd scenario number lines (ended.Sighted end earned) = Contains lines (line_of (end_line number end))
TellsEnd scenario number lines (ended.Blind policy end) = TellsBlindEnd (paths_named scenario policy) number lines end

module _ (scenario : Scenario) (number : ℕ) (front lines : List (List ℕ)) where
  -- lines more behind them, or before them
  served-more : (position : ℕ) (bytes : List ℕ) (path : Option Path) → IfSome path (λ p. TellsServed number position bytes p front) → IfSome path (λ p. TellsServed number position bytes p (front ++ lines))
  served-more position bytes None tells = tt
  served-more position bytes (Some path) tells =
      let served = line_of (end_line number (ends.Served bytes)) in
      record {
        before = tells.before;
        after = tells.after ++ lines;
        are = ap (λ l. l ++ lines) tells.are ∙ append_assoc tells.before (line_of (chosen_line number position path.steps) ∷ (served ∷ tells.after)) lines;
      }

  served-behind : (position : ℕ) (bytes : List ℕ) (path : Option Path) → IfSome path (λ p. TellsServed number position bytes p lines) → IfSome path (λ p. TellsServed number position bytes p (front ++ lines))
  served-behind position bytes None tells = tt
  served-behind position bytes (Some path) tells =
      let served = line_of (end_line number (ends.Served bytes)) in
      record {
        before = front ++ tells.before;
        after = tells.after;
        are = ap (λ l. front ++ l) tells.are ∙ sym (append_assoc front tells.before (line_of (chosen_line number position path.steps) ∷ (served ∷ tells.after)));
      }

  pub tells-more : (end : Ended) → TellsEnd scenario number front end → TellsEnd scenario number (front ++ lines) end
  tells-more (ended.Sighted end earned) tells = Contains-append_left front lines (line_of (end_line number end)) tells
  tells-more (ended.Blind policy (blind_ends.Served position bytes)) tells = served-more position bytes (slice_get (paths_named scenario policy) (position - 1)) tells
  tells-more (ended.Blind policy (blind_ends.NoBranch tries)) tells = tt
  tells-more (ended.Blind policy (blind_ends.Denied at rc)) tells = Contains-append_left front lines (line_of (end_line number (ends.Denied at rc))) tells
  tells-more (ended.Blind policy (blind_ends.BadReply at)) tells = Contains-append_left front lines (line_of (end_line number (ends.BadReply at))) tells

  tells-behind : (end : Ended) → TellsEnd scenario number lines end → TellsEnd scenario number (front ++ lines) end
  tells-behind (ended.Sighted end earned) tells = Contains-append_right front lines (line_of (end_line number end)) tells
  tells-behind (ended.Blind policy (blind_ends.Served position bytes)) tells = served-behind position bytes (slice_get (paths_named scenario policy) (position - 1)) tells
  tells-behind (ended.Blind policy (blind_ends.NoBranch tries)) tells = tt
  tells-behind (ended.Blind policy (blind_ends.Denied at rc)) tells = Contains-append_right front lines (line_of (end_line number (ends.Denied at rc))) tells
  tells-behind (ended.Blind policy (blind_ends.BadReply at)) tells = Contains-append_right front lines (line_of (end_line number (ends.BadReply at))) tells

-- ---- the run in the performance

-- the run is not served, up to now
abbrev pub IsNotServed : Option Ended → Type 0
IsNotServed None = ⊤
IsNotServed (Some (ended.Sighted (ends.Served bytes) earned)) = ⊥
IsNotServed (Some (ended.Sighted (ends.Denied at rc) earned)) = ⊤
IsNotServed (Some (ended.Sighted (ends.BadReply at) earned)) = ⊤
IsNotServed (Some (ended.Blind policy (blind_ends.Served position bytes))) = ⊥
IsNotServed (Some (ended.Blind policy (blind_ends.NoBranch tries))) = ⊤
IsNotServed (Some (ended.Blind policy (blind_ends.Denied at rc))) = ⊤
IsNotServed (Some (ended.Blind policy (blind_ends.BadReply at))) = ⊤

-- what sends a command is not
sighted-unserved : (plan : Plan) (earned : List HeldTicket) (standing : Standing) (command : WireCommand) → command_in (sends plan standing) ≡ Some command → IsNotServed (sighted_end earned standing)
sighted-unserved plan earned Starting command sending = tt
sighted-unserved plan earned (Moving session number ticket done) command sending = tt
sighted-unserved plan earned (Closing session end) command sending = tt
sighted-unserved plan earned (Over end) command sending = absurd (none-some command sending)

blind-unserved : (policy : List ℕ) (plan : BlindPlan) (standing : blind.BlindStanding) (command : WireCommand) → blind_command_in (blind_sends plan standing) ≡ Some command → IsNotServed (blind_end policy standing)
blind-unserved policy plan blind.Starting command sending = tt
blind-unserved policy plan (blind.Trying session number place ticket done tries) command sending = tt
blind-unserved policy plan (blind.Again session number place tries) command sending = tt
blind-unserved policy plan (blind.Closing session end) command sending = tt
blind-unserved policy plan (blind.Over end) command sending = absurd (none-some command sending)

sends-unserved : (driver : Driver) (command : WireCommand) → command_of driver ≡ Some command → IsNotServed (end_of driver)
sends-unserved (Sighted driven) command sending = sighted-unserved driven.plan driven.earned driven.standing command sending
sends-unserved (Blind policy driving) command sending = blind-unserved policy driving.plan driving.standing command sending

-- The machine is where the run is, the table has the run with its driver, its end is told, and that it is served only
-- where it is. Since the state `first`, lines were only added.
pub record Follows (seat : Seat) (number : ℕ) (scenario : Scenario) (first p : PerformanceState) (run : Driving) : Type 0 where
  pub setup : p.setup ≡ seat.setup
  pub past : p.past ≡ run.past
  pub found : find (has_number number) p.runs ≡ Some (entry_at seat number run.driver)
  pub added : List (List ℕ)
  pub lines : p.lines ≡ first.lines ++ added
  pub told : (end : Ended) → end_of run.driver ≡ Some end → TellsEnd scenario number added end
  pub unserved : IsNotServed (end_of run.driver) → All (IsUnserved number) added

-- any line may be printed
abbrev pub any : List ℕ → Type 0
any line = ⊤

pub allows-any : (number : ℕ) → Allows any number
allows-any number = record {
  command = λ event client locality buffer reply outcome. tt;
  opening = λ event paths opening. tt;
  certificate = λ event bytes. tt;
  time = λ event ms. tt;
  presence = λ event on. tt;
  reset = λ event. tt;
  block = λ position steps block. tt;
  chosen = λ run position steps. tt;
  nobranch = λ run. tt;
  blind = λ run. tt;
  tried = λ position steps tried. tt;
  over = λ run. tt;
  ends = λ run end apart small. tt;
}

module _ (seat : Seat) (number : ℕ) (scenario : Scenario) (first : PerformanceState) (within : number < 2 ^ 16) where
  allows : Allows (IsUnserved number) number
  allows = allows-unserved number within

  -- lines behind lines
  all-both : (front lines : List (List ℕ)) → All (IsUnserved number) front → All (IsUnserved number) lines → All (IsUnserved number) (front ++ lines)
  all-both front lines one other = All-append (IsUnserved number) front lines one other

  all-one : (line : List ℕ) → IsUnserved number line → All (IsUnserved number) (line ∷ [])
  all-one line unserved = All-cons (IsUnserved number) line [] unserved (All-nil (IsUnserved number))

  -- one line more
  line-follows : (p : PerformanceState) (run : Driving) (text : List ℕ) → IsUnserved number (line_of text) → Follows seat number scenario first p run → Follows seat number scenario first (with_line text p) run
  line-follows p run text unserved is = record {
    setup = is.setup;
    past = is.past;
    found = is.found;
    added = is.added ++ line_of text ∷ [];
    lines = ap (λ l. l ++ line_of text ∷ []) is.lines ∙ append_assoc first.lines is.added (line_of text ∷ []);
    told = λ end over. tells-more scenario number is.added (line_of text ∷ []) end (is.told end over);
    unserved = λ not. all-both is.added (line_of text ∷ []) (is.unserved not) (all-one (line_of text) unserved);
  }

  -- from p to q lines are added, and tickets may be kept
  record Adds (p q : PerformanceState) : Type 0 where
    setup : q.setup ≡ p.setup
    past : q.past ≡ p.past
    runs : q.runs ≡ p.runs
    added : List (List ℕ)
    lines : q.lines ≡ p.lines ++ added

  -- from p to q the lines of this end were added
  record TellsLast (end : Ended) (p q : PerformanceState) : Type 0 where
    prints : Adds p q
    tells : TellsEnd scenario number prints.added end
    quiet : IsNotServed (Some end) → All (IsUnserved number) prints.added

  -- the one line of an end
  tells-line : (end : Ended) (e : End) (p : PerformanceState) (kept : List Kept) → ((lines : List (List ℕ)) → Contains lines (line_of (end_line number e)) → TellsEnd scenario number lines end) → (IsNotServed (Some end) → IsUnserved number (line_of (end_line number e)))
      → TellsLast end p (with_line (end_line number e) (record p { kept = kept }))
  tells-line end e p kept tells unserved = record {
    prints = record { setup = refl; past = refl; runs = refl; added = line_of (end_line number e) ∷ []; lines = refl };
    tells = tells (line_of (end_line number e) ∷ []) (Contains-push [] (line_of (end_line number e)));
    quiet = λ not. all-one (line_of (end_line number e)) (unserved not);
  }

  -- that of the path that was served, and behind it that of the end
  served-tells : (policy : List ℕ) (position : ℕ) (bytes : List ℕ) (p : PerformanceState) (path : Option Path) → slice_get (paths_named scenario policy) (position - 1) ≡ path
      → TellsLast (ended.Blind policy (blind_ends.Served position bytes)) p (with_line (end_line number (ends.Served bytes)) (with_path number position path p))
  served-tells policy position bytes p None is = record {
    prints = record { setup = refl; past = refl; runs = refl; added = line_of (end_line number (ends.Served bytes)) ∷ []; lines = refl };
    tells = subst (λ (o : Option Path). IfSome o (λ q. TellsServed number position bytes q (line_of (end_line number (ends.Served bytes)) ∷ []))) (sym is) tt;
    quiet = λ not. absurd not;
  }
  served-tells policy position bytes p (Some path) is =
      let chosen = line_of (chosen_line number position path.steps) in
      let served = line_of (end_line number (ends.Served bytes)) in
      record {
        prints = record { setup = refl; past = refl; runs = refl; added = chosen ∷ (served ∷ []); lines = append_assoc p.lines (chosen ∷ []) (served ∷ []) };
        tells = subst (λ (o : Option Path). IfSome o (λ q. TellsServed number position bytes q (chosen ∷ (served ∷ [])))) (sym is) (record { before = []; after = []; are = refl });
        quiet = λ not. absurd not;
      }

  blind-tells : (policy : List ℕ) (end : BlindEnd) (p : PerformanceState) → TellsLast (ended.Blind policy end) p (with_blind_end number (paths_named scenario policy) end p)
  unfolding with_blind_end
  blind-tells policy (blind_ends.Served position bytes) p = served-tells policy position bytes p (slice_get (paths_named scenario policy) (position - 1)) refl
  blind-tells policy (blind_ends.NoBranch tries) p =
      let is = nobranch-printed (IsUnserved number) number allows number (paths_named scenario policy) tries p in
      record {
        prints = record { setup = is.setup; past = is.past; runs = is.runs; added = is.added; lines = is.lines };
        tells = tt;
        quiet = λ not. is.each;
      }
  blind-tells policy (blind_ends.Denied at rc) p = tells-line (ended.Blind policy (blind_ends.Denied at rc)) (ends.Denied at rc) p p.kept (λ lines told. told) (λ not. denied-apart number at rc)
  blind-tells policy (blind_ends.BadReply at) p = tells-line (ended.Blind policy (blind_ends.BadReply at)) (ends.BadReply at) p p.kept (λ lines told. told) (λ not. bad-apart number at)

  sighted-quiet : (earned : List HeldTicket) (end : End) → IsNotServed (Some (ended.Sighted end earned)) → IsUnserved number (line_of (end_line number end))
  sighted-quiet earned (ends.Served bytes) not = absurd not
  sighted-quiet earned (ends.Denied at rc) not = denied-apart number at rc
  sighted-quiet earned (ends.BadReply at) not = bad-apart number at

  end-tells : (client : ℕ) (end : Ended) (p : PerformanceState) → TellsLast end p (with_end scenario client number (Some end) p)
  end-tells client (ended.Sighted end earned) p = tells-line (ended.Sighted end earned) end p (with_kept scenario.directory client earned p).kept (λ lines told. told) (sighted-quiet earned end)
  end-tells client (ended.Blind policy end) p = blind-tells policy end p

  -- the end of the run is told where it came to it
  end-follows : (client : ℕ) (end : Option Ended) (p : PerformanceState) (past : List Event) (now : Driver) (added : List (List ℕ))
      → p.setup ≡ seat.setup → p.past ≡ past → find (has_number number) p.runs ≡ Some (entry_at seat number now) → p.lines ≡ first.lines ++ added → All (IsUnserved number) added → end ≡ end_of now
      → Follows seat number scenario first (with_end scenario client number end p) (record { past = past; driver = now })
  end-follows client None p past now added setup same found lines quiet is = record {
    setup = setup;
    past = same;
    found = found;
    added = added;
    lines = lines;
    told = λ e over. absurd (none-some e (is ∙ over));
    unserved = λ not. quiet;
  }
  end-follows client (Some end) p past now added setup same found lines quiet is =
      let last = end-tells client end p in
      record {
        setup = last.prints.setup ∙ setup;
        past = last.prints.past ∙ same;
        found = ap (find (has_number number)) last.prints.runs ∙ found;
        added = added ++ last.prints.added;
        lines = last.prints.lines ∙ ap (λ l. l ++ last.prints.added) lines ∙ append_assoc first.lines added last.prints.added;
        told = λ e over.
            subst (λ x. TellsEnd scenario number (added ++ last.prints.added) x) (same_Some end e (is ∙ over)) (tells-behind scenario number added last.prints.added end last.tells);
        unserved = λ not. all-both added last.prints.added quiet (last.quiet (subst IsNotServed (sym is) not));
      }

  -- ---- one turn

  -- where the performance is literally where the run is
  sent-from : (past : List Event) (driver : Driver) (runs : List Numbered) (kept : List Kept) (lines added : List (List ℕ)) (command : WireCommand) → command_of driver ≡ Some command
      → find (has_number number) runs ≡ Some (entry_at seat number driver) → lines ≡ first.lines ++ added → All (IsUnserved number) added
      → Follows seat number scenario first (sent scenario number (record { client = seat.client; locality = seat.locality; buffer = spelling command }) (record { setup = seat.setup; past = past; runs = runs; kept = kept; lines = lines }))
      (driven_by seat (record { past = past; driver = driver }) (Some command))
  unfolding sent replied
  sent-from past driver runs kept lines added command next found grown quiet =
      let p : PerformanceState = record { setup = seat.setup; past = past; runs = runs; kept = kept; lines = lines } in
      let reply = (answer_from seat past command).reply in
      let q = commanded scenario seat.client seat.locality (spelling command) p in
      let is = command-printed (IsUnserved number) number allows scenario seat.client seat.locality (spelling command) p in
      let there : find (has_number number) q.runs ≡ Some (entry_at seat number driver) = ap (find (has_number number)) is.runs ∙ found in
      let resets = reset_count_of seat.setup (event_from seat past command ∷ past) in
      let heard = hears-reply seat driver command resets reply next in
      let now : heard_now number reply q ≡ heard_by (underway_at (underway_from seat driver) driver) resets reply =
      λ i. heard_by (run_in (there i)) (reset_count_of (is.setup i) (is.past i)) reply in
      let r : PerformanceState = record q { runs = with_run q.runs number (goes_on (heard_now number reply q)) } in
      end-follows seat.client (end_told (heard_now number reply q)) r (event_from seat past command ∷ past) (heard_of driver resets reply) (added ++ is.added)
      is.setup is.past
      (found-there q.runs number _ (goes_on (heard_now number reply q)) there
      ∙ ap (λ o. Some (record { number = number; run = o })) (ap goes_on now ∙ heard.goes))
      (is.lines ∙ ap (λ l. l ++ is.added) grown ∙ append_assoc first.lines added is.added)
      (all-both added is.added quiet is.each)
      (ap end_told now ∙ heard.ends)

  sent-follows : (p : PerformanceState) (run : Driving) (command : WireCommand) → command_of run.driver ≡ Some command → Follows seat number scenario first p run
      → Follows seat number scenario first (sent scenario number (record { client = seat.client; locality = seat.locality; buffer = spelling command }) p) (driven_by seat run (Some command))
  sent-follows p run command next is =
      let at : record { setup = seat.setup; past = run.past; runs = p.runs; kept = p.kept; lines = p.lines } ≡ p =
      λ i. record { setup = sym is.setup i; past = sym is.past i; runs = p.runs; kept = p.kept; lines = p.lines } in
      subst (λ (q : PerformanceState). Follows seat number scenario first (sent scenario number (record { client = seat.client; locality = seat.locality; buffer = spelling command }) q)
      (driven_by seat run (Some command))) at
      (sent-from run.past run.driver p.runs p.kept p.lines is.added command next is.found is.lines (is.unserved (sends-unserved run.driver command next)))

  -- what is sent now
  pub sends-now : (p : PerformanceState) (run : Driving) → Follows seat number scenario first p run → sent_now number p ≡ sent_in (underway_from seat run.driver) (command_of run.driver)
  sends-now p run is = ap (λ f. next_of (run_in f)) is.found ∙ sends_step (underway_from seat run.driver) run.driver

  by-follows : (next : Option WireCommand) (p : PerformanceState) (run : Driving) → command_of run.driver ≡ next → Follows seat number scenario first p run
      → Follows seat number scenario first (turned_by scenario number (sent_in (underway_from seat run.driver) next) p) (driven_by seat run next)
  by-follows (Some command) p run next is = sent-follows p run command next is
  by-follows None p run next is = line-follows p run (over_line number) (allows.over number) is

  turn-follows : (p : PerformanceState) (run : Driving) → Follows seat number scenario first p run → Follows seat number scenario first (turned scenario number p) (driven_once seat run)
  unfolding turned
  turn-follows p run is =
      subst (λ next. Follows seat number scenario first (turned_by scenario number next p) (driven_once seat run)) (sym (sends-now p run is))
      (by-follows (command_of run.driver) p run refl is)

  -- ---- turns

  times-follow : (n : ℕ) (p : PerformanceState) (run : Driving) → Follows seat number scenario first p run → Follows seat number scenario first (turned_times scenario number n p) (driven_times seat n run)
  unfolding turned_times
  times-follow zero p run is = is
  times-follow (suc n) p run is = times-follow n (turned scenario number p) (driven_once seat run) (turn-follows p run is)

  -- a run that is over stays so
  stays : (n : ℕ) (run : Driving) → command_of run.driver ≡ None → driven_times seat n run ≡ run
  stays zero run over = refl
  stays (suc n) run over = ap (driven_times seat n) (ap (driven_by seat run) over) ∙ stays n run over

  and-follows : (n : ℕ) (next : Option WireCommand) (p : PerformanceState) (run : Driving) → command_of run.driver ≡ next → Follows seat number scenario first p run
      → ((q : PerformanceState) (later : Driving) → Follows seat number scenario first q later → Follows seat number scenario first (turned_on scenario number n q) (driven_times seat n later))
      → Follows seat number scenario first (turned_and (turned_on scenario number n) scenario number (sent_in (underway_from seat run.driver) next) p) (driven_times seat n (driven_by seat run next))
  and-follows n (Some command) p run next is later =
      later (sent scenario number (record { client = seat.client; locality = seat.locality; buffer = spelling command }) p) (driven_by seat run (Some command)) (sent-follows p run command next is)
  and-follows n None p run next is later = subst (Follows seat number scenario first p) (sym (stays n run next)) is

  on-follow : (n : ℕ) (p : PerformanceState) (run : Driving) → Follows seat number scenario first p run → Follows seat number scenario first (turned_on scenario number n p) (driven_times seat n run)
  unfolding turned_on
  on-follow zero p run is = is
  on-follow (suc n) p run is =
      subst (λ next. Follows seat number scenario first (turned_and (turned_on scenario number n) scenario number next p) (driven_times seat n (driven_once seat run))) (sym (sends-now p run is))
      (and-follows n (command_of run.driver) p run refl is (on-follow n))

  end-by-follows : (n : ℕ) → most_turns ≡ n → (next : Option WireCommand) (p : PerformanceState) (run : Driving) → command_of run.driver ≡ next → Follows seat number scenario first p run
      → Follows seat number scenario first (turned_to_end_by scenario number (sent_in (underway_from seat run.driver) next) p) (driven_times seat n (driven_by seat run next))
  end-by-follows n most (Some command) p run next is =
      let q = sent scenario number (record { client = seat.client; locality = seat.locality; buffer = spelling command }) p in
      subst (λ m. Follows seat number scenario first (turned_on scenario number most_turns q) (driven_times seat m (driven_by seat run (Some command)))) most
      (on-follow most_turns q (driven_by seat run (Some command)) (sent-follows p run command next is))
  end-by-follows n most None p run next is = subst (Follows seat number scenario first (with_line (over_line number) p)) (sym (stays n run next)) (line-follows p run (over_line number) (allows.over number) is)

  most-is : most_turns ≡ 65664
  unfolding most_turns
  most-is = refl

  to-end-follows : (n : ℕ) → most_turns ≡ n → (p : PerformanceState) (run : Driving) → Follows seat number scenario first p run → Follows seat number scenario first (turned_to_end scenario number p) (driven_times seat (suc n) run)
  unfolding turned_to_end
  to-end-follows n most p run is =
      subst (λ next. Follows seat number scenario first (turned_to_end_by scenario number next p) (driven_times seat n (driven_once seat run))) (sym (sends-now p run is))
      (end-by-follows n most (command_of run.driver) p run refl is)

  pub told-follows : (times : Option ℕ) (p : PerformanceState) (run : Driving) → Follows seat number scenario first p run → Follows seat number scenario first (turn_told scenario number times p) (driven_times seat (times_given times) run)
  told-follows None p run is = to-end-follows 65664 most-is p run is
  told-follows (Some n) p run is = times-follow n p run is

  -- ---- events

  spared-follows : (p q : PerformanceState) (run : Driving) → Follows seat number scenario first p run → Spares (IsUnserved number) number p q → q.past ≡ p.past → Follows seat number scenario first q run
  spared-follows p q run is spares past = record {
    setup = spares.setup ∙ is.setup;
    past = past ∙ is.past;
    found = spares.found ∙ is.found;
    added = is.added ++ spares.added;
    lines = spares.lines ∙ ap (λ l. l ++ spares.added) is.lines ∙ append_assoc first.lines is.added spares.added;
    told = λ end over. tells-more scenario number is.added spares.added end (is.told end over);
    unserved = λ not. all-both is.added spares.added (is.unserved not) spares.each;
  }

  quiet : (event : ScriptEvent) (p : PerformanceState) → is_turn_of number event ≡ false → (is_turn_of number event ≡ true) ⊎ ((happened scenario event p).past ≡ p.past) → (happened scenario event p).past ≡ p.past
  quiet event p apart (inl turn) = absurd (true≢false (sym turn ∙ apart))
  quiet event p apart (inr past) = past

  other-follows : (event : ScriptEvent) → IsOther number event → is_turn_of number event ≡ false → (p : PerformanceState) (run : Driving)
      → (is_turn_of number event ≡ true) ⊎ ((happened scenario event p).past ≡ p.past)
      → Follows seat number scenario first p run → Follows seat number scenario first (happened scenario event p) run
  other-follows event other apart p run alone is =
      spared-follows p (happened scenario event p) run is (happened-spares (IsUnserved number) number allows scenario event other p) (quiet event p apart alone)

  turn-by : (b : Bool) (other : ℕ) (times : Option ℕ) → b ≡ nat_eq other number → other < 2 ^ 16 → (p : PerformanceState) (run : Driving)
      → (is_turn_of number (Turn other times) ≡ true) ⊎ ((happened scenario (Turn other times) p).past ≡ p.past)
      → Follows seat number scenario first p run → Follows seat number scenario first (turn_told scenario other times p) (driven_times seat (if b then times_given times else 0) run)
  turn-by true other times same small p run alone is =
      subst (λ n. Follows seat number scenario first (turn_told scenario n times p) (driven_times seat (times_given times) run)) (sym (eqb-true other number (sym same))) (told-follows times p run is)
  turn-by false other times same small p run alone is = other-follows (Turn other times) (sym same, small) (sym same) p run alone is

  event-follows : (event : ScriptEvent) → IsBehind number event → (p : PerformanceState) (run : Driving) → (is_turn_of number event ≡ true) ⊎ ((happened scenario event p).past ≡ p.past)
      → Follows seat number scenario first p run → Follows seat number scenario first (happened scenario event p) (driven_times seat (turns_given number event) run)
  event-follows (Command client locality buffer) behind p run alone is = other-follows (Command client locality buffer) tt refl p run alone is
  event-follows (Begin other client locality policy place goal) behind p run alone is = other-follows (Begin other client locality policy place goal) behind refl p run alone is
  event-follows (Turn other times) behind p run alone is = turn-by (nat_eq other number) other times refl behind p run alone is
  event-follows (Time ms) behind p run alone is = other-follows (Time ms) tt refl p run alone is
  event-follows (Presence on) behind p run alone is = other-follows (Presence on) tt refl p run alone is
  event-follows Reset behind p run alone is = other-follows Reset tt refl p run alone is

  -- turns in two parts
  driven-both : (m n : ℕ) (run : Driving) → driven_times seat n (driven_times seat m run) ≡ driven_times seat (m + n) run
  driven-both zero n run = let e : zero + n ≡ n = omega arith in rw e refl
  driven-both (suc m) n run = let e : suc m + n ≡ suc (m + n) = omega arith in rw e (driven-both m n (driven_once seat run))

  pub own-follow : (own : List ScriptEvent) → AllByRecursion (IsBehind number) own → (p : PerformanceState) (run : Driving) → IsAlone scenario number own p
      → Follows seat number scenario first p run → Follows seat number scenario first (all_happened scenario own p) (driven_times seat (turns_for number own) run)
  unfolding IsAlone all_happened
  own-follow [] behind p run alone is = is
  own-follow (event ∷ rest) behind p run alone is =
      subst (Follows seat number scenario first (all_happened scenario rest (happened scenario event p))) (driven-both (turns_given number event) (turns_for number rest) run)
      (own-follow rest behind.1 (happened scenario event p) (driven_times seat (turns_given number event) run) alone.1 (event-follows event behind.0 p run alone.0 is))

-- ---- a run on one path

abbrev pub seat_of : Run → Seat
seat_of run = record { setup = run.setup; client = run.client; locality = run.locality }

-- where it is, by its driver, which has earned these tickets
abbrev pub sighted_at : Run → List HeldTicket → Course → Driving
sighted_at run earned course = record { past = course.past; driver = Sighted (record { plan = run.plan; standing = course.standing; earned = earned }) }

-- it is at a course, whatever it has earned
pub record IsAt (run : Run) (course : Course) (at : Driving) : Type 0 where
  pub earned : List HeldTicket
  pub is : at ≡ sighted_at run earned course

sighted-by : (run : Run) (earned : List HeldTicket) (course : Course) (drive : Drive) → IsAt run (turned_in run course drive) (driven_by (seat_of run) (sighted_at run earned course) (command_in drive))
sighted-by run earned course (Sends command) = record { earned = _; is = refl }
sighted-by run earned course (Ends end) = record { earned = earned; is = refl }

-- its turns are those of its driver
pub sighted-turns : (run : Run) (n : ℕ) (earned : List HeldTicket) (course : Course) → IsAt run (after_acts run (replicate n OwnTurn) course) (driven_times (seat_of run) n (sighted_at run earned course))
unfolding after_acts
sighted-turns run zero earned course = record { earned = earned; is = refl }
sighted-turns run (suc n) earned course =
    let one = sighted-by run earned course (sends run.plan course.standing) in
    let rest = sighted-turns run n one.earned (after_act run course OwnTurn) in
    record { earned = rest.earned; is = ap (driven_times (seat_of run) n) one.is ∙ rest.is }

-- ---- a blind run

abbrev pub blind_seat_of : BlindRun → Seat
blind_seat_of run = record { setup = run.setup; client = run.client; locality = run.locality }

-- where it is, by its driver, on the paths of the policy of this name
abbrev pub blindly_at : List ℕ → BlindRun → BlindCourse → Driving
blindly_at policy run course = record { past = course.past; driver = Blind policy (record { plan = run.plan; standing = course.standing }) }

blindly-by : (policy : List ℕ) (run : BlindRun) (course : BlindCourse) (drive : BlindDrive) → driven_by (blind_seat_of run) (blindly_at policy run course) (blind_command_in drive) ≡ blindly_at policy run (blind_turned run course drive)
blindly-by policy run course (blind.Sends command) = refl
blindly-by policy run course (blind.Ends end) = refl

-- its turns are those of its driver
pub blind-turns : (policy : List ℕ) (run : BlindRun) (n : ℕ) (course : BlindCourse) → driven_times (blind_seat_of run) n (blindly_at policy run course) ≡ blindly_at policy run (blind_turns run n course)
unfolding blind_turns
blind-turns policy run zero course = refl
blind-turns policy run (suc n) course =
    ap (driven_times (blind_seat_of run) n) (blindly-by policy run course (blind_sends run.plan course.standing)) ∙ blind-turns policy run n (after_blind_turn run course)

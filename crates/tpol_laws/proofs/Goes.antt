-- What the events of a script do to the machine is a list of calls, and each event that they make is told by its line.
use Rattle.std.proofs.Common.{◌≡◌, ℕ, zero, suc, ◌+◌, ◌-◌, Bool, List, [], ◌∷◌, ◌++◌, length, map, reverse, drop, Option, Some, None, refl, ap, sym, subst, ◌∙◌, append_assoc, slice_get}
use Rattle.std.specs.Prelude.{⊤, Contains}
use Rattle.std.proofs.lemmas.List.{append-nil, drop_at, length-map, length-reverse}
use Rattle.std.proofs.lemmas.List.Elements.{Contains-append_left, Contains-push}
use Rattle.tpm_engine.specs.declared.event.Event.{Event}
use Rattle.tpm_engine.specs.declared.event.Event.TheVariants as events
use Rattle.tpm_engine.specs.Calls.{Advance, Call, Execute, Reset as ResetCall, SetPresence, call_of, journal_after}
use Rattle.tpm_engine.specs.Legal.{answer_to}
use Rattle.tpm_engine.specs.Sights.{sight_after}
use Rattle.tpm_engine.specs.Views.{next_number}
use Rattle.tpm_engine.proofs.Journals.{calls-in-order}
use Rattle.tpol_choose.specs.declared.block.Block.{Block}
use Rattle.tpol_choose.specs.Blocks.{chosen_path, first_block}
use Rattle.tpol_driver.specs.declared.blind_end.BlindEnd.{BlindEnd}
use Rattle.tpol_driver.specs.declared.blind_end.BlindEnd.TheVariants as blind_ends
use Rattle.tpol_driver.specs.declared.blind_plan.BlindPlan.{BlindPlan}
use Rattle.tpol_driver.specs.declared.end.End.TheVariants as ends
use Rattle.tpol_driver.specs.Blind.{first_complete, none_tried}
use Rattle.tpol_driver.specs.declared.tickets.HeldTicket.{HeldTicket}
use Rattle.tpol_lines.specs.BlockLine.{block_line}
use Rattle.tpol_lines.specs.Events.{presence_line, reset_line, time_line}
use Rattle.tpol_lines.specs.Lines.{line_of}
use Rattle.tpol_lines.specs.Runs.{blind_line, chosen_line, end_line, nobranch_line, over_line}
use Rattle.tpol_name.specs.declared.setup.Setup.{Setup}
use Rattle.tpol_name.specs.declared.sight.Sight.{Sight}
use Rattle.tpol_perform.specs.declared.new_run.NewRun.{NewRun}
use Rattle.tpol_perform.specs.Begin.{begun_along, begun_at, begun_by, begun_in_sight, begun_nowhere, begun_on, plan_along, run_begun, with_block, with_blocks}
use Rattle.tpol_perform.specs.Blind.{begun_blindly, begun_by_plan, begun_on_tries, blind_plan, with_blind_end, with_nobranch, with_path}
use Rattle.tpol_perform.specs.NewRuns.{new_run, with_new_run}
use Rattle.tpol_perform.specs.CommandsTold.{commanded}
use Rattle.tpol_perform.specs.Performance.{PerformanceState, number_in, with_event, with_line}
use Rattle.tpol_perform.specs.Script.{all_happened, happened, turn_told}
use Rattle.tpol_perform.specs.Turns.{most_turns, replied, sent, sent_now, turned, turned_and, turned_by, turned_on, turned_times, turned_to_end, turned_to_end_by, with_end, heard_now}
use Rattle.tpol_perform.specs.declared.tickets.Kept.{Kept}
use Rattle.tpol_perform.specs.Tickets.{tickets_given, with_kept}
use Rattle.tpol_prepare.specs.declared.manner.Way.{Way}
use Rattle.tpol_prepare.specs.declared.manner.Way.TheVariants as ways
use Rattle.tpol_prepare.specs.declared.scenario.Scenario.{Scenario}
use Rattle.tpol_prepare.specs.Manner.{way_of}
use Rattle.tpol_prepare.specs.Scenario.{paths_named}
use Rattle.tpol_runs.specs.declared.ended.Ended.{Ended}
use Rattle.tpol_runs.specs.declared.ended.Ended.TheVariants as ended
use Rattle.tpol_runs.specs.declared.numbered.Numbered.{Numbered}
use Rattle.tpol_runs.specs.declared.sent.Sent.{Sent}
use Rattle.tpol_runs.specs.Courses.{begun, begun_blind, end_told, goes_on}
use Rattle.tpol_runs.specs.Runs.{with_run}
use Rattle.tpol_runs.specs.Underway.{Underway}
use Rattle.tpol_scene.specs.declared.script.ScriptEvent.{ScriptEvent}
use Rattle.tpol_scene.specs.declared.script.ScriptEvent.TheVariants.{Command, Begin, Turn, Time, Presence, Reset}
use Rattle.tpol_tree.specs.declared.path.Path.{Path}
use Rattle.tpol_tree.specs.declared.path.PathStep.{PathStep}
use Rattle.tpol_laws.specs.Journal.{event_line}
use Rattle.tpol_laws.proofs.Followed.{allows-any, any}
use Rattle.tpol_laws.proofs.Prints.{Prints, command-first, command-printed, nobranch-printed, path-printed}

-- ---- each event is told

unfoldable pub AreTold : List (List ℕ) → List Event → Type 0
AreTold lines [] = ⊤
AreTold lines (event ∷ past) = Contains lines (line_of (event_line (next_number past) event)) × AreTold lines past

told-more : (past : List Event) (lines more : List (List ℕ)) → AreTold lines past → AreTold (lines ++ more) past
unfolding AreTold
told-more [] lines more are = tt
told-more (event ∷ past) lines more are = (Contains-append_left lines more (line_of (event_line (next_number past) event)) are.0, told-more past lines more are.1)

pub told-at : (lines : List (List ℕ)) (later earlier : List Event) (event : Event) → AreTold lines (later ++ event ∷ earlier) → Contains lines (line_of (event_line (next_number earlier) event))
unfolding AreTold
told-at lines [] earlier event are = are.0
told-at lines (first ∷ later) earlier event are = told-at lines later earlier event are.1

-- ---- from one state to another

pub record Goes (p q : PerformanceState) : Type 0 where
  pub setup : q.setup ≡ p.setup
  pub calls : List Call
  pub past : q.past ≡ journal_after p.setup calls p.past
  pub added : List (List ℕ)
  pub lines : q.lines ≡ p.lines ++ added
  pub told : AreTold p.lines p.past → AreTold q.lines q.past

-- the calls that were made since
pub made : (p q : PerformanceState) (is : Goes p q) → drop (length p.past) (map call_of (reverse q.past)) ≡ is.calls
made p q is =
    ap (λ (past : List Event). drop (length p.past) (map call_of (reverse past))) is.past
    ∙ ap (drop (length p.past)) (calls-in-order p.setup is.calls p.past)
    ∙ drop_at (map call_of (reverse p.past)) is.calls (length p.past) (length-map (reverse p.past) call_of ∙ length-reverse p.past)

after-both : (setup : Setup) (calls more : List Call) (past : List Event) → journal_after setup (calls ++ more) past ≡ journal_after setup more (journal_after setup calls past)
unfolding journal_after
after-both setup [] more past = refl
after-both setup (call ∷ calls) more past = after-both setup calls more _

pub goes-none : (p : PerformanceState) → Goes p p
unfolding journal_after
goes-none p = record { setup = refl; calls = []; past = refl; added = []; lines = sym (append-nil p.lines); told = λ are. are }

pub goes-then : (p q r : PerformanceState) → Goes p q → Goes q r → Goes p r
goes-then p q r one other = record {
  setup = other.setup ∙ one.setup;
  calls = one.calls ++ other.calls;
  past = other.past ∙ (λ i. journal_after (one.setup i) other.calls (one.past i)) ∙ sym (after-both p.setup one.calls other.calls p.past);
  added = one.added ++ other.added;
  lines = other.lines ∙ ap (λ l. l ++ other.added) one.lines ∙ append_assoc p.lines one.added other.added;
  told = λ are. other.told (one.told are);
}

goes-line : (p : PerformanceState) (text : List ℕ) → Goes p (with_line text p)
unfolding journal_after
goes-line p text = record { setup = refl; calls = []; past = refl; added = line_of text ∷ []; lines = refl; told = told-more p.past p.lines (line_of text ∷ []) }

goes-runs : (p : PerformanceState) (runs : List Numbered) → Goes p (record p { runs = runs })
unfolding journal_after
goes-runs p runs = record { setup = refl; calls = []; past = refl; added = []; lines = sym (append-nil p.lines); told = λ are. are }

goes-kept : (p : PerformanceState) (kept : List Kept) → Goes p (record p { kept = kept })
unfolding journal_after
goes-kept p kept = record { setup = refl; calls = []; past = refl; added = []; lines = sym (append-nil p.lines); told = λ are. are }

goes-time : (p : PerformanceState) (ms : ℕ) → Goes p (with_line (time_line (number_in p) ms) (with_event (events.Time ms) p))
unfolding journal_after AreTold
goes-time p ms = record {
  setup = refl;
  calls = Advance ms ∷ [];
  past = refl;
  added = line_of (time_line (number_in p) ms) ∷ [];
  lines = refl;
  told = λ are. (Contains-push p.lines (line_of (time_line (number_in p) ms)), told-more p.past p.lines (line_of (time_line (number_in p) ms) ∷ []) are);
}

goes-presence : (p : PerformanceState) (on : Bool) → Goes p (with_line (presence_line (number_in p) on) (with_event (events.Presence on) p))
unfolding journal_after AreTold
goes-presence p on = record {
  setup = refl;
  calls = SetPresence on ∷ [];
  past = refl;
  added = line_of (presence_line (number_in p) on) ∷ [];
  lines = refl;
  told = λ are. (Contains-push p.lines (line_of (presence_line (number_in p) on)), told-more p.past p.lines (line_of (presence_line (number_in p) on) ∷ []) are);
}

goes-reset : (p : PerformanceState) → Goes p (with_line (reset_line (number_in p)) (with_event events.Reset p))
unfolding journal_after AreTold
goes-reset p = record {
  setup = refl;
  calls = ResetCall ∷ [];
  past = refl;
  added = line_of (reset_line (number_in p)) ∷ [];
  lines = refl;
  told = λ are. (Contains-push p.lines (line_of (reset_line (number_in p))), told-more p.past p.lines (line_of (reset_line (number_in p)) ∷ []) are);
}

module _ (scenario : Scenario) where
  goes-command : (client locality : ℕ) (buffer : List ℕ) (p : PerformanceState) → Goes p (commanded scenario client locality buffer p)
  unfolding journal_after AreTold
  goes-command client locality buffer p =
      let q = commanded scenario client locality buffer p in
      let is = command-printed any 0 (allows-any 0) scenario client locality buffer p in
      record {
        setup = is.setup;
        calls = Execute client locality buffer ∷ [];
        past = is.past;
        added = is.added;
        lines = is.lines;
        told = λ are. subst (AreTold q.lines) (sym is.past)
            (command-first any 0 (allows-any 0) scenario client locality buffer p, subst (λ lines. AreTold lines p.past) (sym is.lines) (told-more p.past p.lines is.added are));
      }

  -- ---- turns

  goes-printed : (p q : PerformanceState) → Prints any p q → Goes p q
  unfolding journal_after AreTold
  goes-printed p q is = record {
    setup = is.setup;
    calls = [];
    past = is.past;
    added = is.added;
    lines = is.lines;
    told = λ are. subst (AreTold q.lines) (sym is.past) (subst (λ lines. AreTold lines p.past) (sym is.lines) (told-more p.past p.lines is.added are));
  }

  goes-blind-end : (run : ℕ) (paths : List Path) (end : BlindEnd) (p : PerformanceState) → Goes p (with_blind_end run paths end p)
  unfolding with_blind_end
  goes-blind-end run paths (blind_ends.Served position bytes) p =
      let q = with_path run position (slice_get paths (position - 1)) p in
      goes-then p q _ (goes-printed p q (path-printed any run (allows-any run) run position (slice_get paths (position - 1)) p)) (goes-line q (end_line run (ends.Served bytes)))
  goes-blind-end run paths (blind_ends.NoBranch tries) p = goes-printed p (with_nobranch run paths tries p) (nobranch-printed any run (allows-any run) run paths tries p)
  goes-blind-end run paths (blind_ends.Denied at rc) p = goes-line p (end_line run (ends.Denied at rc))
  goes-blind-end run paths (blind_ends.BadReply at) p = goes-line p (end_line run (ends.BadReply at))

  goes-end : (client run : ℕ) (end : Option Ended) (p : PerformanceState) → Goes p (with_end scenario client run end p)
  goes-end client run None p = goes-none p
  goes-end client run (Some (ended.Sighted end earned)) p =
      let q = with_kept scenario.directory client earned p in
      goes-then p q (with_line (end_line run end) q) (goes-kept p q.kept) (goes-line q (end_line run end))
  goes-end client run (Some (ended.Blind policy end)) p = goes-blind-end run (paths_named scenario policy) end p

  goes-sent : (run : ℕ) (command : Sent) (p : PerformanceState) → Goes p (sent scenario run command p)
  unfolding sent replied
  goes-sent run command p =
      let reply = (answer_to p.setup p.past command.locality command.buffer).reply in
      let q = commanded scenario command.client command.locality command.buffer p in
      let runs = with_run q.runs run (goes_on (heard_now run reply q)) in
      goes-then p q _ (goes-command command.client command.locality command.buffer p)
      (goes-then q (record q { runs = runs }) _ (goes-runs q runs) (goes-end command.client run (end_told (heard_now run reply q)) (record q { runs = runs })))

  goes-by : (run : ℕ) (next : Option Sent) (p : PerformanceState) → Goes p (turned_by scenario run next p)
  goes-by run None p = goes-line p (over_line run)
  goes-by run (Some command) p = goes-sent run command p

  goes-turned : (run : ℕ) (p : PerformanceState) → Goes p (turned scenario run p)
  unfolding turned
  goes-turned run p = goes-by run (sent_now run p) p

  goes-times : (run n : ℕ) (p : PerformanceState) → Goes p (turned_times scenario run n p)
  unfolding turned_times
  goes-times run zero p = goes-none p
  goes-times run (suc n) p = goes-then p (turned scenario run p) _ (goes-turned run p) (goes-times run n (turned scenario run p))

  goes-and : (rest : PerformanceState → PerformanceState) → ((q : PerformanceState) → Goes q (rest q)) → (run : ℕ) (next : Option Sent) (p : PerformanceState) → Goes p (turned_and rest scenario run next p)
  goes-and rest later run None p = goes-none p
  goes-and rest later run (Some command) p = goes-then p (sent scenario run command p) _ (goes-sent run command p) (later (sent scenario run command p))

  goes-on : (run n : ℕ) (p : PerformanceState) → Goes p (turned_on scenario run n p)
  unfolding turned_on
  goes-on run zero p = goes-none p
  goes-on run (suc n) p = goes-and (turned_on scenario run n) (goes-on run n) run (sent_now run p) p

  goes-to-end-by : (run : ℕ) (next : Option Sent) (p : PerformanceState) → Goes p (turned_to_end_by scenario run next p)
  goes-to-end-by run None p = goes-line p (over_line run)
  goes-to-end-by run (Some command) p = goes-then p (sent scenario run command p) _ (goes-sent run command p) (goes-on run most_turns (sent scenario run command p))

  pub goes-to-end : (run : ℕ) (p : PerformanceState) → Goes p (turned_to_end scenario run p)
  unfolding turned_to_end
  goes-to-end run p = goes-to-end-by run (sent_now run p) p

  goes-told : (run : ℕ) (times : Option ℕ) (p : PerformanceState) → Goes p (turn_told scenario run times p)
  goes-told run None p = goes-to-end run p
  goes-told run (Some times) p = goes-times run times p

  -- ---- runs that begin

  goes-along : (tickets : List HeldTicket) (position : ℕ) (run : NewRun) (path : Option Path) (p : PerformanceState) → Goes p (begun_along scenario tickets position run path p)
  goes-along tickets position run None p = goes-none p
  goes-along tickets position run (Some path) p =
      let q = with_new_run run.number (Some (begun run.client run.locality (plan_along scenario tickets path run))) p in
      goes-then p q _ (goes-runs p q.runs) (goes-line q (chosen_line run.number position path.steps))

  goes-block : (position : ℕ) (steps : List PathStep) (block : Option Block) (p : PerformanceState) → Goes p (with_block position steps block p)
  goes-block position steps None p = goes-none p
  goes-block position steps (Some block) p = goes-line p (block_line position steps block)

  goes-blocks : (sight : Sight) (run : NewRun) (position : ℕ) (paths : List Path) (p : PerformanceState) → Goes p (with_blocks sight run position paths p)
  unfolding with_blocks
  goes-blocks sight run position [] p = goes-none p
  goes-blocks sight run position (path ∷ rest) p =
      let q = with_block position path.steps (first_block path sight run.grants run.goal run.locality) p in
      goes-then p q _ (goes-block position path.steps (first_block path sight run.grants run.goal run.locality) p) (goes-blocks sight run (position + 1) rest q)

  goes-nowhere : (sight : Sight) (run : NewRun) (paths : List Path) (p : PerformanceState) → Goes p (begun_nowhere sight run paths p)
  unfolding begun_nowhere
  goes-nowhere sight run paths p =
      let q = with_new_run run.number None p in
      let r = with_line (nobranch_line run.number) q in
      goes-then p q _ (goes-runs p q.runs) (goes-then q r _ (goes-line q (nobranch_line run.number)) (goes-blocks sight run 1 paths r))

  goes-at : (sight : Sight) (paths : List Path) (run : NewRun) (chosen : Option ℕ) (p : PerformanceState) → Goes p (begun_at scenario sight paths run chosen p)
  goes-at sight paths run None p = goes-nowhere sight run paths p
  goes-at sight paths run (Some position) p = goes-along (tickets_given (way_of scenario.manner) run.client sight p.kept) position run (slice_get paths (position - 1)) p

  goes-sighted : (policy : List ℕ) (run : NewRun) (p : PerformanceState) → Goes p (begun_in_sight scenario policy run p)
  unfolding begun_in_sight begun_on
  goes-sighted policy run p =
      let sight = sight_after p.setup p.past in
      let paths = paths_named scenario policy in
      goes-at sight paths run (chosen_path paths sight run.grants run.goal run.locality) p

  goes-on-tries : (number : ℕ) (run : Underway) (plan : BlindPlan) (tried : Option ℕ) (p : PerformanceState) → Goes p (begun_on_tries number run plan tried p)
  goes-on-tries number run plan None p =
      let q = with_new_run number None p in
      goes-then p q _ (goes-runs p q.runs) (goes-printed q (with_nobranch number plan.paths (none_tried plan) q) (nobranch-printed any number (allows-any number) number plan.paths (none_tried plan) q))
  goes-on-tries number run plan (Some position) p = goes-runs p (with_new_run number (Some run) p).runs

  goes-by-plan : (policy : List ℕ) (run : NewRun) (plan : BlindPlan) (p : PerformanceState) → Goes p (begun_by_plan policy run plan p)
  goes-by-plan policy run plan p =
      let q = with_line (blind_line run.number) p in
      goes-then p q _ (goes-line p (blind_line run.number)) (goes-on-tries run.number (begun_blind run.client run.locality policy plan) plan (first_complete plan) q)

  goes-blindly : (policy : List ℕ) (run : NewRun) (p : PerformanceState) → Goes p (begun_blindly scenario policy run p)
  unfolding begun_blindly
  goes-blindly policy run p = goes-by-plan policy run (blind_plan scenario (paths_named scenario policy) run) p

  goes-way : (way : Way) (policy : List ℕ) (run : NewRun) (p : PerformanceState) → Goes p (begun_by way scenario policy run p)
  goes-way ways.Sighted policy run p = goes-sighted policy run p
  goes-way ways.Blind policy run p = goes-blindly policy run p
  goes-way ways.WithTickets policy run p = goes-sighted policy run p

  pub goes-begun : (policy : List ℕ) (run : NewRun) (p : PerformanceState) → Goes p (run_begun scenario policy run p)
  unfolding run_begun
  goes-begun policy run p = goes-way (way_of scenario.manner) policy run p

  -- ---- the script

  pub goes-happened : (event : ScriptEvent) (p : PerformanceState) → Goes p (happened scenario event p)
  goes-happened (Command client locality buffer) p = goes-command client locality buffer p
  goes-happened (Begin run client locality policy place goal) p = goes-begun policy (new_run scenario.clients run client locality goal) p
  goes-happened (Turn run times) p = goes-told run times p
  goes-happened (Time ms) p = goes-time p ms
  goes-happened (Presence on) p = goes-presence p on
  goes-happened Reset p = goes-reset p

  pub goes-all : (script : List ScriptEvent) (p : PerformanceState) → Goes p (all_happened scenario script p)
  unfolding all_happened
  goes-all [] p = goes-none p
  goes-all (event ∷ rest) p = goes-then p (happened scenario event p) _ (goes-happened event p) (goes-all rest (happened scenario event p))

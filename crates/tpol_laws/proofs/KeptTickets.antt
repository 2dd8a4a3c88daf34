-- Of each scene that can be carried out, whatever its script is, the tickets that are kept are the machine's.
use Rattle.std.proofs.Common.{◌≡◌, ◌≤◌, ℕ, zero, suc, ◌+◌, ◌-◌, ◌==◌, ◌&&◌, Bool, true, false, not, cond, map, All, List, [], ◌∷◌, ◌++◌, Option, Some, None, nat_le, slice_get, refl, ap, sym, subst, ◌∙◌, arith}
use Rattle.std.specs.Prelude.{⊤, find, IfSome, if◌then◌else◌}
use Rattle.std.specs.List.{AllByRecursion, filter}
use Rattle.std.specs.Option.{option_map_or}
use Rattle.std.proofs.lemmas.Bool.{eqb-true, false≢true}
use Rattle.std.proofs.lemmas.Bool.Decides.{nat_tests}
use Rattle.std.proofs.lemmas.List.Elements.{All-from_recursion}
use Rattle.std.proofs.lemmas.Option.{none-some, same_Some}
use Rattle.tpol_base.specs.Handle.{is_index}
use Rattle.tpol_choose.specs.declared.block.Block.{Block}
use Rattle.tpol_choose.specs.Blocks.{chosen_path, first_block}
use Rattle.tpol_driver.specs.declared.blind_end.BlindEnd.{BlindEnd}
use Rattle.tpol_driver.specs.declared.blind_end.BlindEnd.TheVariants as blind_ends
use Rattle.tpol_driver.specs.declared.blind_plan.BlindPlan.{BlindPlan}
use Rattle.tpol_driver.specs.declared.end.End.TheVariants as ends
use Rattle.tpol_driver.specs.declared.plan.Plan.{Plan}
use Rattle.tpol_driver.specs.declared.tickets.HeldTicket.{HeldTicket}
use Rattle.tpol_driver.specs.Blind as blind
use Rattle.tpol_driver.specs.Blind.{BlindStanding, first_complete, none_tried}
use Rattle.tpol_driver.specs.Driving.{Closing, Drive, Ends, Moving, Over, Sends, Standing, Starting, hears, sends}
use Rattle.tpol_goal.specs.Entities.{entity_of_name}
use Rattle.tpol_goal.specs.Grants.{IsGrants}
use Rattle.tpol_lines.specs.BlockLine.{block_line}
use Rattle.tpol_lines.specs.Events.{presence_line, reset_line, time_line}
use Rattle.tpol_lines.specs.Runs.{blind_line, chosen_line, end_line, nobranch_line, over_line}
use Rattle.tpol_name.specs.declared.entries.DirEntry.{DirEntry}
use Rattle.tpol_name.specs.declared.setup.Setup.{Setup}
use Rattle.tpol_name.specs.declared.sight.Sight.{Sight}
use Rattle.tpol_name.specs.Directories.{directory_of}
use Rattle.tpol_perform.specs.declared.new_run.NewRun.{NewRun}
use Rattle.tpol_perform.specs.declared.tickets.Kept.{Kept}
use Rattle.tpol_perform.specs.Begin.{begun_along, begun_at, begun_by, begun_in_sight, begun_nowhere, begun_on, plan_along, run_begun, with_block, with_blocks}
use Rattle.tpol_perform.specs.Blind.{begun_blindly, begun_on_tries, blind_plan, with_blind_end, with_nobranch, with_path}
use Rattle.tpol_perform.specs.CommandsTold.{commanded}
use Rattle.tpol_perform.specs.NewRuns.{new_run, with_new_run}
use Rattle.tpol_perform.specs.Performance.{PerformanceState, number_in, start_of, with_event, with_line}
use Rattle.tpol_perform.specs.Script.{all_happened, happened, turn_told}
use Rattle.tpol_perform.specs.Tickets.{is_of_index, is_usable, kept_of, tickets_for, tickets_given}
use Rattle.tpol_perform.specs.Turns.{heard_now, most_turns, replied, sent, sent_now, turned, turned_and, turned_by, turned_on, turned_times, turned_to_end, turned_to_end_by, with_end}
use Rattle.tpol_prepare.specs.declared.manner.Way.{Way}
use Rattle.tpol_prepare.specs.declared.manner.Way.TheVariants as ways
use Rattle.tpol_prepare.specs.declared.scenario.Scenario.{Scenario}
use Rattle.tpol_prepare.specs.declared.scenario.StagedScene.{StagedScene}
use Rattle.tpol_prepare.specs.Manner.{way_of}
use Rattle.tpol_prepare.specs.Scenario.{grants_of, paths_named}
use Rattle.tpol_prepare.specs.Staged.{IsStaged}
use Rattle.tpol_runs.specs.declared.after.After.{After}
use Rattle.tpol_runs.specs.declared.after.After.TheVariants as afters
use Rattle.tpol_runs.specs.declared.ended.Ended.TheVariants as ended
use Rattle.tpol_runs.specs.declared.numbered.Numbered.{Numbered}
use Rattle.tpol_runs.specs.declared.sent.Sent.{Sent}
use Rattle.tpol_runs.specs.Courses.{begun, begun_blind, command_in, command_of, end_told, goes_on, heard_by, heard_of, next_of, sent_in, stands_at}
use Rattle.tpol_runs.specs.Earned.{earned_at}
use Rattle.tpol_runs.specs.Runs.{has_number, run_at, run_in, with_run}
use Rattle.tpol_runs.specs.Underway.{Blind, Driver, Sighted, Underway}
use Rattle.tpol_scene.specs.declared.script.ScriptEvent.{ScriptEvent}
use Rattle.tpol_scene.specs.declared.script.ScriptEvent.TheVariants.{Command, Begin, Turn, Time, Presence, Reset}
use Rattle.tpol_tree.specs.declared.path.Path.{Path}
use Rattle.tpol_tree.specs.declared.path.PathStep.{PathStep}
use Rattle.tpol_wire.specs.declared.command.Command.{Command as WireCommand}
use Rattle.tpol_wire.specs.Commands.{spelling}
use Rattle.tpm_engine.specs.declared.event.Event.{Event}
use Rattle.tpm_engine.specs.declared.event.Event.TheVariants as events
use Rattle.tpm_engine.specs.Events.{event_of}
use Rattle.tpm_engine.specs.Legal.{answer_to}
use Rattle.tpm_engine.specs.Sights.{sight_after}
use Rattle.tpm_engine.specs.Views.{reset_count_of, time_of, view_of, world_at}
use Rattle.tpol_laws.specs.Acts.{Run, turned as turned_in}
use Rattle.tpol_laws.specs.HeldTickets.{IsGenuine, IsUsable, TicketHasBounds}
use Rattle.tpol_laws.specs.Runs.{IsRun}
use Rattle.tpol_laws.proofs.Complete.{open-complete}
use Rattle.tpol_laws.proofs.EarnedTickets.{EarnsAt, IsEarned, turn-earns}
use Rattle.tpol_laws.proofs.Finds.{both, find-each}
use Rattle.tpol_laws.proofs.Followed.{allows-any, any}
use Rattle.tpol_laws.proofs.NamedPaths.{grants-at, named-at, none-is, open-path}
use Rattle.tpol_laws.proofs.Prints.{Prints, command-printed, nobranch-printed, path-printed, prints-line, prints-then}
use Rattle.tpol_laws.proofs.ReadBack.{Knows, turn-knows}

-- ---- tickets

-- one that is kept
pub record IsOfMachine (setup : Setup) (held : HeldTicket) : Type 0 where
  pub genuine : IsGenuine setup held
  pub bounds : TicketHasBounds held

-- what was earned is kept where it is of no index
not-of-index : (signed : Bool) (o : Option ℕ) → (not signed && option_map_or is_index o false) ≡ false → signed ≡ false → IfSome o (λ handle. is_index handle ≡ false)
not-of-index true o apart kind = absurd (false≢true (sym kind))
not-of-index false None apart kind = tt
not-of-index false (Some handle) apart kind = apart

earned-kept : (setup : Setup) (held : HeldTicket) → IsEarned setup held → is_of_index (directory_of setup) held ≡ false → IsOfMachine setup held
earned-kept setup held earned apart = record {
  genuine = record { digest = earned.digest apart; lasts = not-of-index held.signed (entity_of_name (directory_of setup) held.key) apart };
  bounds = earned.bounds;
}

abbrev AreOfMachine : Setup → List Kept → Type 0
AreOfMachine setup kept = AllByRecursion (λ (k : Kept). IsOfMachine setup k.ticket) kept

both-kept : (setup : Setup) (xs ys : List Kept) → AreOfMachine setup xs → AreOfMachine setup ys → AreOfMachine setup (xs ++ ys)
both-kept setup [] ys first second = second
both-kept setup (x ∷ xs) ys first second = (first.0, both-kept setup xs ys first.1 second)

abbrev of_client : ℕ → HeldTicket → Kept
of_client client held = record { client = client; ticket = held }

earned-all : (setup : Setup) (client : ℕ) (earned : List HeldTicket) → AllByRecursion (IsEarned setup) earned → AreOfMachine setup (kept_of (directory_of setup) client earned)
earned-all setup client [] all = tt
earned-all setup client (held ∷ rest) all = by (is_of_index (directory_of setup) held) refl (earned-all setup client rest all.1)
  where
    by : (b : Bool) → is_of_index (directory_of setup) held ≡ b → AreOfMachine setup (kept_of (directory_of setup) client rest)
        → AreOfMachine setup (map (of_client client)
        (cond (not b) (held ∷ filter (λ (ticket : HeldTicket). not (is_of_index (directory_of setup) ticket)) rest) (filter (λ (ticket : HeldTicket). not (is_of_index (directory_of setup) ticket)) rest)))
    by true e later = later
    by false e later = (earned-kept setup held all.0 e, later)

-- ---- those that a run is given

module _ (P : HeldTicket → Type 0) (Q : Kept → Type 0) (client : ℕ) (sight : Sight) (each : (k : Kept) → Q k → is_usable client sight k ≡ true → P k.ticket) where
  for-all : (kept : List Kept) → AllByRecursion Q kept → AllByRecursion P (tickets_for client sight kept)
  for-all [] all = tt
  for-all (k ∷ rest) all = by (is_usable client sight k) refl (for-all rest all.1)
    where
      by : (b : Bool) → is_usable client sight k ≡ b → AllByRecursion P (tickets_for client sight rest) → AllByRecursion P (map (λ (entry : Kept). entry.ticket) (cond b (k ∷ filter (is_usable client sight) rest) (filter (is_usable client sight) rest)))
      by true e later = (each k all.0 e, later)
      by false e later = later

  given-all : (way : Way) (kept : List Kept) → AllByRecursion Q kept → AllByRecursion P (tickets_given way client sight kept)
  given-all ways.Sighted kept all = tt
  given-all ways.Blind kept all = tt
  given-all ways.WithTickets kept all = for-all kept all

-- what the machine shows tells its count of resets and its time
resets-shown : (setup : Setup) (past : List Event) → (sight_after setup past).reset_count ≡ reset_count_of setup past
unfolding sight_after view_of world_at
resets-shown setup past = refl

time-shown : (setup : Setup) (past : List Event) → (sight_after setup past).time ≡ time_of setup past
unfolding sight_after view_of world_at
time-shown setup past = refl

within : (a b : ℕ) → nat_le a b ≡ true → a ≤ b
within a b h = grind (arith, nat_tests, h)

usable-now : (setup : Setup) (past : List Event) (client : ℕ) (k : Kept) → IsOfMachine setup k.ticket → is_usable client (sight_after setup past) k ≡ true → IsUsable setup past k.ticket
usable-now setup past client k kept usable =
    let parts = both (k.client == client) (k.ticket.reset_count == (sight_after setup past).reset_count && nat_le (sight_after setup past).time k.ticket.deadline) usable in
    let behind = both (k.ticket.reset_count == (sight_after setup past).reset_count) (nat_le (sight_after setup past).time k.ticket.deadline) parts.1 in
    record {
      genuine = kept.genuine;
      count = eqb-true k.ticket.reset_count (sight_after setup past).reset_count behind.0 ∙ resets-shown setup past;
      timely = within (time_of setup past) k.ticket.deadline (ap (λ (n : ℕ). nat_le n k.ticket.deadline) (sym (time-shown setup past)) ∙ behind.1);
    }

-- ---- runs

-- a run on its path is one as the laws speak of it, and has earned what is the machine's
pub record EarnsOnPath (run : Run) (at : Standing) (earned : List HeldTicket) : Type 0 where
  pub is : IsRun run
  pub knows : Knows at
  pub each : AllByRecursion (IsEarned run.setup) earned

abbrev run_with : Setup → ℕ → ℕ → Plan → Run
run_with setup client locality plan = record { setup = setup; client = client; locality = locality; plan = plan }

abbrev DriverEarns : Setup → ℕ → ℕ → Driver → Type 0
DriverEarns setup client locality (Sighted driven) = EarnsOnPath (run_with setup client locality driven.plan) driven.standing driven.earned
DriverEarns setup client locality (Blind policy driving) = ⊤

abbrev RunEarns : Setup → Option Underway → Type 0
RunEarns setup None = ⊤
RunEarns setup (Some run) = DriverEarns setup run.client run.locality run.driver

-- ---- how far a scene is

-- the runs of the table earn what is the machine's, and so is what is kept
pub record Keeps (setup : Setup) (p : PerformanceState) : Type 0 where
  pub same : p.setup ≡ setup
  pub runs : AllByRecursion (λ (entry : Numbered). RunEarns setup entry.run) p.runs
  pub kept : AreOfMachine setup p.kept

pub given-usable : (setup : Setup) (p : PerformanceState) → Keeps setup p → (way : Way) (client : ℕ) → All (IsUsable setup p.past) (tickets_given way client (sight_after p.setup p.past) p.kept)
given-usable setup p keeps way client =
    subst (λ (s : Setup). All (IsUsable setup p.past) (tickets_given way client (sight_after s p.past) p.kept)) (sym keeps.same)
    (All-from_recursion (IsUsable setup p.past) (tickets_given way client (sight_after setup p.past) p.kept)
    (given-all (IsUsable setup p.past) (λ (k : Kept). IsOfMachine setup k.ticket) client (sight_after setup p.past) (usable-now setup p.past client) way p.kept keeps.kept))

pub given-bounds : (setup : Setup) (p : PerformanceState) → Keeps setup p → (way : Way) (client : ℕ) → All TicketHasBounds (tickets_given way client (sight_after p.setup p.past) p.kept)
given-bounds setup p keeps way client =
    All-from_recursion TicketHasBounds (tickets_given way client (sight_after p.setup p.past) p.kept)
    (given-all TicketHasBounds (λ (k : Kept). IsOfMachine setup k.ticket) client (sight_after p.setup p.past) (λ k kept usable. kept.bounds) way p.kept keeps.kept)

kept-genuine : (setup : Setup) (kept : List Kept) → AreOfMachine setup kept → AllByRecursion (λ (k : Kept). IsGenuine setup k.ticket) kept
kept-genuine setup [] all = tt
kept-genuine setup (k ∷ rest) all = (all.0.genuine, kept-genuine setup rest all.1)

-- ---- the table of runs

module _ (setup : Setup) where
  runs-with : (runs : List Numbered) (number : ℕ) (run : Option Underway) → AllByRecursion (λ (entry : Numbered). RunEarns setup entry.run) runs → RunEarns setup run
      → AllByRecursion (λ (entry : Numbered). RunEarns setup entry.run) (with_run runs number run)
  runs-with [] number run all new = tt
  runs-with (entry ∷ rest) number run all new = by (has_number number entry) (runs-with rest number run all.1 new)
    where
      by : (b : Bool) → AllByRecursion (λ (entry : Numbered). RunEarns setup entry.run) (with_run rest number run)
          → AllByRecursion (λ (entry : Numbered). RunEarns setup entry.run) (if b then record { number = entry.number; run = run } ∷ rest else entry ∷ with_run rest number run)
      by true later = (new, all.1)
      by false later = (all.0, later)

  runs-more : (runs : List Numbered) (number : ℕ) (run : Option Underway) → AllByRecursion (λ (entry : Numbered). RunEarns setup entry.run) runs → RunEarns setup run
      → AllByRecursion (λ (entry : Numbered). RunEarns setup entry.run) (runs ++ record { number = number; run = run } ∷ [])
  runs-more [] number run all new = (new, tt)
  runs-more (entry ∷ rest) number run all new = (all.0, runs-more rest number run all.1 new)

  run-in-each : (runs : List Numbered) (number : ℕ) → AllByRecursion (λ (entry : Numbered). RunEarns setup entry.run) runs → RunEarns setup (run_at runs number)
  run-in-each runs number all = by (find (has_number number) runs) refl
    where
      by : (o : Option Numbered) → find (has_number number) runs ≡ o → RunEarns setup (run_in o)
      by None e = tt
      by (Some entry) e = find-each (λ (one : Numbered). RunEarns setup one.run) (has_number number) runs entry all e

  -- ---- states

  keeps-printed : (P : List ℕ → Type 0) (p q : PerformanceState) → Prints P p q → Keeps setup p → Keeps setup q
  keeps-printed P p q is keeps = record {
    same = is.setup ∙ keeps.same;
    runs = subst (AllByRecursion (λ (entry : Numbered). RunEarns setup entry.run)) (sym is.runs) keeps.runs;
    kept = subst (AreOfMachine setup) (sym is.kept) keeps.kept;
  }

  keeps-line : (p : PerformanceState) (text : List ℕ) → Keeps setup p → Keeps setup (with_line text p)
  keeps-line p text keeps = record { same = keeps.same; runs = keeps.runs; kept = keeps.kept }

  keeps-event : (p : PerformanceState) (event : Event) (text : List ℕ) → Keeps setup p → Keeps setup (with_line text (with_event event p))
  keeps-event p event text keeps = record { same = keeps.same; runs = keeps.runs; kept = keeps.kept }

  keeps-new : (p : PerformanceState) (number : ℕ) (run : Option Underway) → Keeps setup p → RunEarns setup run → Keeps setup (with_new_run number run p)
  keeps-new p number run keeps new = record { same = keeps.same; runs = runs-more p.runs number run keeps.runs new; kept = keeps.kept }

  -- ---- a reply

  abbrev AfterEarns : Option After → Type 0
  AfterEarns None = ⊤
  AfterEarns (Some (afters.Goes run)) = DriverEarns setup run.client run.locality run.driver
  AfterEarns (Some (afters.Ends (ended.Sighted end earned))) = AllByRecursion (IsEarned setup) earned
  AfterEarns (Some (afters.Ends (ended.Blind policy end))) = ⊤

  on-path-earns : (run : Underway) (plan : Plan) (standing : Standing) (earned : List HeldTicket) → DriverEarns setup run.client run.locality (Sighted (record { plan = plan; standing = standing; earned = earned }))
      → AfterEarns (Some (stands_at run (Sighted (record { plan = plan; standing = standing; earned = earned }))))
  on-path-earns run plan Starting earned earns = earns
  on-path-earns run plan (Moving session sent ticket done) earned earns = earns
  on-path-earns run plan (Closing session end) earned earns = earns
  on-path-earns run plan (Over end) earned earns = earns.each

  blindly-earns : (run : Underway) (policy : List ℕ) (plan : BlindPlan) (standing : BlindStanding) → AfterEarns (Some (stands_at run (Blind policy (record { plan = plan; standing = standing }))))
  blindly-earns run policy plan blind.Starting = tt
  blindly-earns run policy plan (blind.Trying session sent place ticket done tries) = tt
  blindly-earns run policy plan (blind.Again session sent place tries) = tt
  blindly-earns run policy plan (blind.Closing session end) = tt
  blindly-earns run policy plan (blind.Over end) = tt

  stand-earns : (run : Underway) (driver : Driver) → DriverEarns setup run.client run.locality driver → AfterEarns (Some (stands_at run driver))
  stand-earns run (Sighted driven) earns = on-path-earns run driven.plan driven.standing driven.earned earns
  stand-earns run (Blind policy driving) earns = blindly-earns run policy driving.plan driving.standing

  both-earned : (xs ys : List HeldTicket) → AllByRecursion (IsEarned setup) xs → AllByRecursion (IsEarned setup) ys → AllByRecursion (IsEarned setup) (xs ++ ys)
  both-earned [] ys first second = second
  both-earned (x ∷ xs) ys first second = (first.0, both-earned xs ys first.1 second)

  -- a run hears what the machine answers to its command
  module _ (past : List Event) (client locality : ℕ) where
    abbrev answered_to : WireCommand → List ℕ
    answered_to command = (answer_to setup past locality (spelling command)).reply

    abbrev resets_behind : WireCommand → ℕ
    resets_behind command = reset_count_of setup (event_of client locality (spelling command) (answer_to setup past locality (spelling command)) ∷ past)

    -- by what the driver does
    abbrev NextEarns : Plan → Standing → List HeldTicket → Drive → Type 0
    NextEarns plan at earned (Sends command) =
        EarnsOnPath (run_with setup client locality plan) (hears plan at (answered_to command)) (earned ++ earned_at plan at (resets_behind command) (answered_to command))
    NextEarns plan at earned (Ends end) = ⊤

    next-earns : (plan : Plan) (at : Standing) (earned : List HeldTicket) → EarnsOnPath (run_with setup client locality plan) at earned → (drive : Drive)
        → Knows (turned_in (run_with setup client locality plan) (record { past = past; standing = at }) drive).standing → EarnsAt (run_with setup client locality plan) past at drive
        → NextEarns plan at earned drive
    next-earns plan at earned earns (Sends command) knows more = record { is = earns.is; knows = knows; each = both-earned earned _ earns.each more }
    next-earns plan at earned earns (Ends end) knows more = tt

    sends-next : (plan : Plan) (at : Standing) (earned : List HeldTicket) (drive : Drive) (command : WireCommand) → command_in drive ≡ Some command → NextEarns plan at earned drive → NextEarns plan at earned (Sends command)
    sends-next plan at earned (Sends own) command same next = subst (λ (c : WireCommand). NextEarns plan at earned (Sends c)) (same_Some own command same) next
    sends-next plan at earned (Ends end) command same next = absurd (none-some command same)

    heard-earns : (driver : Driver) (command : WireCommand) → command_of driver ≡ Some command → DriverEarns setup client locality driver
        → DriverEarns setup client locality (heard_of driver (resets_behind command) (answered_to command))
    heard-earns (Sighted driven) command sending earns =
        let run = run_with setup client locality driven.plan in
        sends-next driven.plan driven.standing driven.earned (sends driven.plan driven.standing) command sending
        (next-earns driven.plan driven.standing driven.earned earns (sends driven.plan driven.standing)
        (turn-knows run earns.is past driven.standing earns.knows) (turn-earns run earns.is past driven.standing earns.knows))
    heard-earns (Blind policy driving) command sending earns = tt

  -- ---- the state behind a reply

  module _ (scenario : Scenario) (directory : scenario.directory ≡ directory_of setup) where
    ended-kept : (client : ℕ) (earned : List HeldTicket) (kept : List Kept) → AllByRecursion (IsEarned setup) earned → AreOfMachine setup kept → AreOfMachine setup (kept ++ kept_of scenario.directory client earned)
    ended-kept client earned kept each all =
        subst (λ (d : List DirEntry). AreOfMachine setup (kept ++ kept_of d client earned)) (sym directory)
        (both-kept setup kept (kept_of (directory_of setup) client earned) all (earned-all setup client earned each))

    -- the end of a blind run is only printed
    blind-end-printed : (number : ℕ) (paths : List Path) (end : BlindEnd) (p : PerformanceState) → Prints any p (with_blind_end number paths end p)
    unfolding with_blind_end
    blind-end-printed number paths (blind_ends.Served position bytes) p =
        let path = slice_get paths (position - 1) in
        prints-then any p (with_path number position path p) (with_line (end_line number (ends.Served bytes)) (with_path number position path p)) (path-printed any number (allows-any number) number position path p)
        (prints-line any (with_path number position path p) (end_line number (ends.Served bytes)) tt)
    blind-end-printed number paths (blind_ends.NoBranch tries) p = nobranch-printed any number (allows-any number) number paths tries p
    blind-end-printed number paths (blind_ends.Denied at rc) p = prints-line any p (end_line number (ends.Denied at rc)) tt
    blind-end-printed number paths (blind_ends.BadReply at) p = prints-line any p (end_line number (ends.BadReply at)) tt

    after-keeps : (client number : ℕ) (after : Option After) (p : PerformanceState) → AfterEarns after → Keeps setup p
        → Keeps setup (with_end scenario client number (end_told after) (record p { runs = with_run p.runs number (goes_on after) }))
    after-keeps client number None p earns keeps = record { same = keeps.same; runs = runs-with p.runs number None keeps.runs tt; kept = keeps.kept }
    after-keeps client number (Some (afters.Goes run)) p earns keeps = record { same = keeps.same; runs = runs-with p.runs number (Some run) keeps.runs earns; kept = keeps.kept }
    after-keeps client number (Some (afters.Ends (ended.Sighted end earned))) p earns keeps =
        record { same = keeps.same; runs = runs-with p.runs number None keeps.runs tt; kept = ended-kept client earned p.kept earns keeps.kept }
    after-keeps client number (Some (afters.Ends (ended.Blind policy end))) p earns keeps =
        keeps-printed any (record p { runs = with_run p.runs number None }) (with_blind_end number (paths_named scenario policy) end (record p { runs = with_run p.runs number None }))
        (blind-end-printed number (paths_named scenario policy) end (record p { runs = with_run p.runs number None }))
        (record { same = keeps.same; runs = runs-with p.runs number None keeps.runs tt; kept = keeps.kept })

    -- ---- commands

    command-keeps : (client locality : ℕ) (buffer : List ℕ) (p : PerformanceState) → Keeps setup p → Keeps setup (commanded scenario client locality buffer p)
    command-keeps client locality buffer p keeps =
        keeps-printed any (with_event (event_of client locality buffer (answer_to p.setup p.past locality buffer)) p) (commanded scenario client locality buffer p) (command-printed any 0 (allows-any 0) scenario client locality buffer p)
        (record { same = keeps.same; runs = keeps.runs; kept = keeps.kept })

    -- a run that is there hears the reply to what it sends
    heard-by : (number client locality : ℕ) (driver : Driver) (command : WireCommand) → command_of driver ≡ Some command → DriverEarns setup client locality driver
        → (past : List Event) (runs : List Numbered) (kept : List Kept) (lines : List (List ℕ)) → run_at runs number ≡ Some (record { client = client; locality = locality; driver = driver })
        → Keeps setup (record { setup = setup; past = past; runs = runs; kept = kept; lines = lines })
        → Keeps setup (sent scenario number (record { client = client; locality = locality; buffer = spelling command }) (record { setup = setup; past = past; runs = runs; kept = kept; lines = lines }))
    unfolding sent replied
    heard-by number client locality driver command sending earns past runs kept lines there keeps =
        let reply = (answer_to setup past locality (spelling command)).reply in
        let event = event_of client locality (spelling command) (answer_to setup past locality (spelling command)) in
        let q = commanded scenario client locality (spelling command) (record { setup = setup; past = past; runs = runs; kept = kept; lines = lines }) in
        let is = command-printed any 0 (allows-any 0) scenario client locality (spelling command) (record { setup = setup; past = past; runs = runs; kept = kept; lines = lines }) in
        let heard : Some (stands_at (record { client = client; locality = locality; driver = driver }) (heard_of driver (reset_count_of setup (event ∷ past)) reply)) ≡ heard_now number reply q =
        ap (λ (o : Option Underway). heard_by o (reset_count_of setup (event ∷ past)) reply) (sym there)
        ∙ (λ i. heard_by (run_at (sym is.runs i) number) (reset_count_of (sym is.setup i) (sym is.past i)) reply) in
        after-keeps client number (heard_now number reply q) q
        (subst AfterEarns heard (stand-earns (record { client = client; locality = locality; driver = driver }) (heard_of driver (reset_count_of setup (event ∷ past)) reply)
        (heard-earns past client locality driver command sending earns)))
        (command-keeps client locality (spelling command) (record { setup = setup; past = past; runs = runs; kept = kept; lines = lines }) keeps)

    -- what the table says is sent
    run-keeps : (number : ℕ) (o : Option Underway) (command : Sent) (past : List Event) (runs : List Numbered) (kept : List Kept) (lines : List (List ℕ)) → run_at runs number ≡ o → RunEarns setup o → next_of o ≡ Some command
        → Keeps setup (record { setup = setup; past = past; runs = runs; kept = kept; lines = lines }) → Keeps setup (sent scenario number command (record { setup = setup; past = past; runs = runs; kept = kept; lines = lines }))
    run-keeps number None command past runs kept lines there earns next keeps = absurd (none-some command next)
    run-keeps number (Some run) command past runs kept lines there earns next keeps = by (command_of run.driver) refl next
      where
        by : (o : Option WireCommand) → command_of run.driver ≡ o → sent_in run o ≡ Some command
            → Keeps setup (sent scenario number command (record { setup = setup; past = past; runs = runs; kept = kept; lines = lines }))
        by None e same = absurd (none-some command same)
        by (Some own) e same =
            subst (λ (c : Sent). Keeps setup (sent scenario number c (record { setup = setup; past = past; runs = runs; kept = kept; lines = lines }))) (same_Some _ command same)
            (heard-by number run.client run.locality run.driver own e earns past runs kept lines there keeps)

    sent-keeps : (number : ℕ) (command : Sent) (p : PerformanceState) → sent_now number p ≡ Some command → Keeps setup p → Keeps setup (sent scenario number command p)
    sent-keeps number command p next keeps =
        let at : record { setup = setup; past = p.past; runs = p.runs; kept = p.kept; lines = p.lines } ≡ p =
        λ i. record { setup = sym keeps.same i; past = p.past; runs = p.runs; kept = p.kept; lines = p.lines } in
        subst (λ (q : PerformanceState). Keeps setup (sent scenario number command q)) at
        (run-keeps number (run_at p.runs number) command p.past p.runs p.kept p.lines refl (run-in-each p.runs number keeps.runs) next
        (record { same = refl; runs = keeps.runs; kept = keeps.kept }))

    -- ---- turns

    by-keeps : (number : ℕ) (next : Option Sent) (p : PerformanceState) → sent_now number p ≡ next → Keeps setup p → Keeps setup (turned_by scenario number next p)
    by-keeps number None p same keeps = keeps-line p (over_line number) keeps
    by-keeps number (Some command) p same keeps = sent-keeps number command p same keeps

    turned-keeps : (number : ℕ) (p : PerformanceState) → Keeps setup p → Keeps setup (turned scenario number p)
    unfolding turned
    turned-keeps number p keeps = by-keeps number (sent_now number p) p refl keeps

    times-keep : (number n : ℕ) (p : PerformanceState) → Keeps setup p → Keeps setup (turned_times scenario number n p)
    unfolding turned_times
    times-keep number zero p keeps = keeps
    times-keep number (suc n) p keeps = times-keep number n (turned scenario number p) (turned-keeps number p keeps)

    and-keeps : (rest : PerformanceState → PerformanceState) → ((q : PerformanceState) → Keeps setup q → Keeps setup (rest q)) → (number : ℕ) (next : Option Sent) (p : PerformanceState) → sent_now number p ≡ next → Keeps setup p
        → Keeps setup (turned_and rest scenario number next p)
    and-keeps rest later number None p same keeps = keeps
    and-keeps rest later number (Some command) p same keeps = later (sent scenario number command p) (sent-keeps number command p same keeps)

    on-keeps : (number n : ℕ) (p : PerformanceState) → Keeps setup p → Keeps setup (turned_on scenario number n p)
    unfolding turned_on
    on-keeps number zero p keeps = keeps
    on-keeps number (suc n) p keeps = and-keeps (turned_on scenario number n) (on-keeps number n) number (sent_now number p) p refl keeps

    to-end-by : (number : ℕ) (next : Option Sent) (p : PerformanceState) → sent_now number p ≡ next → Keeps setup p → Keeps setup (turned_to_end_by scenario number next p)
    to-end-by number None p same keeps = keeps-line p (over_line number) keeps
    to-end-by number (Some command) p same keeps = on-keeps number most_turns (sent scenario number command p) (sent-keeps number command p same keeps)

    to-end-keeps : (number : ℕ) (p : PerformanceState) → Keeps setup p → Keeps setup (turned_to_end scenario number p)
    unfolding turned_to_end
    to-end-keeps number p keeps = to-end-by number (sent_now number p) p refl keeps

    told-keeps : (number : ℕ) (times : Option ℕ) (p : PerformanceState) → Keeps setup p → Keeps setup (turn_told scenario number times p)
    told-keeps number None p keeps = to-end-keeps number p keeps
    told-keeps number (Some times) p keeps = times-keep number times p keeps

-- ---- runs that begin

module _ (staged : StagedScene) (is : IsStaged staged) where
  -- along a path that nothing blocks, with the tickets that its client can use
  along-is : (policy : List ℕ) (run : NewRun) → run.grants ≡ grants_of staged.scenario.clients run.client → (place : ℕ) (path : Path) → slice_get (paths_named staged.scenario policy) place ≡ Some path
      → (past : List Event) → first_block path (sight_after staged.setup past) run.grants run.goal run.locality ≡ None
      → (tickets : List HeldTicket) → All TicketHasBounds tickets → IsRun (run_with staged.setup run.client run.locality (plan_along staged.scenario tickets path run))
  along-is policy run granted place path at past opens tickets bounds =
      let named = named-at staged.scenario is.scenario.begun is.begun is.approvals policy place path at in
      record {
        setup = is.setup;
        directory = is.directory;
        tickets = bounds;
        grants = subst IsGrants (sym granted) (grants-at staged.scenario.clients run.client is.grants);
        moves = named.moves;
        complete = open-complete staged.setup past (plan_along staged.scenario tickets path run) run.locality is.setup is.directory opens;
      }

  found-keeps : (policy : List ℕ) (run : NewRun) → run.grants ≡ grants_of staged.scenario.clients run.client → (position : ℕ) (path : Path) → slice_get (paths_named staged.scenario policy) (position - 1) ≡ Some path
      → (p : PerformanceState) → Keeps staged.setup p → first_block path (sight_after staged.setup p.past) run.grants run.goal run.locality ≡ None → (tickets : List HeldTicket) → All TicketHasBounds tickets
      → Keeps staged.setup (begun_along staged.scenario tickets position run (Some path) p)
  found-keeps policy run granted position path at p keeps opens tickets bounds =
      keeps-line staged.setup (with_new_run run.number (Some (begun run.client run.locality (plan_along staged.scenario tickets path run))) p) (chosen_line run.number position path.steps)
      (keeps-new staged.setup p run.number (Some (begun run.client run.locality (plan_along staged.scenario tickets path run))) keeps
      (record { is = along-is policy run granted (position - 1) path at p.past opens tickets bounds; knows = tt; each = tt }))

  along-keeps : (policy : List ℕ) (run : NewRun) → run.grants ≡ grants_of staged.scenario.clients run.client → (position : ℕ) (p : PerformanceState) → Keeps staged.setup p
      → chosen_path (paths_named staged.scenario policy) (sight_after p.setup p.past) run.grants run.goal run.locality ≡ Some position
      → Keeps staged.setup (begun_at staged.scenario (sight_after p.setup p.past) (paths_named staged.scenario policy) run (Some position) p)
  along-keeps policy run granted position p keeps chosen =
      let found = open-path (paths_named staged.scenario policy) (sight_after p.setup p.past) run.grants run.goal run.locality position chosen in
      let opens = subst (λ (s : Setup). first_block found.path (sight_after s p.past) run.grants run.goal run.locality ≡ None) keeps.same (none-is _ found.passes) in
      subst (λ (o : Option Path). Keeps staged.setup (begun_along staged.scenario (tickets_given (way_of staged.scenario.manner) run.client (sight_after p.setup p.past) p.kept) position run o p)) (sym found.at)
      (found-keeps policy run granted position found.path found.at p keeps opens (tickets_given (way_of staged.scenario.manner) run.client (sight_after p.setup p.past) p.kept)
      (given-bounds staged.setup p keeps (way_of staged.scenario.manner) run.client))

  block-keeps : (position : ℕ) (steps : List PathStep) (block : Option Block) (p : PerformanceState) → Keeps staged.setup p → Keeps staged.setup (with_block position steps block p)
  block-keeps position steps None p keeps = keeps
  block-keeps position steps (Some block) p keeps = keeps-line staged.setup p (block_line position steps block) keeps

  blocks-keep : (sight : Sight) (run : NewRun) (position : ℕ) (paths : List Path) (p : PerformanceState) → Keeps staged.setup p → Keeps staged.setup (with_blocks sight run position paths p)
  unfolding with_blocks
  blocks-keep sight run position [] p keeps = keeps
  blocks-keep sight run position (path ∷ rest) p keeps =
      let block = first_block path sight run.grants run.goal run.locality in
      blocks-keep sight run (position + 1) rest (with_block position path.steps block p) (block-keeps position path.steps block p keeps)

  nowhere-keeps : (sight : Sight) (run : NewRun) (paths : List Path) (p : PerformanceState) → Keeps staged.setup p → Keeps staged.setup (begun_nowhere sight run paths p)
  unfolding begun_nowhere
  nowhere-keeps sight run paths p keeps =
      let q = with_new_run run.number None p in
      blocks-keep sight run 1 paths (with_line (nobranch_line run.number) q) (keeps-line staged.setup q (nobranch_line run.number) (keeps-new staged.setup p run.number None keeps tt))

  at-keeps : (policy : List ℕ) (run : NewRun) → run.grants ≡ grants_of staged.scenario.clients run.client → (chosen : Option ℕ) (p : PerformanceState) → Keeps staged.setup p
      → chosen_path (paths_named staged.scenario policy) (sight_after p.setup p.past) run.grants run.goal run.locality ≡ chosen
      → Keeps staged.setup (begun_at staged.scenario (sight_after p.setup p.past) (paths_named staged.scenario policy) run chosen p)
  at-keeps policy run granted None p keeps e = nowhere-keeps (sight_after p.setup p.past) run (paths_named staged.scenario policy) p keeps
  at-keeps policy run granted (Some position) p keeps e = along-keeps policy run granted position p keeps e

  sighted-keeps : (policy : List ℕ) (run : NewRun) → run.grants ≡ grants_of staged.scenario.clients run.client → (p : PerformanceState) → Keeps staged.setup p → Keeps staged.setup (begun_in_sight staged.scenario policy run p)
  unfolding begun_in_sight begun_on
  sighted-keeps policy run granted p keeps =
      at-keeps policy run granted (chosen_path (paths_named staged.scenario policy) (sight_after p.setup p.past) run.grants run.goal run.locality) p keeps refl

  tries-keep : (number client locality : ℕ) (policy : List ℕ) (plan : BlindPlan) (tried : Option ℕ) (p : PerformanceState) → Keeps staged.setup p → Keeps staged.setup (begun_on_tries number (begun_blind client locality policy plan) plan tried p)
  tries-keep number client locality policy plan None p keeps =
      let q = with_new_run number None p in
      keeps-printed staged.setup any q (with_nobranch number plan.paths (none_tried plan) q) (nobranch-printed any number (allows-any number) number plan.paths (none_tried plan) q) (keeps-new staged.setup p number None keeps tt)
  tries-keep number client locality policy plan (Some position) p keeps = keeps-new staged.setup p number (Some (begun_blind client locality policy plan)) keeps tt

  blindly-keeps : (policy : List ℕ) (run : NewRun) (p : PerformanceState) → Keeps staged.setup p → Keeps staged.setup (begun_blindly staged.scenario policy run p)
  unfolding begun_blindly
  blindly-keeps policy run p keeps =
      let plan = blind_plan staged.scenario (paths_named staged.scenario policy) run in
      tries-keep run.number run.client run.locality policy plan (first_complete plan) (with_line (blind_line run.number) p) (keeps-line staged.setup p (blind_line run.number) keeps)

  way-keeps : (way : Way) (policy : List ℕ) (run : NewRun) → run.grants ≡ grants_of staged.scenario.clients run.client → (p : PerformanceState) → Keeps staged.setup p → Keeps staged.setup (begun_by way staged.scenario policy run p)
  way-keeps ways.Sighted policy run granted p keeps = sighted-keeps policy run granted p keeps
  way-keeps ways.Blind policy run granted p keeps = blindly-keeps policy run p keeps
  way-keeps ways.WithTickets policy run granted p keeps = sighted-keeps policy run granted p keeps

  begun-keeps : (policy : List ℕ) (run : NewRun) → run.grants ≡ grants_of staged.scenario.clients run.client → (p : PerformanceState) → Keeps staged.setup p → Keeps staged.setup (run_begun staged.scenario policy run p)
  unfolding run_begun
  begun-keeps policy run granted p keeps = way-keeps (way_of staged.scenario.manner) policy run granted p keeps

  -- ---- the script

  happened-keeps : (event : ScriptEvent) (p : PerformanceState) → Keeps staged.setup p → Keeps staged.setup (happened staged.scenario event p)
  happened-keeps (Command client locality buffer) p keeps = command-keeps staged.setup staged.scenario is.directory client locality buffer p keeps
  happened-keeps (Begin run client locality policy place goal) p keeps = begun-keeps policy (new_run staged.scenario.clients run client locality goal) refl p keeps
  happened-keeps (Turn run times) p keeps = told-keeps staged.setup staged.scenario is.directory run times p keeps
  happened-keeps (Time ms) p keeps = keeps-event staged.setup p (events.Time ms) (time_line (number_in p) ms) keeps
  happened-keeps (Presence on) p keeps = keeps-event staged.setup p (events.Presence on) (presence_line (number_in p) on) keeps
  happened-keeps Reset p keeps = keeps-event staged.setup p events.Reset (reset_line (number_in p)) keeps

  all-keep : (script : List ScriptEvent) (p : PerformanceState) → Keeps staged.setup p → Keeps staged.setup (all_happened staged.scenario script p)
  unfolding all_happened
  all-keep [] p keeps = keeps
  all-keep (event ∷ rest) p keeps = all-keep rest (happened staged.scenario event p) (happened-keeps event p keeps)

  -- behind any events of any script
  pub keeps-all : (script : List ScriptEvent) → Keeps staged.setup (all_happened staged.scenario script (start_of staged.setup))
  keeps-all script = all-keep script (start_of staged.setup) (record { same = refl; runs = tt; kept = tt })

  pub all-genuine : (script : List ScriptEvent) → All (λ (k : Kept). IsGenuine staged.setup k.ticket) (all_happened staged.scenario script (start_of staged.setup)).kept
  all-genuine script =
      All-from_recursion (λ (k : Kept). IsGenuine staged.setup k.ticket) (all_happened staged.scenario script (start_of staged.setup)).kept
      (kept-genuine staged.setup (all_happened staged.scenario script (start_of staged.setup)).kept (keeps-all script).kept)

-- The run of a script is where its course is, whatever others do between.
use Rattle.std.proofs.Common.{◌≡◌, ◌<◌, ◌^◌, ℕ, Option, Bool, true, false, true≢false, if◌then◌else◌, List, [], ◌∷◌, ◌++◌, map, replicate, refl, ap, sym, subst, ◌∙◌, append_assoc}
use Rattle.std.specs.List.{AllByRecursion}
use Rattle.std.specs.Prelude.{Contains}
use Rattle.std.proofs.lemmas.Bool.{eqb-true}
use Rattle.std.proofs.lemmas.List.Elements.{All-append, Contains-append_right}
use Rattle.tpm_engine.specs.Calls.{Call, event_by, journal_after}
use Rattle.tpol_driver.specs.Driving.{Drive, Ends, Sends, sends}
use Rattle.tpol_driver.specs.declared.tickets.HeldTicket.{HeldTicket}
use Rattle.tpol_lines.specs.Lines.{line_of}
use Rattle.tpol_lines.specs.Runs.{end_line}
use Rattle.tpol_perform.specs.Performance.{PerformanceState}
use Rattle.tpol_perform.specs.Script.{all_happened, happened, turn_told}
use Rattle.tpol_prepare.specs.declared.scenario.Scenario.{Scenario}
use Rattle.tpol_prepare.specs.declared.scenario.StagedScene.{StagedScene}
use Rattle.tpol_prepare.specs.Staged.{IsStaged}
use Rattle.tpol_runs.specs.declared.ended.Ended.TheVariants as ended
use Rattle.tpol_runs.specs.Courses.{command_in, end_of, sent_in}
use Rattle.tpol_runs.specs.Underway.{Driver, Sighted}
use Rattle.tpol_scene.specs.declared.script.ScriptEvent.{ScriptEvent}
use Rattle.tpol_scene.specs.declared.script.ScriptEvent.TheVariants.{Command, Begin, Turn, Time, Presence, Reset}
use Rattle.tpol_laws.specs.Acts.{Act, Course, Other, Run, Turn as OwnTurn, after_acts, begun}
use Rattle.tpol_laws.specs.Courses.{HasCourse, acts_of, acts_of_event, calls_between, course_of, run_along, sent_as}
use Rattle.tpol_laws.specs.Told.{BeginsOn, RunOf, before_begin, behind_begin, behind_own, is_turn_of, times_given, turns_given}
use Rattle.tpol_laws.proofs.Begun.{begun-along-is, front, stands-in}
use Rattle.tpol_laws.proofs.Followed.{Follows, seat_of, sends-now, sighted-turns, sighted_at, tells-more, told-follows, underway_from}
use Rattle.tpol_laws.proofs.Goes.{Goes, goes-happened, made}
use Rattle.tpol_laws.proofs.Prints.{IsBehind, IsOther, Spares, happened-spares}
use Rattle.tpol_laws.proofs.Told.{follows-begin}
use Rattle.tpol_laws.proofs.Unlike.{IsUnserved, allows-unserved}

module _ (run : Run) where
  -- acts in two parts
  acts-both : (acts more : List Act) (course : Course) → after_acts run (acts ++ more) course ≡ after_acts run more (after_acts run acts course)
  unfolding after_acts
  acts-both [] more course = refl
  acts-both (OwnTurn ∷ acts) more course = acts-both acts more _
  acts-both (Other call ∷ acts) more course = acts-both acts more _

  -- calls of others make their events, and the driver stays where it stands
  calls-past : (calls : List Call) (course : Course) → after_acts run (map Other calls) course ≡ record { past = journal_after run.setup calls course.past; standing = course.standing }
  unfolding after_acts journal_after
  calls-past [] course = refl
  calls-past (call ∷ calls) course = calls-past calls (record { past = event_by run.setup course.past call ∷ course.past; standing = course.standing })

-- the run, where its course is, by its driver, whatever it has earned
pub record FollowsAt (run : Run) (number : ℕ) (scenario : Scenario) (first p : PerformanceState) (course : Course) : Type 0 where
  pub earned : List HeldTicket
  pub is : Follows (seat_of run) number scenario first p (sighted_at run earned course)

module _ (run : Run) (number : ℕ) (scenario : Scenario) (first : PerformanceState) (within : number < 2 ^ 16) where
  -- ---- events of others

  calls-after : (p q : PerformanceState) (earned : List HeldTicket) (course : Course) → Follows (seat_of run) number scenario first p (sighted_at run earned course) → Spares (IsUnserved number) number p q → (goes : Goes p q)
      → Follows (seat_of run) number scenario first q (sighted_at run earned (record { past = journal_after run.setup goes.calls course.past; standing = course.standing }))
  calls-after p q earned course is spares goes = record {
    setup = spares.setup ∙ is.setup;
    past = goes.past ∙ (λ i. journal_after (is.setup i) goes.calls (is.past i));
    found = spares.found ∙ is.found;
    added = is.added ++ spares.added;
    lines = spares.lines ∙ ap (λ l. l ++ spares.added) is.lines ∙ append_assoc first.lines is.added spares.added;
    told = λ end over. tells-more scenario number is.added spares.added end (is.told end over);
    unserved = λ not. All-append (IsUnserved number) is.added spares.added (is.unserved not) spares.each;
  }

  calls-follow : (p q : PerformanceState) (course : Course) → FollowsAt run number scenario first p course → Spares (IsUnserved number) number p q → Goes p q → FollowsAt run number scenario first q (after_acts run (map Other (calls_between p q)) course)
  calls-follow p q course is spares goes =
      subst (λ calls. FollowsAt run number scenario first q (after_acts run (map Other calls) course)) (sym (made p q goes))
      (subst (FollowsAt run number scenario first q) (sym (calls-past run goes.calls course))
      (record { earned = is.earned; is = calls-after p q is.earned course is.is spares goes }))

  other-of : (event : ScriptEvent) → IsBehind number event → is_turn_of number event ≡ false → IsOther number event
  other-of (Command client locality buffer) behind apart = tt
  other-of (Begin other client locality policy place goal) behind apart = behind
  other-of (Turn other times) behind apart = (apart, behind)
  other-of (Time ms) behind apart = tt
  other-of (Presence on) behind apart = tt
  other-of Reset behind apart = tt

  -- ---- its own turns

  turns-follow : (times : Option ℕ) (p : PerformanceState) (course : Course) → FollowsAt run number scenario first p course
      → FollowsAt run number scenario first (turn_told scenario number times p) (after_acts run (replicate (times_given times) OwnTurn) course)
  turns-follow times p course is =
      let there = sighted-turns run (times_given times) is.earned course in
      record {
        earned = there.earned;
        is = subst (Follows (seat_of run) number scenario first (turn_told scenario number times p)) there.is (told-follows (seat_of run) number scenario first within times p (sighted_at run is.earned course) is.is);
      }

  own-follow : (event : ScriptEvent) → is_turn_of number event ≡ true → (p : PerformanceState) (course : Course) → FollowsAt run number scenario first p course
      → FollowsAt run number scenario first (happened scenario event p) (after_acts run (replicate (turns_given number event) OwnTurn) course)
  own-follow (Command client locality buffer) turn p course is = absurd (true≢false (sym turn))
  own-follow (Begin other client locality policy place goal) turn p course is = absurd (true≢false (sym turn))
  own-follow (Turn other times) turn p course is =
      let given : turns_given number (Turn other times) ≡ times_given times = ap (λ b. if b then times_given times else 0) turn in
      let same : other ≡ number = eqb-true other number turn in
      subst (λ n. FollowsAt run number scenario first (happened scenario (Turn other times) p) (after_acts run (replicate n OwnTurn) course)) (sym given)
      (subst (λ k. FollowsAt run number scenario first (happened scenario (Turn k times) p) (after_acts run (replicate (times_given times) OwnTurn) course)) (sym same) (turns-follow times p course is))
  own-follow (Time ms) turn p course is = absurd (true≢false (sym turn))
  own-follow (Presence on) turn p course is = absurd (true≢false (sym turn))
  own-follow Reset turn p course is = absurd (true≢false (sym turn))

  -- ---- all events

  event-by : (b : Bool) (event : ScriptEvent) → is_turn_of number event ≡ b → IsBehind number event → (p : PerformanceState) (course : Course) → FollowsAt run number scenario first p course
      → FollowsAt run number scenario first (happened scenario event p) (after_acts run (if b then replicate (turns_given number event) OwnTurn else map Other (calls_between p (happened scenario event p))) course)
  event-by true event turn behind p course is = own-follow event turn p course is
  event-by false event turn behind p course is =
      calls-follow p (happened scenario event p) course is (happened-spares (IsUnserved number) number (allows-unserved number within) scenario event (other-of event behind turn) p) (goes-happened scenario event p)

  pub events-follow : (own : List ScriptEvent) → AllByRecursion (IsBehind number) own → (p : PerformanceState) (course : Course) → FollowsAt run number scenario first p course
      → FollowsAt run number scenario first (all_happened scenario own p) (after_acts run (acts_of scenario number own p) course)
  unfolding all_happened acts_of after_acts
  events-follow [] behind p course is = is
  events-follow (event ∷ rest) behind p course is =
      subst (FollowsAt run number scenario first (all_happened scenario rest (happened scenario event p))) (sym (acts-both run (acts_of_event scenario number event p) (acts_of scenario number rest (happened scenario event p)) course))
      (events-follow rest behind.1 (happened scenario event p) (after_acts run (acts_of_event scenario number event p) course)
      (event-by (is_turn_of number event) event refl behind.0 p course is))

-- ---- a run that begins on a path

sent-same : (run : Run) (driver : Driver) (drive : Drive) → sent_in (underway_from (seat_of run) driver) (command_in drive) ≡ sent_as run drive
sent-same run driver (Sends command) = refl
sent-same run driver (Ends end) = refl

pub has-course : (staged : StagedScene) (run : RunOf staged.script) → IsStaged staged → (position : ℕ) (on : BeginsOn staged run position) → HasCourse staged run on.path
has-course staged run is position on =
    let among = run_along staged run on.path in
    let same = begun-along-is staged run is on.sees position on.path on.chosen on.listed in
    let behind = front (IsBehind run.number) run.own run.after (stands-in staged run is).behind in
    let follows = events-follow among run.number staged.scenario (behind_begin staged run) (stands-in staged run is).begins.greatest run.own behind (behind_begin staged run) (begun (before_begin staged run).past)
    (record { earned = []; is = follows-begin staged run is position on.path on.chosen same }) in
    record {
      past = follows.is.past;
      next = sends-now (seat_of among) run.number staged.scenario (behind_begin staged run) (stands-in staged run is).begins.greatest (behind_own staged run) (sighted_at among follows.earned (course_of staged run on.path)) follows.is
          ∙ sent-same among (sighted_at among follows.earned (course_of staged run on.path)).driver (sends among.plan (course_of staged run on.path).standing);
      ended = λ end over. subst (λ lines. Contains lines (line_of (end_line run.number end))) (sym follows.is.lines)
          (Contains-append_right (behind_begin staged run).lines follows.is.added (line_of (end_line run.number end))
          (follows.is.told (ended.Sighted end follows.earned) (ap (λ s. end_of (Sighted (record { plan = among.plan; standing = s; earned = follows.earned }))) over)));
    }

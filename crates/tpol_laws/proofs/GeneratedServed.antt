-- The run of what `gen` makes up: it is served on the path by each `b`, and that is what is printed.
use Rattle.std.proofs.Common.{◌≡◌, ◌≤◌, ◌<◌, ◌∙◌, ℕ, zero, suc, ◌+◌, ◌-◌, ◌*◌, ◌^◌, Bool, true, false, if◌then◌else◌, List, [], ◌∷◌, ◌++◌, All, length, drop, take, replicate, slice_get, Option, Some, None, refl, ap, sym, subst, arith, append_assoc, append-nil, codes}
use Rattle.std.specs.Prelude.{⊤}
use Rattle.std.specs.List.{AllByRecursion, IsDistinct}
use Rattle.std.proofs.lemmas.List.{drop_at, length-append}
use Rattle.std.proofs.lemmas.List.Elements.{All-cons, All-from_recursion, All-nil, Contains-push}
use Rattle.std.proofs.lemmas.Option.{none-some}
use Rattle.tpm_engine.specs.declared.event.Event.{Event}
use Rattle.tpm_engine.specs.Events.{Answered}
use Rattle.tpm_engine.specs.Legal.{answer_to, opened_to}
use Rattle.tpm_engine.specs.Sights.{sight_after}
use Rattle.tpm_engine.specs.Views.{reset_count_of, world_at}
use Rattle.tpol_digest.specs.Digest.{policy_digest, zero_digest}
use Rattle.tpol_digest.specs.Laws.{MoveHasBounds}
use Rattle.tpol_digest.specs.Paths.{document_paths, paths_of}
use Rattle.tpol_digest.specs.WellFormed.{HaveBranchCounts}
use Rattle.tpol_digest.proofs.PathMoves.{paths_have_bounds}
use Rattle.tpol_driver.specs.declared.end.End.{End}
use Rattle.tpol_driver.specs.declared.end.End.TheVariants.{Served}
use Rattle.tpol_driver.specs.declared.plan.Plan.{Plan}
use Rattle.tpol_driver.specs.declared.session.Session.{Session}
use Rattle.tpol_driver.specs.declared.tickets.HeldTicket.{HeldTicket}
use Rattle.tpol_driver.specs.Answers.{answer_of, answer_of_reply}
use Rattle.tpol_driver.specs.Driving.{Closing, Drive, Moving, Over, Sends, Standing, Starting, goes_on as goes_on_path, heard_on_path, hears, is_verification, move_heard, next_command, sends, start_heard, started, verified}
use Rattle.tpol_driver.specs.GoalUse.{goal_command}
use Rattle.tpol_fields.specs.declared.ticket.Ticket.{Ticket}
use Rattle.tpol_generate.specs.Generate.{generated_answer, generated_handle, generated_performance, generated_run, generated_scenario, generated_setup, last_two}
use Rattle.tpol_generate.proofs.GeneratedSetups.{generated_is_setup}
use Rattle.tpol_goal.specs.Grants.{IsGrants}
use Rattle.tpol_lines.specs.Events.{command_line}
use Rattle.tpol_lines.specs.Generated.{command_count_line, generated_line, path_count_line}
use Rattle.tpol_lines.specs.Lines.{line_of}
use Rattle.tpol_lines.specs.Runs.{chosen_line, end_line}
use Rattle.tpol_name.specs.declared.setup.Setup.{Setup}
use Rattle.tpol_name.specs.Setups.{IsAuthValue}
use Rattle.tpol_perform.specs.Begin.{begun_along, begun_at, begun_in_sight, begun_on, plan_along, run_begun}
use Rattle.tpol_perform.specs.CommandsTold.{command_told, commanded, opening_told}
use Rattle.tpol_perform.specs.NewRuns.{with_new_run}
use Rattle.tpol_perform.specs.Performance.{PerformanceState, number_in, start_of, with_line}
use Rattle.tpol_perform.specs.Tickets.{with_kept}
use Rattle.tpol_perform.specs.Turns.{heard_now, most_turns, replied, sent, sent_now, turned, turned_and, turned_by, turned_on, turned_times, turned_to_end, turned_to_end_by, with_end}
use Rattle.tpol_prepare.specs.declared.scenario.Scenario.{Scenario}
use Rattle.tpol_prepare.specs.Manner.{explains}
use Rattle.tpol_prepare.specs.Scenario.{paths_named}
use Rattle.tpol_runs.specs.declared.ended.Ended.TheVariants as ended
use Rattle.tpol_runs.specs.declared.numbered.Numbered.{Numbered}
use Rattle.tpol_runs.specs.declared.sent.Sent.{Sent}
use Rattle.tpol_runs.specs.Courses.{begun as begun_underway, command_in, command_of, end_told, goes_on, heard_by, sent_in, sighted_end}
use Rattle.tpol_runs.specs.Earned.{earned_at}
use Rattle.tpol_runs.specs.Runs.{run_in, with_run}
use Rattle.tpol_runs.specs.Underway.{Driver}
use Rattle.tpol_runs.proofs.Driven.{ends_step}
use Rattle.tpol_steps.specs.Lines.{digest_line}
use Rattle.tpol_tree.specs.Bounds.{HasClosedBounds}
use Rattle.tpol_tree.specs.Closed.{HasBranchCounts}
use Rattle.tpol_tree.specs.declared.path.ApprovedDoc.{ApprovedDoc}
use Rattle.tpol_tree.specs.declared.path.Move.{Move}
use Rattle.tpol_tree.specs.declared.path.Move.TheVariants.{Assert, Or}
use Rattle.tpol_tree.specs.declared.path.Path.{Path}
use Rattle.tpol_wire.specs.declared.auth_area.ReplyAuth.{ReplyAuth}
use Rattle.tpol_wire.specs.declared.command.Command.{Command}
use Rattle.tpol_wire.specs.declared.reply.Reply.{Reply}
use Rattle.tpol_wire.specs.declared.reply.Reply.TheVariants as replies
use Rattle.tpol_wire.specs.Commands.{spelling}
use Rattle.tpol_wire.specs.ReplyReading.{reply_reading}
use Rattle.tpol_laws.specs.Acts.{Course, Run, Turn, after_act, after_acts, begun, turned as turned_in, turns_in}
use Rattle.tpol_laws.specs.GeneratedRun.{IsGeneratedText, closed_of, commands_of_b, paths_before_b}
use Rattle.tpol_laws.specs.GoalBytes.{goal_bytes}
use Rattle.tpol_laws.specs.HeldTickets.{IsUsable, TicketHasBounds}
use Rattle.tpol_laws.specs.PathCommands.{commands_along, commands_of_moves}
use Rattle.tpol_laws.specs.Runs.{IsBegun}
use Rattle.tpol_laws.proofs.Finds.{all-at}
use Rattle.tpol_laws.proofs.Followed.{Follows, seat_of, sends-now, sighted-turns, sighted_at, told-follows, underway_from}
use Rattle.tpol_laws.proofs.Generated.{moves, two-for-each}
use Rattle.tpol_laws.proofs.GeneratedOpen.{by-b, chosen-by-b, made-by-b, opens-by-b, ready}
use Rattle.tpol_laws.proofs.GeneratedPaths.{IsMade}
use Rattle.tpol_laws.proofs.Owing.{never-closing, never-sooner}
use Rattle.tpol_laws.proofs.Served.{over-stays, path-served}

-- ---- turns of a performance

module _ (scenario : Scenario) (number : ℕ) where
  -- one turn more
  turns-then : (n : ℕ) (p : PerformanceState) → turned_times scenario number (suc n) p ≡ turned scenario number (turned_times scenario number n p)
  unfolding turned_times
  turns-then zero p = refl
  turns-then (suc n) p = turns-then n (turned scenario number p)

  -- each of so many turns sends a command
  SendEach : ℕ → PerformanceState → Type 0
  SendEach zero p = ⊤
  SendEach (suc n) p = ((command : Sent) × (sent_now number p ≡ Some command)) × SendEach n (turned scenario number p)

  on-over : (m : ℕ) (p : PerformanceState) → sent_now number p ≡ None → turned_on scenario number m p ≡ p
  unfolding turned_on
  on-over zero p over = refl
  on-over (suc m) p over = ap (λ next. turned_and (turned_on scenario number m) scenario number next p) over

  -- turns to the end are so many, where these send commands and the run is over then
  on-times : (n m : ℕ) (p : PerformanceState) → SendEach n p → sent_now number (turned_times scenario number n p) ≡ None → n ≤ m → turned_on scenario number m p ≡ turned_times scenario number n p
  unfolding SendEach turned_on turned_times turned
  on-times zero m p each over few = on-over m p over
  on-times (suc n) zero p each over few = absurd (omega (arith, few))
  on-times (suc n) (suc m) p each over few =
      ap (λ next. turned_and (turned_on scenario number m) scenario number next p) each.0.1
      ∙ ap (turned_on scenario number m) (sym (ap (λ next. turned_by scenario number next p) each.0.1))
      ∙ on-times n m (turned scenario number p) each.1 over (omega (arith, few))

  end-times : (n : ℕ) (p : PerformanceState) → SendEach (suc n) p → sent_now number (turned_times scenario number (suc n) p) ≡ None → n ≤ 65664 → turned_to_end scenario number p ≡ turned_times scenario number (suc n) p
  unfolding SendEach turned_to_end most_turns turned turned_times
  end-times n p each over few =
      ap (λ next. turned_to_end_by scenario number next p) each.0.1
      ∙ ap (turned_on scenario number most_turns) (sym (ap (λ next. turned_by scenario number next p) each.0.1))
      ∙ on-times n most_turns (turned scenario number p) each.1 over few

  -- the turn that ends a run, where openings are not told
  module _ (quiet : explains scenario.manner ≡ false) (command : Sent) (q : PerformanceState) (end : End) (earned : List HeldTicket) where
    abbrev answer_now : Answered
    answer_now = answer_to q.setup q.past command.locality command.buffer

    abbrev told_now : Bool → PerformanceState
    told_now b =
        opening_told b scenario (number_in q) (opened_to q.setup q.past command.locality command.buffer) (command_told command.client command.locality command.buffer answer_now q)

    abbrev heard_then : PerformanceState → PerformanceState
    heard_then p = record p { runs = with_run p.runs number (goes_on (heard_now number answer_now.reply p)) }

    last-is : end_told (heard_now number answer_now.reply (told_now false)) ≡ Some (ended.Sighted end earned)
        → sent scenario number command q ≡ with_line (end_line number end) (with_kept scenario.directory command.client earned (heard_then (told_now false)))
    unfolding sent replied commanded
    last-is told =
        ap (λ b. with_end scenario command.client number (end_told (heard_now number answer_now.reply (told_now b))) (heard_then (told_now b))) quiet
        ∙ ap (λ o. with_end scenario command.client number o (heard_then (told_now false))) told

-- the last two of lines
two-last : (xs : List (List ℕ)) (a b : List ℕ) → last_two ((xs ++ a ∷ []) ++ b ∷ []) ≡ a ∷ b ∷ []
two-last xs a b =
    let count : length (xs ++ a ∷ b ∷ []) - 2 ≡ length xs = omega (arith, length-append xs (a ∷ b ∷ [])) in
    ap last_two (append_assoc xs (a ∷ []) (b ∷ []))
    ∙ ap (λ k. drop k (xs ++ a ∷ b ∷ [])) count
    ∙ drop_at xs (a ∷ b ∷ []) (length xs) refl

-- ---- turns of a run

turn-last : (run : Run) (n : ℕ) (course : Course) → after_acts run (replicate (suc n) Turn) course ≡ after_act run (after_acts run (replicate n Turn) course) Turn
unfolding after_acts
turn-last run zero course = refl
turn-last run (suc n) course = turn-last run n (after_act run course Turn)

turns-both : (run : Run) (m n : ℕ) (course : Course) → after_acts run (replicate (m + n) Turn) course ≡ after_acts run (replicate n Turn) (after_acts run (replicate m Turn) course)
unfolding after_acts
turns-both run zero n course = let same : zero + n ≡ n = omega arith in rw same refl
turns-both run (suc m) n course = let same : suc m + n ≡ suc (m + n) = omega arith in rw same (turns-both run m n (after_act run course Turn))

turns-many : (n : ℕ) → turns_in (replicate n Turn) ≡ n
turns-many zero = refl
turns-many (suc n) = let more = turns-many n in omega (arith, more)

-- what is not over sends something
record SendsSome (plan : Plan) (at : Standing) : Type 0 where
  command : Command
  is : sends plan at ≡ Sends command

sends-some : (plan : Plan) (at : Standing) → ((end : End) → at ≡ Over end → ⊥) → SendsSome plan at
sends-some plan Starting on = record { command = _; is = refl }
sends-some plan (Moving session number ticket done) on = record { command = _; is = refl }
sends-some plan (Closing session end) on = record { command = _; is = refl }
sends-some plan (Over end) on = absurd (on end refl)

-- ---- the command that a run is served by is its goal's

abbrev ServedAt : Standing → Type 0
ServedAt (Over (Served bytes)) = ⊤
ServedAt _ = ⊥

started-never : (reply : Reply) → ServedAt (started reply) → ⊥
started-never (replies.StartAuthSession session nonce) served = served
started-never reply served = served

start-reply-never : (reply : Reply) (auth : Option ReplyAuth) → ServedAt (start_heard (answer_of_reply reply auth)) → ⊥
start-reply-never (replies.Refused rc) auth served = served
start-reply-never reply auth served = started-never reply served

start-never : (read : Option (Reply × Option ReplyAuth)) → ServedAt (start_heard (answer_of read)) → ⊥
start-never None served = served
start-never (Some found) served = start-reply-never found.0 found.1 served

verified-never : (session : Session) (number done at : ℕ) (reply : Reply) → ServedAt (goes_on_path session number done (verified at reply)) → ⊥
verified-never session number done at (replies.VerifySignature ticket) served = served
verified-never session number done at reply served = served

goes-never : (session : Session) (number done : ℕ) (reply : Reply) (is : Bool)
    → ServedAt (goes_on_path session number done (if is then verified (done + 1) reply else move_heard None (Or []) 0 (answer_of_reply replies.FlushContext None))) → ⊥
goes-never session number done reply true served = verified-never session number done (done + 1) reply served
goes-never session number done reply false served = served

reply-never : (session : Session) (number done : ℕ) (ticket : Option Ticket) (act : Move) (reply : Reply) (auth : Option ReplyAuth)
    → ServedAt (goes_on_path session number done (move_heard ticket act (done + 1) (answer_of_reply reply auth))) → ⊥
reply-never session number done ticket act (replies.Refused rc) auth served = served
reply-never session number done ticket act reply auth served = goes-never session number done reply (is_verification ticket act) served

move-never : (session : Session) (number done : ℕ) (ticket : Option Ticket) (act : Move) (read : Option (Reply × Option ReplyAuth))
    → ServedAt (goes_on_path session number done (move_heard ticket act (done + 1) (answer_of read))) → ⊥
move-never session number done ticket act None served = served
move-never session number done ticket act (Some found) served = reply-never session number done ticket act found.0 found.1 served

record SendsGoal (plan : Plan) (at : Standing) : Type 0 where
  session : Session
  number : ℕ
  is : sends plan at ≡ Sends (goal_command plan session number)

path-goal : (plan : Plan) (session : Session) (number : ℕ) (ticket : Option Ticket) (done : ℕ) (act : Option Move) (read : Option (Reply × Option ReplyAuth)) → slice_get plan.path.moves done ≡ act
    → ServedAt (heard_on_path plan session number ticket done act (answer_of read)) → SendsGoal plan (Moving session number ticket done)
path-goal plan session number ticket done None read at served = record {
  session = session;
  number = number;
  is = ap (λ (o : Option Move). Sends (next_command plan session number ticket o)) at;
}
path-goal plan session number ticket done (Some act) read at served = absurd (move-never session number done ticket act read served)

served-by-goal : (run : Run) (past : List Event) (at : Standing) → ((end : End) → at ≡ Over end → ⊥) → ((session : ℕ) (bytes : List ℕ) → at ≡ Closing session (Served bytes) → ⊥)
    → ServedAt (turned_in run (record { past = past; standing = at }) (sends run.plan at)).standing → SendsGoal run.plan at
served-by-goal run past Starting on closes served = absurd (start-never (reply_reading _ _) served)
served-by-goal run past (Moving session number ticket done) on closes served = path-goal run.plan session number ticket done (slice_get run.plan.path.moves done) (reply_reading _ _) refl served
served-by-goal run past (Closing session (Served bytes)) on closes served = absurd (closes session bytes refl)
served-by-goal run past (Closing session end) on closes served = absurd served
served-by-goal run past (Over end) on closes served = absurd (on end refl)

-- ---- the run that is made up

granted : IsGrants generated_run.grants
unfolding IsDistinct
granted = record {
  secret_handles = (tt, tt);
  key_handles = tt;
  secrets = All-cons (λ (value : ℕ × List ℕ). IsAuthValue value.1) (generated_handle, 1 ∷ []) [] (record { size = omega arith; trimmed = refl }) (All-nil _);
  keys = All-nil _;
}

made-count : (moves : List Move) → AllByRecursion IsMade moves → commands_of_moves moves ≡ length moves
made-count [] made = refl
made-count (Assert assertion ∷ rest) made = let more = made-count rest made.1 in omega (arith, more)
made-count (Or digests ∷ rest) made = let more = made-count rest made.1 in omega (arith, more)
made-count (act ∷ rest) made = absurd made.0

module _ (ors order : ℕ) (few : ors ≤ 12) where
  abbrev setup : Setup
  setup = generated_setup order (policy_digest (closed_of ors order))

  abbrev scenario : Scenario
  scenario = generated_scenario (generated_setup order (policy_digest (closed_of ors order))) (closed_of ors order)

  abbrev before : ℕ
  before = paths_before_b ors order

  abbrev path : Path
  path = (by-b ors order few).path

  abbrev run : Run
  run = record { setup = setup; client = 1; locality = 0; plan = plan_along scenario [] path generated_run }

  long : length path.moves ≡ 2 * ors + 1
  long =
      all-at (λ (p : Path). length p.moves ≡ 2 * ors + 1) (paths_of (closed_of ors order) []) before path
      (All-from_recursion (λ (p : Path). length p.moves ≡ 2 * ors + 1) (paths_of (closed_of ors order) []) (moves (document_paths [] 4) ors 0 order zero_digest)) (by-b ors order few).there

  many : commands_along path ≡ suc (2 * ors + 2)
  many = let count = made-count path.moves (made-by-b ors order few).1 in omega (arith, count, long)

  begins : IsBegun run
  unfolding generated_scenario generated_setup
  begins =
      let is = ready ors order few in
      let counts : HaveBranchCounts (closed_of ors order) [] = record { policy_itself = is.form.branch_counts; documents = All-nil (λ (document : ApprovedDoc). HasBranchCounts document.closed.elements) } in
      record {
        setup = generated_is_setup order (policy_digest (closed_of ors order));
        directory = refl;
        tickets = All-nil TicketHasBounds;
        grants = granted;
        moves = all-at (λ (p : Path). All MoveHasBounds p.moves) (paths_of (closed_of ors order) []) before path
            (paths_have_bounds (closed_of ors order) [] counts is.bounded (All-nil (λ (document : ApprovedDoc). HasClosedBounds document.closed))) (by-b ors order few).there;
        short = omega (arith, few, long);
        fits = tt;
        among = Contains-push [] generated_handle;
      }

  gives : goal_bytes (world_at setup []) generated_run.goal ≡ codes "gen"
  unfolding world_at generated_setup
  gives = refl

  abbrev after : ℕ → Course
  after n = after_acts run (replicate n Turn) (begun [])

  over-last : (after (suc (2 * ors + 2))).standing ≡ Over (Served (codes "gen"))
  over-last =
      let enough : commands_along path ≤ suc (2 * ors + 2) = omega (arith, many) in
      path-served run [] (suc (2 * ors + 2)) begins (All-nil (IsUsable setup [])) (opens-by-b ors order few) enough ∙ ap (λ bytes. Over (Served bytes)) gives

  on-before : (k : ℕ) → k < suc (2 * ors + 2) → (end : End) → (after k).standing ≡ Over end → ⊥
  on-before k fewer end over =
      let sum : k + (suc (2 * ors + 2) - k) ≡ suc (2 * ors + 2) = omega (arith, fewer) in
      let stays : (after (k + (suc (2 * ors + 2) - k))).standing ≡ Over end =
      ap (λ (c : Course). c.standing) (turns-both run k (suc (2 * ors + 2) - k) (begun []))
      ∙ ap (λ (at : Standing). (after_acts run (replicate (suc (2 * ors + 2) - k) Turn) (record { past = (after k).past; standing = at })).standing) over
      ∙ over-stays run (suc (2 * ors + 2) - k) (after k).past end in
      let same : Over end ≡ Over (Served (codes "gen")) = sym stays ∙ ap (λ n. (after n).standing) sum ∙ over-last in
      let sooner : turns_in (replicate k Turn) < commands_along path = omega (arith, fewer, many, turns-many k) in
      never-sooner run [] (replicate k Turn) (codes "gen") sooner (over ∙ same)

  -- ---- in the performance

  abbrev first : PerformanceState
  first =
      with_line (chosen_line 1 (1 + before) path.steps) (with_new_run 1 (Some (begun_underway 1 0 (plan_along scenario [] path generated_run))) (start_of setup))

  begun-is : run_begun scenario (codes "gen") generated_run (start_of setup) ≡ first
  unfolding run_begun begun_in_sight begun_on paths_named generated_scenario
  begun-is =
      let same : 1 + before - 1 ≡ before = omega arith in
      ap (λ chosen. begun_at scenario (sight_after setup []) (paths_of (closed_of ors order) []) generated_run chosen (start_of setup)) (chosen-by-b ors order few)
      ∙ ap (λ o. begun_along scenario [] (1 + before) generated_run o (start_of setup)) (ap (slice_get (paths_of (closed_of ors order) [])) same ∙ (by-b ors order few).there)

  follows-first : Follows (seat_of run) 1 scenario first first (sighted_at run [] (begun []))
  follows-first = record {
    setup = refl;
    past = refl;
    found = refl;
    added = [];
    lines = sym (append-nil first.lines);
    told = λ end over. absurd (none-some end over);
    unserved = λ not. All-nil _;
  }

  -- what its driver has earned
  earned : ℕ → List HeldTicket
  earned n = (sighted-turns run n [] (begun [])).earned

  abbrev driver : ℕ → Driver
  driver n = (sighted_at run (earned n) (after n)).driver

  follows : (n : ℕ) → Follows (seat_of run) 1 scenario first (turned_times scenario 1 n first) (sighted_at run (earned n) (after n))
  unfolding earned
  follows n =
      subst (Follows (seat_of run) 1 scenario first (turned_times scenario 1 n first)) (sighted-turns run n [] (begun [])).is
      (told-follows (seat_of run) 1 scenario first (omega arith) (Some n) first (sighted_at run [] (begun [])) follows-first)

  now-sent : (n : ℕ) → sent_now 1 (turned_times scenario 1 n first) ≡ sent_in (underway_from (seat_of run) (driver n)) (command_in (sends run.plan (after n).standing))
  now-sent n = sends-now (seat_of run) 1 scenario first (omega arith) (turned_times scenario 1 n first) (sighted_at run (earned n) (after n)) (follows n)

  each-sends : (n k : ℕ) → k + n ≤ suc (2 * ors + 2) → SendEach scenario 1 n (turned_times scenario 1 k first)
  unfolding SendEach
  each-sends zero k within = tt
  each-sends (suc n) k within =
      let some = sends-some run.plan (after k).standing (on-before k (omega (arith, within))) in (
        (
          record { client = 1; locality = 0; buffer = spelling some.command },
          now-sent k ∙ ap (λ (drive : Drive). sent_in (underway_from (seat_of run) (driver k)) (command_in drive)) some.is,
        ),
        subst (SendEach scenario 1 n) (turns-then scenario 1 k first) (each-sends n (suc k) (omega (arith, within))),
      )

  over-then : sent_now 1 (turned_times scenario 1 (suc (2 * ors + 2)) first) ≡ None
  over-then =
      now-sent (suc (2 * ors + 2))
      ∙ ap (λ (at : Standing). sent_in (underway_from (seat_of run) (driver (suc (2 * ors + 2)))) (command_in (sends run.plan at))) over-last

  abbrev behind : PerformanceState
  behind = turned_times scenario 1 (2 * ors + 2) first

  performance-is : generated_performance order (closed_of ors order) ≡ turned scenario 1 behind
  unfolding generated_performance turned_times
  performance-is =
      ap (turned_to_end scenario 1) begun-is
      ∙ end-times scenario 1 (2 * ors + 2) first (each-sends (suc (2 * ors + 2)) 0 (omega arith)) over-then (omega (arith, few))
      ∙ turns-then scenario 1 (2 * ors + 2) first

  past-long : (n : ℕ) → n ≤ 2 * ors + 2 → length (after n).past ≡ n
  unfolding after_acts
  past-long zero within = refl
  past-long (suc n) within =
      let some = sends-some run.plan (after n).standing (on-before n (omega (arith, within))) in
      let more = past-long n (omega (arith, within)) in
      let last : length (after (suc n)).past ≡ suc (length (after n).past) =
      ap (λ (c : Course). length c.past) (turn-last run n (begun []))
      ∙ ap (λ (drive : Drive). length (turned_in run (after n) drive).past) some.is in
      omega (arith, more, last)

  -- ---- the last turn

  quiet : explains scenario.manner ≡ false
  unfolding generated_scenario
  quiet = refl

  last-standing : (turned_in run (after (2 * ors + 2)) (sends run.plan (after (2 * ors + 2)).standing)).standing ≡ Over (Served (codes "gen"))
  last-standing = ap (λ (c : Course). c.standing) (sym (turn-last run (2 * ors + 2) (begun []))) ∙ over-last

  goal-last : SendsGoal run.plan (after (2 * ors + 2)).standing
  goal-last =
      let fewer : turns_in (replicate (2 * ors + 2) Turn) < commands_along path = omega (arith, many, turns-many (2 * ors + 2)) in
      served-by-goal run (after (2 * ors + 2)).past (after (2 * ors + 2)).standing (on-before (2 * ors + 2) (omega arith))
      (λ session bytes closing. never-closing run [] (replicate (2 * ors + 2) Turn) session bytes fewer closing)
      (subst ServedAt (sym last-standing) tt)

  abbrev command : Command
  command = goal_command run.plan goal-last.session goal-last.number

  abbrev answered : Answered
  answered = answer_to setup (after (2 * ors + 2)).past 0 (spelling command)

  abbrev sent_last : Sent
  sent_last = record { client = 1; locality = 0; buffer = spelling command }

  same-answer : answer_to behind.setup behind.past 0 (spelling command) ≡ answered
  same-answer = let is = follows (2 * ors + 2) in λ i. answer_to (is.setup i) (is.past i) 0 (spelling command)

  -- how it ends, with what it has earned
  record EndsServed : Type 0 where
    tickets : List HeldTicket
    is : end_told (heard_now 1 (answer_to behind.setup behind.past 0 (spelling command)).reply (told_now scenario 1 quiet sent_last behind (Served (codes "gen")) [] false))
        ≡ Some (ended.Sighted (Served (codes "gen")) tickets)

  ends : EndsServed
  ends =
      let is = follows (2 * ors + 2) in
      let resets = reset_count_of behind.setup (told_now scenario 1 quiet sent_last behind (Served (codes "gen")) [] false).past in
      let reply = (answer_to behind.setup behind.past 0 (spelling command)).reply in
      let sending : command_of (driver (2 * ors + 2)) ≡ Some command = ap command_in goal-last.is in
      let standing : hears run.plan (after (2 * ors + 2)).standing (answer_to behind.setup behind.past 0 (spelling command)).reply ≡ Over (Served (codes "gen")) =
      ap (λ (a : Answered). hears run.plan (after (2 * ors + 2)).standing a.reply) same-answer
      ∙ sym (ap (λ (drive : Drive). (turned_in run (after (2 * ors + 2)) drive).standing) goal-last.is) ∙ last-standing in
      record {
        tickets = earned (2 * ors + 2) ++ earned_at run.plan (after (2 * ors + 2)).standing resets reply;
        is = ap (λ (f : Option Numbered). end_told (heard_by (run_in f) resets reply)) is.found
            ∙ ends_step (underway_from (seat_of run) (driver (2 * ors + 2))) (driver (2 * ors + 2)) command resets reply sending
            ∙ ap (sighted_end (earned (2 * ors + 2) ++ earned_at run.plan (after (2 * ors + 2)).standing resets reply)) standing;
      }

  turn-is : turned scenario 1 behind ≡ sent scenario 1 sent_last behind
  unfolding turned
  turn-is =
      ap (λ next. turned_by scenario 1 next behind)
      (now-sent (2 * ors + 2) ∙ ap (λ (drive : Drive). sent_in (underway_from (seat_of run) (driver (2 * ors + 2))) (command_in drive)) goal-last.is)

  abbrev ended_state : PerformanceState
  ended_state =
      with_line (end_line 1 (Served (codes "gen"))) (with_kept scenario.directory 1 ends.tickets (heard_then scenario 1 quiet sent_last behind (Served (codes "gen")) [] (told_now scenario 1 quiet sent_last behind (Served (codes "gen")) [] false)))

  whole-is : generated_performance order (closed_of ors order) ≡ ended_state
  whole-is = performance-is ∙ turn-is ∙ last-is scenario 1 quiet sent_last behind (Served (codes "gen")) ends.tickets ends.is

  behind-long : length behind.past ≡ 2 * ors + 2
  behind-long = let is = follows (2 * ors + 2) in ap length is.past ∙ past-long (2 * ors + 2) (omega arith)

  count-is : length (generated_performance order (closed_of ors order)).past ≡ commands_of_b ors
  count-is =
      let one : length (generated_performance order (closed_of ors order)).past ≡ suc (length behind.past) = ap (λ (p : PerformanceState). length p.past) whole-is in
      omega (arith, one, behind-long)

  abbrev last_line : List ℕ
  last_line = line_of (command_line (commands_of_b ors) 1 0 (spelling command) answered.reply answered.outcome)

  lines-are : (generated_performance order (closed_of ors order)).lines
      ≡ ((first.lines ++ (follows (2 * ors + 2)).added) ++ last_line ∷ []) ++ line_of (end_line 1 (Served (codes "gen"))) ∷ []
  lines-are =
      let is = follows (2 * ors + 2) in
      let number : number_in behind ≡ commands_of_b ors = omega (arith, behind-long) in
      ap (λ (p : PerformanceState). p.lines) whole-is
      ∙ ap (λ n. (behind.lines ++ line_of (command_line n 1 0 (spelling command) (answer_to behind.setup behind.past 0 (spelling command)).reply (answer_to behind.setup behind.past 0 (spelling command)).outcome) ∷ []) ++ line_of (end_line 1 (Served (codes "gen"))) ∷ []) number
      ∙ ap (λ (a : Answered). (behind.lines ++ line_of (command_line (commands_of_b ors) 1 0 (spelling command) a.reply a.outcome) ∷ []) ++ line_of (end_line 1 (Served (codes "gen"))) ∷ []) same-answer
      ∙ ap (λ l. (l ++ last_line ∷ []) ++ line_of (end_line 1 (Served (codes "gen"))) ∷ []) is.lines

  -- ---- what is printed

  printed-by : (p : PerformanceState) (added : List (List ℕ))
      → p.lines ≡ ((first.lines ++ added) ++ last_line ∷ []) ++ line_of (end_line 1 (Served (codes "gen"))) ∷ [] → length p.past ≡ commands_of_b ors
      → take 1 p.lines ++ line_of (command_count_line (length p.past)) ∷ last_two p.lines
      ≡ line_of (chosen_line 1 (1 + before) path.steps) ∷ line_of (command_count_line (commands_of_b ors)) ∷ last_line ∷ line_of (end_line 1 (Served (codes "gen"))) ∷ []
  printed-by p added lines count =
      ap (λ l. take 1 l ++ line_of (command_count_line (length p.past)) ∷ last_two l) lines
      ∙ ap (λ n. line_of (chosen_line 1 (1 + before) path.steps) ∷ line_of (command_count_line n) ∷ last_two (((first.lines ++ added) ++ last_line ∷ []) ++ line_of (end_line 1 (Served (codes "gen"))) ∷ [])) count
      ∙ ap (λ l. line_of (chosen_line 1 (1 + before) path.steps) ∷ line_of (command_count_line (commands_of_b ors)) ∷ l) (two-last (first.lines ++ added) last_line (line_of (end_line 1 (Served (codes "gen")))))

  pub generated-text : IsGeneratedText ors order (generated_answer ors order (closed_of ors order)).lines
  unfolding generated_answer
  generated-text =
      let closed = closed_of ors order in
      let plus : 1 + before ≡ before + 1 = omega arith in
      record {
        area = _;
        past = (after (2 * ors + 2)).past;
        printed = ap (λ l. line_of (generated_line ors order) ∷ line_of (path_count_line (length (paths_of closed []))) ∷ line_of (digest_line (policy_digest closed)) ∷ l)
            (printed-by (generated_performance order closed) (follows (2 * ors + 2)).added lines-are count-is)
            ∙ ap (λ n. line_of (generated_line ors order) ∷ line_of (path_count_line n) ∷ line_of (digest_line (policy_digest closed))
            ∷ line_of (chosen_line 1 (1 + before) path.steps) ∷ line_of (command_count_line (commands_of_b ors)) ∷ last_line ∷ line_of (end_line 1 (Served (codes "gen"))) ∷ []) (two-for-each ors order few)
            ∙ ap (λ n. line_of (generated_line ors order) ∷ line_of (path_count_line (2 ^ ors)) ∷ line_of (digest_line (policy_digest closed))
            ∷ line_of (chosen_line 1 n path.steps) ∷ line_of (command_count_line (commands_of_b ors)) ∷ last_line ∷ line_of (end_line 1 (Served (codes "gen"))) ∷ []) plus
            ∙ ap (λ steps. line_of (generated_line ors order) ∷ line_of (path_count_line (2 ^ ors)) ∷ line_of (digest_line (policy_digest closed))
            ∷ line_of (chosen_line 1 (before + 1) steps) ∷ line_of (command_count_line (commands_of_b ors)) ∷ last_line ∷ line_of (end_line 1 (Served (codes "gen"))) ∷ []) (by-b ors order few).chosen;
      }

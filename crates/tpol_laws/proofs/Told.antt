-- What the report tells of a run of the script: that it is served exactly where it begins on a path.
use Rattle.std.proofs.Common.{◌≡◌, ◌≤◌, ◌↔◌, ℕ, zero, suc, if◌then◌else◌, List, [], ◌∷◌, ◌++◌, All, Option, Some, None, length, replicate, refl, ap, sym, subst, ◌∙◌, append_assoc, append-nil, arith}
use Rattle.std.specs.List.{AllByRecursion}
use Rattle.std.specs.Prelude.{Contains, find}
use Rattle.std.proofs.lemmas.Bool.{eq-eqb}
use Rattle.std.proofs.lemmas.List.Elements.{All-append, All-contains, All-cons, All-nil, Contains-append_left, Contains-append_right}
use Rattle.tpol_choose.specs.Blocks.{first_block}
use Rattle.tpol_driver.specs.declared.end.End.TheVariants.{Served}
use Rattle.tpol_driver.specs.Driving.{Over, Standing}
use Rattle.tpol_driver.specs.declared.tickets.HeldTicket.{HeldTicket}
use Rattle.tpol_lines.specs.Lines.{line_of}
use Rattle.tpol_lines.specs.Runs.{chosen_line, end_line, nobranch_line, over_line}
use Rattle.tpol_perform.specs.Begin.{begun_nowhere}
use Rattle.tpol_perform.specs.NewRuns.{with_new_run}
use Rattle.tpol_perform.specs.Performance.{PerformanceState, start_of, with_line}
use Rattle.tpol_perform.specs.Script.{all_happened, happened, performed, turn_told}
use Rattle.tpol_perform.specs.Turns.{turned, turned_by, turned_times, turned_to_end, turned_to_end_by}
use Rattle.tpol_prepare.specs.declared.scenario.Scenario.{Scenario}
use Rattle.tpol_prepare.specs.declared.scenario.StagedScene.{StagedScene}
use Rattle.tpol_prepare.specs.Staged.{IsStaged}
use Rattle.tpol_runs.specs.declared.ended.Ended.{Ended}
use Rattle.tpol_runs.specs.declared.ended.Ended.TheVariants as ended
use Rattle.tpol_runs.specs.Courses.{end_of, next_of}
use Rattle.tpol_runs.specs.Underway.{Sighted}
use Rattle.tpol_runs.specs.Runs.{has_number, run_at, run_in}
use Rattle.tpol_scene.specs.declared.script.ScriptEvent.{ScriptEvent}
use Rattle.tpol_scene.specs.declared.script.ScriptEvent.TheVariants.{Begin, Turn}
use Rattle.tpol_tree.specs.declared.path.Path.{Path}
use Rattle.tpm_engine.specs.Sights.{sight_after}
use Rattle.tpm_engine.specs.Views.{world_at}
use Rattle.tpol_laws.specs.Acts.{Turn as OwnTurn, after_acts, begun}
use Rattle.tpol_laws.specs.GoalBytes.{goal_bytes}
use Rattle.tpol_laws.specs.PathCommands.{commands_along}
use Rattle.tpol_laws.specs.Told.{BeginsNowhere, BeginsOn, HasTurns, IsAlone, IsServedOn, IsSighted, IsToldServed, RunOf, before_begin, begins, behind_begin, behind_own, bytes_for, chosen_for, paths_for, sight_at_begin, turns_for, turns_given, with_over}
use Rattle.tpol_laws.proofs.Begun.{along-state, begins-nowhere, begins-on, begun-along-is, begun-is, begun-run-is, front, none-before, run-along, setup-before, stands-in, tickets-usable}
use Rattle.tpol_laws.proofs.Followed.{Follows, allows-any, any, entry_at, own-follow, seat_of, sighted-turns, sighted_at}
use Rattle.tpol_laws.proofs.Prints.{IsBehind, all-behind, all-spare, blocks-spare, found-begun}
use Rattle.tpol_laws.proofs.Owing.{at-most-twice}
use Rattle.tpol_laws.proofs.Served.{path-served}
use Rattle.tpol_laws.proofs.Unlike.{IsUnserved, allows-unserved}

-- ---- events in two parts

pub back : {A : Type 0} (P : A → Type 0) (xs ys : List A) → AllByRecursion P (xs ++ ys) → AllByRecursion P ys
back P [] ys all = all
back P (x ∷ xs) ys all = back P xs ys all.1

all-append : (scenario : Scenario) (xs ys : List ScriptEvent) (p : PerformanceState) → all_happened scenario (xs ++ ys) p ≡ all_happened scenario ys (all_happened scenario xs p)
unfolding all_happened
all-append scenario [] ys p = refl
all-append scenario (x ∷ xs) ys p = all-append scenario xs ys (happened scenario x p)

pub turns-to-end : (number : ℕ) (before after : List ScriptEvent) → 65665 ≤ turns_for number (before ++ Turn number None ∷ after)
turns-to-end number [] after =
    let here : turns_given number (Turn number None) ≡ 65665 = ap (λ b. if b then 65665 else 0) (eq-eqb number number refl) in
    omega (arith, here)
turns-to-end number (event ∷ before) after =
    let later = turns-to-end number before after in
    omega (arith, later)

module _ (staged : StagedScene) (run : RunOf staged.script) where
  begin-first : (rest : List ScriptEvent) (p : PerformanceState) → all_happened staged.scenario (Begin run.number run.client run.locality run.policy run.place run.goal ∷ rest) p
      ≡ all_happened staged.scenario rest (happened staged.scenario (Begin run.number run.client run.locality run.policy run.place run.goal) p)
  unfolding all_happened
  begin-first rest p = refl

  -- the report of the whole script
  pub performed-is : performed staged ≡ all_happened staged.scenario (run.own ++ run.after) (behind_begin staged run)
  unfolding performed
  performed-is =
      let event = Begin run.number run.client run.locality run.policy run.place run.goal in
      ap (λ script. all_happened staged.scenario script (start_of staged.setup)) run.is
      ∙ all-append staged.scenario run.before (event ∷ (run.own ++ run.after)) (start_of staged.setup)
      ∙ begin-first (run.own ++ run.after) (before_begin staged run)

  pub performed-behind : performed staged ≡ all_happened staged.scenario run.after (behind_own staged run)
  performed-behind = performed-is ∙ all-append staged.scenario run.own run.after (behind_begin staged run)

-- ---- a run that begins on a path

module _ (staged : StagedScene) (run : RunOf staged.script) (is : IsStaged staged) where
  pub follows-begin : (position : ℕ) (path : Path) → chosen_for staged run ≡ Some position → behind_begin staged run ≡ along-state staged run is position path
      → Follows (seat_of (run-along staged run is path)) run.number staged.scenario (behind_begin staged run) (behind_begin staged run) (sighted_at (run-along staged run is path) [] (begun (before_begin staged run).past))
  follows-begin position path chosen same = record {
    setup = ap (λ (p : PerformanceState). p.setup) same ∙ setup-before staged run is;
    past = ap (λ (p : PerformanceState). p.past) same;
    found = ap (λ (p : PerformanceState). find (has_number run.number) p.runs) same ∙ found-begun (before_begin staged run).runs run.number _ (none-before staged run is);
    added = [];
    lines = sym (append-nil (behind_begin staged run).lines);
    told = λ end over. absurd (not-over end over);
    unserved = λ not. All-nil (IsUnserved run.number);
  }
    where
      not-over : (end : Ended) → None ≡ Some end → ⊥
      not-over end over = cc

  over-none : (path : Path) (earned : List HeldTicket) (at : Standing) (bytes : List ℕ) → at ≡ Over (Served bytes) → run_in (Some (entry_at (seat_of (run-along staged run is path)) run.number (Sighted (record { plan = (run-along staged run is path).plan; standing = at; earned = earned })))) ≡ None
  over-none path earned at bytes over = ap (λ s. run_in (Some (entry_at (seat_of (run-along staged run is path)) run.number (Sighted (record { plan = (run-along staged run is path).plan; standing = s; earned = earned }))))) over

  pub served-on : IsAlone staged.scenario run.number run.own (behind_begin staged run) → (position : ℕ) (on : BeginsOn staged run position)
      → commands_along on.path ≤ turns_for run.number run.own → IsServedOn staged run position on.path
  served-on alone position on enough =
      let among = run-along staged run is on.path in
      let past = (before_begin staged run).past in
      let same = begun-along-is staged run is on.sees position on.path on.chosen on.listed in
      let behind = front (IsBehind run.number) run.own run.after (stands-in staged run is).behind in
      let at = after_acts among (replicate (turns_for run.number run.own) OwnTurn) (begun past) in
      let there = sighted-turns among (turns_for run.number run.own) [] (begun past) in
      let follows : Follows (seat_of among) run.number staged.scenario (behind_begin staged run) (behind_own staged run) (sighted_at among there.earned at) =
      subst (Follows (seat_of among) run.number staged.scenario (behind_begin staged run) (behind_own staged run)) there.is
      (own-follow (seat_of among) run.number staged.scenario (behind_begin staged run) (stands-in staged run is).begins.greatest run.own behind (behind_begin staged run) (sighted_at among [] (begun past)) alone (follows-begin position on.path on.chosen same)) in
      let opens = subst (λ setup. first_block on.path (sight_after setup past) (begins staged run).grants run.goal run.locality ≡ None) (setup-before staged run is) on.opens in
      let bytes = goal_bytes (world_at staged.setup past) run.goal in
      let given : bytes ≡ bytes_for staged run = ap (λ setup. goal_bytes (world_at setup past) run.goal) (sym (setup-before staged run is)) in
      let served = path-served among past (turns_for run.number run.own) (begun-run-is staged run is on.path _ on.listed) (tickets-usable staged run is) opens enough in
      record {
        added = follows.added;
        printed = follows.lines ∙ ap (λ l. l ++ follows.added) on.printed ∙ append_assoc (before_begin staged run).lines (line_of (chosen_line run.number position on.path.steps) ∷ []) follows.added;
        served = subst (λ (b : List ℕ). Contains follows.added (line_of (end_line run.number (Served b)))) given
            (follows.told (ended.Sighted (Served bytes) there.earned) (ap (λ s. end_of (Sighted (record { plan = among.plan; standing = s; earned = there.earned }))) served));
        over = ap run_in follows.found ∙ over-none on.path there.earned _ bytes served;
      }

  -- the report has what is told behind the begin
  served-told : (position : ℕ) (path : Path) → IsServedOn staged run position path → Contains (performed staged).lines (line_of (end_line run.number (Served (bytes_for staged run))))
  served-told position path on =
      let line = line_of (end_line run.number (Served (bytes_for staged run))) in
      let behind = back (IsBehind run.number) run.own run.after (stands-in staged run is).behind in
      let later = all-behind any run.number (allows-any run.number) staged.scenario run.after behind (behind_own staged run) on.over in
      let own : Contains (behind_own staged run).lines line =
      subst (λ lines. Contains lines line) (sym on.printed)
      (Contains-append_right (before_begin staged run).lines (line_of (chosen_line run.number position path.steps) ∷ on.added) line
      (Contains-append_right (line_of (chosen_line run.number position path.steps) ∷ []) on.added line on.served)) in
      subst (λ lines. Contains lines line) (sym (ap (λ (p : PerformanceState). p.lines) (performed-behind staged run) ∙ later.lines))
      (Contains-append_left (behind_own staged run).lines later.added line own)

  -- ---- a run that begins on no path

  pub stays-over : BeginsNowhere staged run → run_at (behind_own staged run).runs run.number ≡ None
  stays-over nowhere =
      let behind = front (IsBehind run.number) run.own run.after (stands-in staged run is).behind in
      let spares = all-behind any run.number (allows-any run.number) staged.scenario run.own behind (behind_begin staged run) nowhere.over in
      ap run_in spares.found ∙ nowhere.over

  pub none-told : All (IsUnserved run.number) (before_begin staged run).lines
  none-told =
      let spares = all-spare (IsUnserved run.number) run.number (allows-unserved run.number (stands-in staged run is).begins.greatest) staged.scenario run.before (stands-in staged run is).others (start_of staged.setup) in
      subst (All (IsUnserved run.number)) (sym spares.lines) spares.each

  none-at-begin : IsSighted staged → chosen_for staged run ≡ None → All (IsUnserved run.number) (behind_begin staged run).lines
  unfolding begun_nowhere
  none-at-begin sees chosen =
      let allows = allows-unserved run.number (stands-in staged run is).begins.greatest in
      let p = with_new_run run.number None (before_begin staged run) in
      let spares = blocks-spare (IsUnserved run.number) run.number allows staged.scenario (sight_at_begin staged run) (begins staged run) 1 (paths_for staged run) (with_line (nobranch_line run.number) p) in
      subst (All (IsUnserved run.number)) (sym (ap (λ (q : PerformanceState). q.lines) (begun-is staged run is sees None chosen) ∙ spares.lines))
      (All-append (IsUnserved run.number) ((before_begin staged run).lines ++ line_of (nobranch_line run.number) ∷ []) spares.added
      (All-append (IsUnserved run.number) (before_begin staged run).lines (line_of (nobranch_line run.number) ∷ []) none-told
      (All-cons (IsUnserved run.number) (line_of (nobranch_line run.number)) [] (allows.nobranch run.number) (All-nil (IsUnserved run.number)))) spares.each)

  never-told : IsSighted staged → chosen_for staged run ≡ None → IsToldServed run.number (performed staged).lines → ⊥
  never-told sees chosen told =
      let allows = allows-unserved run.number (stands-in staged run is).begins.greatest in
      let nowhere = begins-nowhere staged run is sees chosen in
      let spares = all-behind (IsUnserved run.number) run.number allows staged.scenario (run.own ++ run.after) (stands-in staged run is).behind (behind_begin staged run) nowhere.over in
      let line = line_of (end_line run.number (Served told.0)) in
      let all : All (IsUnserved run.number) (performed staged).lines =
      subst (All (IsUnserved run.number)) (sym (ap (λ (p : PerformanceState). p.lines) (performed-is staged run) ∙ spares.lines))
      (All-append (IsUnserved run.number) (behind_begin staged run).lines spares.added (none-at-begin sees chosen) spares.each) in
      All-contains (IsUnserved run.number) (performed staged).lines line all told.1 told.0 refl

  -- ---- exactly

  on-path : IsSighted staged → IsToldServed run.number (performed staged).lines → (chosen : Option ℕ) → chosen_for staged run ≡ chosen → (position : ℕ) × BeginsOn staged run position
  on-path sees told None chosen = absurd (never-told sees chosen told)
  on-path sees told (Some position) chosen = (position, begins-on staged run is sees position chosen)

  pub served-exactly : IsSighted staged → IsAlone staged.scenario run.number run.own (behind_begin staged run) → HasTurns staged run
      → IsToldServed run.number (performed staged).lines ↔ ((position : ℕ) × BeginsOn staged run position)
  served-exactly sees alone turns = (
    λ told. on-path sees told (chosen_for staged run) refl,
    λ on. (bytes_for staged run, served-told on.0 on.1.path (served-on alone on.0 on.1 (turns on.0 on.1))),
  )

  pub served-with : IsAlone staged.scenario run.number run.own (behind_begin staged run) → HasTurns staged run → (position : ℕ) → BeginsOn staged run position
      → Contains (performed staged).lines (line_of (end_line run.number (Served (bytes_for staged run))))
  served-with alone turns position on = served-told position on.path (served-on alone position on (turns position on))

  -- ---- turns to its end

  pub to-end-enough : (before after : List ScriptEvent) → run.own ≡ before ++ Turn run.number None ∷ after → HasTurns staged run
  to-end-enough before after own position on =
      let short : length on.path.moves ≤ 512 = (begun-run-is staged run is on.path _ on.listed).short in
      let given : 65665 ≤ turns_for run.number run.own = subst (λ events. 65665 ≤ turns_for run.number events) (sym own) (turns-to-end run.number before after) in
      omega (arith, short, given, at-most-twice on.path.moves)

-- ---- turns of a run that is over

over-times : (scenario : Scenario) (number n : ℕ) (p : PerformanceState) → run_at p.runs number ≡ None → turned_times scenario number n p ≡ record p { lines = p.lines ++ replicate n (line_of (over_line number)) }
unfolding turned_times turned
over-times scenario number zero p over = ap (λ lines. record p { lines = lines }) (sym (append-nil p.lines))
over-times scenario number (suc n) p over =
    let line = line_of (over_line number) in
    ap (λ next. turned_times scenario number n (turned_by scenario number next p)) (ap next_of over)
    ∙ over-times scenario number n (with_line (over_line number) p) over
    ∙ ap (λ lines. record p { lines = lines }) (append_assoc p.lines (line ∷ []) (replicate n line))

pub over-turns : (scenario : Scenario) (number : ℕ) (times : Option ℕ) (p : PerformanceState) → run_at p.runs number ≡ None → turn_told scenario number times p ≡ with_over number times p
unfolding turned_to_end
over-turns scenario number None p over = ap (λ next. turned_to_end_by scenario number next p) (ap next_of over)
over-turns scenario number (Some n) p over = over-times scenario number n p over

-- What the report tells of a blind run of the script: that it is served where some path is such that nothing blocks it.
use Rattle.std.proofs.Common.{◌≡◌, ◌≤◌, ◌↔◌, ◌⊎◌, inl, inr, ℕ, ◌-◌, List, [], ◌++◌, IfSome, Option, Some, None, slice_get, refl, ap, sym, subst, ◌∙◌, append-nil, arith}
use Rattle.std.proofs.lemmas.List.Elements.{All-append, All-cons, All-contains, All-nil, Contains-append_cases, Contains-append_left}
use Rattle.std.specs.Prelude.{All, Contains, find, is_some, ◌+◌, ◌∷◌, option_map, position as position_of}
use Rattle.tpol_choose.specs.Blocks.{chosen_path, first_block, is_open}
use Rattle.tpol_driver.specs.declared.blind_end.BlindEnd.TheVariants as blind_ends
use Rattle.tpol_driver.specs.declared.blind_end.Tried.TheVariants.{Skipped}
use Rattle.tpol_driver.specs.Blind.{Again, BlindStanding, Closing, Over, Starting, Trying, first_complete, is_tried, most_blind, plan_along}
use Rattle.tpol_goal.specs.Goals.{HasShortOffset}
use Rattle.tpol_lines.specs.Lines.{line_of}
use Rattle.tpol_lines.specs.Runs.{blind_line, nobranch_line}
use Rattle.tpol_lines.specs.TriedLine.{tried_line}
use Rattle.tpol_perform.specs.Performance.{PerformanceState}
use Rattle.tpol_perform.specs.Script.{all_happened, performed}
use Rattle.tpol_prepare.specs.declared.scenario.StagedScene.{StagedScene}
use Rattle.tpol_prepare.specs.Staged.{IsStaged}
use Rattle.tpol_runs.specs.declared.ended.Ended.{Ended}
use Rattle.tpol_runs.specs.declared.ended.Ended.TheVariants as ended
use Rattle.tpol_runs.specs.Courses.{blind_end, end_of}
use Rattle.tpol_runs.specs.Runs.{has_number, run_at, run_in}
use Rattle.tpol_runs.proofs.Driven.{blind_over_is_none}
use Rattle.tpol_runs.specs.Underway.{Blind}
use Rattle.tpol_scene.specs.declared.script.ScriptEvent.{ScriptEvent}
use Rattle.tpol_scene.specs.declared.script.ScriptEvent.TheVariants.{Turn}
use Rattle.tpol_tree.specs.declared.path.Path.{Path}
use Rattle.tpm_engine.specs.Sights.{sight_after}
use Rattle.tpm_engine.specs.Views.{world_at}
use Rattle.tpol_laws.specs.BlindRuns.{BlindCourse, blind_begun, blind_turns, most_to}
use Rattle.tpol_laws.specs.GoalBytes.{goal_bytes}
use Rattle.tpol_laws.specs.Told.{IsAlone, IsToldServed, RunOf, before_begin, begins, behind_begin, behind_own, bytes_for, chosen_for, paths_for, turns_for}
use Rattle.tpol_laws.specs.ToldBlind.{BeginsBlindly, HasChanceIn, IsBlindScene, IsServedBlindly, blind_plan_for, blind_run_of, skipped_lines}
use Rattle.tpol_laws.proofs.Begun.{FoundPath, front, none-before, open-path, setup-before, stands-in}
use Rattle.tpol_laws.proofs.BegunBlindly.{begins-blindly, blind-begun-is, most-blind-given, most-to-given, passes-some, tries-is}
use Rattle.tpol_laws.proofs.BlindComes.{none-of, served-exactly, served-only}
use Rattle.tpol_laws.proofs.BlindEnds.{DrivingEnds, blind-ends}
use Rattle.tpol_laws.proofs.BlindTurns.{Mirrored}
use Rattle.tpol_laws.proofs.Complete.{open-complete}
use Rattle.tpol_laws.proofs.Followed.{Follows, IsNotServed, TellsServed, allows-any, any, blind-turns, blind_seat_of, blindly_at, entry_at, own-follow, underway_from}
use Rattle.tpol_laws.proofs.Prints.{IsBehind, Spares, all-behind, found-begun}
use Rattle.tpol_laws.proofs.Told.{back, none-told, performed-behind, turns-to-end}
use Rattle.tpol_laws.proofs.Unlike.{IsUnserved, allows-unserved, served_line}

module _ (staged : StagedScene) (run : RunOf staged.script) (is : IsStaged staged) (blind : IsBlindScene staged) where
  -- where the run is behind its own turns
  abbrev course : BlindCourse
  course = blind_turns (blind_run_of staged run) (turns_for run.number run.own) (blind_begun (before_begin staged run).past)

  abbrev FollowsTo : PerformanceState → BlindCourse → Type 0
  FollowsTo p at = Follows (blind_seat_of (blind_run_of staged run)) run.number staged.scenario (behind_begin staged run) p (blindly_at run.policy (blind_run_of staged run) at)

  follows-begin : (first : ℕ) → first_complete (blind_plan_for staged run) ≡ Some first → FollowsTo (behind_begin staged run) (blind_begun (before_begin staged run).past)
  follows-begin first some =
      let same = tries-is staged run is blind (Some first) some in
      record {
        setup = ap (λ (p : PerformanceState). p.setup) same ∙ setup-before staged run is;
        past = ap (λ (p : PerformanceState). p.past) same;
        found = ap (λ (p : PerformanceState). find (has_number run.number) p.runs) same ∙ found-begun (before_begin staged run).runs run.number _ (none-before staged run is);
        added = [];
        lines = sym (append-nil (behind_begin staged run).lines);
        told = λ end over. absurd (not-over end over);
        unserved = λ not. All-nil (IsUnserved run.number);
      }
    where
      not-over : (end : Ended) → None ≡ Some end → ⊥
      not-over end over = cc

  follows-own : IsAlone staged.scenario run.number run.own (behind_begin staged run) → (first : ℕ) → first_complete (blind_plan_for staged run) ≡ Some first → FollowsTo (behind_own staged run) course
  follows-own alone first some =
      let among = blind_run_of staged run in
      let past = (before_begin staged run).past in
      let behind = front (IsBehind run.number) run.own run.after (stands-in staged run is).behind in
      subst (Follows (blind_seat_of among) run.number staged.scenario (behind_begin staged run) (behind_own staged run)) (blind-turns run.policy among (turns_for run.number run.own) (blind_begun past))
      (own-follow (blind_seat_of among) run.number staged.scenario (behind_begin staged run) (stands-in staged run is).begins.greatest run.own behind (behind_begin staged run) (blindly_at run.policy among (blind_begun past)) alone (follows-begin first some))

  -- ---- served

  -- on the machine as it started, which is that of the scene
  chosen-among : (position : ℕ) → chosen_for staged run ≡ Some position
      → chosen_path (paths_for staged run) (sight_after staged.setup (before_begin staged run).past) (begins staged run).grants run.goal run.locality ≡ Some position
  chosen-among position chosen =
      subst (λ setup. chosen_path (paths_for staged run) (sight_after setup (before_begin staged run).past) (begins staged run).grants run.goal run.locality ≡ Some position) (setup-before staged run is) chosen

  over-none : (at : BlindStanding) (position : ℕ) (bytes : List ℕ) → at ≡ Over (blind_ends.Served position bytes)
      → run_in (Some (entry_at (blind_seat_of (blind_run_of staged run)) run.number (Blind run.policy (record { plan = blind_plan_for staged run; standing = at })))) ≡ None
  over-none at position bytes over =
      ap (λ s. run_in (Some (entry_at (blind_seat_of (blind_run_of staged run)) run.number (Blind run.policy (record { plan = blind_plan_for staged run; standing = s }))))) over

  served-by : (position : ℕ) (bytes : List ℕ) (path : Path) → slice_get (paths_for staged run) (position - 1) ≡ Some path → bytes ≡ bytes_for staged run → FollowsTo (behind_own staged run) course
      → course.standing ≡ Over (blind_ends.Served position bytes) → IsServedBlindly staged run position
  served-by position bytes path at given follows over =
      let end = ended.Blind run.policy (blind_ends.Served position bytes) in
      let told = follows.told end (ap (λ s. end_of (Blind run.policy (record { plan = blind_plan_for staged run; standing = s }))) over) in
      let served : TellsServed run.number position (bytes_for staged run) path follows.added =
      subst (λ (b : List ℕ). TellsServed run.number position b path follows.added) given
      (subst (λ (o : Option Path). IfSome o (λ p. TellsServed run.number position bytes p follows.added)) at told) in
      record {
        path = path;
        listed = at;
        before = served.before;
        after = served.after;
        printed = follows.lines ∙ ap (λ l. (behind_begin staged run).lines ++ l) served.are;
        over = ap run_in follows.found ∙ over-none course.standing position bytes over;
      }

  -- an open path can be tried, so a first one can be
  some-first : (path : Path) (index : ℕ) → slice_get (paths_for staged run) index ≡ Some path
      → first_block path (sight_after staged.setup (before_begin staged run).past) (begins staged run).grants run.goal run.locality ≡ None → first_complete (blind_plan_for staged run) ≡ None → ⊥
  some-first path index at opens none =
      let complete = open-complete staged.setup (before_begin staged run).past (plan_along (blind_plan_for staged run) path) run.locality is.setup is.directory opens in
      passes-some (is_tried (blind_plan_for staged run)) (paths_for staged run) index path at complete (no-map (position_of (is_tried (blind_plan_for staged run)) (paths_for staged run)) none)
    where
      no-map : (o : Option ℕ) → option_map (λ (i : ℕ). i + 1) o ≡ None → o ≡ None
      no-map None e = refl
      no-map (Some n) e = cc

  pub served-blindly : Mirrored → HasShortOffset run.goal → IsAlone staged.scenario run.number run.own (behind_begin staged run) → (position : ℕ) → chosen_for staged run ≡ Some position
      → most_to (blind_plan_for staged run) position ≤ turns_for run.number run.own → IsServedBlindly staged run position ⊎ HasChanceIn staged run
  served-blindly mirrored short alone position chosen enough =
      by (first_complete (blind_plan_for staged run)) refl (served-exactly mirrored (blind_run_of staged run) (blind-begun-is staged run is blind) short (before_begin staged run).past (turns_for run.number run.own) position (chosen-among position chosen) enough)
    where
      found : FoundPath (is_open (sight_after staged.setup (before_begin staged run).past) (begins staged run).grants run.goal run.locality) (paths_for staged run) (position - 1)
      found = open-path (paths_for staged run) (sight_after staged.setup (before_begin staged run).past) (begins staged run).grants run.goal run.locality position (chosen-among position chosen)

      by : (first : Option ℕ) → first_complete (blind_plan_for staged run) ≡ first
          → (course.standing ≡ Over (blind_ends.Served position (goal_bytes (world_at staged.setup (before_begin staged run).past) run.goal))) ⊎ HasChanceIn staged run → IsServedBlindly staged run position ⊎ HasChanceIn staged run
      by first some (inr chance) = inr chance
      by None none (inl over) = absurd (some-first found.path (position - 1) found.at (none-of _ found.passes) none)
      by (Some first) some (inl over) =
          let given = ap (λ setup. goal_bytes (world_at setup (before_begin staged run).past) run.goal) (sym (setup-before staged run is)) in
          inl (served-by position (goal_bytes (world_at staged.setup (before_begin staged run).past) run.goal) found.path found.at given (follows-own alone first some) over)

  -- ---- served only then

  -- neither the begin nor what is before it tells it
  skipped-unserved : (position : ℕ) (paths : List Path) → All (IsUnserved run.number) (skipped_lines position paths)
  skipped-unserved position [] = All-nil (IsUnserved run.number)
  skipped-unserved position (path ∷ rest) =
      All-cons (IsUnserved run.number) (line_of (tried_line position path.steps Skipped)) (skipped_lines (position + 1) rest)
      ((allows-unserved run.number (stands-in staged run is).begins.greatest).tried position path.steps Skipped) (skipped-unserved (position + 1) rest)

  begin-unserved : (first : Option ℕ) → BeginsBlindly staged run first → All (IsUnserved run.number) (behind_begin staged run).lines
  begin-unserved None begins =
      let allows = allows-unserved run.number (stands-in staged run is).begins.greatest in
      let none = line_of (nobranch_line run.number) in
      subst (All (IsUnserved run.number)) (sym begins.0)
      (All-append (IsUnserved run.number) (before_begin staged run).lines (line_of (blind_line run.number) ∷ (none ∷ skipped_lines 1 (paths_for staged run))) (none-told staged run is)
      (All-cons (IsUnserved run.number) (line_of (blind_line run.number)) (none ∷ skipped_lines 1 (paths_for staged run)) (allows.blind run.number)
      (All-cons (IsUnserved run.number) none (skipped_lines 1 (paths_for staged run)) (allows.nobranch run.number) (skipped-unserved 1 (paths_for staged run)))))
  begin-unserved (Some position) begins =
      let allows = allows-unserved run.number (stands-in staged run is).begins.greatest in
      subst (All (IsUnserved run.number)) (sym begins)
      (All-append (IsUnserved run.number) (before_begin staged run).lines (line_of (blind_line run.number) ∷ []) (none-told staged run is)
      (All-cons (IsUnserved run.number) (line_of (blind_line run.number)) [] (allows.blind run.number) (All-nil (IsUnserved run.number))))

  never-told : IsToldServed run.number (behind_own staged run).lines → (added : List (List ℕ)) → (behind_own staged run).lines ≡ (behind_begin staged run).lines ++ added → All (IsUnserved run.number) added → ⊥
  never-told told added lines unserved =
      let begin = begin-unserved (first_complete (blind_plan_for staged run)) (begins-blindly staged run is blind) in
      All-contains (IsUnserved run.number) (behind_own staged run).lines (served_line run.number told.0)
      (subst (All (IsUnserved run.number)) (sym lines) (All-append (IsUnserved run.number) (behind_begin staged run).lines added begin unserved)) told.1 told.0 refl

  -- where no path is tried it is over at its begin
  never-begun : first_complete (blind_plan_for staged run) ≡ None → IsToldServed run.number (behind_own staged run).lines → ⊥
  never-begun none told =
      let behind = front (IsBehind run.number) run.own run.after (stands-in staged run is).behind in
      let begins = subst (BeginsBlindly staged run) none (begins-blindly staged run is blind) in
      let spares = all-behind (IsUnserved run.number) run.number (allows-unserved run.number (stands-in staged run is).begins.greatest) staged.scenario run.own behind (behind_begin staged run) begins.1 in
      never-told told spares.added spares.lines spares.each

  abbrev IsServedFirst : Type 0
  IsServedFirst = (position : ℕ) × (chosen_for staged run ≡ Some position) × IsServedBlindly staged run position

  pub served-only-told : Mirrored → HasShortOffset run.goal → IsAlone staged.scenario run.number run.own (behind_begin staged run) → IsToldServed run.number (behind_own staged run).lines → IsServedFirst ⊎ HasChanceIn staged run
  served-only-told mirrored short alone told = by (first_complete (blind_plan_for staged run)) refl
    where
      at-served : (position : ℕ) (bytes : List ℕ) → FollowsTo (behind_own staged run) course → course.standing ≡ Over (blind_ends.Served position bytes)
          → ((chosen_path (paths_for staged run) (sight_after staged.setup (before_begin staged run).past) (begins staged run).grants run.goal run.locality ≡ Some position)
          × (bytes ≡ goal_bytes (world_at staged.setup (before_begin staged run).past) run.goal)) ⊎ HasChanceIn staged run → IsServedFirst ⊎ HasChanceIn staged run
      at-served position bytes follows over (inr chance) = inr chance
      at-served position bytes follows over (inl (chosen, same)) =
          let found = open-path (paths_for staged run) (sight_after staged.setup (before_begin staged run).past) (begins staged run).grants run.goal run.locality position chosen in
          let given = ap (λ setup. goal_bytes (world_at setup (before_begin staged run).past) run.goal) (sym (setup-before staged run is)) in
          let first = subst (λ setup. chosen_path (paths_for staged run) (sight_after setup (before_begin staged run).past) (begins staged run).grants run.goal run.locality ≡ Some position) (sym (setup-before staged run is)) chosen in
          inl (position, first, served-by position bytes found.path found.at (same ∙ given) follows over)

      unserved : FollowsTo (behind_own staged run) course → (standing : BlindStanding) → course.standing ≡ standing → IsNotServed (blind_end run.policy standing) → ⊥
      unserved follows it at not =
          never-told told follows.added follows.lines (follows.unserved (subst (λ s. IsNotServed (blind_end run.policy s)) (sym at) not))

      stands : FollowsTo (behind_own staged run) course → (standing : BlindStanding) → course.standing ≡ standing → IsServedFirst ⊎ HasChanceIn staged run
      stands follows Starting at = absurd (unserved follows Starting at tt)
      stands follows (Trying session number place ticket done tries) at = absurd (unserved follows (Trying session number place ticket done tries) at tt)
      stands follows (Again session number place tries) at = absurd (unserved follows (Again session number place tries) at tt)
      stands follows (Closing session end) at = absurd (unserved follows (Closing session end) at tt)
      stands follows (Over (blind_ends.Served position bytes)) at =
          at-served position bytes follows at
          (served-only mirrored (blind_run_of staged run) (blind-begun-is staged run is blind) short (before_begin staged run).past (turns_for run.number run.own) position bytes at)
      stands follows (Over (blind_ends.NoBranch tries)) at = absurd (unserved follows (Over (blind_ends.NoBranch tries)) at tt)
      stands follows (Over (blind_ends.Denied stage rc)) at = absurd (unserved follows (Over (blind_ends.Denied stage rc)) at tt)
      stands follows (Over (blind_ends.BadReply stage)) at = absurd (unserved follows (Over (blind_ends.BadReply stage)) at tt)

      by : (first : Option ℕ) → first_complete (blind_plan_for staged run) ≡ first → IsServedFirst ⊎ HasChanceIn staged run
      by None none = absurd (never-begun none told)
      by (Some first) some = stands (follows-own alone first some) course.standing refl

  -- ---- over

  stays-none : first_complete (blind_plan_for staged run) ≡ None → run_at (behind_own staged run).runs run.number ≡ None
  stays-none none =
      let behind = front (IsBehind run.number) run.own run.after (stands-in staged run is).behind in
      let begins = subst (BeginsBlindly staged run) none (begins-blindly staged run is blind) in
      ap run_in (all-behind any run.number (allows-any run.number) staged.scenario run.own behind (behind_begin staged run) begins.1).found ∙ begins.1

  pub over-behind : DrivingEnds → IsAlone staged.scenario run.number run.own (behind_begin staged run) → most_blind (blind_plan_for staged run) ≤ turns_for run.number run.own
      → run_at (behind_own staged run).runs run.number ≡ None
  over-behind driving_ends alone enough = by (first_complete (blind_plan_for staged run)) refl
    where
      by : (first : Option ℕ) → first_complete (blind_plan_for staged run) ≡ first → run_at (behind_own staged run).runs run.number ≡ None
      by None none = stays-none none
      by (Some first) some =
          let among = blind_run_of staged run in
          let follows = follows-own alone first some in
          let over = blind-ends driving_ends among (ap is_some some) (before_begin staged run).past (turns_for run.number run.own) enough in
          ap run_in follows.found
          ∙ blind_over_is_none (underway_from (blind_seat_of among) (Blind run.policy (record { plan = among.plan; standing = course.standing }))) run.policy among.plan course.standing over

  -- ---- turns to its end

  pub to-end-enough : (before after : List ScriptEvent) → run.own ≡ before ++ Turn run.number None ∷ after → (position : ℕ)
      → (most_to (blind_plan_for staged run) position ≤ turns_for run.number run.own) × (most_blind (blind_plan_for staged run) ≤ turns_for run.number run.own)
  to-end-enough before after own position =
      let given : 65665 ≤ turns_for run.number run.own = subst (λ events. 65665 ≤ turns_for run.number events) (sym own) (turns-to-end run.number before after) in
      (omega (arith, given, most-to-given staged run is blind position), omega (arith, given, most-blind-given staged run is blind))

-- ---- the whole report

-- of a run that is over it is not told later that it is served
pub told-in-report : (staged : StagedScene) (run : RunOf staged.script) → IsStaged staged → run_at (behind_own staged run).runs run.number ≡ None
    → IsToldServed run.number (performed staged).lines ↔ IsToldServed run.number (behind_own staged run).lines
told-in-report staged run is over = (
  λ told. (told.0, before told (Contains-append_cases (behind_own staged run).lines later.added (served_line run.number told.0) (subst (λ l. Contains l (served_line run.number told.0)) lines told.1))),
  λ told. (told.0, subst (λ l. Contains l (served_line run.number told.0)) (sym lines) (Contains-append_left (behind_own staged run).lines later.added (served_line run.number told.0) told.1)),
)
  where
    later : Spares (IsUnserved run.number) run.number (behind_own staged run) (all_happened staged.scenario run.after (behind_own staged run))
    later =
        all-behind (IsUnserved run.number) run.number (allows-unserved run.number (stands-in staged run is).begins.greatest) staged.scenario run.after
        (back (IsBehind run.number) run.own run.after (stands-in staged run is).behind) (behind_own staged run) over

    lines : (performed staged).lines ≡ (behind_own staged run).lines ++ later.added
    lines = ap (λ (p : PerformanceState). p.lines) (performed-behind staged run) ∙ later.lines

    before : (told : IsToldServed run.number (performed staged).lines) → (Contains (behind_own staged run).lines (served_line run.number told.0) ⊎ Contains later.added (served_line run.number told.0))
        → Contains (behind_own staged run).lines (served_line run.number told.0)
    before told (inl there) = there
    before told (inr there) = absurd (All-contains (IsUnserved run.number) later.added (served_line run.number told.0) later.each there told.0 refl)

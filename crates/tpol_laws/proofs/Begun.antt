-- Where the run of a script begins: the events before it are of others, and it begins on the chosen path or on none.
use Rattle.std.proofs.Common.{◌≡◌, ◌≢◌, ◌⊎◌, ◌<◌, inl, inr, ℕ, ◌+◌, ◌-◌, ◌^◌, Bool, true, false, if◌then◌else◌, List, [], ◌∷◌, ◌++◌, All, Option, Some, None, map, nat_eq, slice_get, refl, ap, sym, subst, ◌∙◌, arith, append_assoc, append-nil}
use Rattle.std.specs.List.{AllByRecursion}
use Rattle.std.specs.Prelude.{Contains, find, is_none}
use Rattle.std.proofs.lemmas.Bool.{eqb-true}
use Rattle.std.proofs.lemmas.List.Elements.{Contains-append_left, Contains-push, Contains-push_cases}
use Rattle.std.proofs.lemmas.Option.{none-some}
use Rattle.tpol_choose.specs.declared.block.Block.{Block}
use Rattle.tpol_choose.specs.Blocks.{chosen_path, first_block, is_open}
use Rattle.tpol_digest.specs.Walks.{first_path}
use Rattle.tpol_goal.specs.declared.goal.Goal.{Goal}
use Rattle.tpol_json.specs.declared.place.Place.{Place}
use Rattle.tpol_lines.specs.BlockLine.{block_line}
use Rattle.tpol_lines.specs.Lines.{line_of}
use Rattle.tpol_lines.specs.Runs.{chosen_line, nobranch_line}
use Rattle.tpol_perform.specs.Begin.{begun_along, begun_at, begun_by, begun_in_sight, begun_nowhere, begun_on, plan_along, run_begun, with_block, with_blocks}
use Rattle.tpol_perform.specs.NewRuns.{with_new_run}
use Rattle.tpol_perform.specs.Performance.{PerformanceState, start_of, with_line}
use Rattle.tpol_prepare.specs.declared.scenario.StagedScene.{StagedScene}
use Rattle.tpol_prepare.specs.declared.manner.Way.{Way}
use Rattle.tpol_prepare.specs.declared.manner.Way.TheVariants as ways
use Rattle.tpol_prepare.specs.Manner.{way_of}
use Rattle.tpol_prepare.specs.Staged.{IsStaged}
use Rattle.tpol_runs.specs.Courses.{begun as begun_underway}
use Rattle.tpol_runs.specs.Runs.{has_number, run_at, run_in}
use Rattle.tpol_scene.specs.declared.script.ScriptEvent.{ScriptEvent}
use Rattle.tpol_scene.specs.declared.script.ScriptEvent.TheVariants.{Command, Begin, Turn, Time, Presence, Reset}
use Rattle.tpol_scene.specs.Conditions.{AreEventsBehind, BeginsRun, IsEventBehind}
use Rattle.tpol_scene.specs.Scripts.{begun_run}
use Rattle.tpol_tree.specs.declared.path.Path.{Path}
use Rattle.tpol_laws.specs.Acts.{Run}
use Rattle.tpol_laws.specs.Runs.{IsBegun}
use Rattle.tpol_laws.specs.Told.{AreBlocksOf, BeginsNowhere, BeginsOn, IsSighted, RunOf, before_begin, begins, behind_begin, chosen_for, paths_for, sight_at_begin, tickets_at_begin}
use Rattle.tpol_laws.specs.HeldTickets.{IsUsable}
use Rattle.tpol_laws.proofs.Followed.{any, allows-any}
use Rattle.tpol_laws.proofs.KeptTickets.{Keeps, given-bounds, keeps-all, given-usable}
pub use Rattle.tpol_laws.proofs.NamedPaths.{FoundPath, grants-at, named-at, none-is, open-path}
use Rattle.tpol_laws.proofs.Prints.{IsBehind, IsOther, Spares, all-spare, found-begun}

-- ---- the script

apart-from : (a b : ℕ) → (a ≡ b → ⊥) → nat_eq a b ≡ false
apart-from a b differ = by (nat_eq a b) refl
  where
    by : (c : Bool) → nat_eq a b ≡ c → nat_eq a b ≡ false
    by true e = absurd (differ (eqb-true a b e))
    by false e = e

module _ (objects indices clients : List ℕ) where
  abbrev AreSmall : List ℕ → Type 0
  AreSmall runs = (k : ℕ) → Contains runs k → k < 2 ^ 16

  -- the runs that were begun before, and this event's
  small-more : (runs : List ℕ) (event : ScriptEvent) → IsEventBehind objects indices clients runs event → AreSmall runs → AreSmall (runs ++ begun_run event)
  small-more runs (Command client locality buffer) is small = subst AreSmall (sym (append-nil runs)) small
  small-more runs (Begin run client locality policy place goal) is small = λ k there. at k (Contains-push_cases runs run k there)
    where
      at : (k : ℕ) → (Contains runs k ⊎ (run ≡ k)) → k < 2 ^ 16
      at k (inl before) = small k before
      at k (inr same) = subst (λ n. n < 2 ^ 16) same is.greatest
  small-more runs (Turn run times) is small = subst AreSmall (sym (append-nil runs)) small
  small-more runs (Time ms) is small = subst AreSmall (sym (append-nil runs)) small
  small-more runs (Presence on) is small = subst AreSmall (sym (append-nil runs)) small
  small-more runs Reset is small = subst AreSmall (sym (append-nil runs)) small

  other-event : (runs : List ℕ) (number : ℕ) (event : ScriptEvent) → IsEventBehind objects indices clients runs event → AreSmall runs → (Contains (runs ++ begun_run event) number → ⊥) → IsOther number event
  other-event runs number (Command client locality buffer) is small absent = tt
  other-event runs number (Begin run client locality policy place goal) is small absent =
      (apart-from run number (λ same. absent (subst (Contains (runs ++ run ∷ [])) same (Contains-push runs run))), is.greatest)
  other-event runs number (Turn run times) is small absent =
      (apart-from run number (λ same. absent (Contains-append_left runs [] number (subst (Contains runs) same is.0))), small run is.0)
  other-event runs number (Time ms) is small absent = tt
  other-event runs number (Presence on) is small absent = tt
  other-event runs number Reset is small absent = tt

  event-behind : (runs : List ℕ) (number : ℕ) (event : ScriptEvent) → IsEventBehind objects indices clients runs event → AreSmall runs → Contains runs number → IsBehind number event
  event-behind runs number (Command client locality buffer) is small there = tt
  event-behind runs number (Begin run client locality policy place goal) is small there =
      (apart-from run number (λ same. is.is_new (subst (Contains runs) (sym same) there)), is.greatest)
  event-behind runs number (Turn run times) is small there = small run is.0
  event-behind runs number (Time ms) is small there = tt
  event-behind runs number (Presence on) is small there = tt
  event-behind runs number Reset is small there = tt

  events-behind : (runs : List ℕ) (number : ℕ) (events : List ScriptEvent) → AreEventsBehind objects indices clients runs events → AreSmall runs → Contains runs number → AllByRecursion (IsBehind number) events
  unfolding AreEventsBehind
  events-behind runs number [] are small there = tt
  events-behind runs number (event ∷ rest) are small there = (
    event-behind runs number event are.0 small there,
    events-behind (runs ++ begun_run event) number rest are.1 (small-more runs event are.0 small) (Contains-append_left runs (begun_run event) number there),
  )

  -- a run begins behind these events, and the rest follows
  pub record BegunBehind (number client locality : ℕ) (goal : Goal) (runs : List ℕ) (before rest : List ScriptEvent) : Type 0 where
    pub known : List ℕ
    pub begins : BeginsRun objects indices clients known number client locality goal
    pub absent : Contains runs number → ⊥
    pub others : AllByRecursion (IsOther number) before
    pub behind : AllByRecursion (IsBehind number) rest

  pub begun-behind : (number client locality : ℕ) (policy : List ℕ) (place : Place) (goal : Goal) (runs : List ℕ) (before rest : List ScriptEvent) → AreSmall runs
      → AreEventsBehind objects indices clients runs (before ++ Begin number client locality policy place goal ∷ rest) → BegunBehind number client locality goal runs before rest
  unfolding AreEventsBehind
  begun-behind number client locality policy place goal runs [] rest small are = record {
    known = runs;
    begins = are.0;
    absent = are.0.is_new;
    others = tt;
    behind = events-behind (runs ++ number ∷ []) number rest are.1 (small-more runs (Begin number client locality policy place goal) are.0 small) (Contains-push runs number);
  }
  begun-behind number client locality policy place goal runs (event ∷ before) rest small are =
      let later = begun-behind number client locality policy place goal (runs ++ begun_run event) before rest (small-more runs event are.0 small) are.1 in
      record {
        known = later.known;
        begins = later.begins;
        absent = λ there. later.absent (Contains-append_left runs (begun_run event) number there);
        others = (other-event runs number event are.0 small later.absent, later.others);
        behind = later.behind;
      }

none-small : (k : ℕ) → Contains {X = ℕ} [] k → k < 2 ^ 16
none-small k there = absurd (omega (arith, there.1))

pub front : {A : Type 0} (P : A → Type 0) (xs ys : List A) → AllByRecursion P (xs ++ ys) → AllByRecursion P xs
front P [] ys all = tt
front P (x ∷ xs) ys all = (all.0, front P xs ys all.1)

-- ---- the begin

module _ (staged : StagedScene) (run : RunOf staged.script) (is : IsStaged staged) where
  -- where the run stands in the script
  pub stands-in : BegunBehind (map (λ o. o.handle) staged.setup.objects) (map (λ i. i.public.index) staged.setup.indices) (map (λ client. client.0) staged.scenario.clients)
      run.number run.client run.locality run.goal [] run.before (run.own ++ run.after)
  stands-in =
      begun-behind (map (λ o. o.handle) staged.setup.objects) (map (λ i. i.public.index) staged.setup.indices) (map (λ client. client.0) staged.scenario.clients)
      run.number run.client run.locality run.policy run.place run.goal [] run.before (run.own ++ run.after) none-small
      (subst (AreEventsBehind (map (λ o. o.handle) staged.setup.objects) (map (λ i. i.public.index) staged.setup.indices) (map (λ client. client.0) staged.scenario.clients) []) run.is is.script)

  -- the events before it are others'
  before-spared : Spares any run.number (start_of staged.setup) (before_begin staged run)
  before-spared = all-spare any run.number (allows-any run.number) staged.scenario run.before stands-in.others (start_of staged.setup)

  pub setup-before : (before_begin staged run).setup ≡ staged.setup
  setup-before = before-spared.setup

  -- and the tickets that were kept up to there are the machine's
  pub kept-before : Keeps staged.setup (before_begin staged run)
  kept-before = keeps-all staged is run.before

  pub tickets-usable : All (IsUsable staged.setup (before_begin staged run).past) (tickets_at_begin staged run)
  tickets-usable = given-usable staged.setup (before_begin staged run) kept-before (way_of staged.scenario.manner) run.client

  pub none-before : find (has_number run.number) (before_begin staged run).runs ≡ None
  none-before = before-spared.found

  -- the run among others that begins along a path
  abbrev pub run-along : Path → Run
  run-along path = record {
    setup = staged.setup;
    client = run.client;
    locality = run.locality;
    plan = plan_along staged.scenario (tickets_at_begin staged run) path (begins staged run);
  }

  pub begun-run-is : (path : Path) (place : ℕ) → slice_get (paths_for staged run) place ≡ Some path → IsBegun (run-along path)
  begun-run-is path place at =
      let named = named-at staged.scenario is.scenario.begun is.begun is.approvals run.policy place path at in
      record {
        setup = is.setup;
        directory = is.directory;
        tickets = given-bounds staged.setup (before_begin staged run) kept-before (way_of staged.scenario.manner) run.client;
        grants = grants-at staged.scenario.clients run.client is.grants;
        moves = named.moves;
        short = named.short;
        fits = stands-in.begins.fits;
        among = stands-in.begins.among;
      }

  sighted-is : IsSighted staged → behind_begin staged run ≡ begun_in_sight staged.scenario run.policy (begins staged run) (before_begin staged run)
  unfolding run_begun
  sighted-is sees = by (way_of staged.scenario.manner) sees
    where
      by : (way : Way) → way ≢ ways.Blind → begun_by way staged.scenario run.policy (begins staged run) (before_begin staged run) ≡ begun_in_sight staged.scenario run.policy (begins staged run) (before_begin staged run)
      by ways.Sighted not_blind = refl
      by ways.WithTickets not_blind = refl
      by ways.Blind not_blind = absurd (not_blind refl)

  seen-is : begun_in_sight staged.scenario run.policy (begins staged run) (before_begin staged run) ≡ begun_at staged.scenario (sight_at_begin staged run) (paths_for staged run) (begins staged run) (chosen_for staged run) (before_begin staged run)
  unfolding begun_in_sight begun_on
  seen-is = refl

  pub begun-is : IsSighted staged → (chosen : Option ℕ) → chosen_for staged run ≡ chosen → behind_begin staged run ≡ begun_at staged.scenario (sight_at_begin staged run) (paths_for staged run) (begins staged run) chosen (before_begin staged run)
  begun-is sees chosen e = sighted-is sees ∙ seen-is ∙ ap (λ o. begun_at staged.scenario (sight_at_begin staged run) (paths_for staged run) (begins staged run) o (before_begin staged run)) e

  -- on a path
  abbrev pub along-state : ℕ → Path → PerformanceState
  along-state position path =
      with_line (chosen_line run.number position path.steps)
      (with_new_run run.number (Some (begun_underway run.client run.locality (plan_along staged.scenario (tickets_at_begin staged run) path (begins staged run)))) (before_begin staged run))

  pub begun-along-is : IsSighted staged → (position : ℕ) (path : Path) → chosen_for staged run ≡ Some position → slice_get (paths_for staged run) (position - 1) ≡ Some path → behind_begin staged run ≡ along-state position path
  begun-along-is sees position path chosen at =
      begun-is sees (Some position) chosen ∙ ap (λ o. begun_along staged.scenario (tickets_at_begin staged run) position (begins staged run) o (before_begin staged run)) at

  pub begins-on : IsSighted staged → (position : ℕ) → chosen_for staged run ≡ Some position → BeginsOn staged run position
  begins-on sees position chosen =
      let found = open-path (paths_for staged run) (sight_at_begin staged run) (begins staged run).grants run.goal run.locality position chosen in
      record {
        sees = sees;
        chosen = chosen;
        path = found.path;
        listed = found.at;
        opens = none-is _ found.passes;
        printed = ap (λ (p : PerformanceState). p.lines) (begun-along-is sees position found.path chosen found.at);
      }

  -- on none
  record BlocksTold (position : ℕ) (paths : List Path) (p q : PerformanceState) : Type 0 where
    runs : q.runs ≡ p.runs
    blocks : List (List ℕ)
    lines : q.lines ≡ p.lines ++ blocks
    are : AreBlocksOf (sight_at_begin staged run) (begins staged run) position paths blocks

  block-told : (position : ℕ) (path : Path) (rest : List Path) (p : PerformanceState) (block : Option Block) → first_block path (sight_at_begin staged run) (begins staged run).grants run.goal run.locality ≡ block
      → (if is_none block then Some position else first_path (is_open (sight_at_begin staged run) (begins staged run).grants run.goal run.locality) (position + 1) rest) ≡ None
      → ((q : PerformanceState) → first_path (is_open (sight_at_begin staged run) (begins staged run).grants run.goal run.locality) (position + 1) rest ≡ None → BlocksTold (position + 1) rest q (with_blocks (sight_at_begin staged run) (begins staged run) (position + 1) rest q))
      → BlocksTold position (path ∷ rest) p (with_blocks (sight_at_begin staged run) (begins staged run) (position + 1) rest (with_block position path.steps block p))
  unfolding AreBlocksOf
  block-told position path rest p None is none later = absurd (none-some position (sym none))
  block-told position path rest p (Some block) is none later =
      let line = line_of (block_line position path.steps block) in
      let next = later (with_line (block_line position path.steps block) p) none in
      record {
        runs = next.runs;
        blocks = line ∷ next.blocks;
        lines = next.lines ∙ append_assoc p.lines (line ∷ []) next.blocks;
        are = (block, next.blocks, is, refl, next.are);
      }

  blocks-told : (position : ℕ) (paths : List Path) (p : PerformanceState) → first_path (is_open (sight_at_begin staged run) (begins staged run).grants run.goal run.locality) position paths ≡ None
      → BlocksTold position paths p (with_blocks (sight_at_begin staged run) (begins staged run) position paths p)
  unfolding with_blocks AreBlocksOf
  blocks-told position [] p none = record { runs = refl; blocks = []; lines = sym (append-nil p.lines); are = refl }
  blocks-told position (path ∷ rest) p none =
      subst (λ (block : Option Block). BlocksTold position (path ∷ rest) p (with_blocks (sight_at_begin staged run) (begins staged run) (position + 1) rest (with_block position path.steps block p))) refl
      (block-told position path rest p (first_block path (sight_at_begin staged run) (begins staged run).grants run.goal run.locality) refl none
      (λ q later. blocks-told (position + 1) rest q later))

  pub begins-nowhere : IsSighted staged → chosen_for staged run ≡ None → BeginsNowhere staged run
  unfolding begun_nowhere chosen_path
  begins-nowhere sees chosen =
      let p = with_line (nobranch_line run.number) (with_new_run run.number None (before_begin staged run)) in
      let at = begun-is sees None chosen in
      let told = blocks-told 1 (paths_for staged run) p chosen in
      record {
        blocks = told.blocks;
        are = told.are;
        printed = ap (λ (q : PerformanceState). q.lines) at ∙ told.lines ∙ append_assoc (before_begin staged run).lines (line_of (nobranch_line run.number) ∷ []) told.blocks;
        over = ap (λ (q : PerformanceState). run_at q.runs run.number) at ∙ ap (λ runs. run_at runs run.number) told.runs ∙ ap run_in (found-begun (before_begin staged run).runs run.number None none-before);
      }

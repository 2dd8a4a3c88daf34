-- Where a blind run of a script begins: on all paths of its policy, or it is over at once where none can be tried.
use Rattle.std.proofs.Common.{◌≡◌, ◌≤◌, ℕ, zero, suc, ◌+◌, ◌*◌, cond, Bool, true, false, List, [], ◌∷◌, ◌++◌, All, Option, Some, None, length, replicate, slice_get, take, refl, ap, sym, subst, ◌∙◌, arith, append_assoc, append-nil}
use Rattle.std.specs.List.{AllByRecursion, sum_by}
use Rattle.std.specs.Prelude.{filter, find, option_map, position}
use Rattle.std.proofs.Math.Seq.{take-length}
use Rattle.std.proofs.lemmas.Bool.{false≢true}
use Rattle.std.proofs.lemmas.List.Elements.{All-nil, recursion_from_All}
use Rattle.std.proofs.lemmas.List.Sums.{sum_by-cons}
use Rattle.std.proofs.lemmas.Option.{none-some}
use Rattle.tpol_digest.specs.Laws.{MoveHasBounds}
use Rattle.tpol_digest.proofs.PathMoves.{paths_have_bounds}
use Rattle.tpol_driver.specs.declared.blind_end.Tried.TheVariants.{Skipped}
use Rattle.tpol_driver.specs.Blind.{first_complete, is_tried, most_blind, most_of_path}
use Rattle.tpol_lines.specs.Lines.{line_of}
use Rattle.tpol_lines.specs.Runs.{blind_line, nobranch_line}
use Rattle.tpol_lines.specs.TriedLine.{tried_line}
use Rattle.tpol_perform.specs.Begin.{begun_by, run_begun}
use Rattle.tpol_perform.specs.Blind.{begun_blindly, begun_by_plan, begun_on_tries, with_tries}
use Rattle.tpol_perform.specs.NewRuns.{with_new_run}
use Rattle.tpol_perform.specs.Performance.{PerformanceState, with_line}
use Rattle.tpol_prepare.specs.declared.scenario.Scenario.{Scenario}
use Rattle.tpol_prepare.specs.declared.scenario.StagedScene.{StagedScene}
use Rattle.tpol_prepare.specs.Scenario.{HasFewPaths, IsWalkable, is_document, paths_in, paths_named}
use Rattle.tpol_prepare.specs.Staged.{IsStaged}
use Rattle.tpol_runs.specs.Courses.{begun_blind}
use Rattle.tpol_runs.specs.Runs.{run_at, run_in}
use Rattle.tpol_steps.specs.declared.filled.FilledDocument.{FilledDocument}
use Rattle.tpol_tree.specs.declared.path.Path.{Path}
use Rattle.tpol_tree.specs.Bounds.{HasClosedBounds}
use Rattle.tpol_laws.specs.BlindRuns.{IsBlindBegun, most_to}
use Rattle.tpol_laws.specs.PathCommands.{commands_along}
use Rattle.tpol_laws.specs.Told.{RunOf, before_begin, begins, behind_begin, paths_for}
use Rattle.tpol_laws.specs.ToldBlind.{BeginsBlindly, IsBlindScene, blind_plan_for, blind_run_of, skipped_lines}
use Rattle.tpol_laws.proofs.Begun.{grants-at, none-before, stands-in}
use Rattle.tpol_laws.proofs.BlindPaths.{next-here, next-later}
use Rattle.tpol_laws.proofs.Finds.{find-each}
use Rattle.tpol_laws.proofs.Owing.{at-most-twice}
use Rattle.tpol_laws.proofs.Prints.{found-begun}

-- ---- the paths of a named policy

-- each of the paths is within the bounds of the wire, and short
record AreNamed (paths : List Path) : Type 0 where
  moves : All (λ path. All MoveHasBounds path.moves) paths
  short : All (λ path. length path.moves ≤ 512) paths

all-named : (scenario : Scenario) → All (λ document. IsWalkable scenario.approvals document.closed) scenario.begun → All (λ document. HasClosedBounds document.closed) scenario.begun
    → All (λ document. HasClosedBounds document.closed) scenario.approvals → (policy : List ℕ) → AreNamed (paths_named scenario policy)
unfolding paths_named
all-named scenario walkable bounds approvals policy = by (find (is_document policy) scenario.begun) refl
  where
    by : (o : Option FilledDocument) → find (is_document policy) scenario.begun ≡ o → AreNamed (paths_in scenario.approvals o)
    by None e = record { moves = All-nil _; short = All-nil _ }
    by (Some document) e =
        let walks = find-each (λ (d : FilledDocument). IsWalkable scenario.approvals d.closed) (is_document policy) scenario.begun document
        (recursion_from_All (λ (d : FilledDocument). IsWalkable scenario.approvals d.closed) scenario.begun walkable) e in
        let bounded = find-each (λ (d : FilledDocument). HasClosedBounds d.closed) (is_document policy) scenario.begun document
        (recursion_from_All (λ (d : FilledDocument). HasClosedBounds d.closed) scenario.begun bounds) e in
        record {
          moves = paths_have_bounds document.closed scenario.approvals walks.branches bounded approvals;
          short = walks.within.short;
        }

few-named : (scenario : Scenario) → All (HasFewPaths scenario.approvals) scenario.begun → (policy : List ℕ) → length (paths_named scenario policy) ≤ 64
unfolding paths_named
few-named scenario few policy = by (find (is_document policy) scenario.begun) refl
  where
    by : (o : Option FilledDocument) → find (is_document policy) scenario.begun ≡ o → length (paths_in scenario.approvals o) ≤ 64
    by None e = omega arith
    by (Some document) e =
        find-each (HasFewPaths scenario.approvals) (is_document policy) scenario.begun document (recursion_from_All (HasFewPaths scenario.approvals) scenario.begun few) e

-- ---- how many commands there are at most

-- of the first paths, those that are tried, each of which has at most 1026
module _ (count : Path → ℕ) (bound : (path : Path) → length path.moves ≤ 512 → count path ≤ 1026) (tried : Path → Bool) where
  most-of : (paths : List Path) (n : ℕ) → AllByRecursion (λ path. length path.moves ≤ 512) paths → sum_by count (filter tried (take n paths)) ≤ 1026 * length paths
  most-of [] zero short = omega arith
  most-of [] (suc n) short = omega arith
  most-of (path ∷ rest) zero short = omega arith
  most-of (path ∷ rest) (suc n) short = by (tried path) (most-of rest n short.1)
    where
      by : (b : Bool) → sum_by count (filter tried (take n rest)) ≤ 1026 * length rest
          → sum_by count (cond b (path ∷ filter tried (take n rest)) (filter tried (take n rest))) ≤ 1026 * length (path ∷ rest)
      by true later =
          let one : count path ≤ 1026 = bound path short.0 in
          omega (arith, later, one, sum_by-cons count path (filter tried (take n rest)))
      by false later = omega (arith, later)

along-bound : (path : Path) → length path.moves ≤ 512 → commands_along path ≤ 1026
along-bound path short = omega (arith, short, at-most-twice path.moves)

path-bound : (path : Path) → length path.moves ≤ 512 → most_of_path path ≤ 1026
path-bound path short = omega (arith, short)

-- ---- a path that passes

pub passes-some : (test : Path → Bool) (paths : List Path) (index : ℕ) (path : Path) → slice_get paths index ≡ Some path → test path ≡ true → position test paths ≡ None → ⊥
passes-some test [] index path at passes none = none-some path at
passes-some test (first ∷ rest) index path at passes none = by (test first) refl (λ i there. passes-some test rest i path there passes)
  where
    unwrap : Path → Option Path → Path
    unwrap p None = p
    unwrap p (Some q) = q

    later : (i : ℕ) → slice_get (first ∷ rest) i ≡ Some path → test first ≡ false → position test rest ≡ None → ((k : ℕ) → slice_get rest k ≡ Some path → position test rest ≡ None → ⊥) → ⊥
    later zero there fails unfound behind =
        let same : first ≡ path = ap (unwrap first) there in
        false≢true (sym fails ∙ ap test same ∙ passes)
    later (suc i) there fails unfound behind = behind i there unfound

    no-map : (o : Option ℕ) → option_map (λ (i : ℕ). 0 + 1 + i) o ≡ None → o ≡ None
    no-map None e = refl
    no-map (Some n) e = cc

    by : (b : Bool) → test first ≡ b → ((k : ℕ) → slice_get rest k ≡ Some path → position test rest ≡ None → ⊥) → ⊥
    by true is behind = none-some 0 (sym (ap (option_map (λ (i : ℕ). 0 + i)) none) ∙ next-here test 0 first rest is)
    by false is behind =
        later index at is (no-map (position test rest) (sym (next-later test 0 first rest is) ∙ ap (option_map (λ (i : ℕ). 0 + i)) none)) behind

-- ---- the begin

-- the paths are told as not tried
skipped : (position : ℕ) (paths : List Path) (p : PerformanceState) → with_tries position paths (replicate (length paths) Skipped) p ≡ record p { lines = p.lines ++ skipped_lines position paths }
unfolding with_tries
skipped position [] p = ap (λ lines. record p { lines = lines }) (sym (append-nil p.lines))
skipped position (path ∷ rest) p =
    let text = tried_line position path.steps Skipped in
    skipped (position + 1) rest (with_line text p)
    ∙ ap (λ lines. record p { lines = lines }) (append_assoc p.lines (line_of text ∷ []) (skipped_lines (position + 1) rest))

module _ (staged : StagedScene) (run : RunOf staged.script) (is : IsStaged staged) (blind : IsBlindScene staged) where
  pub blind-begun-is : IsBlindBegun (blind_run_of staged run)
  blind-begun-is =
      let named = all-named staged.scenario is.scenario.begun is.begun is.approvals run.policy in
      record {
        setup = is.setup;
        directory = is.directory;
        grants = grants-at staged.scenario.clients run.client is.grants;
        moves = named.moves;
        short = named.short;
        fits = (stands-in staged run is).begins.fits;
        among = (stands-in staged run is).begins.among;
      }

  all-short : AllByRecursion (λ path. length path.moves ≤ 512) (paths_for staged run)
  all-short = recursion_from_All (λ (path : Path). length path.moves ≤ 512) (paths_for staged run) blind-begun-is.short

  -- turns to its end are enough until it is served on a path, and until it is over
  pub most-to-given : (position : ℕ) → most_to (blind_plan_for staged run) position ≤ 65665
  most-to-given position =
      omega (arith, most-of commands_along along-bound (is_tried (blind_plan_for staged run)) (paths_for staged run) position all-short, few-named staged.scenario (is.scenario.few blind) run.policy)

  pub most-blind-given : most_blind (blind_plan_for staged run) ≤ 65665
  most-blind-given =
      let all : sum_by most_of_path (filter (is_tried (blind_plan_for staged run)) (paths_for staged run)) ≤ 1026 * length (paths_for staged run) =
      subst (λ paths. sum_by most_of_path (filter (is_tried (blind_plan_for staged run)) paths) ≤ 1026 * length (paths_for staged run)) (take-length (paths_for staged run))
      (most-of most_of_path path-bound (is_tried (blind_plan_for staged run)) (paths_for staged run) (length (paths_for staged run)) all-short) in
      omega (arith, all, few-named staged.scenario (is.scenario.few blind) run.policy)

  blindly-is : behind_begin staged run ≡ begun_by_plan run.policy (begins staged run) (blind_plan_for staged run) (before_begin staged run)
  unfolding run_begun begun_blindly
  blindly-is = ap (λ way. begun_by way staged.scenario run.policy (begins staged run) (before_begin staged run)) blind

  -- by the first path that is tried
  pub tries-is : (tried : Option ℕ) → first_complete (blind_plan_for staged run) ≡ tried
      → behind_begin staged run ≡ begun_on_tries run.number (begun_blind run.client run.locality run.policy (blind_plan_for staged run)) (blind_plan_for staged run) tried (with_line (blind_line run.number) (before_begin staged run))
  tries-is tried e =
      blindly-is
      ∙ ap (λ o. begun_on_tries run.number (begun_blind run.client run.locality run.policy (blind_plan_for staged run)) (blind_plan_for staged run) o (with_line (blind_line run.number) (before_begin staged run))) e

  -- where none is, the lines behind the begin and the run
  begins-by : (tried : Option ℕ) → first_complete (blind_plan_for staged run) ≡ tried → BeginsBlindly staged run tried
  begins-by None e =
      let p = with_new_run run.number None (with_line (blind_line run.number) (before_begin staged run)) in
      let at : behind_begin staged run ≡ record p { lines = (p.lines ++ line_of (nobranch_line run.number) ∷ []) ++ skipped_lines 1 (paths_for staged run) } =
      tries-is None e ∙ skipped 1 (paths_for staged run) (with_line (nobranch_line run.number) p) in (
        ap (λ (q : PerformanceState). q.lines) at
            ∙ append_assoc (p.lines) (line_of (nobranch_line run.number) ∷ []) (skipped_lines 1 (paths_for staged run))
            ∙ append_assoc (before_begin staged run).lines (line_of (blind_line run.number) ∷ []) (line_of (nobranch_line run.number) ∷ skipped_lines 1 (paths_for staged run)),
        ap (λ (q : PerformanceState). run_at q.runs run.number) at ∙ ap run_in (found-begun (before_begin staged run).runs run.number None (none-before staged run is)),
      )
  begins-by (Some position) e = ap (λ (q : PerformanceState). q.lines) (tries-is (Some position) e)

  pub begins-blindly : BeginsBlindly staged run (first_complete (blind_plan_for staged run))
  begins-blindly = begins-by (first_complete (blind_plan_for staged run)) refl

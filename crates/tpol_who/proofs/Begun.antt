-- What the lines of paths say, and on which path a run begins.
use Rattle.std.proofs.Common.{◌≡◌, ◌↔◌, ◌∙◌, ap, refl, sym, ℕ, zero, suc, ◌+◌, Bool, if◌then◌else◌, List, [], ◌∷◌, length, slice_get, arith, Option, Some, None}
use Rattle.std.proofs.lemmas.Bool.{false≢true}
use Rattle.std.specs.Option.{unwrap_or}
use Rattle.std.specs.Prelude.{is_none}
use Rattle.tpm_engine.specs.Sights.{sight_after}
use Rattle.tpol_choose.specs.declared.block.Block.{Block}
use Rattle.tpol_choose.specs.Blocks.{chosen_path, is_open}
use Rattle.tpol_digest.specs.Walks.{first_path}
use Rattle.tpol_lines.specs.BlockLine.{block_line}
use Rattle.tpol_lines.specs.Lines.{line_of}
use Rattle.tpol_name.specs.declared.sight.Sight.{Sight}
use Rattle.tpol_perform.specs.declared.new_run.NewRun.{NewRun}
use Rattle.tpol_perform.specs.Begin.{begun_at, begun_by, begun_in_sight, begun_on, run_begun}
use Rattle.tpol_perform.specs.Performance.{PerformanceState}
use Rattle.tpol_prepare.specs.declared.manner.Way.{Way}
use Rattle.tpol_prepare.specs.declared.manner.Way.TheVariants.{Sighted}
use Rattle.tpol_prepare.specs.declared.scenario.Scenario.{Scenario}
use Rattle.tpol_prepare.specs.Manner.{way_of}
use Rattle.tpol_prepare.specs.Scenario.{paths_named}
use Rattle.tpol_tree.specs.declared.path.Path.{Path}
use Rattle.tpol_tree.specs.declared.path.PathStep.{PathStep}
use Rattle.tpol_who.specs.Begins.{first_can, is_can}
use Rattle.tpol_who.specs.Lines.{block_for, can_line, path_told, paths_told}

-- ---- each line

can-told : (position : ℕ) (steps : List PathStep) (block : Option Block) → is_can (line_of (path_told position steps block)) ≡ is_none block
can-told position steps None = refl
can-told position steps (Some block) = refl

abbrev is_can_at : Option (List ℕ) → Bool
is_can_at found = is_can (unwrap_or found [])

module _ (sight : Sight) (run : NewRun) where
  pub counted : (n : ℕ) (paths : List Path) → length (paths_told sight run n paths) ≡ length paths
  unfolding paths_told
  counted n [] = refl
  counted n (path ∷ rest) = ap suc (counted (n + 1) rest)

  at : (n k : ℕ) (paths : List Path) (index : ℕ) (path : Path) → k ≡ n + index → slice_get paths index ≡ Some path
      → slice_get (paths_told sight run n paths) index ≡ Some (line_of (path_told k path.steps (block_for sight run path)))
  unfolding paths_told
  at n k [] index path e there = absurd cc
  at n k (first ∷ rest) zero path e there =
      let same : n ≡ k = omega (arith, e) in
      ap (λ (m : ℕ). Some (line_of (path_told m first.steps (block_for sight run first)))) same
      ∙ ap (λ (found : Path). Some (line_of (path_told k found.steps (block_for sight run found)))) (ap (λ (o : Option Path). unwrap_or o first) there)
  at n k (first ∷ rest) (suc index) path e there = at (n + 1) k rest index path (omega (arith, e)) there

  -- the line of the path at an index
  pub line_at : (paths : List Path) (index : ℕ) (path : Path) → slice_get paths index ≡ Some path
      → slice_get (paths_told sight run 1 paths) index ≡ Some (line_of (path_told (index + 1) path.steps (block_for sight run path)))
  line_at paths index path there = at 1 (index + 1) paths index path (omega arith) there

  line_says : (found : Option (List ℕ)) (position : ℕ) (steps : List PathStep) (block : Option Block) → found ≡ Some (line_of (path_told position steps block))
      → (found ≡ Some (line_of (can_line position steps))) ↔ (block ≡ None)
  line_says found position steps None is = (λ can. refl, λ open_is. is)
  line_says found position steps (Some block) is = (
    λ can. absurd (false≢true (ap is_can_at (sym is ∙ can))),
    λ open_is. absurd (cc open_is),
  )

  pub can_exactly : (paths : List Path) (index : ℕ) (path : Path) → slice_get paths index ≡ Some path
      → (slice_get (paths_told sight run 1 paths) index ≡ Some (line_of (can_line (index + 1) path.steps))) ↔ (block_for sight run path ≡ None)
  can_exactly paths index path there =
      line_says (slice_get (paths_told sight run 1 paths) index) (index + 1) path.steps (block_for sight run path) (line_at paths index path there)

  pub blocked_at : (paths : List Path) (index : ℕ) (path : Path) (block : Block) → slice_get paths index ≡ Some path → block_for sight run path ≡ Some block
      → slice_get (paths_told sight run 1 paths) index ≡ Some (line_of (block_line (index + 1) path.steps block))
  blocked_at paths index path block there is =
      line_at paths index path there ∙ ap (λ (b : Option Block). Some (line_of (path_told (index + 1) path.steps b))) is

  -- ---- the first

  first_told : (n : ℕ) (paths : List Path) → first_can n (paths_told sight run n paths) ≡ first_path (is_open sight run.grants run.goal run.locality) n paths
  unfolding paths_told first_can
  first_told n [] = refl
  first_told n (path ∷ rest) =
      let open_is = is_open sight run.grants run.goal run.locality path in
      ap (λ (b : Bool). if b then Some n else first_can (n + 1) (paths_told sight run (n + 1) rest)) (can-told n path.steps (block_for sight run path))
      ∙ ap (λ (later : Option ℕ). if open_is then Some n else later) (first_told (n + 1) rest)

  pub first_is_chosen : (paths : List Path) → first_can 1 (paths_told sight run 1 paths) ≡ chosen_path paths sight run.grants run.goal run.locality
  unfolding chosen_path
  first_is_chosen paths = first_told 1 paths

-- ---- the begin

-- of a run that sees the machine
pub begins_on : (scenario : Scenario) (policy : List ℕ) (run : NewRun) (p : PerformanceState) → way_of scenario.manner ≡ Sighted
    → run_begun scenario policy run p
    ≡ begun_at scenario (sight_after p.setup p.past) (paths_named scenario policy) run
    (chosen_path (paths_named scenario policy) (sight_after p.setup p.past) run.grants run.goal run.locality) p
unfolding run_begun begun_in_sight begun_on
begins_on scenario policy run p sees = ap (λ (way : Way). begun_by way scenario policy run p) sees

-- Turn after turn, and block after block.
use Rattle.std.proofs.Common.{◌≡◌, ◌∙◌, ap, refl, sym, ℕ, zero, suc, ◌+◌, ◌-◌, ◌<◌, ◌≤◌, List, [], ◌∷◌, drop, get_or, length, map, arith, Option, Some, None}
use Rattle.std.proofs.lemmas.List.{length-map}
use Rattle.tpol_choose.specs.declared.block.Block.{Block}
use Rattle.tpol_choose.specs.Blocks.{first_block}
use Rattle.tpol_lines.specs.PathLine.{label}
use Rattle.tpol_name.specs.declared.sight.Sight.{Sight}
use Rattle.tpol_runs.specs.declared.sent.Sent.{Sent}
use Rattle.tpol_perform.specs.declared.new_run.NewRun.{NewRun}
use Rattle.tpol_prepare.specs.declared.scenario.Scenario.{Scenario}
use Rattle.tpol_perform.specs.Begin.{with_block, with_blocks}
use Rattle.tpol_perform.specs.Performance.{PerformanceState}
use Rattle.tpol_perform.specs.Turns.{sent, sent_now, turned, turned_and, turned_on, turned_times}
use Rattle.tpol_tree.specs.declared.path.Path.{Path}
use Rattle.tpol_tree.specs.declared.path.PathStep.{PathStep}

-- ---- so many turns

pub turned_times_step : (scenario : Scenario) (run times i : ℕ) (p : PerformanceState) → i < times → turned_times scenario run (times - i) p ≡ turned_times scenario run (times - (i + 1)) (turned scenario run p)
unfolding turned_times
turned_times_step scenario run times i p h = let e : times - i ≡ suc (times - (i + 1)) = omega arith in rw e refl

pub turned_times_end : (scenario : Scenario) (run times i : ℕ) (p : PerformanceState) → times ≤ i → turned_times scenario run (times - i) p ≡ p
unfolding turned_times
turned_times_end scenario run times i p h = let e : times - i ≡ zero = omega arith in rw e refl

-- ---- turns to the end

and_sent : (rest : PerformanceState → PerformanceState) (scenario : Scenario) (run : ℕ) (next : Option Sent) (command : Sent) (p : PerformanceState) → next ≡ Some command → turned_and rest scenario run next p ≡ rest (sent scenario run command p)
and_sent rest scenario run next command p e = ap (λ (n : Option Sent). turned_and rest scenario run n p) e

pub turned_on_step : (scenario : Scenario) (run most i : ℕ) (p : PerformanceState) (command : Sent) → i < most → sent_now run p ≡ Some command → turned_on scenario run (most - i) p ≡ turned_on scenario run (most - (i + 1)) (sent scenario run command p)
unfolding turned_on
turned_on_step scenario run most i p command h e =
    let same : most - i ≡ suc (most - (i + 1)) = omega arith in
    rw same (and_sent (turned_on scenario run (most - (i + 1))) scenario run (sent_now run p) command p e)

pub turned_on_over : (scenario : Scenario) (run n : ℕ) (p : PerformanceState) → sent_now run p ≡ None → turned_on scenario run n p ≡ p
unfolding turned_on
turned_on_over scenario run zero p e = refl
turned_on_over scenario run (suc n) p e = ap (λ (next : Option Sent). turned_and (turned_on scenario run n) scenario run next p) e

pub turned_on_end : (scenario : Scenario) (run most i : ℕ) (p : PerformanceState) → most ≤ i → turned_on scenario run (most - i) p ≡ p
unfolding turned_on
turned_on_end scenario run most i p h = let e : most - i ≡ zero = omega arith in rw e refl

-- ---- blocks

module _ (sight : Sight) (run : NewRun) where
  abbrev blocks_of : List Path → List (Option Block)
  blocks_of paths = map (λ path. first_block path sight run.grants run.goal run.locality) paths

  abbrev labels_of : List Path → List (List ℕ)
  labels_of paths = map (λ path. label path.steps) paths

  -- the line of a path tells of these choices and this block
  abbrev IsTold : ℕ → PerformanceState → PerformanceState → List ℕ → Option Block → Type 0
  IsTold n old new choices block = (steps : List PathStep) → choices ≡ label steps → new ≡ with_block n steps block old

  block_at_place : (n : ℕ) (paths : List Path) (index : ℕ) (old new : PerformanceState) (choices : List ℕ) (block : Option Block) → index < length paths → choices ≡ get_or (labels_of paths) index choices → block ≡ get_or (blocks_of paths) index block → IsTold n old new choices block
      → with_blocks sight run n (drop index paths) old ≡ with_blocks sight run (n + 1) (drop (suc index) paths) new
  unfolding with_blocks
  block_at_place n [] index old new choices block h a b told = absurd (omega arith)
  block_at_place n (path ∷ rest) zero old new choices block h a b told =
      ap (with_blocks sight run (n + 1) rest) (sym (told path.steps a ∙ ap (λ (x : Option Block). with_block n path.steps x old) b))
  block_at_place n (path ∷ rest) (suc index) old new choices block h a b told = block_at_place n rest index old new choices block (omega arith) a b told

  -- a block that is there is read whatever stands for none
  read_so : (blocks : List (Option Block)) (index : ℕ) (x y : Option Block) → index < length blocks → get_or blocks index x ≡ get_or blocks index y
  read_so [] index x y h = absurd (omega arith)
  read_so (block ∷ rest) zero x y h = refl
  read_so (block ∷ rest) (suc index) x y h = read_so rest index x y (omega arith)

  pub blocks_step : (paths : List Path) (blocks : List (Option Block)) (labels : List (List ℕ)) (index : ℕ) (old new : PerformanceState) (choices : List ℕ) (block none : Option Block) → blocks ≡ blocks_of paths → labels ≡ labels_of paths → index < length blocks → IsTold (index + 1) old new choices block → choices ≡ get_or labels index choices → block ≡ get_or blocks index none
      → with_blocks sight run (index + 1) (drop index paths) old ≡ with_blocks sight run (index + 1 + 1) (drop (index + 1) paths) new
  blocks_step paths blocks labels index old new choices block none e f h told a b =
      let next : suc index ≡ index + 1 = omega arith in
      let within : index < length paths = omega (arith, ap length e, length-map paths (λ path. first_block path sight run.grants run.goal run.locality)) in
      block_at_place (index + 1) paths index old new choices block within (a ∙ ap (λ l. get_or l index choices) f) (b ∙ read_so blocks index none block h ∙ ap (λ l. get_or l index block) e) told
      ∙ ap (λ (m : ℕ). with_blocks sight run (index + 1 + 1) (drop m paths) new) next

  pub blocks_end : (n : ℕ) (paths : List Path) (index : ℕ) (p : PerformanceState) → length paths ≤ index → with_blocks sight run n (drop index paths) p ≡ p
  unfolding with_blocks
  blocks_end n [] zero p h = refl
  blocks_end n [] (suc index) p h = refl
  blocks_end n (path ∷ rest) zero p h = absurd (omega arith)
  blocks_end n (path ∷ rest) (suc index) p h = blocks_end n rest index p (omega arith)

  pub blocks_over : (paths : List Path) (blocks : List (Option Block)) (index n : ℕ) (p : PerformanceState) → blocks ≡ blocks_of paths → length blocks ≤ index → with_blocks sight run n (drop index paths) p ≡ p
  blocks_over paths blocks index n p e h =
      blocks_end n paths index p (omega (arith, ap length e, length-map paths (λ path. first_block path sight run.grants run.goal run.locality), h))

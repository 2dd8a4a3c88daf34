-- The lines of paths, one after another.
use Rattle.std.proofs.Common.{◌≡◌, ◌∙◌, ap, refl, ℕ, zero, suc, ◌+◌, ◌<◌, ◌≤◌, List, [], ◌∷◌, ◌++◌, drop, get_or, length, map, arith, append_assoc, append-nil, Option}
use Rattle.std.proofs.lemmas.List.{length-map}
use Rattle.tpol_choose.specs.declared.block.Block.{Block}
use Rattle.tpol_lines.specs.Lines.{line_of}
use Rattle.tpol_lines.specs.PathLine.{label}
use Rattle.tpol_name.specs.declared.sight.Sight.{Sight}
use Rattle.tpol_perform.specs.declared.new_run.NewRun.{NewRun}
use Rattle.tpol_tree.specs.declared.path.Path.{Path}
use Rattle.tpol_tree.specs.declared.path.PathStep.{PathStep}
use Rattle.tpol_who.specs.Lines.{block_for, path_told, paths_told}

module _ (sight : Sight) (run : NewRun) where
  abbrev blocks_of : List Path → List (Option Block)
  blocks_of paths = map (block_for sight run) paths

  abbrev labels_of : List Path → List (List ℕ)
  labels_of paths = map (λ path. label path.steps) paths

  -- the line of a path with these choices and this block is added
  abbrev IsAdded : ℕ → List (List ℕ) → List (List ℕ) → List ℕ → Option Block → Type 0
  IsAdded n old new choices block =
      (steps : List PathStep) → choices ≡ label steps → new ≡ old ++ line_of (path_told n steps block) ∷ []

  path_at_place : (n : ℕ) (paths : List Path) (index : ℕ) (old new : List (List ℕ)) (choices : List ℕ) (block : Option Block) → index < length paths → choices ≡ get_or (labels_of paths) index choices → block ≡ get_or (blocks_of paths) index block → IsAdded n old new choices block
      → new ++ paths_told sight run (n + 1) (drop (suc index) paths) ≡ old ++ paths_told sight run n (drop index paths)
  unfolding paths_told
  path_at_place n [] index old new choices block h a b added = absurd (omega arith)
  path_at_place n (path ∷ rest) zero old new choices block h a b added =
      let later = paths_told sight run (n + 1) rest in
      ap (λ l. l ++ later) (added path.steps a)
      ∙ append_assoc old (line_of (path_told n path.steps block) ∷ []) later
      ∙ ap (λ (x : Option Block). old ++ line_of (path_told n path.steps x) ∷ later) b
  path_at_place n (path ∷ rest) (suc index) old new choices block h a b added = path_at_place n rest index old new choices block (omega arith) a b added

  -- a block that is there is read whatever stands for none
  read_so : (blocks : List (Option Block)) (index : ℕ) (x y : Option Block) → index < length blocks → get_or blocks index x ≡ get_or blocks index y
  read_so [] index x y h = absurd (omega arith)
  read_so (block ∷ rest) zero x y h = refl
  read_so (block ∷ rest) (suc index) x y h = read_so rest index x y (omega arith)

  pub path_step : (paths : List Path) (blocks : List (Option Block)) (labels : List (List ℕ)) (index : ℕ) (old new : List (List ℕ)) (choices : List ℕ) (block none : Option Block) → blocks ≡ blocks_of paths → labels ≡ labels_of paths → index < length blocks → IsAdded (index + 1) old new choices block → choices ≡ get_or labels index choices → block ≡ get_or blocks index none
      → new ++ paths_told sight run (index + 1 + 1) (drop (index + 1) paths) ≡ old ++ paths_told sight run (index + 1) (drop index paths)
  path_step paths blocks labels index old new choices block none e f h added a b =
      let next : index + 1 ≡ suc index = omega arith in
      let within : index < length paths = omega (arith, ap length e, length-map paths (block_for sight run)) in
      ap (λ (m : ℕ). new ++ paths_told sight run (index + 1 + 1) (drop m paths)) next
      ∙ path_at_place (index + 1) paths index old new choices block within (a ∙ ap (λ l. get_or l index choices) f) (b ∙ read_so blocks index none block h ∙ ap (λ l. get_or l index block) e) added

  paths_end : (n : ℕ) (paths : List Path) (index : ℕ) → length paths ≤ index → paths_told sight run n (drop index paths) ≡ []
  unfolding paths_told
  paths_end n [] zero h = refl
  paths_end n [] (suc index) h = refl
  paths_end n (path ∷ rest) zero h = absurd (omega arith)
  paths_end n (path ∷ rest) (suc index) h = paths_end n rest index (omega arith)

  pub paths_over : (paths : List Path) (blocks : List (Option Block)) (index n : ℕ) (lines : List (List ℕ)) → blocks ≡ blocks_of paths → length blocks ≤ index → lines ++ paths_told sight run n (drop index paths) ≡ lines
  paths_over paths blocks index n lines e h =
      ap (λ l. lines ++ l) (paths_end n paths index (omega (arith, ap length e, length-map paths (block_for sight run), h)))
      ∙ append-nil lines

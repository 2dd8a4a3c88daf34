-- Choices beside the steps of the paths that they are of.
use Rattle.std.specs.Prelude.{◌≡◌, ◌≤◌, ⊤, List, [], ◌∷◌, length}
use Rattle.tpol_tree.specs.declared.path.Path.{Path}
use Rattle.tpol_tree.specs.declared.path.PathStep.{PathStep}
use Rattle.tpol_tree.specs.declared.path.PathStep.TheVariants.{Branch as BranchStep, Document as DocumentStep, Outside as OutsideStep}
use Rattle.tpol_cert.specs.declared.choice.Choice.{Choice}
use Rattle.tpol_cert.specs.declared.choice.Choice.TheVariants.{Branch, Document, Outside}

-- the choice is of the step's kind, and of its position where it has one
abbrev pub IsStep : Choice → PathStep → Type 0
IsStep (Branch number) (BranchStep position name) = number ≡ position
IsStep (Document number) (DocumentStep name) = ⊤
IsStep Outside OutsideStep = ⊤
IsStep _ _ = ⊥

abbrev pub AreSteps : List Choice → List PathStep → Type 0
AreSteps [] [] = ⊤
AreSteps (choice ∷ choices) (step ∷ steps) = IsStep choice step × AreSteps choices steps
AreSteps _ _ = ⊥

-- the choices are the path's, of which each has a move
pub record AreOf (choices : List Choice) (path : Path) : Type 0 where
  pub steps : AreSteps choices path.steps
  pub closed : length choices ≤ length path.moves

-- the choices of each path, in the order of the paths
abbrev pub Beside : List (List Choice) → List Path → Type 0
Beside [] [] = ⊤
Beside (choices ∷ others) (path ∷ paths) = AreOf choices path × Beside others paths
Beside _ _ = ⊥

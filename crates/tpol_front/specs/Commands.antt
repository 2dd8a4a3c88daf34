-- What the commands of a program are.
use Rattle.std.specs.Prelude.{ℕ, List, Bool, Option}
use Rattle.tpol_base.specs.declared.document.Document.{Document}
use Rattle.tpol_steps.specs.declared.answer.Answer.{Answer}
use Rattle.tpol_steps.specs.Steps.{Step}

-- the commands of a program, each a C
pub record Commands (C : Type 0) : Type 0 where
  -- the command that the words behind the program's name are, if they are one
  pub command_of : List (List ℕ) → Option C
  -- whether a command reads the source
  pub reads : C → Bool
  -- whether it uses the shelf
  pub uses : C → Bool
  -- what it does with what was read of the source, and the shelf's documents
  pub step : C → List ℕ → List Document → Step Answer
  -- the shelf's documents afterwards
  pub documents_after : C → List ℕ → List Document → List Document

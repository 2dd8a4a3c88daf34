-- The commands that carry out a scene, and those that tell openings: of which words and answer something is said.
use Rattle.std.specs.Prelude.{◌≡◌, ⊤, true, ℕ, List, Option, Some}
use Rattle.tpol_base.specs.declared.document.Document.{Document}
use Rattle.tpol_perform.specs.Explained.{IsExplainedScene}
use Rattle.tpol_prepare.specs.declared.manner.Manner.{Manner}
use Rattle.tpol_prepare.specs.Manner.{explains}
use Rattle.tpol_steps.specs.declared.answer.Answer.{Answer}
use Rattle.tpol_steps.specs.declared.answer.Verdict.TheVariants.{Done}
use Rattle.tpol_top.specs.declared.request.Request.{Request}
use Rattle.tpol_top.specs.declared.request.Request.TheVariants.{Perform}

-- P of the manner of a command that carries out a scene
abbrev pub IfPerform : Option Request → (Manner → Type 0) → Type 0
IfPerform (Some (Perform manner)) P = P manner
IfPerform _ P = ⊤

-- P of the lines of an answer that is not a refusal
abbrev pub IfDone : Answer → (List (List ℕ) → Type 0) → Type 0
IfDone answer P = answer.verdict ≡ Done → P answer.lines

-- the same as the first, where openings are told
abbrev pub IfExplain : Option Request → (Manner → Type 0) → Type 0
IfExplain (Some (Perform manner)) P = explains manner ≡ true → P manner
IfExplain _ P = ⊤

-- what such a command answers explains the scene that it read
abbrev pub IsExplanation : Request → List ℕ → List Document → Answer → Type 0
IsExplanation (Perform manner) input all answer = explains manner ≡ true → IsExplainedScene manner input all answer.lines
IsExplanation _ input all answer = ⊤

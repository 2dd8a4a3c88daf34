-- What is told besides of what a command answers.
use Rattle.std.specs.Prelude.{◌≡◌, ⊤, Option, Some, None, Result}
use Rattle.tpol_steps.specs.declared.answer.Answer.{Answer}
use Rattle.tpol_steps.specs.declared.answer.Verdict.TheVariants.{Done}
use Rattle.tpol_steps.specs.declared.halt.Halt.{Halt}
use Rattle.tpol_steps.specs.Steps.{IfAnswered}

-- P of the command that the words are, if they are one
abbrev pub IfCommand : {C : Type 0} → Option C → (C → Type 0) → Type 0
IfCommand None P = ⊤
IfCommand (Some command) P = P command

-- P of the answer of a command that came to its end
abbrev pub OfDone : Result Answer Halt → (Answer → Type 0) → Type 0
OfDone result P = IfAnswered result (λ answer. answer.verdict ≡ Done → P answer)

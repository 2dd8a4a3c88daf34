-- What is answered of a scene whose openings are told.
use Rattle.std.proofs.Common.{◌≡◌, ℕ, true, List, Option, Some, None, IfSome, Result, Ok, Err}
use Rattle.tpol_base.specs.declared.document.Document.{Document}
use Rattle.tpol_front.specs.Report.{OfHeld, seen_by}
use Rattle.tpol_front.specs.Told.{IfCommand}
use Rattle.tpol_perform.specs.Explained.{IsExplainedScene}
use Rattle.tpol_prepare.specs.declared.manner.Manner.{Manner}
use Rattle.tpol_prepare.specs.Manner.{explains}
use Rattle.tpol_steps.specs.declared.answer.Answer.{Answer}
use Rattle.tpol_steps.specs.declared.answer.Verdict.TheVariants.{Done}
use Rattle.tpol_steps.specs.declared.halt.Halt.{Halt}
use Rattle.tpol_steps.specs.declared.halt.Halt.TheVariants.{Refused, ReadFailed, ShelfFailed, NoMemory}
use Rattle.tpol_steps.specs.Steps.{IfAnswered}
use Rattle.tpol_top.specs.declared.request.Request.{Request}
use Rattle.tpol_top.specs.declared.request.Request.TheVariants.{Perform}
use Rattle.tpol_top.specs.Commands.{policy_commands}
use Rattle.tpol_top.specs.Explain.{IfExplain, IsExplanation}

-- ---- of the answer

known : (documents : Option (List Document)) (Q : Type 0) (P : List Document → Type 0) → (Q → IfSome documents P) → IfSome documents (λ all. Q → P all)
known None Q P h = tt
known (Some all) Q P h = h

pub performed_told : (manner : Manner) (result : Result Answer Halt) (documents : Option (List Document)) (input : List ℕ)
    → (explains manner ≡ true → IfAnswered result (λ answer. answer.verdict ≡ Done → IfSome documents (λ all. IsExplainedScene manner input all answer.lines)))
    → IfAnswered result (λ answer. answer.verdict ≡ Done → IfSome documents (λ all. explains manner ≡ true → IsExplainedScene manner input all answer.lines))
performed_told manner (Ok answer) documents input h =
    λ done. known documents (explains manner ≡ true) (λ all. IsExplainedScene manner input all answer.lines) (λ tells. h tells done)
performed_told manner (Err (Refused answer)) documents input h =
    λ done. known documents (explains manner ≡ true) (λ all. IsExplainedScene manner input all answer.lines) (λ tells. h tells done)
performed_told manner (Err ReadFailed) documents input h = tt
performed_told manner (Err ShelfFailed) documents input h = tt
performed_told manner (Err NoMemory) documents input h = tt

-- ---- of what is printed

held : (left : Option (List ℕ)) (documents : Option (List Document)) (Q : Type 0) (P : List ℕ → List Document → Type 0) → OfHeld left documents (λ input all. Q → P input all) → Q → OfHeld left documents P
held None documents Q P h q = tt
held (Some bytes) None Q P h q = tt
held (Some bytes) (Some all) Q P h q = h q

-- what is told of the command that the words are, is told where it tells openings
pub printed_explained : (choice : Option Request) (left : Option (List ℕ)) (documents : Option (List Document)) (answer : List ℕ → List Document → Answer)
    → IfCommand choice (λ command. OfHeld left documents (λ input all. IsExplanation command (seen_by policy_commands command input) all (answer input all)))
    → IfExplain choice (λ manner. OfHeld left documents (λ input all. IsExplainedScene manner input all (answer input all).lines))
printed_explained (Some (Perform manner)) left documents answer told =
    held left documents (explains manner ≡ true) (λ input all. IsExplainedScene manner input all (answer input all).lines) told
printed_explained _ left documents answer told = tt

-- What is answered of a scene that is carried out tells it.
use Rattle.std.proofs.Common.{ℕ, true, false, if◌then◌else◌, nat_le, codes, length, List, Option, Some, None, Ok, ap}
use Rattle.tpol_base.specs.declared.document.Document.{Document}
use Rattle.tpol_front.specs.Report.{OfHeld, leaves, most_read, report_of_choice, report_of_command}
use Rattle.tpol_laws.proofs.Printed.{scene-told}
use Rattle.tpol_laws.specs.Printed.{IsToldScene}
use Rattle.tpol_perform.specs.Script.{perform_step, performance_answer}
use Rattle.tpol_prepare.specs.declared.manner.Manner.{Manner}
use Rattle.tpol_prepare.specs.declared.scenario.StagedScene.{StagedScene}
use Rattle.tpol_steps.specs.declared.answer.Verdict.TheVariants.{TooLarge}
use Rattle.tpol_steps.specs.Answer.{one_line}
use Rattle.tpol_steps.specs.Steps.{Step, answer_of, ◌>>=◌}
use Rattle.tpol_top.specs.declared.request.Request.{Request}
use Rattle.tpol_top.specs.declared.request.Request.TheVariants.{Perform}
use Rattle.tpol_top.specs.Commands.{policy_commands}
use Rattle.tpol_top.specs.Explain.{IfDone, IfPerform}

-- the answer of the command
step-told : (manner : Manner) (input : List ℕ) (all : List Document) → IfDone (answer_of (perform_step manner input all)) (IsToldScene manner input all)
unfolding perform_step
step-told manner input all done =
    scene-told manner input all _ (λ staged e. ap (λ (step : Step StagedScene). (answer_of (step >>= λ s. Ok (performance_answer s))).lines) e)

-- the report on what was read, which is that answer unless there is too much
report-told : (manner : Manner) (input : List ℕ) (all : List Document) → IfDone (report_of_choice policy_commands (Some (Perform manner)) input all).answer (IsToldScene manner input all)
report-told manner input all =
    elim (nat_le most_read (length input)) as (λ b. IfDone (if b then leaves (one_line (codes "error TooLarge") TooLarge) all else report_of_command policy_commands (Perform manner) input all).answer (IsToldScene manner input all)) [
      | true ↦ λ done. absurd cc
      | false ↦ step-told manner input all
    ]

held : (left : Option (List ℕ)) (documents : Option (List Document)) (P : List ℕ → List Document → Type 0) → ((input : List ℕ) (all : List Document) → P input all) → OfHeld left documents P
held None documents P each = tt
held (Some bytes) None P each = tt
held (Some bytes) (Some all) P each = each _ all

-- the report of the command that the words are
pub scene_told : (choice : Option Request) (left : Option (List ℕ)) (documents : Option (List Document))
    → IfPerform choice (λ manner. OfHeld left documents (λ input all. IfDone (report_of_choice policy_commands choice input all).answer (IsToldScene manner input all)))
scene_told (Some (Perform manner)) left documents =
    held left documents (λ input all. IfDone (report_of_choice policy_commands (Some (Perform manner)) input all).answer (IsToldScene manner input all)) (report-told manner)
scene_told _ left documents = tt

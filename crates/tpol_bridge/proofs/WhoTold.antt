-- What is answered of a scene whose runs are told.
use Rattle.std.proofs.Common.{ℕ, true, false, if◌then◌else◌, nat_le, codes, length, List, Option, Some, None, Ok, ap}
use Rattle.tpol_base.specs.declared.document.Document.{Document}
use Rattle.tpol_bridge.specs.Commands.{bridge_commands}
use Rattle.tpol_bridge.specs.Who.{IfDone, IfWho}
use Rattle.tpol_bridge.specs.declared.request.Request.{Request}
use Rattle.tpol_bridge.specs.declared.request.Request.TheVariants.{Who}
use Rattle.tpol_front.specs.Report.{OfHeld, leaves, most_read, report_of_choice, report_of_command}
use Rattle.tpol_prepare.specs.declared.scenario.StagedScene.{StagedScene}
use Rattle.tpol_steps.specs.declared.answer.Verdict.TheVariants.{TooLarge}
use Rattle.tpol_steps.specs.Answer.{one_line}
use Rattle.tpol_steps.specs.Steps.{Step, answer_of, ◌>>=◌}
use Rattle.tpol_who.specs.Begins.{IsToldWho}
use Rattle.tpol_who.specs.Who.{who_answer, who_step}
use Rattle.tpol_who.proofs.Told.{scene_is_told}

-- the answer of the command
step_told : (input : List ℕ) (all : List Document) → IfDone (answer_of (who_step input all)) (IsToldWho input all)
unfolding who_step
step_told input all done =
    scene_is_told input all _ (λ staged e. ap (λ (step : Step StagedScene). (answer_of (step >>= λ s. Ok (who_answer s))).lines) e)

-- the report on what was read, which is that answer unless there is too much
report_told : (input : List ℕ) (all : List Document) → IfDone (report_of_choice bridge_commands (Some Who) input all).answer (IsToldWho input all)
report_told input all =
    elim (nat_le most_read (length input)) as (λ b. IfDone (if b then leaves (one_line (codes "error TooLarge") TooLarge) all else report_of_command bridge_commands Who input all).answer (IsToldWho input all)) [
      | true ↦ λ done. absurd (cc done)
      | false ↦ step_told input all
    ]

held : (left : Option (List ℕ)) (documents : Option (List Document)) (P : List ℕ → List Document → Type 0) → ((input : List ℕ) (all : List Document) → P input all) → OfHeld left documents P
held None documents P each = tt
held (Some bytes) None P each = tt
held (Some bytes) (Some all) P each = each _ all

-- the report of the command that the words are
pub who_told : (choice : Option Request) (left : Option (List ℕ)) (documents : Option (List Document))
    → IfWho choice (OfHeld left documents (λ input all. IfDone (report_of_choice bridge_commands choice input all).answer (IsToldWho input all)))
who_told (Some Who) left documents =
    held left documents (λ input all. IfDone (report_of_choice bridge_commands (Some Who) input all).answer (IsToldWho input all)) report_told
who_told _ left documents = tt

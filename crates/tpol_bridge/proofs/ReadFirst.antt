-- Steps behind the one that reads.
use Rattle.std.proofs.Common.{◌≡◌, List, Option, Some, None, Result, Ok, IfSome, ap}
use Rattle.std.specs.Prelude.{ℕ}
use Rattle.serde_json.specs.Data.{Data}
use Rattle.tpol_base.specs.declared.document.Document.{Document}
use Rattle.tpol_bridge.specs.Digests.{digests_step, told_with}
use Rattle.tpol_bridge.specs.Exports.{Exported, export_step}
use Rattle.tpol_bridge.specs.Steps.{stepped_with, steps_step}
use Rattle.tpol_json.specs.Document.{document_of}
use Rattle.tpol_steps.specs.declared.answer.Answer.{Answer}
use Rattle.tpol_steps.specs.declared.halt.Halt.{Halt}
use Rattle.tpol_steps.specs.ReadStep.{read_document, read_step}
use Rattle.tpol_steps.specs.Steps.{Answers}

-- reading the text of a document is reading the document
pub text_read : (text : List ℕ) (d : Data) → document_of text ≡ Some d → read_step text ≡ read_document (Some d)
unfolding read_step
text_read text d h = ap read_document h

-- a command whose export is read, where the shelf tells its documents
pub told_after : (documents : Option (List Document)) (scene : Option (List ℕ)) (input : List ℕ) (export : Exported) (result : Result Answer Halt) → export_step input ≡ Ok export → IfSome documents (λ all. Answers (λ answer. answer) (told_with scene export all) result) → IfSome documents (λ all. Answers (λ answer. answer) (digests_step scene input all) result)
unfolding digests_step
told_after None scene input export result is_read answers = tt
told_after (Some all) scene input export result is_read answers = rw is_read answers

pub stepped_after : (position : ℕ) (documents : Option (List Document)) (scene : Option (List ℕ)) (input : List ℕ) (export : Exported) (result : Result Answer Halt) → export_step input ≡ Ok export → IfSome documents (λ all. Answers (λ answer. answer) (stepped_with position scene export.policy all) result) → IfSome documents (λ all. Answers (λ answer. answer) (steps_step position scene input all) result)
unfolding steps_step
stepped_after position None scene input export result is_read answers = tt
stepped_after position (Some all) scene input export result is_read answers = rw is_read answers

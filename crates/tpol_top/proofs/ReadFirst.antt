-- Commands whose document is read, where the shelf tells its documents.
use Rattle.std.proofs.Common.{◌≡◌, List, Option, Some, None, Result, Ok, IfSome}
use Rattle.std.specs.Prelude.{ℕ}
use Rattle.tpol_base.specs.declared.document.Document.{Document}
use Rattle.tpol_json.specs.declared.place.Place.{Place}
use Rattle.tpol_steps.specs.declared.answer.Answer.{Answer}
use Rattle.tpol_steps.specs.declared.halt.Halt.{Halt}
use Rattle.tpol_top.specs.Compile.{compile_step, compiled_with}
use Rattle.tpol_top.specs.Paths.{listed_with, paths_step}
use Rattle.tpol_top.specs.declared.paths.PathView.{PathView}
use Rattle.tpol_steps.specs.ReadStep.{read_step}
use Rattle.tpol_steps.specs.Steps.{Answers}
use Rattle.tpol_tree.specs.declared.policy.Policy.{Policy}

pub compiled_after : (documents : Option (List Document)) (scene : Option (List ℕ)) (input : List ℕ) (policy : Policy) (notes : List Place) (result : Result Answer Halt) → read_step input ≡ Ok (policy, notes) → IfSome documents (λ all. Answers (λ answer. answer) (compiled_with scene policy notes all) result) → IfSome documents (λ all. Answers (λ answer. answer) (compile_step scene input all) result)
unfolding compile_step
compiled_after None scene input policy notes result is_read answers = tt
compiled_after (Some all) scene input policy notes result is_read answers = rw is_read answers

pub listed_after : (view : PathView) (documents : Option (List Document)) (scene : Option (List ℕ)) (input : List ℕ) (policy : Policy) (notes : List Place) (result : Result Answer Halt) → read_step input ≡ Ok (policy, notes) → IfSome documents (λ all. Answers (λ answer. answer) (listed_with view scene policy all) result) → IfSome documents (λ all. Answers (λ answer. answer) (paths_step view scene input all) result)
unfolding paths_step
listed_after view None scene input policy notes result is_read answers = tt
listed_after view (Some all) scene input policy notes result is_read answers = rw is_read answers

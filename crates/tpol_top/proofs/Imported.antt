-- What `import` leaves on the shelf where it is refused.
use Rattle.std.proofs.Common.{◌≡◌, ◌∙◌, ap, refl, sym, List, Option, Some, None, Result, Ok, Err, IfSome}
use Rattle.std.specs.Prelude.{ℕ, IfOk, OnErr}
use Rattle.tpol_base.specs.declared.document.Document.{Document}
use Rattle.tpol_json.specs.declared.place.Place.{Place}
use Rattle.tpol_steps.specs.declared.answer.Answer.{Answer}
use Rattle.tpol_steps.specs.declared.halt.Halt.{Halt}
use Rattle.tpol_steps.specs.declared.halt.Halt.TheVariants.{Refused, ReadFailed, ShelfFailed, NoMemory}
use Rattle.tpol_top.specs.Import.{documents_after_import, documents_with, import_step, imported}
use Rattle.tpol_steps.specs.ReadStep.{read_step}
use Rattle.tpol_steps.specs.Steps.{Answers, IfAnswered, Step, ◌>>=◌}
use Rattle.tpol_tree.specs.declared.policy.Policy.{Policy}

-- the documents are as before where nothing was read
with_refused : (name : List ℕ) (step : Step (Policy × List Place)) (given answer : Answer) (all : List Document) → (step >>= λ read. Ok given) ≡ Err answer → documents_with name step all ≡ all
with_refused name (Ok read) given answer all e = cc
with_refused name (Err refusal) given answer all e = refl

after_refused : (name input : List ℕ) (answer : Answer) (all : List Document) → import_step name input ≡ Err answer → documents_after_import name input all ≡ all
unfolding import_step documents_after_import
after_refused name input answer all e = with_refused name (read_step input) (imported name) answer all e

pub after_import : (name input : List ℕ) (result : Result Answer Halt) (documents now : Option (List Document)) → Answers (λ answer. answer) (import_step name input) result → IfOk result (λ _. IfSome documents (λ all. now ≡ Some (documents_after_import name input all))) → OnErr result (now ≡ documents) → IfAnswered result (λ _. IfSome documents (λ all. now ≡ Some (documents_after_import name input all)))
after_import name input (Ok answer) documents now answers puts keeps = puts
after_import name input (Err (Refused answer)) None now answers puts keeps = tt
after_import name input (Err (Refused answer)) (Some all) now answers puts keeps = keeps ∙ ap Some (sym (after_refused name input answer all answers))
after_import name input (Err ReadFailed) documents now answers puts keeps = tt
after_import name input (Err ShelfFailed) documents now answers puts keeps = tt
after_import name input (Err NoMemory) documents now answers puts keeps = tt

-- The text of a place, step after step.
use Rattle.std.proofs.Common.{◌≡◌, ℕ, ◌+◌, ◌<◌, ◌≤◌, Bool, true, false, List, [], ◌∷◌, ◌++◌, length, get_or, drop, refl, sym, add-one, append_assoc, append-nil}
use Rattle.std.proofs.Math.ListN.{drop_of_length-le}
use Rattle.std.proofs.Math.Seq.{drop-cons}
use Rattle.tpol_json.specs.PlaceText.{step_text, steps_text, text_of_steps}
use Rattle.tpol_json.specs.declared.place.PlaceStep.{PlaceStep}

-- one step more was written
pub steps_text-turn : (steps : List PlaceStep) (index : ℕ) (step : PlaceStep) (text : List ℕ) (later : Bool)
    → index < length steps → step ≡ get_or steps index step
    → text ++ steps_text later (drop index steps) ≡ (text ++ step_text later step) ++ steps_text true (drop (index + 1) steps)
unfolding steps_text
steps_text-turn steps index step text later within is =
    rw (add-one, drop-cons steps index step, ← is) (sym (append_assoc text (step_text later step) _))

-- no step is left
pub steps_text-end : (steps : List PlaceStep) (index : ℕ) (text : List ℕ) (later : Bool) → length steps ≤ index
    → text ++ steps_text later (drop index steps) ≡ text
unfolding steps_text
steps_text-end steps index text later past = rw (drop_of_length-le steps past) (append-nil text)

-- a place with a step has no `$`
pub text_of_steps-some : (steps : List PlaceStep) → (steps ≡ [] → ⊥) → text_of_steps steps ≡ steps_text false steps
text_of_steps-some [] some = absurd (some refl)
text_of_steps-some (step ∷ steps) some = refl

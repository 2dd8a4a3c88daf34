use Rattle.std.proofs.Common.{sym, ap, ◌∙◌, arith, true≢false, false}
use Rattle.tpol_json.specs.PlaceText.{steps_text}
use Rattle.tpol_json.proofs.SpellingLemmas.{steps_text-turn, steps_text-end, text_of_steps-some}
use Rattle.tpol_json.proofs.spelling.place_text.Goals as goal

pub loop-step-preserved : goal.loop-step-preserved
loop-step-preserved c =
    rw c.in_ok-push_step.ensures
    (sym (steps_text-turn c.as_slice-step-items.result.now c.loop-step.step-index c.step-item.result c.loop-step.text c.loop-step.later (omega arith) c.step-item.is) ∙ c.loop-step.invariant)

pub returns : goal.returns
returns c =
    let steps = c.as_slice-step-items.result.now in
    sym (steps_text-end steps c.loop-step.step-index c.loop-step.text c.loop-step.later (omega arith))
    ∙ c.loop-step.invariant ∙ ap (steps_text false) c.as_slice-step-items.ensures
    ∙ sym (text_of_steps-some c.args.place.now.steps (λ none. true≢false (sym (c.is_empty.ensures.1 none) ∙ c.if-is_empty.false)))

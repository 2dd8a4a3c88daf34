use Rattle.std.proofs.Common.{◌≡◌, ℕ, zero, suc, ◌+◌, ◌-◌, ◌<◌, false, ap, length, subst, sym, ◌∙◌, arith}
use Rattle.std.specs.Prelude.{◌==◌}
use Rattle.tpol_cert.specs.Choices.{choices_of, element_list_choices}
use Rattle.tpol_cert.specs.Following.{Leads, Strays}
use Rattle.tpol_cert.proofs.Apart.{choices_part}
use Rattle.tpol_cert.proofs.Following.{leads_too_far, strays_nowhere}
use Rattle.tpol_cert.proofs.Going.{counted}
use Rattle.tpol_cert.proofs.checking.position_of.Goals as goal
use Rattle.tpol_cert.proofs.checking.position_of.Goals.{in-Ok+else-is_empty, in-Err-At}

some_left : (n : ℕ) → (n == 0) ≡ false → 0 < n
some_left zero e = absurd cc
some_left (suc n) e = omega arith

pub follow_elements-requires : goal.follow_elements-requires
follow_elements-requires c =
    let lent = c.as_slice.result.now in
    let policy = c.args.policy.now in
    let few = c.requires.ways in
    let ways = ap (λ l. length (element_list_choices l 4 policy.elements)) c.as_slice.ensures in
    let count = counted lent 4 policy.elements c.count_ways-count.result c.count_ways-count.ensures.ways in
    record { counted = omega (arith, count, ways, few); few = omega (arith, count, ways, few) }

pub returns-clause-lost : goal.returns-clause-lost
returns-clause-lost c =
    let policy = c.args.policy.now in
    let all = choices_of policy c.args.approvals.now in
    let steps = c.args.steps.now in
    let number = length steps - length c.match-follow_elements.left.now + 1 in
    elim c.match-follow_elements.branch [
      | in-Ok+else-is_empty w ↦
          let led = w.in-Ok.led in
          let leads = subst (λ l. Leads (element_list_choices l 4 policy.elements) steps led.index led.left.now) c.as_slice.ensures w.in-Ok.ensures.leads in
          let some = some_left (length led.left.now) (sym w.is_empty.ensures ∙ w.if-is_empty.false) in
          leads_too_far all steps led.left.now led.index number (choices_part policy c.args.approvals.now) some (ap (λ l. length steps - length l.now + 1) w.left-is) leads
      | in-Err-At w ↦
          let stray = (rw w.in-Err-At.field-0-is at w.in-Err-At.ensures).strays in
          let strays = subst (λ l. Strays (element_list_choices l 4 policy.elements) steps w.in-Err-At.left.now) c.as_slice.ensures stray in
          strays_nowhere all steps w.in-Err-At.left.now number (ap (λ l. length steps - length l.now + 1) w.left-is) strays
    ]

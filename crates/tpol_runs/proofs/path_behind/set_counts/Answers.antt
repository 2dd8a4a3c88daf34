use Rattle.std.proofs.Common.{ap, get_or, sym, ◌∙◌}
use Rattle.std.specs.Prelude.{slice_get, slice_set}
use Rattle.tpol_runs.specs.Earned.{counted}
use Rattle.tpol_runs.proofs.Counted.{next_counted, no_counts, none_counted}
use Rattle.tpol_runs.proofs.path_behind.set_counts.Goals as goal
use Rattle.tpol_runs.proofs.path_behind.set_counts.Goals.{in-Some, in_default}

pub loop-place-init : goal.loop-place-init
loop-place-init c = sym (no_counts c.args.tickets.now)

pub loop-place-preserved : goal.loop-place-preserved
loop-place-preserved c =
    let old = c.args.tickets.now in
    let counts = c.args.counts.now in
    let place = c.loop-place.place in
    let there = ap (λ items. slice_get items place) c.loop-place.invariant in
    elim c.match-get_mut.branch [
      | in-Some w ↦
          w.tickets-is
          ∙ (ap (λ items. slice_set items place (counted (get_or counts place 0) w.in-Some.ticket.now)) c.loop-place.invariant
          ∙ next_counted old counts place w.in-Some.ticket.now 0 c.loop-place-test.true (sym there ∙ sym w.in-Some.ensures.value))
      | in_default w ↦ w.tickets-is ∙ (c.loop-place.invariant ∙ none_counted old counts place (sym there ∙ sym w.in_default.ensures.value))
    ]

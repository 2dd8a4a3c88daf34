use Rattle.std.proofs.Common.{ap, sym, ◌∙◌}
use Rattle.std.specs.Prelude.{slice_get, slice_set}
use Rattle.tpol_prepare.specs.Entities.{index_with_policy}
use Rattle.tpol_prepare.proofs.EachSet.{next_set, none_set}
use Rattle.tpol_prepare.proofs.entities.set_among_indices.Goals as goal
use Rattle.tpol_prepare.proofs.entities.set_among_indices.Goals.{in-Some+in_ok-set_index, in_default}

pub loop-place-preserved : goal.loop-place-preserved
loop-place-preserved c =
    let change = index_with_policy c.args.handle c.args.digest.now in
    let old = c.args.indices.now in
    let place = c.loop-place.place in
    let there = ap (λ items. slice_get items place) c.loop-place.invariant in
    elim c.match-get_mut.branch [
      | in-Some+in_ok-set_index w ↦
          w.indices-is
          ∙ (ap (slice_set c.loop-place.indices place) w.in_ok-set_index.ensures
          ∙ (ap (λ items. slice_set items place (change w.in-Some.index.now)) c.loop-place.invariant
          ∙ next_set change old place w.in-Some.index.now (sym there ∙ sym w.in-Some.ensures.value)))
      | in_default w ↦ w.indices-is ∙ (c.loop-place.invariant ∙ none_set change old place (sym there ∙ sym w.in_default.ensures.value))
    ]

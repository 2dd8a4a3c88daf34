use Rattle.std.proofs.Common.{◌∙◌, ◌++◌, [], ◌∷◌, sym, ap, take, max}
use Rattle.std.proofs.lemmas.List.{take_more}
use Rattle.tpm_nv.specs.Counters.{greatest_count}
use Rattle.tpm_nv.proofs.CounterLemmas.{greatest_count-counter, greatest_count-other, ord_max-nat}
use Rattle.tpol_choose.proofs.goal_rules.greatest_count.Goals as goal
use Rattle.tpol_choose.proofs.goal_rules.greatest_count.Goals.{in-Some, in_default}

pub loop-entry-preserved : goal.loop-entry-preserved
loop-entry-preserved c =
    let items = c.as_slice-entry-items.result.now in
    let i = c.loop-entry.entry-index in
    let entry = c.entry-item.result in
    let more = take_more items i entry c.loop-entry-test.true ∙ ap (λ e. take i items ++ e ∷ []) (sym c.entry-item.is) in
    elim c.match-written_count.branch [
      | in-Some w ↦
          let count = w.in-Some.count in
          w.greatest-is ∙ w.max-greatest.ensures ∙ ord_max-nat c.loop-entry.greatest count
          ∙ ap (λ greatest. max greatest count) c.loop-entry.invariant
          ∙ greatest_count-counter (take i items) entry count w.in-Some.ensures.count
          ∙ ap greatest_count (sym more)
      | in_default w ↦
          w.greatest-is ∙ c.loop-entry.invariant ∙ greatest_count-other (take i items) entry w.in_default.ensures.count
          ∙ ap greatest_count (sym more)
    ]

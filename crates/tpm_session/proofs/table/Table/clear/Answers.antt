use Rattle.std.proofs.Common.{ℕ, ◌<◌, ◌++◌, ◌+◌, ap, sym, ◌∙◌, length, replicate, drop, None, add-one, subst}
use Rattle.tpm_session.specs.Slots.{first_handle, with_content}
use Rattle.tpm_session.proofs.Slots.{clear-more}
use Rattle.tpm_session.proofs.table.Table.clear.Goals as goal

pub loop-slot-preserved : goal.loop-slot-preserved
loop-slot-preserved g c =
    let old = c.args.self.now in
    let slot = c.loop-slot.slot in
    let count = c.len-slot-end.ensures ∙ c.self.inside.slots.ok.0 ∙ ap length c.self.view_is in
    let less = subst (λ n. slot < n) count c.loop-slot-test.true in
    c.replace.ensures.after
    ∙ (ap (λ s. with_content s (first_handle + slot) None) c.loop-slot.invariant
    ∙ (clear-more old slot less
    ∙ ap (λ (count : ℕ). replicate count None ++ drop count old) (sym (add-one slot))))

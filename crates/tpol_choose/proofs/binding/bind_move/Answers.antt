use Rattle.std.proofs.Common.{◌≡◌, [], ◌∷◌, ◌++◌, None, ap, sym, ◌∙◌}
use Rattle.tpol_choose.specs.Acts.{move_of}
use Rattle.tpm_bindings.proofs.Merging.{merged-nothing}
use Rattle.tpm_bindings.specs.Merged.{fact_of, merged}
use Rattle.tpol_choose.proofs.Bound.{no_assertion}
use Rattle.tpol_choose.proofs.binding.bind_move.Goals as goal
use Rattle.tpol_choose.proofs.binding.bind_move.Goals.{in-Assert, in_default}

pub returns : goal.returns
returns c = λ facts before.
    let act = move_of c.args.act.now in
    let bound : c.match-act.bindings ≡ merged (facts ++ fact_of 0 act None None ∷ []) = elim c.match-act.branch [
      | in-Assert w ↦ w.bindings-is ∙ (w.bind.ensures.binds facts before ∙ ap (λ a. merged (facts ++ fact_of 0 (move_of a) None None ∷ [])) (sym w.in-Assert.is))
      | in_default w ↦ w.bindings-is ∙ (before ∙ sym (merged-nothing facts 0 act (no_assertion c.args.act.now w.in_default.not-Assert)))
    ] in
    c.limit_move.ensures facts 0 act bound
    ∙ ap (λ h. merged (facts ++ fact_of 0 act h c.args.deadline ∷ [])) c.cp_hash_of.ensures

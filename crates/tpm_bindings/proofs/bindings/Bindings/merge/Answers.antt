use Rattle.std.proofs.Common.{◌∙◌, ◌++◌, ◌∷◌, [], ap, sym, None}
use Rattle.tpm_bindings.specs.Merged.{fact_of, merged}
use Rattle.tpm_bindings.proofs.Merging.{merged-event, merged-nothing}
use Rattle.tpm_bindings.proofs.bindings.Bindings.merge.Goals as goal
use Rattle.tpm_bindings.proofs.bindings.Bindings.merge.Goals.{in-Assert, in_default}

pub returns : goal.returns
returns c facts event h =
    let act = c.args.act.now in
    elim c.match-act.branch [
      | in-Assert w ↦
          c.limit.ensures.limits facts event act
          (w.self-is
          ∙ (w.bind.ensures.binds facts h
          ∙ (ap (λ a. merged (facts ++ fact_of 0 a None None ∷ [])) (sym w.in-Assert.is) ∙ merged-event facts 0 event act None None)))
      | in_default w ↦
          c.limit.ensures.limits facts event act (w.self-is ∙ (h ∙ sym (merged-nothing facts event act w.in_default.not-Assert)))
    ]

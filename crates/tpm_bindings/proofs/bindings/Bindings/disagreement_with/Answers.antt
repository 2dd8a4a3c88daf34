use Rattle.std.proofs.Common.{◌∷◌, [], ◌++◌, None, ap, ◌∙◌}
use Rattle.tpm_bindings.specs.Agreement.{disagreement}
use Rattle.tpm_bindings.specs.Merged.{fact_of}
use Rattle.tpm_bindings.proofs.Merging.{moves_of-push}
use Rattle.tpm_bindings.proofs.bindings.Bindings.disagreement_with.Goals as goal

pub returns : goal.returns
returns c facts h =
    let fact = fact_of 0 c.args.act.now None None in
    c.disagreement.ensures (facts ++ fact ∷ []) (c.merge.ensures facts 0 h) ∙ ap disagreement (moves_of-push facts fact)

use Rattle.std.proofs.Common.{◌∙◌, ap, None, refl}
use Rattle.std.proofs.lemmas.List.{append-nil}
use Rattle.tpm_bindings.specs.Facts.{limits_of, deadlines_of}
use Rattle.tpol_base.specs.Digest.{is_same_digest}
use Rattle.tpm_bindings.specs.Held.{held}
use Rattle.tpm_bindings.specs.Merged.{fact_of, least}
use Rattle.tpm_bindings.proofs.Merging.{merged-push}
use Rattle.tpm_bindings.proofs.bindings.Bindings.limit.Goals as goal

pub returns : goal.returns
returns c = record {
  limits = λ facts event act h.
      let before = h ∙ merged-push facts (fact_of event act None None) in
      rw (
        merged-push facts (fact_of event act c.args.cp_hash c.args.deadline),
        c.add.ensures (limits_of facts) (ap (λ b. b.limit) before ∙ ap (held is_same_digest) (append-nil (limits_of facts))),
        c.earlier-self.ensures (deadlines_of facts) (ap (λ b. b.deadline) before ∙ ap least (append-nil (deadlines_of facts))),
        before,
      )
      refl;
}

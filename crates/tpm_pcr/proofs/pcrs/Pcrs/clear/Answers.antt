use Rattle.std.proofs.Common.{List, ◌∙◌, ap, refl, replicate, vec_len}
use Rattle.tpol_base.specs.declared.digest.Digest32.{Digest32}
use Rattle.tpol_base.specs.Digest.{zero_digest}
use Rattle.tpol_base.proofs.Digests.{same_digest}
use Rattle.tpm_pcr.specs.Bank.{Bank}
use Rattle.tpm_pcr.proofs.pcrs.Pcrs.clear.Goals as goal

pub returns : goal.returns
returns c =
    let of_values : List Digest32 → Bank = λ values. record { values = values; counter = 0 } in
    let zeros = c.fill.ensures.items (λ y same. same) in
    record {
      cleared = ap of_values
          (zeros ∙ ap (λ zero. replicate (vec_len c.self.inside.values) zero) (same_digest _ zero_digest refl)
          ∙ ap (λ n. replicate n zero_digest) c.self.invariant);
    }

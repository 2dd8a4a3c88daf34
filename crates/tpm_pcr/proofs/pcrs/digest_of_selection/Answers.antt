use Rattle.std.proofs.Common.{◌≡◌, true, false, ◌∙◌, sym, ap, take, take_all, append-nil}
use Rattle.tpol_base.specs.Pcr.{is_in_mask}
use Rattle.tpol_hash.specs.Sha256.{sha256_digest}
use Rattle.tpm_pcr.specs.Pcrs.{selection_digest}
use Rattle.tpm_pcr.proofs.Selections.{message_from, message_next}
use Rattle.tpm_pcr.proofs.pcrs.digest_of_selection.Goals as goal
use Rattle.tpm_pcr.proofs.pcrs.digest_of_selection.Goals.{then-is_in_mask, else-is_in_mask}

pub loop-pcr-preserved : goal.loop-pcr-preserved
loop-pcr-preserved c =
    let values = c.args.values.now in
    let mask = c.args.mask in
    let pcr = c.loop-pcr.pcr in
    let next = message_next mask pcr values c.index-values-pcr.result c.loop-pcr-test.true c.index-values-pcr.is in
    elim c.if-is_in_mask.branch [
      | then-is_in_mask w ↦
          let chosen : is_in_mask mask pcr ≡ true = sym w.if-is_in_mask.ensures in
          rw (w.hasher-is, next, chosen) (w.put.ensures.longer (message_from mask 0 (take pcr values)) c.loop-pcr.invariant)
      | else-is_in_mask w ↦
          let passed_over : is_in_mask mask pcr ≡ false = sym w.if-is_in_mask.ensures in
          rw (w.hasher-is, next, passed_over, append-nil (message_from mask 0 (take pcr values))) c.loop-pcr.invariant
    ]

pub returns : goal.returns
unfolding selection_digest
returns c =
    let values = c.args.values.now in
    let mask = c.args.mask in
    let held = c.done.ensures.digest (message_from mask 0 (take c.loop-pcr.pcr values)) c.loop-pcr.invariant in
    record {
      digest = held ∙ ap (λ all. sha256_digest (message_from mask 0 all)) (take_all c.loop-pcr.pcr values c.loop-pcr-test.false);
    }

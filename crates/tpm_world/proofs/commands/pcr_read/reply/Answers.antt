use Rattle.std.proofs.Common.{◌≡◌, ◌∙◌, ◌<◌, ◌≤◌, ◌++◌, ◌∷◌, [], map, sym, ap, subst, arith}
use Rattle.std.specs.Prelude.{bit_or}
use Rattle.std.proofs.lemmas.Nat.{one_shl}
use Rattle.tpol_base.specs.Pcr.{mask_of_pcrs}
use Rattle.tpol_wire.specs.declared.reply.Reply.TheVariants.{PcrRead}
use Rattle.tpm_pcr.specs.Pcrs.{value_of}
use Rattle.tpm_world.proofs.ReadLemmas.{read_all, read_none, read_past, read_with, read_without}
use Rattle.tpm_world.proofs.commands.pcr_read.reply.Goals as goal
use Rattle.tpm_world.proofs.commands.pcr_read.reply.Goals.{then-len-lt-MOST+then-is_in_mask+in_ok-push, else-len-lt-MOST, else-len-lt-MOST-via-then-len-lt-MOST+else-is_in_mask, else-len-lt-MOST-via-else-len-lt-MOST}

pub loop-pcr-preserved : goal.loop-pcr-preserved
loop-pcr-preserved c =
    let values = c.args.world.now.pcrs.values in
    let mask = c.args.mask in
    let pcr = c.loop-pcr.pcr in
    let before = c.loop-pcr.digests in
    let was = c.loop-pcr.invariant in
    elim c.if-len-lt-MOST.branch [
      | then-len-lt-MOST+then-is_in_mask+in_ok-push w ↦
          let value : w.value.result ≡ value_of values pcr = w.value.ensures.value ∙ ap (λ pcrs. value_of pcrs.values pcr) c.pcrs-pcrs.ensures.pcrs in
          let more = read_with values mask pcr before c.if-len-lt-MOST.digests c.loop-pcr.read c.if-len-lt-MOST.read was.digests was.read
          (subst (λ count. count < 8) c.len.ensures w.if-len-lt-MOST.true) (sym w.is_in_mask.ensures ∙ w.if-is_in_mask.true)
          (w.digests-is ∙ w.in_ok-push.ensures.ok ∙ ap (λ value. before ++ value ∷ []) value)
          (w.read-is ∙ ap (bit_or c.loop-pcr.read) (one_shl pcr 32 (omega arith))) in
          record { digests = more.0; read = more.1 }
      | else-len-lt-MOST w ↦ elim w.else-len-lt-MOST.branch [
        | else-len-lt-MOST-via-then-len-lt-MOST+else-is_in_mask w' ↦
            let same = read_none mask pcr (sym w'.is_in_mask.ensures ∙ w'.if-is_in_mask.false) in
            let still = read_without values mask pcr c.if-len-lt-MOST.digests c.if-len-lt-MOST.read (w.digests-is ∙ was.digests) (w.read-is ∙ was.read) same in
            record { digests = still.0; read = still.1 }
        | else-len-lt-MOST-via-else-len-lt-MOST w' ↦
            let same = read_past values mask pcr before was.digests (subst (λ count. 8 ≤ count) c.len.ensures w'.if-len-lt-MOST.false) in
            let still = read_without values mask pcr c.if-len-lt-MOST.digests c.if-len-lt-MOST.read (w.digests-is ∙ was.digests) (w.read-is ∙ was.read) same in
            record { digests = still.0; read = still.1 }
      ]
    ]

pub returns : goal.returns
returns c =
    let values = c.args.world.now.pcrs.values in
    let all = read_all c.args.mask c.loop-pcr.pcr (omega arith) in
    let counter : c.counter.result ≡ c.args.world.now.pcrs.counter = c.counter.ensures.counter ∙ ap (λ pcrs. pcrs.counter) c.pcrs-pcrs.ensures.pcrs in
    let read = c.loop-pcr.invariant.read ∙ ap mask_of_pcrs all in
    let digests = c.loop-pcr.invariant.digests ∙ ap (map (value_of values)) all in
    record { reply = λ i. PcrRead (counter i) (read i) (digests i) }

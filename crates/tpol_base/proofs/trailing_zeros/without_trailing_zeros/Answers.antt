use Rattle.std.proofs.Common.{◌≡◌, ◌-◌, nat_eq, length, take, sym, ap, ne_eqb, arith}
use Rattle.std.specs.List.{suffix_len}
use Rattle.std.proofs.lemmas.Bool.{eq-eqb}
use Rattle.std.proofs.lemmas.List.Sums.{suffix_len_is}
use Rattle.tpol_base.specs.TrailingZeros.{without_trailing_zeros}
use Rattle.tpol_base.proofs.trailing_zeros.without_trailing_zeros.Goals as goal
use Rattle.tpol_base.proofs.trailing_zeros.without_trailing_zeros.Goals.{then-loop-end-test+else-bytes-end-eq0, else-loop-end-test}

pub returns : goal.returns
unfolding without_trailing_zeros
returns c =
    let bytes = c.args.bytes.now in
    let end = c.loop-end.end in
    let zeros : suffix_len (nat_eq 0) bytes ≡ length bytes - end = suffix_len_is (nat_eq 0) bytes end 0 c.loop-end.invariant.0
    (λ k least within. eq-eqb 0 _ (sym (c.loop-end.invariant.1 k least within)))
    (elim c.loop-end-test.branch [
      | then-loop-end-test+else-bytes-end-eq0 w ↦ λ some. ne_eqb _ _ (λ e. w.if-bytes-end-eq0.false (sym e))
      | else-loop-end-test w ↦ λ some. absurd (omega arith)
    ]) in
    ap (λ n. take n bytes) (omega arith)

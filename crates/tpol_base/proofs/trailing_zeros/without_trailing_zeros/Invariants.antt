use Rattle.std.proofs.Common.{◌≡◌, ℕ, ◌<◌, ◌≤◌, get_or, length}
use Rattle.tpol_base.proofs.trailing_zeros.without_trailing_zeros.Given as goal

-- from the end on there are zero bytes alone
abbrev pub invariant-loop-end : goal.invariant-loop-end
invariant-loop-end l =
    (l.end ≤ length l.bytes) × ((k : ℕ) → l.end ≤ k → k < length l.bytes → get_or l.bytes k 0 ≡ 0)

abbrev pub decreases-loop-end : goal.decreases-loop-end
decreases-loop-end l = l.end

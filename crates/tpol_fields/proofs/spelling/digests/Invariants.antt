use Rattle.std.proofs.Common.{◌≡◌, ◌++◌, length, take, flat_map}
use Rattle.std.specs.Int.{w32, to_be_bytes}
use Rattle.tpol_fields.specs.Kinds.{sized}
use Rattle.tpol_fields.proofs.spelling.digests.Given as goal

abbrev pub invariant-loop-digest : goal.invariant-loop-digest
invariant-loop-digest l = l.out ≡ l.fn.out ++ (to_be_bytes w32 (length l.digests) ++ flat_map (λ digest. sized digest.bytes) (take l.digest-index l.digests))

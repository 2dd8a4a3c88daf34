use Rattle.std.proofs.Common.{◌≡◌, take}
use Rattle.tpol_digest.specs.Update.{joined}
use Rattle.tpol_digest.proofs.update_bytes.joined_digests.Given as goal

abbrev pub invariant-loop-digest : goal.invariant-loop-digest
invariant-loop-digest l = l.bytes.items ≡ joined (take l.digest-index l.digests)

use Rattle.std.proofs.Common.{◌≡◌, ◌-◌, ◌+◌, ◌*◌}
use Rattle.tpol_fields.specs.Kinds.{digests_at}
use Rattle.tpol_fields.proofs.DigestLists.{with_front}
use Rattle.tpol_fields.proofs.fields.counted_digests.Given as goal

abbrev pub invariant-loop : goal.invariant-loop
invariant-loop l = with_front l.digests (digests_at (0x040 + 0x100 * l.n) (l.count - l.counter) l.cursor) ≡ digests_at (0x040 + 0x100 * l.n) l.count l.fn.cursor

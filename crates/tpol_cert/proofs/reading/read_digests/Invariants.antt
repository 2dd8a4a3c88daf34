use Rattle.std.proofs.Common.{◌≡◌, ◌-◌}
use Rattle.tpol_cert.specs.Reading.{digest_in, list_in, many_in}
use Rattle.tpol_cert.proofs.Loop.{with_front}
use Rattle.tpol_cert.proofs.reading.read_digests.Given as goal

abbrev pub invariant-loop : goal.invariant-loop
invariant-loop l = with_front l.digests (many_in digest_in (l.count - l.counter) l.cursor) ≡ list_in digest_in l.fn.cursor

use Rattle.std.proofs.Common.{ap, inl, inr, length, arith}
use Rattle.std.proofs.lemmas.Bool.{cases_lt, true≢false}
use Rattle.std.proofs.lemmas.List.{length-take}
use Rattle.tpol_cert.proofs.reading.read_digest.Goals as goal

pub from_slice-requires : goal.from_slice-requires
from_slice-requires c =
    let few = c.in_ok-bytes.ensures.none.1 in
    let taken = ap length c.in_ok-bytes.ensures.taken in
    elim (cases_lt (length c.args.cursor.now) 32) [
      | inl short ↦ absurd (true≢false (few short))
      | inr long ↦ omega (arith, long, taken, length-take 32 c.args.cursor.now)
    ]

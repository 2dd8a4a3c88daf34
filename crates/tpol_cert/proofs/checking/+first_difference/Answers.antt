use Rattle.std.proofs.Common.{◌≡◌, ℕ, ◌<◌, ◌≤◌, List, [], ◌∷◌, length, Some, refl, arith}
use Rattle.tpol_base.specs.declared.digest.Digest32.{Digest32}
use Rattle.tpol_tree.specs.declared.path.Move.{Move}
use Rattle.tpol_cert.specs.Certificates.{digests_along}
use Rattle.tpol_cert.specs.Judging as judging
use Rattle.tpol_cert.proofs.checking.+first_difference.Goals as goal

too_many : (number : ℕ) (digests : List Digest32) (before : Digest32) (moves : List Move) → length moves < 1 → 1 ≤ length digests → Some number ≡ judging.first_difference number digests (digests_along before moves)
too_many number [] before moves none some = absurd (omega arith)
too_many number (d ∷ digests) before [] none some = refl
too_many number (d ∷ digests) before (act ∷ moves) none some = absurd (omega arith)

pub returns-in-len1-up-digests : goal.returns-in-len1-up-digests
returns-in-len1-up-digests t c = record {
  first = too_many c.args.number c.args.digests.now c.args.before c.args.moves.now (omega (arith, c.in-empty.len_below)) (omega (arith, c.in-len1-up-digests.len_at_least));
}

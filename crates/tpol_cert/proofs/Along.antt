-- The digests along a path's moves.
use Rattle.std.proofs.Common.{◌≡◌, List, [], ◌∷◌, length, refl, ap, suc}
use Rattle.tpol_base.specs.declared.digest.Digest32.{Digest32}
use Rattle.tpol_tree.specs.declared.path.Move.{Move}
use Rattle.tpol_digest.specs.Digest.{digest_after}
use Rattle.tpol_cert.specs.Certificates.{digests_along}

pub length-digests_along : (d : Digest32) (moves : List Move) → length (digests_along d moves) ≡ length moves
length-digests_along d [] = refl
length-digests_along d (act ∷ rest) = ap suc (length-digests_along (digest_after act d) rest)

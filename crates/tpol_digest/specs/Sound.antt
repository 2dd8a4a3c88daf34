-- Moves that a session can have made: each OR and each approval met the digest before it.
use Rattle.std.specs.Prelude.{◌≡◌, List, [], ◌∷◌, ◌⊎◌, ⊤}
use Rattle.tpol_base.specs.declared.digest.Digest32.{Digest32}
use Rattle.tpol_tree.specs.declared.path.Move.{Move}
use Rattle.tpol_tree.specs.declared.path.Move.TheVariants.{Assert, Or, Approve, ApproveNv}
use Rattle.tpol_digest.specs.Digest.{zero_digest, digest_after}

-- the digest is among these
abbrev pub Among : Digest32 → List Digest32 → Type 0
Among d [] = ⊥
Among d (e ∷ rest) = (d ≡ e) ⊎ Among d rest

-- what a move asks of the digest before it
abbrev pub Meets : Digest32 → Move → Type 0
Meets d (Assert assertion) = ⊤
Meets d (Or digests) = Among d digests
Meets d (Approve key policy_ref approved signature) = d ≡ approved
Meets d (ApproveNv index approved) = d ≡ approved

-- each move meets the digest before it, where d is the digest before the first
abbrev pub IsSoundFrom : Digest32 → List Move → Type 0
IsSoundFrom d [] = ⊤
IsSoundFrom d (act ∷ rest) = Meets d act × IsSoundFrom (digest_after act d) rest

-- the same from 32 zero bytes
abbrev pub IsSound : List Move → Type 0
IsSound moves = IsSoundFrom zero_digest moves

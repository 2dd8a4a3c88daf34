-- Which bytes certify a path.
use Rattle.std.specs.Prelude.{◌≡◌, ℕ, ◌-◌, ◌≤◌, List, [], ◌∷◌, Some}
use Rattle.std.specs.List.{slice_get}
use Rattle.tpol_base.specs.declared.digest.Digest32.{Digest32}
use Rattle.tpol_tree.specs.declared.closed.Closed.{Closed}
use Rattle.tpol_tree.specs.declared.path.ApprovedDoc.{ApprovedDoc}
use Rattle.tpol_tree.specs.declared.path.Move.{Move}
use Rattle.tpol_tree.specs.declared.path.Path.{Path}
use Rattle.tpol_digest.specs.Digest.{digest_after, zero_digest}
use Rattle.tpol_digest.specs.Paths.{paths_of}
use Rattle.tpol_cert.specs.declared.certificate.Certificate.{Certificate}
use Rattle.tpol_cert.specs.declared.choice.Choice.{Choice}
use Rattle.tpol_cert.specs.Choices.{choices_of}
use Rattle.tpol_cert.specs.Spelling.{Fits, spelled}

-- the digest after each of these moves, where d is the digest before them
abbrev pub digests_along : Digest32 → List Move → List Digest32
digests_along d [] = []
digests_along d (act ∷ rest) = digest_after act d ∷ digests_along (digest_after act d) rest

-- the certificate of a path with these choices
abbrev pub certificate_of : List Choice → Path → Certificate
certificate_of choices path = record { steps = choices; digests = digests_along zero_digest path.moves }

-- the bytes spell the choices of the path at this position, from 1, and the digest after each of its moves
pub record Certifies (bytes : List ℕ) (policy : Closed) (approvals : List ApprovedDoc) (position : ℕ) : Type 0 where
  pub choices : List Choice
  pub path : Path
  pub counted : 1 ≤ position
  pub chosen : slice_get (choices_of policy approvals) (position - 1) ≡ Some choices
  pub is_there : slice_get (paths_of policy approvals) (position - 1) ≡ Some path
  pub fits : Fits (certificate_of choices path)
  pub spells : bytes ≡ spelled (certificate_of choices path)

-- Laws of digests and paths.
use Rattle.std.specs.Prelude.{◌≡◌, ◌↔◌, ◌≤◌, ⊤, All, List, length, map}
use Rattle.tpol_tree.specs.declared.closed.Closed.{Closed}
use Rattle.tpol_tree.specs.declared.path.ApprovedDoc.{ApprovedDoc}
use Rattle.tpol_tree.specs.declared.path.Move.{Move}
use Rattle.tpol_tree.specs.declared.path.Move.TheVariants.{Assert, Or, Approve, ApproveNv}
use Rattle.tpol_tree.specs.Bounds.{AssertionHasBounds, HasClosedBounds, NameHasBounds, ReferenceHasBounds}
use Rattle.tpol_tree.specs.ClosedErased.{erased, erased_document}
use Rattle.tpol_digest.specs.Digest.{digest_of_moves, policy_digest}
use Rattle.tpol_digest.specs.Inputs.{inputs_of_policy}
use Rattle.tpol_digest.specs.Paths.{paths_of}
use Rattle.tpol_digest.specs.Sound.{IsSound}
use Rattle.tpol_digest.specs.WellFormed.{HasPcrDigest, HaveBranchCounts, IsWellFormed}

-- ---- whichever memory a policy and its approved documents lie in

abbrev pub DigestsIgnoreBoxes : Type 0
DigestsIgnoreBoxes = (policy : Closed) → policy_digest (erased policy) ≡ policy_digest policy

abbrev pub PathsIgnoreBoxes : Type 0
PathsIgnoreBoxes =
    (policy : Closed) (documents : List ApprovedDoc) → paths_of (erased policy) (map erased_document documents) ≡ paths_of policy documents

abbrev pub InputsIgnoreBoxes : Type 0
InputsIgnoreBoxes =
    (policy : Closed) (documents : List ApprovedDoc) → inputs_of_policy (erased policy) (map erased_document documents) ≡ inputs_of_policy policy documents

abbrev pub WellFormedIgnoresBoxes : Type 0
WellFormedIgnoresBoxes =
    (policy : Closed) (documents : List ApprovedDoc) → IsWellFormed (erased policy) (map erased_document documents) ↔ IsWellFormed policy documents

abbrev pub BranchCountsIgnoreBoxes : Type 0
BranchCountsIgnoreBoxes =
    (policy : Closed) (documents : List ApprovedDoc) → HaveBranchCounts (erased policy) (map erased_document documents) ↔ HaveBranchCounts policy documents

-- ---- all branches meet

-- each path leads a session to the policy's digest
abbrev pub PathsGiveTheDigest : Type 0
PathsGiveTheDigest =
    (policy : Closed) (documents : List ApprovedDoc) → All (λ path. digest_of_moves path.moves ≡ policy_digest policy) (paths_of policy documents)

-- each OR and each approval on a path meets the digest before it
abbrev pub PathsAreSound : Type 0
PathsAreSound =
    (policy : Closed) (documents : List ApprovedDoc) → IsWellFormed policy documents → All (λ path. IsSound path.moves) (paths_of policy documents)

-- ---- what holds of each policy command on a path

-- a PCR assertion has the hash of its values joined
abbrev pub MoveHasPcrDigest : Move → Type 0
MoveHasPcrDigest (Assert assertion) = HasPcrDigest assertion
MoveHasPcrDigest _ = ⊤

abbrev pub PathsHavePcrDigests : Type 0
PathsHavePcrDigests =
    (policy : Closed) (documents : List ApprovedDoc) → IsWellFormed policy documents → All (λ path. All MoveHasPcrDigest path.moves) (paths_of policy documents)

-- a policy command is within the bounds of the wire
abbrev pub MoveHasBounds : Move → Type 0
MoveHasBounds (Assert assertion) = AssertionHasBounds assertion
MoveHasBounds (Or digests) = (2 ≤ length digests) × (length digests ≤ 8)
MoveHasBounds (Approve key policy_ref approved signature) = NameHasBounds key × ReferenceHasBounds policy_ref
MoveHasBounds (ApproveNv index approved) = NameHasBounds index

abbrev pub PathsHaveBounds : Type 0
PathsHaveBounds =
    (policy : Closed) (documents : List ApprovedDoc) → HaveBranchCounts policy documents → HasClosedBounds policy → All (λ document. HasClosedBounds document.closed) documents → All (λ path. All MoveHasBounds path.moves) (paths_of policy documents)

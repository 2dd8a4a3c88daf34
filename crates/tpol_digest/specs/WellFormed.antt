-- Policies whose digests are what they say.
use Rattle.std.specs.Prelude.{◌≡◌, true, List, ⊤, All}
use Rattle.tpol_hash.specs.Sha256.{sha256_digest}
use Rattle.tpol_tree.specs.declared.closed.Assertion.{Assertion}
use Rattle.tpol_tree.specs.declared.closed.Assertion.TheVariants.{Pcr}
use Rattle.tpol_tree.specs.declared.closed.Closed.{Closed}
use Rattle.tpol_tree.specs.declared.path.ApprovedDoc.{ApprovedDoc}
use Rattle.tpol_tree.specs.Closed.{ApprovalsLead, EachAssertion, HasBranchCounts}
use Rattle.tpol_digest.specs.Update.{joined}
use Rattle.tpol_digest.specs.Digest.{policy_digest}

-- the digest of a PCR assertion is the hash of its values joined
abbrev pub HasPcrDigest : Assertion → Type 0
HasPcrDigest (Pcr mask digest values) = digest ≡ sha256_digest (joined values)
HasPcrDigest _ = ⊤

-- one policy, without what it leaves to approvals
pub record IsWellFormedPolicy (policy : Closed) : Type 0 where
  pub approvals_lead : ApprovalsLead true policy.elements
  pub pcr_digests : EachAssertion HasPcrDigest policy.elements

-- an approved document with the digest of its policy
pub record IsWellFormedDocument (document : ApprovedDoc) : Type 0 where
  pub policy : IsWellFormedPolicy document.closed
  pub digest : document.digest ≡ policy_digest document.closed

-- a policy and the documents that approvals may bring in
pub record IsWellFormed (policy : Closed) (approvals : List ApprovedDoc) : Type 0 where
  pub policy_itself : IsWellFormedPolicy policy
  pub documents : All IsWellFormedDocument approvals

-- each OR of the policy and of the approved documents has 2 to 8 branches
pub record HaveBranchCounts (policy : Closed) (approvals : List ApprovedDoc) : Type 0 where
  pub policy_itself : HasBranchCounts policy.elements
  pub documents : All (λ document. HasBranchCounts document.closed.elements) approvals

-- What filling makes of a policy that was read.
use Rattle.std.specs.Prelude.{◌≡◌}
use Rattle.tpol_digest.specs.Digest.{policy_digest}
use Rattle.tpol_digest.specs.WellFormed.{IsWellFormedPolicy}
use Rattle.tpol_tree.specs.Closed.{HasBranchCounts}
use Rattle.tpol_tree.specs.declared.closed.Closed.{Closed}
use Rattle.tpol_tree.specs.declared.path.ApprovedDoc.{ApprovedDoc}

-- a policy that is well formed, and each OR of which has 2 to 8 branches, as PolicyOR takes
pub record IsFilledPolicy (policy : Closed) : Type 0 where
  pub well_formed : IsWellFormedPolicy policy
  pub branch_counts : HasBranchCounts policy.elements

-- an approved document of which this holds, with the digest of its policy
pub record IsFilledApproval (document : ApprovedDoc) : Type 0 where
  pub policy : IsFilledPolicy document.closed
  pub digest : document.digest ≡ policy_digest document.closed

-- What holds of the choices of all policies, and of the certificates of their paths.
use Rattle.std.specs.Prelude.{◌≡◌, ℕ, ◌<◌, ◌≤◌, ◌↔◌, All, List, ◌++◌, length, map, Ok, Some}
use Rattle.std.specs.List.{slice_get}
use Rattle.tpol_tree.specs.ClosedErased.{erased, erased_document}
use Rattle.tpol_tree.specs.declared.closed.Closed.{Closed}
use Rattle.tpol_tree.specs.declared.path.ApprovedDoc.{ApprovedDoc}
use Rattle.tpol_digest.specs.Limits.{AreWithinLimits}
use Rattle.tpol_digest.specs.Paths.{paths_of}
use Rattle.tpol_digest.specs.WellFormed.{HaveBranchCounts}
use Rattle.tpol_cert.specs.declared.choice.Choice.{Choice}
use Rattle.tpol_cert.specs.Certificates.{Certifies}
use Rattle.tpol_cert.specs.Choices.{choices_of}
use Rattle.tpol_cert.specs.Judgement.{certificate_bytes, judgement_of}
use Rattle.tpol_cert.specs.Steps.{Beside}

-- the choices stand in the order of the paths, and are their steps
abbrev pub ChoicesAreSteps : Type 0
ChoicesAreSteps = (policy : Closed) (approvals : List ApprovedDoc) → Beside (choices_of policy approvals) (paths_of policy approvals)

-- the choices of one path begin those of no other; so no two paths have the same choices
abbrev pub ChoicesAreApart : Type 0
ChoicesAreApart =
    (policy : Closed) (approvals : List ApprovedDoc) (m n : ℕ) (choices more : List Choice)
    → slice_get (choices_of policy approvals) m ≡ Some choices → slice_get (choices_of policy approvals) n ≡ Some (choices ++ more) → m ≡ n

-- whichever memory a policy and its approved documents lie in
abbrev pub ChoicesIgnoreBoxes : Type 0
ChoicesIgnoreBoxes =
    (policy : Closed) (approvals : List ApprovedDoc) → choices_of (erased policy) (map erased_document approvals) ≡ choices_of policy approvals

-- the path at a position has bytes that certify it
pub record HasCertificate (policy : Closed) (approvals : List ApprovedDoc) (position : ℕ) : Type 0 where
  pub bytes : List ℕ
  pub spelled : certificate_bytes policy approvals position ≡ Some bytes
  pub certifies : Certifies bytes policy approvals position

-- each path of a policy whose paths are within the limits has a certificate
abbrev pub PathsHaveCertificates : Type 0
PathsHaveCertificates =
    (policy : Closed) (approvals : List ApprovedDoc) (position : ℕ) → HaveBranchCounts policy approvals → AreWithinLimits (paths_of policy approvals)
    → 1 ≤ position → position ≤ length (paths_of policy approvals) → HasCertificate policy approvals position

-- what is answered of bytes is a position exactly where they certify the path there
abbrev pub JudgementsCertify : Type 0
JudgementsCertify =
    (policy : Closed) (approvals : List ApprovedDoc) (bytes : List ℕ) (position : ℕ) → All (λ byte. byte < 256) bytes
    → (judgement_of policy approvals bytes ≡ Ok position) ↔ Certifies bytes policy approvals position

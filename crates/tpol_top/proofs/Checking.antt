-- What is told of a certificate, whichever memory the policy lies in, and of a path that is certified.
use Rattle.std.proofs.Common.{◌≡◌, ◌∙◌, ℕ, ◌-◌, ◌≤◌, List, map, length, ap, refl, arith, Option, Some, None, Result, Ok, Err}
use Rattle.std.proofs.lemmas.Option.{slice_get_within}
use Rattle.tpol_cert.proofs.ChoicesErased.{judgement_erased}
use Rattle.tpol_cert.specs.Certificates.{Certifies}
use Rattle.tpol_cert.specs.declared.fault.CertFault.{CertFault}
use Rattle.tpol_cert.specs.Judgement.{judgement_of}
use Rattle.tpol_digest.specs.Paths.{paths_of}
use Rattle.tpol_digest.proofs.Erasures.{paths_ignore_boxes}
use Rattle.tpol_steps.proofs.FilledErased.{policy_digest_erased}
use Rattle.tpol_top.specs.Check.{certificate_answer, certificate_step}
use Rattle.tpol_tree.specs.ClosedErased.{erased, erased_document}
use Rattle.tpol_tree.specs.declared.closed.Closed.{Closed}
use Rattle.tpol_tree.specs.declared.path.ApprovedDoc.{ApprovedDoc}

pub certificate_step_erased : (closed : Closed) (approvals : List ApprovedDoc) (bytes : Option (List ℕ)) → certificate_step (erased closed) (map erased_document approvals) bytes ≡ certificate_step closed approvals bytes
unfolding certificate_step
certificate_step_erased closed approvals None = refl
certificate_step_erased closed approvals (Some bytes) =
    ap (certificate_answer (erased closed) (map erased_document approvals)) (judgement_erased closed approvals bytes) ∙ by (judgement_of closed approvals bytes)
  where
    by : (judgement : Result ℕ CertFault) → certificate_answer (erased closed) (map erased_document approvals) judgement ≡ certificate_answer closed approvals judgement
    by (Ok position) = rw (paths_ignore_boxes closed approvals, policy_digest_erased closed) refl
    by (Err fault) = refl

pub is_position : (closed : Closed) (approvals : List ApprovedDoc) (bytes : List ℕ) (position : ℕ) → Certifies bytes closed approvals position → (1 ≤ position) × (position ≤ length (paths_of closed approvals))
is_position closed approvals bytes position is =
    let within = slice_get_within (paths_of closed approvals) (position - 1) is.path is.is_there in
    (is.counted, omega (arith, within, is.counted))

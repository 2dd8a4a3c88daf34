-- The command `check`: whether the source is a certificate of a path of a policy of the shelf.
use Rattle.std.specs.Prelude.{ℕ, ◌-◌, List, [], ◌∷◌, codes, decimal, drop, length, slice_get, take, Option, Some, None, Result, Ok, Err, if◌then◌else◌}
use Rattle.std.specs.Result.{result_ok}
use Rattle.std.specs.Str.{bytes_eq}
use Rattle.hex.specs.Hex.{decode_of}
use Rattle.tpol_base.specs.declared.document.Document.{Document}
use Rattle.tpol_cert.specs.declared.fault.CertFault.{CertFault}
use Rattle.tpol_cert.specs.declared.fault.CertFault.TheVariants as faults
use Rattle.tpol_cert.specs.Judgement.{judgement_of}
use Rattle.tpol_digest.specs.Digest.{policy_digest}
use Rattle.tpol_digest.specs.Paths.{paths_of}
use Rattle.tpol_lines.specs.CertLine.{certified_line}
use Rattle.tpol_lines.specs.Lines.{line_of, spaced}
use Rattle.tpol_lines.specs.OpeningLine.{steps_of}
use Rattle.tpol_prepare.specs.declared.shelved.PolicyWithApprovals.{PolicyWithApprovals}
use Rattle.tpol_prepare.specs.References.{policy_called}
use Rattle.tpol_prepare.specs.Shelved.{Shelved, closed_step, shelved_step}
use Rattle.tpol_steps.specs.declared.answer.Answer.{Answer}
use Rattle.tpol_steps.specs.declared.answer.Verdict.TheVariants.{Done}
use Rattle.tpol_steps.specs.Lines.{digest_line}
use Rattle.tpol_steps.specs.Refusals.{bad_certificate, no_such_policy}
use Rattle.tpol_steps.specs.Steps.{Step, ◌>>=◌}
use Rattle.tpol_tree.specs.declared.closed.Closed.{Closed}
use Rattle.tpol_tree.specs.declared.path.ApprovedDoc.{ApprovedDoc}
use Rattle.tpol_tree.specs.declared.path.PathStep.{PathStep}
use Rattle.tpol_tree.specs.declared.policy.Policy.{Policy}

-- ---- what the source writes

-- a text without its last byte, where that is a line feed
abbrev pub without_line_feed : List ℕ → List ℕ
without_line_feed text =
    if bytes_eq (drop (length text - 1) text) (10 ∷ []) then take (length text - 1) text else text

-- the bytes of an even number of hexadecimal digits, of either case, with one line feed behind them or none
unfoldable pub bytes_in : List ℕ → Option (List ℕ)
bytes_in text = result_ok (decode_of (without_line_feed text))

-- ---- what is printed

-- the path that is certified, by its position and its choices, and the policy's digest
abbrev pub accepted : Closed → ℕ → List PathStep → Answer
accepted closed position steps = record {
  lines = line_of (certified_line position steps) ∷ line_of (digest_line (policy_digest closed)) ∷ [];
  verdict = Done;
}

-- what is wrong with a certificate; it is never that memory ran out
abbrev pub fault_text : CertFault → List ℕ
fault_text faults.Malformed = codes "Malformed"
fault_text (faults.NoStep number) = spaced (codes "NoStep" ∷ decimal number ∷ [])
fault_text (faults.Differs number) = spaced (codes "Differs" ∷ decimal number ∷ [])
fault_text faults.NoMemory = []

abbrev pub certificate_answer : Closed → List ApprovedDoc → Result ℕ CertFault → Step Answer
certificate_answer closed approvals (Ok position) =
    Ok (accepted closed position (steps_of (slice_get (paths_of closed approvals) (position - 1))))
certificate_answer closed approvals (Err fault) = Err (bad_certificate (fault_text fault))

-- ---- the steps to it

-- of bytes, if the source writes some
unfoldable pub certificate_step : Closed → List ApprovedDoc → Option (List ℕ) → Step Answer
certificate_step closed approvals None = Err (bad_certificate (codes "Malformed"))
certificate_step closed approvals (Some bytes) = certificate_answer closed approvals (judgement_of closed approvals bytes)

-- the policy of this name, unless the shelf has none
abbrev pub named_policy_step : List ℕ → Option Policy → Step Policy
named_policy_step name None = Err (no_such_policy name)
named_policy_step name (Some policy) = Ok policy

-- the same filled with the scene, with the documents that are approved
unfoldable pub document_step : Shelved → List ℕ → Step PolicyWithApprovals
document_step shelved name =
    named_policy_step name (policy_called name shelved.store) >>= λ policy. closed_step shelved (Some name) policy

-- of the policy of this name, with the scene of the shelf, if one is named
unfoldable pub check_step : List ℕ → Option (List ℕ) → List ℕ → List Document → Step Answer
check_step name scene input all = do
  shelved ← shelved_step scene all
  found ← document_step shelved name
  certificate_step found.closed found.approvals (bytes_in input)

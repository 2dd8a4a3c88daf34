-- The line of a certificate.
use Rattle.std.proofs.Common.{◌≡◌, ◌∙◌, ap, sym, ℕ, true, List, Option, Some}
use Rattle.tpol_cert.proofs.Fitting.{certified_bytes}
use Rattle.tpol_cert.specs.Certificates.{Certifies}
use Rattle.tpol_lines.specs.CertLine.{certificate_line}
use Rattle.tpol_perform.specs.CommandsTold.{certificate_of_opening, with_certificate}
use Rattle.tpol_perform.specs.Performance.{PerformanceState, with_line}
use Rattle.tpol_trace.specs.declared.answer.Opening.{Opening}
use Rattle.tpol_trace.specs.declared.answer.Opening.TheVariants.{Branch}
use Rattle.tpol_tree.specs.declared.closed.Closed.{Closed}
use Rattle.tpol_tree.specs.declared.path.ApprovedDoc.{ApprovedDoc}

-- the line of bytes that certify the path which an opening names is that of its certificate
pub certificate_shown : (policy : Closed) (approvals : List ApprovedDoc) (opening : Opening) (event position : ℕ) (events bytes text : List ℕ) (old new : PerformanceState) → opening ≡ Branch position events
    → Certifies bytes policy approvals position → text ≡ certificate_line event bytes → new ≡ with_line text old → new ≡ with_certificate true event (certificate_of_opening policy approvals (Some opening)) old
certificate_shown policy approvals opening event position events bytes text old new is certifies line printed =
    printed ∙ ap (λ (t : List ℕ). with_line t old) line
    ∙ ap (λ (found : Option (List ℕ)). with_certificate true event found old) (sym (certified_bytes policy approvals position bytes certifies))
    ∙ ap (λ (o : Opening). with_certificate true event (certificate_of_opening policy approvals (Some o)) old) (sym is)

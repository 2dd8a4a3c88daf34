use Rattle.std.proofs.Common.{◌≡◌, ℕ, List, Result, Err, ap, subst, sym, ◌∙◌, arith}
use Rattle.std.proofs.lemmas.Result.{err_from_is_err_and}
use Rattle.tpol_tree.specs.declared.closed.Closed.{Closed}
use Rattle.tpol_tree.specs.declared.path.ApprovedDoc.{ApprovedDoc}
use Rattle.tpol_cert.specs.declared.certificate.Certificate.{Certificate}
use Rattle.tpol_cert.specs.declared.fault.CertFault.{CertFault}
use Rattle.tpol_cert.specs.Reading.{GivesWhole, certificate_in}
use Rattle.tpol_cert.proofs.Judging.{Checks, checked, refused}
use Rattle.tpol_cert.proofs.ReadingLaws.{certificate_takes}
use Rattle.tpol_cert.proofs.checking.check.Goals as goal

-- bytes that were not read
unread : (policy : Closed) (approvals : List ApprovedDoc) (bytes : List ℕ) (read : Result Certificate CertFault) (result : Result ℕ CertFault) (fault told : CertFault) → result ≡ Err told → told ≡ fault → read ≡ Err fault → GivesWhole read (certificate_in bytes) → Checks policy approvals bytes result
unread policy approvals bytes read result fault told e f g h =
    subst (Checks policy approvals bytes) (sym (e ∙ ap (λ x. Err x) f)) (refused policy approvals bytes fault read g h)

pub returns-in_err-certificate-clause-only : goal.returns-in_err-certificate-clause-only
returns-in_err-certificate-clause-only c =
    let p = err_from_is_err_and c.from_residual.result c.from_residual.ensures.1 in
    (unread c.args.policy.now c.args.approvals.now c.args.bytes.now c.read_certificate.result c.from_residual.result c.in_err-certificate.field-0.0 p.0 p.1 p.2 c.in_err-certificate.was c.read_certificate.ensures.read).only

pub returns-in_err-certificate-clause-malformed : goal.returns-in_err-certificate-clause-malformed
returns-in_err-certificate-clause-malformed c =
    let p = err_from_is_err_and c.from_residual.result c.from_residual.ensures.1 in
    (unread c.args.policy.now c.args.approvals.now c.args.bytes.now c.read_certificate.result c.from_residual.result c.in_err-certificate.field-0.0 p.0 p.1 p.2 c.in_err-certificate.was c.read_certificate.ensures.read).malformed

pub returns-in_err-certificate-clause-no_certificate : goal.returns-in_err-certificate-clause-no_certificate
returns-in_err-certificate-clause-no_certificate c =
    let p = err_from_is_err_and c.from_residual.result c.from_residual.ensures.1 in
    (unread c.args.policy.now c.args.approvals.now c.args.bytes.now c.read_certificate.result c.from_residual.result c.in_err-certificate.field-0.0 p.0 p.1 p.2 c.in_err-certificate.was c.read_certificate.ensures.read).no_certificate

pub returns-in_err-certificate-clause-judged : goal.returns-in_err-certificate-clause-judged
returns-in_err-certificate-clause-judged c =
    let p = err_from_is_err_and c.from_residual.result c.from_residual.ensures.1 in
    (unread c.args.policy.now c.args.approvals.now c.args.bytes.now c.read_certificate.result c.from_residual.result c.in_err-certificate.field-0.0 p.0 p.1 p.2 c.in_err-certificate.was c.read_certificate.ensures.read).judged

pub returns-in_err-certificate-clause-told : goal.returns-in_err-certificate-clause-told
returns-in_err-certificate-clause-told c =
    let p = err_from_is_err_and c.from_residual.result c.from_residual.ensures.1 in
    (unread c.args.policy.now c.args.approvals.now c.args.bytes.now c.read_certificate.result c.from_residual.result c.in_err-certificate.field-0.0 p.0 p.1 p.2 c.in_err-certificate.was c.read_certificate.ensures.read).told

pub judge-requires-clause-few : goal.judge-requires-clause-few
judge-requires-clause-few c = (certificate_takes c.args.bytes.now c.in_ok-certificate.certificate (λ i. omega (arith, c.type_inv.bytes i)) c.in_ok-certificate.ensures.read).0.steps

pub returns-clause-certifies : goal.returns-clause-certifies
returns-clause-certifies c =
    (checked c.args.policy.now c.args.approvals.now c.args.bytes.now c.in_ok-certificate.certificate c.judge.result (λ i. omega (arith, c.type_inv.bytes i)) c.in_ok-certificate.ensures.read c.judge.ensures.judged).certifies

pub returns-clause-only : goal.returns-clause-only
returns-clause-only c =
    (checked c.args.policy.now c.args.approvals.now c.args.bytes.now c.in_ok-certificate.certificate c.judge.result (λ i. omega (arith, c.type_inv.bytes i)) c.in_ok-certificate.ensures.read c.judge.ensures.judged).only

pub returns-clause-malformed : goal.returns-clause-malformed
returns-clause-malformed c =
    (checked c.args.policy.now c.args.approvals.now c.args.bytes.now c.in_ok-certificate.certificate c.judge.result (λ i. omega (arith, c.type_inv.bytes i)) c.in_ok-certificate.ensures.read c.judge.ensures.judged).malformed

pub returns-clause-no_certificate : goal.returns-clause-no_certificate
returns-clause-no_certificate c =
    (checked c.args.policy.now c.args.approvals.now c.args.bytes.now c.in_ok-certificate.certificate c.judge.result (λ i. omega (arith, c.type_inv.bytes i)) c.in_ok-certificate.ensures.read c.judge.ensures.judged).no_certificate

pub returns-clause-judged : goal.returns-clause-judged
returns-clause-judged c =
    (checked c.args.policy.now c.args.approvals.now c.args.bytes.now c.in_ok-certificate.certificate c.judge.result (λ i. omega (arith, c.type_inv.bytes i)) c.in_ok-certificate.ensures.read c.judge.ensures.judged).judged

pub returns-clause-told : goal.returns-clause-told
returns-clause-told c =
    (checked c.args.policy.now c.args.approvals.now c.args.bytes.now c.in_ok-certificate.certificate c.judge.result (λ i. omega (arith, c.type_inv.bytes i)) c.in_ok-certificate.ensures.read c.judge.ensures.judged).told

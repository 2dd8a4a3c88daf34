use Rattle.std.proofs.Common.{◌≡◌, ap, ◌∙◌}
use Rattle.std.proofs.lemmas.Result.{on_ok_weaker}
use Rattle.tpol_lines.specs.CertLine.{certificate_line}
use Rattle.tpol_perform.proofs.Certified.{certificate_shown}
use Rattle.tpol_perform.proofs.performance.Performance.print_certificate.Goals as goal

pub returns-in_ok-line-in-Branch-clause-told : goal.returns-in_ok-line-in-Branch-clause-told
returns-in_ok-line-in-Branch-clause-told c =
    let text : c.as_str-in-Branch.result.now ≡ certificate_line c.args.event c.in_ok-bytes-in-Branch.bytes =
    c.as_str-in-Branch.ensures ∙ c.in_ok-line-in-Branch.ensures.line ∙ ap (certificate_line c.args.event) c.as_slice.ensures in
    on_ok_weaker c.print.result
    (certificate_shown c.args.policy.now c.args.approvals.now c.args.opening.now c.args.event c.in-Branch.path c.in-Branch.events c.in_ok-bytes-in-Branch.bytes
    c.as_str-in-Branch.result.now c.args.self.now c.print.new.self c.in-Branch.is c.in_ok-bytes-in-Branch.ensures.certifies text)
    c.print.ensures

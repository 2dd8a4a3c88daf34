use Rattle.std.proofs.Common.{◌≡◌, ◌-◌, ◌≤◌, Some, None, ap, length, sym, ◌∙◌, arith}
use Rattle.std.proofs.lemmas.Option.{slice_get_within}
use Rattle.tpol_digest.proofs.Positions.{found_has}
use Rattle.tpol_digest.specs.Digest.{zero_digest}
use Rattle.tpol_digest.specs.Paths.{paths_of}
use Rattle.tpol_cert.specs.Certificates.{digests_along}
use Rattle.tpol_cert.specs.Choices.{choices_of}
use Rattle.tpol_cert.specs.Judging.{first_difference}
use Rattle.tpol_cert.proofs.Beside.{beside-length, choices_beside}
use Rattle.tpol_cert.proofs.Judging.{same_where_none}
use Rattle.tpol_cert.proofs.checking.judge.Goals as goal

pub position_of-requires-clause-ways : goal.position_of-requires-clause-ways
position_of-requires-clause-ways c =
    let policy = c.args.policy.now in
    let approvals = c.args.approvals.now in
    omega (arith, c.requires.within.few, beside-length (choices_of policy approvals) (paths_of policy approvals) (choices_beside policy approvals))

pub path_at-requires-clause-positions : goal.path_at-requires-clause-positions
path_at-requires-clause-positions c =
    let policy = c.args.policy.now in
    let approvals = c.args.approvals.now in
    let leads = c.in_ok-position.ensures.leads in
    let inside = slice_get_within (choices_of policy approvals) (c.in_ok-position.position - 1) c.as_slice.result.now leads.1 in
    (leads.0, omega (arith, leads.0, inside, beside-length (choices_of policy approvals) (paths_of policy approvals) (choices_beside policy approvals)))

pub first_difference-difference-requires : goal.first_difference-difference-requires
first_difference-difference-requires c =
    let paths = paths_of c.args.policy.now c.args.approvals.now in
    let short = found_has (λ p. length p.moves ≤ 512) paths (c.in_ok-position.position - 1) c.in_ok-path.path c.requires.within.short c.in_ok-path.ensures.path in
    record { few = omega (arith, short, ap length c.as_slice-3.ensures) }

pub returns-clause-judged : goal.returns-clause-judged
returns-clause-judged c =
    let path = c.in_ok-path.path in
    let none : first_difference 1 c.args.certificate.now.digests (digests_along zero_digest path.moves) ≡ None =
    sym (c.in-None.ensures.first ∙ ap (λ l. first_difference 1 l (digests_along c.zero_digest.result c.as_slice-3.result.now)) c.as_slice-2.ensures
    ∙ ap (λ d. first_difference 1 c.args.certificate.now.digests (digests_along d c.as_slice-3.result.now)) c.zero_digest.ensures
    ∙ ap (λ l. first_difference 1 c.args.certificate.now.digests (digests_along zero_digest l)) c.as_slice-3.ensures) in
    record {
      path = path;
      at = record {
        counted = c.in_ok-position.ensures.leads.0;
        chosen = c.in_ok-position.ensures.leads.1 ∙ ap (λ l. Some l) c.as_slice.ensures;
        is_there = c.in_ok-path.ensures.path;
      };
      same = same_where_none 1 c.args.certificate.now.digests (digests_along zero_digest path.moves) none;
    }

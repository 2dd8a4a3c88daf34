use Rattle.std.proofs.Common.{sym, ap, subst}
use Rattle.tpm_rules.specs.Rule.{Breaks, or_else}
use Rattle.tpol_choose.specs.Goals.{authorization_block, judged, judged_block, own_block}
use Rattle.tpol_choose.specs.Lent.{client_of_lent}
use Rattle.tpol_choose.proofs.Judging.{is_judged, not_judged}
use Rattle.tpol_choose.proofs.goal.check_goal.Goals as goal

pub returns-in-None : goal.returns-in-None
returns-in-None c = λ state e.
    let client = client_of_lent c.args.client.now in
    ap (judged_block client state) (not_judged (judged client.sight client.goal) c.in-None.ensures)

pub returns-in-Some : goal.returns-in-Some
returns-in-Some c = λ state e.
    let client = client_of_lent c.args.client.now in
    let j = is_judged c.in-Some.goal (judged client.sight client.goal) c.in-Some.ensures in
    subst (λ o. Breaks c.check_judged.result (judged_block client state o)) (sym j.1) (subst (λ f. Breaks c.check_judged.result (or_else (authorization_block client state f) (own_block j.0.rule))) j.2.found (c.check_judged.ensures state j.0.rule e j.2.rule))

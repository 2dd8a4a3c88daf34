use Rattle.std.proofs.Common.{◌+◌, sym, ap, ◌∙◌, subst}
use Rattle.std.specs.Prelude.{IsSome}
use Rattle.std.proofs.lemmas.Result.{IfOk-weaker}
use Rattle.tpol_trace.specs.declared.answer.Opening.TheVariants.{Branch}
use Rattle.tpol_trace.specs.Openings as spec
use Rattle.tpol_trace.proofs.Meaning.{opening_means}
use Rattle.tpol_trace.proofs.Opened as opened
use Rattle.tpol_trace.proofs.open.opening_with_memo.Goals as goal

pub broken_opening-requires : goal.broken_opening-requires
broken_opening-requires c =
    let policy = c.args.policy.now in
    let approvals = c.args.approvals.now in
    let facts = c.args.facts.now in
    subst (λ index. IsSome (spec.opening_by index (spec.events_of facts) (spec.inputs policy approvals facts))) (sym c.in_ok-index.ensures.index ∙ c.in-None.is) (opened.facts_open policy approvals facts c.requires.well_formed c.requires.sound c.requires.digest)

pub returns-in_ok-events-in-Some-clause-means : goal.returns-in_ok-events-in-Some-clause-means
returns-in_ok-events-in-Some-clause-means c =
    let policy = c.args.policy.now in
    let approvals = c.args.approvals.now in
    let facts = c.args.facts.now in
    let means = opening_means policy approvals facts (Branch (c.in-Some.index + 1) (spec.events_of facts)) (ap (λ index. spec.opening_by index (spec.events_of facts) (spec.inputs policy approvals facts)) (sym c.in_ok-index.ensures.index ∙ c.in-Some.is)) in
    (means.0, c.in_ok-events-in-Some.ensures ∙ ap spec.events_of c.as_slice.ensures)

pub returns-in-None-clause-means : goal.returns-in-None-clause-means
returns-in-None-clause-means c =
    let policy = c.args.policy.now in
    let approvals = c.args.approvals.now in
    let facts = c.args.facts.now in
    IfOk-weaker c.broken_opening.result _ _ (λ answer h. opening_means policy approvals facts answer (ap (λ index. spec.opening_by index (spec.events_of facts) (spec.inputs policy approvals facts)) (sym c.in_ok-index.ensures.index ∙ c.in-None.is) ∙ h)) c.broken_opening.ensures

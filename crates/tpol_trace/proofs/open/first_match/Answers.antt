use Rattle.std.proofs.Common.{◌∷◌, [], refl, sym, ap, subst}
use Rattle.tpol_digest.specs.Digest.{zero_digest}
use Rattle.tpol_digest.specs.Paths.{empty_path}
use Rattle.tpol_tree.specs.Facts.{moves_of}
use Rattle.tpol_trace.specs.Tables.{AllAsk}
use Rattle.tpol_trace.proofs.FirstMatch.{first_is, few_paths}
use Rattle.tpol_trace.proofs.open.first_match.Goals as goal

pub returns-clause-index : goal.returns-clause-index
returns-clause-index c =
    let moves = moves_of c.as_slice.result.now in
    let asks = subst (λ asked. AllAsk asked moves) (sym c.deref.ensures.value) c.in_ok-asked.ensures in
    let asked = subst (λ asked. AllAsk asked moves) (sym c.deref-2.ensures.value) c.in_ok-asked.ensures in
    first_is c.args.policy.now c.args.approvals.now c.args.facts.now c.requires.within c.as_slice-2.result.now moves zero_digest c.in_ok-ways.ways c.index.result.now c.as_slice-2.ensures (ap moves_of c.as_slice.ensures) refl (c.in_ok-ways.ensures.table moves (empty_path ∷ []) asks (refl, tt) (c.in_ok-end.ensures.end c.as_slice-2.result.now 4 moves asked)) c.index.ensures

pub returns-clause-few : goal.returns-clause-few
returns-clause-few c =
    let moves = moves_of c.as_slice.result.now in
    let asks = subst (λ asked. AllAsk asked moves) (sym c.deref.ensures.value) c.in_ok-asked.ensures in
    let asked = subst (λ asked. AllAsk asked moves) (sym c.deref-2.ensures.value) c.in_ok-asked.ensures in
    few_paths c.args.policy.now c.args.approvals.now c.args.facts.now c.requires.within c.index.result.now (first_is c.args.policy.now c.args.approvals.now c.args.facts.now c.requires.within c.as_slice-2.result.now moves zero_digest c.in_ok-ways.ways c.index.result.now c.as_slice-2.ensures (ap moves_of c.as_slice.ensures) refl (c.in_ok-ways.ensures.table moves (empty_path ∷ []) asks (refl, tt) (c.in_ok-end.ensures.end c.as_slice-2.result.now 4 moves asked)) c.index.ensures)

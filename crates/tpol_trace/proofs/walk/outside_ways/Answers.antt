use Rattle.std.proofs.Common.{◌≡◌, ◌+◌, ◌<◌, Option, ℕ, None, refl, sym, ap, ◌∙◌, arith, get_or, length}
use Rattle.std.specs.Prelude.{nat_lt}
use Rattle.std.proofs.lemmas.Result.{IfOk-weaker}
use Rattle.tpol_digest.specs.Digest.{zero_digest}
use Rattle.tpol_digest.specs.Paths.{outside_paths, product}
use Rattle.tpol_trace.specs.Tables.{IsEverywhere, IsTable, earlier, kept, move_of_element}
use Rattle.tpol_trace.proofs.Outside.{best_end, best_more, best_start, left_first, outside_result, read_entry}
use Rattle.tpol_trace.proofs.Steps.{ask_length}
use Rattle.tpol_trace.proofs.walk.outside_ways.Goals as goal
use Rattle.tpol_trace.proofs.walk.outside_ways.Goals.{then-approves_outside, else-approves_outside}

pub loop-k-init : goal.loop-k-init
loop-k-init c = λ moves asks within.
    let from = c.lower-window.ensures.from in
    best_start c.args.walk.now.approvals.now (nat_lt 0 c.args.walk.now.levels) (move_of_element c.args.element.now zero_digest) moves c.args.behind.now c.lower-window.result.from within (omega (arith, from))

pub loop-k-preserved : goal.loop-k-preserved
loop-k-preserved c = λ moves asks within.
    let size = c.requires.size in
    let held = c.args.behind.now.inside in
    let to = c.lower-window.ensures.to in
    let here = c.loop-k-test.true in
    let less : c.loop-k.k < length c.args.walk.now.facts.now = omega (arith, size, held, to, here) in
    let table = c.args.behind.now in
    let way : Option ℕ = get_or table.first.items (c.loop-k.k + 1) None in
    let now : c.if-approves_outside.first ≡ earlier c.loop-k.first (kept c.approves_outside.result way) =
    elim c.if-approves_outside.branch [
      | then-approves_outside w ↦ w.first-is ∙ w.earlier-first.ensures ∙ ap (earlier c.loop-k.first) (read_entry table.first.items (c.loop-k.k + 1) w.index.result.now (omega (arith, size, less)) w.index.ensures) ∙ ap (λ b. earlier c.loop-k.first (kept b way)) (sym w.if-approves_outside.true)
      | else-approves_outside w ↦ left_first c.loop-k.first c.if-approves_outside.first way w.first-is ∙ ap (λ b. earlier c.loop-k.first (kept b way)) (sym w.if-approves_outside.false)
    ] in
    best_more c.args.walk.now.approvals.now (nat_lt 0 c.args.walk.now.levels) (move_of_element c.args.element.now zero_digest) c.args.walk.now.facts.now moves table c.loop-k.k (get_or c.args.walk.now.facts.now c.loop-k.k c.index-walk-k.result) c.approves_outside.result c.loop-k.first c.if-approves_outside.first way asks less (ap (λ d. get_or c.args.walk.now.facts.now c.loop-k.k d) c.index-walk-k.is) c.approves_outside.ensures (c.loop-k.invariant moves asks within) refl now

pub returns-clause-table : goal.returns-clause-table
returns-clause-table c = λ moves ways asks inside t.
    let n = length c.args.walk.now.facts.now in
    let size = c.requires.size in
    let held = c.args.behind.now.inside in
    let to = c.lower-window.ensures.to in
    let out = c.loop-k-test.false in
    let end = best_end c.args.walk.now.approvals.now (nat_lt 0 c.args.walk.now.levels) (move_of_element c.args.element.now zero_digest) moves c.args.behind.now c.loop-k.k n t.window (omega (arith, to, out)) (omega (arith, size, held)) in
    IfOk-weaker c.all_at.result (λ table. IsEverywhere table n c.loop-k.first c.args.behind.now.count) (λ table. IsTable c.args.walk.now.approvals.now c.args.walk.now.levels moves table (product (outside_paths c.args.element.now) ways)) (λ table h. outside_result c.args.walk.now.approvals.now c.args.walk.now.levels moves c.args.element.now c.requires.approval ways inside c.args.behind.now t table n c.loop-k.first (ask_length c.args.walk.now.facts.now moves asks) (c.loop-k.invariant moves asks t.window ∙ end) h) c.all_at.ensures

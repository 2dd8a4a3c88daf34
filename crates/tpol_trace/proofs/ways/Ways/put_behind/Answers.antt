use Rattle.std.proofs.Common.{◌<◌, ◌≡◌, ℕ, List, Option, Some, None, length, get_or, refl, ◌∙◌, subst, arith}
use Rattle.std.proofs.lemmas.List.{length-set}
use Rattle.tpol_trace.specs.Windows.{IsIn}
use Rattle.tpol_trace.proofs.Entries.{put_table}
use Rattle.tpol_trace.proofs.Steps.{put_end, put_more, put_start}
use Rattle.tpol_trace.proofs.ways.Ways.put_behind.Goals as goal

pub loop-k-init : goal.loop-k-init
loop-k-init c =
    (refl, λ within. put_start c.args.self.now c.args.facts.now c.args.act.now c.lower-window.result.from within c.lower-window.ensures.from)

pub loop-k-preserved : goal.loop-k-preserved
loop-k-preserved c =
    let size = c.loop-k.invariant.0 in
    let all = c.requires in
    let less : c.loop-k.k < length c.args.facts.now =
    let inside = c.args.self.now.inside in
    let to = c.lower-window.ensures.to in
    let here = c.loop-k-test.true in
    omega (arith, inside, to, here, all)
    in (
      length-set c.loop-k.self.first.items c.loop-k.k c.go_on.result ∙ size,
      λ within. put_more c.loop-k.self c.args.self.now _ c.args.facts.now c.args.act.now c.index-facts-k.result c.loop-k.k c.index.result.now c.go_on.result (c.loop-k.invariant.1 within) less (size ∙ all) c.index-facts-k.is c.index.ensures c.go_on.ensures refl refl,
    )

pub returns-clause-behind : goal.returns-clause-behind
returns-clause-behind c = λ approvals level moves one ways asks this inside t.
    let size = c.loop-k.invariant.0 in
    let all = c.requires in
    let last = c.lower-window.result.to in
    let to = c.lower-window.ensures.to in
    let held = c.args.self.now.inside in
    let out = c.loop-k-test.false in
    let behind = put_end c.loop-k.self c.args.self.now _ c.args.facts.now c.args.act.now c.loop-k.k last t.window (c.loop-k.invariant.1 t.window) (omega (arith, out)) (omega (arith, to)) (omega (arith, to, held, size, all)) refl refl in
    let places = subst (λ (xs : List (Option ℕ)). (k way : ℕ) → get_or xs k None ≡ Some way → IsIn c.lower-window.result k → IsIn c.trimmed-self.result k) c.deref.ensures.value c.trimmed-self.ensures.entries in
    put_table approvals level moves _ c.args.self.now c.args.facts.now c.args.act.now one c.lower-window.result ways behind (length-set c.loop-k.self.first.items last _ ∙ size) c.lower-window.ensures.from to places asks this inside t

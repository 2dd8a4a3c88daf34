use Rattle.std.proofs.Common.{◌≡◌, arith, subst}
use Rattle.serde_json.specs.View.{items_view}
use Rattle.tpol_export.specs.Spelling.{spelled_items}
use Rattle.tpol_export.proofs.Walks.{items_end}
use Rattle.tpol_export.proofs.walk.+walk.Goals as goal

pub items_within-returns : goal.items_within-returns
items_within-returns t c =
    let l = c.loop-item in
    subst (λ items. items_view l.kept.items ≡ spelled_items c.args.part (items_view items)) c.deref-item-items.ensures.value
    (items_end c.args.part l.kept.items c.deref-item-items.result.now l.item-index l.invariant (omega arith))

use Rattle.std.proofs.Common.{sym, ◌∙◌, arith}
use Rattle.std.proofs.lemmas.Result.{err_from_is_err_and}
use Rattle.tpol_entities.proofs.ListLemmas.{items_from-turn, items_from-refused, items_from-end}
use Rattle.tpol_entities.proofs.lists.list_of_items.Goals as goal

pub returns-in_err-read_item : goal.returns-in_err-read_item
returns-in_err-read_item g c =
    let p = err_from_is_err_and c.from_residual.result c.from_residual.ensures.1 in
    let refused = rw c.item.ensures at c.in_err-read_item.ensures in
    rw (p.1, p.2) (items_from-refused (g.R.ItemReader.reading c.args.reader.now) c.loop-index.read c.args.items.now c.loop-index.index c.index-items-index.result c.args.place.now _ _ (omega arith) c.index-items-index.is c.loop-index.invariant refused)

pub loop-index-preserved : goal.loop-index-preserved
loop-index-preserved g c =
    let read = rw c.item.ensures at c.in_ok-read_item.ensures in
    sym (items_from-turn (g.R.ItemReader.reading c.args.reader.now) c.loop-index.read c.read_item.new.so_far c.args.items.now c.loop-index.index c.index-items-index.result c.args.place.now (omega arith) c.index-items-index.is read)
    ∙ c.loop-index.invariant

pub returns : goal.returns
returns g c =
    sym c.loop-index.invariant ∙ items_from-end (g.R.ItemReader.reading c.args.reader.now) c.loop-index.read c.args.items.now c.loop-index.index c.args.place.now (omega arith)

use Rattle.std.proofs.Common.{◌≡◌, drop}
use Rattle.serde_json.specs.View.{items_view}
use Rattle.tpol_json.specs.Members.{items_from}
use Rattle.tpol_entities.proofs.lists.list_of_items.Given as goal

abbrev pub invariant-loop-index : goal.invariant-loop-index
invariant-loop-index g l =
    items_from (g.R.ItemReader.reading l.reader) l.read l.index (items_view (drop l.index l.items)) l.place
    ≡ items_from (g.R.ItemReader.reading l.reader) l.fn.start 0 (items_view l.items) l.place

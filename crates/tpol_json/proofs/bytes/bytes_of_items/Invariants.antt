use Rattle.std.proofs.Common.{◌≡◌, drop}
use Rattle.serde_json.specs.View.{items_view}
use Rattle.tpol_json.specs.Bytes.{bytes_from}
use Rattle.tpol_json.proofs.BytesLemmas.{with_front}
use Rattle.tpol_json.proofs.bytes.bytes_of_items.Given as goal

abbrev pub invariant-loop-index : goal.invariant-loop-index
invariant-loop-index l =
    with_front l.bytes (bytes_from l.index (items_view (drop l.index l.items)) l.place)
    ≡ bytes_from 0 (items_view l.items) l.place

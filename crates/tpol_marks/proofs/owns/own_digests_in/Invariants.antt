use Rattle.std.proofs.Common.{◌≡◌, ◌++◌, drop}
use Rattle.serde_json.specs.View.{items_view}
use Rattle.tpol_marks.specs.Owns.{own_digests_in}
use Rattle.tpol_marks.proofs.owns.own_digests_in.Given as goal

-- the digests so far, and those of the items that are left
abbrev pub invariant-loop-item : goal.invariant-loop-item
invariant-loop-item l =
    l.digests ++ own_digests_in (items_view (drop l.item-index l.items)) ≡ own_digests_in (items_view l.items)

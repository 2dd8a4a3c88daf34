use Rattle.std.proofs.Common.{◌≡◌, ◌++◌, drop}
use Rattle.serde_json.specs.View.{items_view}
use Rattle.tpol_adopt.specs.Dropped.{dropped_from}
use Rattle.tpol_adopt.proofs.asymmetric.dropped_of.Given as goal

-- the places so far, and those of the authorizations that are left
abbrev pub invariant-loop-index : goal.invariant-loop-index
invariant-loop-index l =
    l.places ++ dropped_from l.index (items_view (drop l.index l.approvals)) ≡ dropped_from 0 (items_view l.approvals)

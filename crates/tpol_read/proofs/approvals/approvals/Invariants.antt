use Rattle.std.proofs.Common.{◌≡◌, [], drop}
use Rattle.serde_json.specs.View.{items_view}
use Rattle.tpol_read.specs.Approvals.{approvals_from}
use Rattle.tpol_read.proofs.approvals.approvals.Given as goal

-- those so far, with those of the items to come, are all of them
abbrev pub invariant-loop-index : goal.invariant-loop-index
invariant-loop-index l =
    approvals_from l.approvals l.index (items_view (drop l.index l.items)) l.list l.walk ≡ approvals_from [] 0 (items_view l.items) l.list l.fn.walk

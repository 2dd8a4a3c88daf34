use Rattle.std.proofs.Common.{◌≡◌, [], drop}
use Rattle.serde_json.specs.View.{items_view}
use Rattle.tpol_members.specs.Pcrs.{pcr_values_from}
use Rattle.tpol_members.proofs.pcrs.pcr_values.Given as goal

-- the values so far, with the items to come, are those of all
abbrev pub invariant-loop-index : goal.invariant-loop-index
invariant-loop-index l =
    pcr_values_from l.values.items l.index (items_view (drop l.index l.items)) l.place l.walk ≡ pcr_values_from [] 0 (items_view l.items) l.place l.fn.walk

use Rattle.std.proofs.Common.{◌≡◌, drop}
use Rattle.serde_json.specs.View.{items_view}
use Rattle.tpol_members.specs.Pcrs.{mask_from}
use Rattle.tpol_members.proofs.pcrs.mask_of.Given as goal

-- the mask so far, with the items to come, is the mask of all
abbrev pub invariant-loop-index : goal.invariant-loop-index
invariant-loop-index l = mask_from l.mask l.index (items_view (drop l.index l.items)) l.place ≡ mask_from 0 0 (items_view l.items) l.place

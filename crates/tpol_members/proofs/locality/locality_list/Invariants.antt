use Rattle.std.proofs.Common.{◌≡◌, drop}
use Rattle.serde_json.specs.View.{items_view}
use Rattle.tpol_members.specs.Localities.{localities_from}
use Rattle.tpol_members.proofs.locality.locality_list.Given as goal

-- the localities so far with those to come are all of them
abbrev pub invariant-loop-index : goal.invariant-loop-index
invariant-loop-index l = localities_from l.set l.index (items_view (drop l.index l.names)) l.place ≡ localities_from 0 0 (items_view l.names) l.place

use Rattle.std.proofs.Common.{◌≡◌, [], drop}
use Rattle.serde_json.specs.View.{items_view}
use Rattle.tpol_members.specs.Values.{name_in}
use Rattle.tpol_elements.specs.Wishes.{each_from}
use Rattle.tpol_elements.proofs.wishes.names_of.Given as goal

-- what was read so far, with the items to come, is what all say
abbrev pub invariant-loop-index : goal.invariant-loop-index
invariant-loop-index l = each_from name_in l.names l.index (items_view (drop l.index l.items)) l.place ≡ each_from name_in [] 0 (items_view l.items) l.place

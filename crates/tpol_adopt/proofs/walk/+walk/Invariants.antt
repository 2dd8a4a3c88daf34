use Rattle.std.proofs.Common.{◌≡◌, List, ◌++◌, take, map}
use Rattle.serde_json.specs.View.{view, members_view}
use Rattle.serde_json.proofs.Views.{Entry}
use Rattle.tpol_adopt.specs.Normal.{normal_members}
use Rattle.tpol_adopt.proofs.Walks.{kept_items}
use Rattle.tpol_adopt.proofs.walk.+walk.Given as goal

abbrev pub invariant-items_within-loop-item : goal.invariant-items_within-loop-item
invariant-items_within-loop-item l = map view l.kept.items ≡ kept_items l.part (map view (take l.item-index l.item-items))

abbrev pub invariant-members_within-loop-name : goal.invariant-members_within-loop-name
invariant-members_within-loop-name l =
    (done : List Entry) × (l.members.entries ≡ done ++ l.name-iterator)
    × (members_view l.kept.entries ≡ normal_members l.part (view l.whole) (members_view done))

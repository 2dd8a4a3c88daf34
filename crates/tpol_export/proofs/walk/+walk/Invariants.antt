use Rattle.std.proofs.Common.{◌≡◌, map, take}
use Rattle.serde_json.specs.Data.{no_members}
use Rattle.serde_json.specs.View.{members_view, view}
use Rattle.tpol_export.specs.Spelling.{spelled_members}
use Rattle.tpol_export.proofs.Walks.{kept_item}
use Rattle.tpol_export.proofs.walk.+walk.Given as goal

abbrev pub invariant-items_within-loop-item : goal.invariant-items_within-loop-item
invariant-items_within-loop-item l = map view l.kept.items ≡ map (kept_item l.part) (map view (take l.item-index l.item-items))

-- the members that are left give what all members give
abbrev pub invariant-members_within-loop-name : goal.invariant-members_within-loop-name
invariant-members_within-loop-name l =
    spelled_members l.part (view l.whole) (members_view l.name-iterator) (members_view l.kept.entries)
    ≡ spelled_members l.part (view l.whole) (members_view l.members.entries) no_members

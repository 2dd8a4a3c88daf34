use Rattle.std.proofs.Common.{◌≡◌, map, drop}
use Rattle.serde_json.specs.View.{view}
use Rattle.tpol_members.specs.Members.{first_from, first_of, none_of}
use Rattle.tpol_members.proofs.members.first_of.Given as goal

-- none of the names so far stands in the object
abbrev pub invariant-loop-position : goal.invariant-loop-position
invariant-loop-position l =
    first_from l.position (map (λ name. name.now) (drop l.position l.names)) (none_of (map (λ name. name.now) l.names) l.place) (view l.value) ≡ first_of (map (λ name. name.now) l.names) (view l.value) l.place

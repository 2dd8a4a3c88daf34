use Rattle.std.proofs.Common.{◌≡◌, map, drop}
use Rattle.serde_json.specs.View.{view}
use Rattle.tpol_json.specs.Members.{without}
use Rattle.tpol_json.proofs.members.without.Given as goal

-- none of the names so far stands in the object
abbrev pub invariant-loop-name : goal.invariant-loop-name
invariant-loop-name g l =
    without l.twice (map (λ name. name.now) (drop l.name-index l.names)) (view l.value) l.place ≡ without l.twice (map (λ name. name.now) l.names) (view l.value) l.place

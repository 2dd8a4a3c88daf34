use Rattle.std.proofs.Common.{◌≡◌, map, drop}
use Rattle.tpol_json.specs.Members.{is_among}
use Rattle.tpol_json.proofs.members.is_among.Given as goal

-- none of the names so far is the name
abbrev pub invariant-loop-known : goal.invariant-loop-known
invariant-loop-known l =
    is_among l.name (map (λ name. name.now) (drop l.known-index l.names)) ≡ is_among l.name (map (λ name. name.now) l.names)

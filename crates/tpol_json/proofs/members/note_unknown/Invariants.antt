use Rattle.std.proofs.Common.{◌≡◌, ◌++◌, map}
use Rattle.tpol_json.specs.Members.{unknown}
use Rattle.serde_json.specs.View.{view}
use Rattle.tpol_json.proofs.UnknownNames.{unknown_names}
use Rattle.tpol_json.proofs.members.note_unknown.Given as goal

-- the notes so far with those of the names to come are all of them
abbrev pub invariant-loop-name : goal.invariant-loop-name
invariant-loop-name l =
    l.notes ++ unknown_names (map (λ name. name.now) l.known) l.name-iterator l.place ≡ l.fn.notes ++ unknown (map (λ name. name.now) l.known) (view l.value) l.place

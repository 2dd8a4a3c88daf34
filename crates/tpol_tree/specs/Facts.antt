-- What the facts of a policy session say together.
use Rattle.std.specs.Prelude.{List, map}
use Rattle.tpol_tree.specs.declared.path.Move.{Move}
use Rattle.tpol_tree.specs.declared.facts.Fact.{Fact}

-- the moves of facts
abbrev pub moves_of : List Fact → List Move
moves_of facts = map (λ fact. fact.act) facts

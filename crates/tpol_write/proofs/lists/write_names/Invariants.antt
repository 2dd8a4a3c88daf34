use Rattle.std.proofs.Common.{◌∷◌, take, map}
use Rattle.json.specs.Token.{begin_array}
use Rattle.tpol_write.specs.Wishes.{name_value}
use Rattle.tpol_write.specs.Drafts.{Adds, values_tokens}
use Rattle.tpol_write.proofs.lists.write_names.Given as goal

abbrev pub invariant-loop-name : goal.invariant-loop-name
invariant-loop-name l = Adds l.fn.draft l.draft (begin_array ∷ values_tokens (map name_value (take l.name-index l.names)))

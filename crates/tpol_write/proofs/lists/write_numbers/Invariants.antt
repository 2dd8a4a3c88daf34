use Rattle.std.proofs.Common.{◌∷◌, take, map}
use Rattle.json.specs.Token.{begin_array}
use Rattle.tpol_write.specs.Objects.{natural}
use Rattle.tpol_write.specs.Drafts.{Adds, AllRead, values_tokens}
use Rattle.tpol_write.proofs.lists.write_numbers.Given as goal

abbrev pub invariant-loop-number : goal.invariant-loop-number
invariant-loop-number l = (Adds l.fn.draft l.draft (begin_array ∷ values_tokens (map natural (take l.number-index l.numbers))))
    × AllRead (map natural (take l.number-index l.numbers))

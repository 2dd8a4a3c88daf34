use Rattle.std.proofs.Common.{◌∷◌, take, map}
use Rattle.json.specs.Token.{begin_array}
use Rattle.tpol_write.specs.Wishes.{pcr_value}
use Rattle.tpol_write.specs.Drafts.{Adds, AllRead, values_tokens}
use Rattle.tpol_write.proofs.lists.write_pcrs.Given as goal

abbrev pub invariant-loop-pcr : goal.invariant-loop-pcr
invariant-loop-pcr l = (Adds l.fn.draft l.draft (begin_array ∷ values_tokens (map pcr_value (take l.pcr-index l.values))))
    × AllRead (map pcr_value (take l.pcr-index l.values))

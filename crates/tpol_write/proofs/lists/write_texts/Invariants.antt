use Rattle.std.proofs.Common.{◌∷◌, take, map}
use Rattle.json.specs.Token.{begin_array}
use Rattle.serde_json.specs.Data.{string}
use Rattle.tpol_write.specs.Drafts.{Adds, values_tokens}
use Rattle.tpol_write.proofs.lists.write_texts.Given as goal

abbrev pub invariant-loop-text : goal.invariant-loop-text
invariant-loop-text l = Adds l.fn.draft l.draft (begin_array ∷ values_tokens (map string (take l.text-index l.texts)))

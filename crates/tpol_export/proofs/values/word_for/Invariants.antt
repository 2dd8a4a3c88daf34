use Rattle.std.proofs.Common.{◌≡◌, map, drop}
use Rattle.tpol_export.specs.Values.{word_for}
use Rattle.tpol_export.proofs.values.word_for.Given as goal

-- no word so far stands for the number
abbrev pub invariant-loop-word : goal.invariant-loop-word
invariant-loop-word l =
    word_for (map (λ word. (word.0.now, word.1)) (drop l.word-index l.words)) l.number ≡ word_for (map (λ word. (word.0.now, word.1)) l.words) l.number

use Rattle.std.proofs.Common.{◌≡◌, map, drop}
use Rattle.tpol_adopt.specs.Words.{meaning_of_word}
use Rattle.tpol_adopt.proofs.words.meaning_of_word.Given as goal

-- the text is none of the words so far
abbrev pub invariant-loop-word : goal.invariant-loop-word
invariant-loop-word g l =
    meaning_of_word (map (λ word. (word.0.now, word.1)) (drop l.word-index l.words)) l.text ≡ meaning_of_word (map (λ word. (word.0.now, word.1)) l.words) l.text

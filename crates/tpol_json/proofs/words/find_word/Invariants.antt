use Rattle.std.proofs.Common.{◌≡◌, map, drop}
use Rattle.tpol_json.specs.Words.{find_word}
use Rattle.tpol_json.proofs.words.find_word.Given as goal

-- the text is none of the words so far
abbrev pub invariant-loop-word : goal.invariant-loop-word
invariant-loop-word g l =
    find_word l.prefix (map (λ word. (word.0.now, word.1)) (drop l.word-index l.words)) l.text ≡ find_word l.prefix (map (λ word. (word.0.now, word.1)) l.words) l.text

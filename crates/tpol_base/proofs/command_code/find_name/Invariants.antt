use Rattle.std.proofs.Common.{◌≡◌, drop, map}
use Rattle.tpol_base.specs.CommandCode.{find_name}
use Rattle.tpol_base.proofs.command_code.find_name.Given as goal

abbrev pub invariant-loop-word : goal.invariant-loop-word
invariant-loop-word l =
    find_name (map (λ word. (word.0.now, word.1)) (drop l.word-index l.words)) l.code
    ≡ find_name (map (λ word. (word.0.now, word.1)) l.words) l.code

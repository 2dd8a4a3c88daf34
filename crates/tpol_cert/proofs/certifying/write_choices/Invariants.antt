use Rattle.std.proofs.Common.{◌≡◌, ◌++◌, take}
use Rattle.std.specs.List.{flat_map}
use Rattle.tpol_cert.specs.Spelling.{spelled_choice}
use Rattle.tpol_cert.proofs.certifying.write_choices.Given as goal

abbrev pub invariant-loop-choice : goal.invariant-loop-choice
invariant-loop-choice l = l.bytes ≡ l.initial.bytes ++ flat_map spelled_choice (take l.choice-index l.choices)

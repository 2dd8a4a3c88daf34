use Rattle.std.proofs.Common.{◌≡◌, ◌-◌}
use Rattle.tpol_cert.specs.Reading.{choice_in, list_in, many_in}
use Rattle.tpol_cert.proofs.Loop.{with_front}
use Rattle.tpol_cert.proofs.reading.read_choices.Given as goal

abbrev pub invariant-loop : goal.invariant-loop
invariant-loop l = with_front l.choices (many_in choice_in (l.count - l.counter) l.cursor) ≡ list_in choice_in l.fn.cursor

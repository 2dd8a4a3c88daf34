use Rattle.std.proofs.Common.{◌≡◌, drop}
use Rattle.tpol_front.specs.Numbers.{number_from}
use Rattle.tpol_front.proofs.numbers.number_of_digits.Given as goal

-- the number so far, with the digits to come
abbrev pub invariant-loop-digit : goal.invariant-loop-digit
invariant-loop-digit l = number_from l.number (drop l.digit-index l.digits) ≡ number_from 0 l.digits

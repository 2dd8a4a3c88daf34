use Rattle.std.proofs.Common.{◌≡◌, ◌≤◌, ◌∙◌, sym, le-leb, true, length, arith}
use Rattle.std.specs.List.{list_all}
use Rattle.tpol_json.specs.Numbers.{is_hex_digit}
use Rattle.tpol_json.proofs.NumbersLemmas.{parsed_digits}
use Rattle.tpol_json.proofs.numbers.number_of_digits.Goals as goal

pub returns-then-are_hex_digits : goal.returns-then-are_hex_digits
returns-then-are_hex_digits c =
    let digits = c.args.digits.now in
    let some : 1 ≤ length digits = omega arith in
    let short : length digits ≤ 15 = omega arith in
    let hex : list_all is_hex_digit digits ≡ true = sym c.are_hex_digits.ensures ∙ c.if-are_hex_digits.true in
    c.ok.ensures.value ∙ parsed_digits digits _ c.from_str_radix.ensures.value hex some short
    ∙ rw (le-leb _ _ some, le-leb _ _ short, hex)

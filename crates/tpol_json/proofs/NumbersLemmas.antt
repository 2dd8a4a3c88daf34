-- What std's parser gives for hexadecimal digits.
use Rattle.std.proofs.Common.{◌≡◌, ◌≢◌, ℕ, ◌<◌, ◌≤◌, ◌^◌, true, false, List, [], ◌∷◌, length, get_or, Result, Ok, Err, Some, ℤ, pos, sym, ap, ◌∙◌, true≢false, arith, ne_eqb}
use Rattle.std.proofs.lemmas.Bool.{and_parts, ltb-true}
use Rattle.std.proofs.lemmas.Int.Digits.{digits_value-lt}
use Rattle.std.proofs.Math.Nat.{pow-le-pow_right}
use Rattle.std.specs.Int.{w64}
use Rattle.std.specs.Prelude.{FitsSigned}
use Rattle.std.specs.List.{list_all}
use Rattle.std.specs.Result.{result_ok, OkIff}
use Rattle.std.specs.Str.Parse.{AllDigits, ParsesSigned, digits_value, starts_with_minus, without_leading_sign, without_leading_plus, signed_digits_value}
use Rattle.tpol_json.specs.Numbers.{is_hex_digit}

-- digits that each pass the test are digits in base 16
pub all_digits : (ds : List ℕ) → list_all is_hex_digit ds ≡ true → AllDigits 16 ds
all_digits [] h = tt
all_digits (c ∷ cs) h =
    let parts = and_parts (is_hex_digit c) (list_all is_hex_digit cs) h in
    (ltb-true _ _ parts.0, all_digits cs parts.1)

-- a sign is no digit
no_sign : (ds : List ℕ) → list_all is_hex_digit ds ≡ true → 1 ≤ length ds → (get_or ds 0 0 ≢ 43) × (get_or ds 0 0 ≢ 45)
no_sign [] h some = absurd (omega arith)
no_sign (c ∷ cs) h some =
    let digit : is_hex_digit c ≡ true = (and_parts (is_hex_digit c) (list_all is_hex_digit cs) h).0 in (
      λ is. true≢false (sym digit ∙ ap is_hex_digit is),
      λ is. true≢false (sym digit ∙ ap is_hex_digit is),
    )

-- the value of at most 15 hexadecimal digits
small : (ds : List ℕ) → AllDigits 16 ds → length ds ≤ 15 → digits_value 16 ds < 2 ^ 63
small ds digits short =
    let some : 0 < 16 = omega arith in
    omega (arith, digits_value-lt 16 ds digits, pow-le-pow_right {n = 16} some short)

given : {E : Type 0} (r : Result ℤ E) (P : Type 0) (v : ℤ) → OkIff r P v → P → result_ok r ≡ Some v
given (Ok x) P v h p = ap Some h.1
given (Err e) P v h p = absurd (h p)

-- std's parser reads 1 to 15 hexadecimal digits as their value
pub parsed_digits : {E : Type 0} (ds : List ℕ) (r : Result ℤ E) → ParsesSigned w64 16 ds r → list_all is_hex_digit ds ≡ true
    → 1 ≤ length ds → length ds ≤ 15 → result_ok r ≡ Some (pos (digits_value 16 ds))
parsed_digits ds r parsed hex some short =
    let digits = all_digits ds hex in
    let sign = no_sign ds hex some in
    let minus : starts_with_minus ds ≡ false = ne_eqb _ _ sign.1 in
    let plus : without_leading_plus ds ≡ ds = rw (ne_eqb (get_or ds 0 0) 43 sign.0) in
    let plain : without_leading_sign ds ≡ ds = rw minus plus in
    let value : signed_digits_value 16 ds ≡ pos (digits_value 16 ds) = rw minus (ap (λ s. pos (digits_value 16 s)) plus) in
    let below = small ds digits short in
    let fits : FitsSigned w64 (pos (digits_value 16 ds)) = record { sfits = below } in
    rw value at (given r _ _ parsed (rw plain (some, digits), rw value fits))

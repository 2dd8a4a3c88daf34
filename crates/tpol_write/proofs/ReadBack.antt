-- What canonical text writes reads back.
use Rattle.std.proofs.Common.{◌≡◌, ◌≢◌, ℕ, ◌/◌, ◌%◌, ◌<◌, ◌^◌, ◌==◌, Bool, true, false, ◌&&◌, List, [], ◌∷◌, slice_index, Some, None, Ok, ℤ, pos, negsuc, ◌≤ℤ◌, ◌-◌, leb, refl, sym, ap, ◌∙◌, arith, lt-ltb, ne_eqb, codes, nat_eq, drop, if◌then◌else◌, unwrap_or}
use Rattle.std.proofs.lemmas.Bool.{leb-true}
use Rattle.std.specs.List.{starts_with}
use Rattle.std.specs.Prelude.{int_le}
use Rattle.std.specs.Result.{result_ok}
use Rattle.hex.specs.Hex.{IsBytes, encode_lower, encode_with, lower_digits, hex_digit_value, decode_of}
use Rattle.hex.proofs.HexLemmas.{IsDigits-lower_digits, decode_of-encode_lower}
use Rattle.tpol_json.specs.declared.place.Place.{Place}
use Rattle.tpol_json.specs.declared.fault.JsonKind.TheVariants.{BadNumber}
use Rattle.tpol_json.proofs.Limits.{passed}
use Rattle.tpol_json.specs.Reading.{bad}
use Rattle.tpol_json.specs.Bytes.{hex_or_bad, bytes_of_text}
use Rattle.tpol_json.specs.Numbers.{within, after_0x}
use Rattle.tpol_write.specs.Laws.{BytesReadBack, NumbersReadBack}

-- `x` is no hexadecimal digit
digit_is_no_x : (k : ℕ) → k < 16 → slice_index lower_digits k ≢ 120
digit_is_no_x k small is = none_is_some (sym (ap hex_digit_value is) ∙ IsDigits-lower_digits k small)
  where
    none_is_some : hex_digit_value 120 ≡ Some k → ⊥
    none_is_some h = cc h

and_none : (b : Bool) → (b && false) ≡ false
and_none true = refl
and_none false = refl

no_x : (x y : ℕ) (rest : List ℕ) → y ≢ 120 → starts_with nat_eq (x ∷ y ∷ rest) (codes "0x") ≡ false
no_x x y rest other = ap (λ t. (48 == x) && (t && true)) (ne_eqb 120 y (λ e. other (sym e))) ∙ and_none (48 == x)

-- hexadecimal text has no `0x` in front of it
no_prefix : (bytes : List ℕ) → IsBytes bytes → starts_with nat_eq (encode_lower bytes) (codes "0x") ≡ false
unfolding encode_with
no_prefix [] h = refl
no_prefix (b ∷ rest) h =
    let small : b % 16 < 16 = omega arith in
    no_x (slice_index lower_digits (b / 16)) (slice_index lower_digits (b % 16)) (encode_lower rest) (digit_is_no_x (b % 16) small)

pub bytes_back : BytesReadBack
bytes_back bytes place h =
    let text = encode_lower bytes in
    let none : after_0x text ≡ None = ap (λ b. if b then Some (drop 2 text) else None) (no_prefix bytes h) in
    let read : bytes_of_text text ≡ Some bytes =
    ap (λ o. result_ok (decode_of (unwrap_or o text))) none ∙ ap result_ok (decode_of-encode_lower bytes h) in
    ap (λ o. hex_or_bad o place) read

within_limits : (least greatest n : ℤ) (place : Place) → least ≤ℤ n → n ≤ℤ greatest → within least greatest (Some n) place ≡ Ok n
within_limits least greatest n place low high =
    ap (λ b. if b && int_le n greatest then Ok n else bad BadNumber place) (passed (int_le least n) low.le)
    ∙ ap (λ b. if b then Ok n else bad BadNumber place) (passed (int_le n greatest) high.le)

pub numbers_back : NumbersReadBack
numbers_back least greatest (pos n) place low high small =
    let fits : n < 2 ^ 63 = omega (arith, leb-true n (2 ^ 63 - 1) (passed (leb n (2 ^ 63 - 1)) small.le)) in
    ap (λ b. within least greatest (if b then Some (pos n) else None) place) (lt-ltb n (2 ^ 63) fits)
    ∙ within_limits least greatest (pos n) place low high
numbers_back least greatest (negsuc n) place low high small = within_limits least greatest (negsuc n) place low high

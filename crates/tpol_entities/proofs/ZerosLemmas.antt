-- Bytes without the zero bytes at their end.
use Rattle.std.proofs.Common.{◌≡◌, ℕ, zero, suc, ◌+◌, ◌-◌, ◌<◌, ◌≤◌, Bool, true, false, nat_eq, List, length, get_or, take, take_all, refl, ap, ◌∙◌, arith}
use Rattle.std.specs.List.{suffix_len}
use Rattle.std.proofs.lemmas.List.Sums.{suffix_len-take_yes, suffix_len-take_no}
use Rattle.std.proofs.lemmas.List.{length-take}
use Rattle.tpol_base.specs.TrailingZeros.{without_trailing_zeros}

abbrev zeros : List ℕ → ℕ
zeros bytes = suffix_len (nat_eq 0) bytes

by_last : (bytes : List ℕ) (n : ℕ) (last : Bool) → nat_eq 0 (get_or bytes n 0) ≡ last → suc n ≤ length bytes
    → zeros (take (n - zeros (take n bytes)) bytes) ≡ 0 → zeros (take (suc n - zeros (take (suc n) bytes)) bytes) ≡ 0
by_last bytes n true is h before =
    let less : suc n - 1 ≡ n = omega arith in
    let yes = suffix_len-take_yes (nat_eq 0) bytes (suc n) 0 (omega arith) h (ap (λ k. nat_eq 0 (get_or bytes k 0)) less ∙ is) in
    let more : zeros (take (suc n) bytes) ≡ 1 + zeros (take n bytes) = yes ∙ ap (λ k. 1 + zeros (take k bytes)) less in
    let same : suc n - zeros (take (suc n) bytes) ≡ n - zeros (take n bytes) = omega arith in
    ap (λ k. zeros (take k bytes)) same ∙ before
by_last bytes n false is h before =
    let less : suc n - 1 ≡ n = omega arith in
    let none = suffix_len-take_no (nat_eq 0) bytes (suc n) 0 (omega arith) h (ap (λ k. nat_eq 0 (get_or bytes k 0)) less ∙ is) in
    let same : suc n - zeros (take (suc n) bytes) ≡ suc n = omega arith in
    ap (λ k. zeros (take k bytes)) same ∙ none

-- the end of the first n bytes has no zero byte once those there are taken away
trimmed_from : (bytes : List ℕ) (n : ℕ) → n ≤ length bytes → zeros (take (n - zeros (take n bytes)) bytes) ≡ 0
trimmed_from bytes zero h = refl
trimmed_from bytes (suc n) h = by_last bytes n (nat_eq 0 (get_or bytes n 0)) refl h (trimmed_from bytes n (omega arith))

-- no zero byte is left at the end
pub trimmed : (bytes : List ℕ) → zeros (without_trailing_zeros bytes) ≡ 0
unfolding without_trailing_zeros
trimmed bytes =
    let whole : zeros (take (length bytes) bytes) ≡ zeros bytes = ap zeros (take_all (length bytes) bytes (omega arith)) in
    let same : length bytes - zeros bytes ≡ length bytes - zeros (take (length bytes) bytes) = omega arith in
    ap (λ k. zeros (take k bytes)) same ∙ trimmed_from bytes (length bytes) (omega arith)

-- no byte more is left
pub without_trailing_zeros-length : (bytes : List ℕ) → length (without_trailing_zeros bytes) ≤ length bytes
unfolding without_trailing_zeros
without_trailing_zeros-length bytes = omega (arith, length-take (length bytes - zeros bytes) bytes)

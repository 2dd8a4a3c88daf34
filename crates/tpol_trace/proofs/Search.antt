-- A search through strings, one by one.
use Rattle.std.proofs.Common.{◌≡◌, ℕ, ◌+◌, ◌<◌, Bool, true, false, List, ◌∷◌, length, drop, get_or, Option, Some, None, refl, sym, ap, ◌∙◌}
use Rattle.std.specs.Prelude.{if◌then◌else◌}
use Rattle.std.specs.Str.{bytes_eq}
use Rattle.std.proofs.lemmas.List.{at_drop_more}
use Rattle.tpol_hash.specs.Sha256.{sha256_digest}
use Rattle.tpol_digest.specs.Digest.{zero_digest}
use Rattle.tpol_trace.specs.Openings.{is_clash, clash_with, pair_or, first_clash, first_zero}

module _ (F : List (List ℕ) → Option (List ℕ)) (test : List ℕ → Bool) (step : (x : List ℕ) (rest : List (List ℕ)) → F (x ∷ rest) ≡ (if test x then Some x else F rest)) (xs : List (List ℕ)) (i : ℕ) (x : List ℕ) (inside : i < length xs) (is : x ≡ get_or xs i x) (so_far : F (drop i xs) ≡ F xs) where
  here : (if test x then Some x else F (drop (i + 1) xs)) ≡ F xs
  here =
      sym (step x (drop (i + 1) xs))
      ∙ ap (λ y. F (y ∷ drop (i + 1) xs)) is
      ∙ sym (at_drop_more F xs i x inside)
      ∙ so_far

  found : test x ≡ true → Some x ≡ F xs
  found h = sym (ap (λ b. if b then Some x else F (drop (i + 1) xs)) h) ∙ here

  passed : test x ≡ false → F (drop (i + 1) xs) ≡ F xs
  passed h = sym (ap (λ b. if b then Some x else F (drop (i + 1) xs)) h) ∙ here

module _ (xs : List (List ℕ)) (i : ℕ) (x : List ℕ) (inside : i < length xs) (is : x ≡ get_or xs i x) where
  pub with_found : (string : List ℕ) → clash_with string (drop i xs) ≡ clash_with string xs → is_clash string x ≡ true → Some x ≡ clash_with string xs
  with_found string so_far h =
      found (clash_with string) (is_clash string) (λ y rest. refl) xs i x inside is so_far h

  pub with_passed : (string : List ℕ) → clash_with string (drop i xs) ≡ clash_with string xs → is_clash string x ≡ false → clash_with string (drop (i + 1) xs) ≡ clash_with string xs
  with_passed string so_far h =
      passed (clash_with string) (is_clash string) (λ y rest. refl) xs i x inside is so_far h

  pub zero_there : first_zero (drop i xs) ≡ first_zero xs → bytes_eq (sha256_digest x).bytes zero_digest.bytes ≡ true → Some x ≡ first_zero xs
  zero_there so_far h =
      found first_zero (λ y. bytes_eq (sha256_digest y).bytes zero_digest.bytes) (λ y rest. refl) xs i x inside is so_far h

  pub zero_passed : first_zero (drop i xs) ≡ first_zero xs → bytes_eq (sha256_digest x).bytes zero_digest.bytes ≡ false → first_zero (drop (i + 1) xs) ≡ first_zero xs
  zero_passed so_far h =
      passed first_zero (λ y. bytes_eq (sha256_digest y).bytes zero_digest.bytes) (λ y rest. refl) xs i x inside is so_far h

  pair_here : (other : Option (List ℕ)) → other ≡ clash_with x (drop (i + 1) xs) → first_clash (drop i xs) ≡ first_clash xs → pair_or x other (first_clash (drop (i + 1) xs)) ≡ first_clash xs
  pair_here other e so_far =
      ap (λ o. pair_or x o (first_clash (drop (i + 1) xs))) e
      ∙ ap (λ y. first_clash (y ∷ drop (i + 1) xs)) is
      ∙ sym (at_drop_more first_clash xs i x inside)
      ∙ so_far

  pub pair_found : (other : List ℕ) → Some other ≡ clash_with x (drop (i + 1) xs) → first_clash (drop i xs) ≡ first_clash xs → Some (x, other) ≡ first_clash xs
  pair_found other e so_far = pair_here (Some other) e so_far

  pub pair_passed : (none : Option (List ℕ)) → none ≡ None → none ≡ clash_with x (drop (i + 1) xs) → first_clash (drop i xs) ≡ first_clash xs → first_clash (drop (i + 1) xs) ≡ first_clash xs
  pair_passed none n e so_far =
      ap (λ o. pair_or x o (first_clash (drop (i + 1) xs))) (sym n) ∙ pair_here none e so_far

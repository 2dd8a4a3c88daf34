-- The first of some ways that passes a test, of ways in two parts, of changed ways, and by another test.
use Rattle.std.proofs.Common.{◌≡◌, ℕ, suc, ◌+◌, min, Bool, true, false, List, [], ◌∷◌, ◌++◌, length, map, Option, Some, None, refl, ap, ◌∙◌, arith, ◌&&◌}
use Rattle.std.specs.Prelude.{if◌then◌else◌, ◌||◌}
use Rattle.std.specs.List.{AllByRecursion}
use Rattle.std.specs.Option.{option_map}
use Rattle.tpol_trace.specs.Openings.{first_index}
use Rattle.tpol_trace.specs.Tables.{capped, earlier, kept}
use Rattle.tpol_trace.proofs.Steps.{or_later}

abbrev next : Option ℕ → Option ℕ
next o = option_map (λ i. i + 1) o

-- the first of two lists
abbrev pub index_or : Option ℕ → ℕ → Option ℕ → Option ℕ
index_or (Some i) n later = Some i
index_or None n later = option_map (λ i. n + i) later

module _ {A : Type 0} where
  pub first_index-append : (test : A → Bool) (xs ys : List A) → first_index test (xs ++ ys) ≡ index_or (first_index test xs) (length xs) (first_index test ys)
  first_index-append test [] ys = none (first_index test ys)
    where
      none : (o : Option ℕ) → o ≡ option_map (λ i. 0 + i) o
      none None = refl
      none (Some i) = let e : i ≡ 0 + i = omega arith in ap Some e
  first_index-append test (x ∷ xs) ys = by (test x) (first_index test xs) (first_index test ys) (first_index-append test xs ys)
    where
      shifted : (a b : Option ℕ) → next (index_or a (length xs) b) ≡ index_or (next a) (suc (length xs)) b
      shifted (Some i) b = refl
      shifted None None = refl
      shifted None (Some j) = let e : length xs + j + 1 ≡ suc (length xs) + j = omega arith in ap Some e

      by : (t : Bool) (a b : Option ℕ) → first_index test (xs ++ ys) ≡ index_or a (length xs) b → (if t then Some 0 else next (first_index test (xs ++ ys))) ≡ index_or (if t then Some 0 else next a) (suc (length xs)) b
      by true a b e = refl
      by false a b e = ap next e ∙ shifted a b

  -- where each item passes the other test as it passes this one, and `same` too
  pub first_index-kept : (same : Bool) (test other : A → Bool) (xs : List A) → AllByRecursion (λ x. test x ≡ (same && other x)) xs → first_index test xs ≡ kept same (first_index other xs)
  first_index-kept true test other [] h = refl
  first_index-kept false test other [] h = refl
  first_index-kept true test other (x ∷ xs) h =
      ap (λ b. if b then Some 0 else next (first_index test xs)) h.0
      ∙ ap (λ o. if other x then Some 0 else next o) (first_index-kept true test other xs h.1)
  first_index-kept false test other (x ∷ xs) h =
      ap (λ b. if b then Some 0 else next (first_index test xs)) h.0
      ∙ ap next (first_index-kept false test other xs h.1)

  pub first_index-either : (test a b : A → Bool) (xs : List A) → ((x : A) → test x ≡ (a x || b x)) → first_index test xs ≡ earlier (first_index a xs) (first_index b xs)
  first_index-either test a b [] h = refl
  first_index-either test a b (x ∷ xs) h =
      ap (λ t. if t then Some 0 else next (first_index test xs)) (h x)
      ∙ by (a x) (b x) (first_index a xs) (first_index b xs) (first_index-either test a b xs h)
    where
      shifted : (m n : Option ℕ) → next (earlier m n) ≡ earlier (next m) (next n)
      shifted None n = refl
      shifted (Some i) None = refl
      shifted (Some i) (Some j) = let e : min i j + 1 ≡ min (i + 1) (j + 1) = omega arith in ap Some e

      at_once : (o : Option ℕ) → Some 0 ≡ earlier (Some 0) o
      at_once None = refl
      at_once (Some j) = let e : 0 ≡ min 0 j = omega arith in ap Some e

      after_all : (o : Option ℕ) → Some 0 ≡ earlier (next o) (Some 0)
      after_all None = refl
      after_all (Some j) = let e : 0 ≡ min (j + 1) 0 = omega arith in ap Some e

      by : (s t : Bool) (m n : Option ℕ) → first_index test xs ≡ earlier m n → (if (s || t) then Some 0 else next (first_index test xs)) ≡ earlier (if s then Some 0 else next m) (if t then Some 0 else next n)
      by true true m n e = let z : 0 ≡ min 0 0 = omega arith in ap Some z
      by true false m n e = at_once (next n)
      by false true m n e = after_all m
      by false false m n e = ap next e ∙ shifted m n

pub first_index-map : {A B : Type 0} (test : B → Bool) (f : A → B) (xs : List A) → first_index test (map f xs) ≡ first_index (λ x. test (f x)) xs
first_index-map test f [] = refl
first_index-map test f (x ∷ xs) = ap (λ o. if test (f x) then Some 0 else next o) (first_index-map test f xs)

-- ---- the same, counted no further than 65,536

pub capped-kept : (same : Bool) (o : Option ℕ) → capped (kept same o) ≡ kept same (capped o)
capped-kept true o = refl
capped-kept false o = refl

pub capped-or : (a b : Option ℕ) (n : ℕ) → capped (index_or a n b) ≡ or_later (capped a) (min n 65536) (capped b)
capped-or (Some i) b n = refl
capped-or None None n = refl
capped-or None (Some j) n =
    let e : min (n + j) 65536 ≡ min (min n 65536 + min j 65536) 65536 = omega arith in
    ap Some e

pub capped-earlier : (a b : Option ℕ) → capped (earlier a b) ≡ earlier (capped a) (capped b)
capped-earlier None b = refl
capped-earlier (Some i) None = refl
capped-earlier (Some i) (Some j) =
    let e : min (min i j) 65536 ≡ min (min i 65536) (min j 65536) = omega arith in
    ap Some e

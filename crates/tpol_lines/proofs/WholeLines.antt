-- Lines that are heads with tails.
use Rattle.std.proofs.Common.{◌≡◌, ◌+◌, ◌-◌, ◌<◌, ◌≤◌, ◌++◌, ◌⊎◌, inl, inr, ℕ, zero, suc, List, [], ◌∷◌, Some, slice_get, Result, Ok, Err, OnErr, replicate, length, take, drop, get_or, refl, sym, ap, subst, ◌∙◌, arith, append-nil, length-append, length-drop}
use Rattle.std.proofs.Math.ListN.{get_or-append}
use Rattle.std.proofs.lemmas.List.{get_or-drop, get_or_default, take_more}
use Rattle.std.proofs.lemmas.Option.{get_or_from_slice_get}
use Rattle.std.specs.Prelude.{slice_range}
use Rattle.tpol_lines.specs.Whole.{HaveTails, tail_of, whole_lines}

-- ---- more tails

tail_stays : (tails more : List (List ℕ)) (number : ℕ) → number ≤ length tails → tail_of (tails ++ more) number ≡ tail_of tails number
tail_stays tails more zero h = refl
tail_stays tails more (suc number) h = get_or-append tails more [] number (omega (arith, h))

lines_stay : (tails more : List (List ℕ)) (numbers : List ℕ) (heads : List (List ℕ)) → HaveTails tails numbers heads → whole_lines (tails ++ more) numbers heads ≡ whole_lines tails numbers heads
lines_stay tails more [] heads h = refl
lines_stay tails more (number ∷ numbers) [] h = refl
lines_stay tails more (number ∷ numbers) (head ∷ heads) h =
    ap (λ tail. (head ++ tail) ∷ whole_lines (tails ++ more) numbers heads) (tail_stays tails more number h.0)
    ∙ ap (λ rest. (head ++ tail_of tails number) ∷ rest) (lines_stay tails more numbers heads h.1)

tails_stay : (tails more : List (List ℕ)) (numbers : List ℕ) (heads : List (List ℕ)) → HaveTails tails numbers heads → HaveTails (tails ++ more) numbers heads
tails_stay tails more [] [] h = tt
tails_stay tails more [] (head ∷ heads) h = absurd h
tails_stay tails more (number ∷ numbers) [] h = absurd h
tails_stay tails more (number ∷ numbers) (head ∷ heads) h = (omega (arith, h.0, length-append tails more), tails_stay tails more numbers heads h.1)

-- tails with one more, or as they were
module _ (tails new : List (List ℕ)) (tail : List ℕ) (same : (new ≡ tails) ⊎ (new ≡ tails ++ tail ∷ [])) (numbers : List ℕ) (heads : List (List ℕ)) (h : HaveTails tails numbers heads) where
  pub lines_with : whole_lines new numbers heads ≡ whole_lines tails numbers heads
  lines_with = elim same [ inl is ↦ ap (λ l. whole_lines l numbers heads) is | inr is ↦ ap (λ l. whole_lines l numbers heads) is ∙ lines_stay tails (tail ∷ []) numbers heads h ]

  pub tails_with : HaveTails new numbers heads
  tails_with = elim same [ inl is ↦ subst (λ l. HaveTails l numbers heads) (sym is) h | inr is ↦ subst (λ l. HaveTails l numbers heads) (sym is) (tails_stay tails (tail ∷ []) numbers heads h) ]

-- ---- one line more

pub tails_more : (tails : List (List ℕ)) (numbers : List ℕ) (heads : List (List ℕ)) (number : ℕ) (head : List ℕ) → HaveTails tails numbers heads → number ≤ length tails → HaveTails tails (numbers ++ number ∷ []) (heads ++ head ∷ [])
tails_more tails [] [] number head h within = (within, tt)
tails_more tails [] (first ∷ heads) number head h within = absurd h
tails_more tails (one ∷ numbers) [] number head h within = absurd h
tails_more tails (one ∷ numbers) (first ∷ heads) number head h within = (h.0, tails_more tails numbers heads number head h.1 within)

pub lines_more : (tails : List (List ℕ)) (numbers : List ℕ) (heads : List (List ℕ)) (number : ℕ) (head : List ℕ) → HaveTails tails numbers heads → whole_lines tails (numbers ++ number ∷ []) (heads ++ head ∷ []) ≡ whole_lines tails numbers heads ++ (head ++ tail_of tails number) ∷ []
lines_more tails [] [] number head h = refl
lines_more tails [] (first ∷ heads) number head h = absurd h
lines_more tails (one ∷ numbers) [] number head h = absurd h
lines_more tails (one ∷ numbers) (first ∷ heads) number head h = ap (λ rest. (first ++ tail_of tails one) ∷ rest) (lines_more tails numbers heads number head h.1)

-- the tail that is at an index
pub tail_at : (tails : List (List ℕ)) (index : ℕ) (tail : List ℕ) → slice_get tails index ≡ Some tail → tail_of tails (suc index) ≡ tail
tail_at tails index tail h = get_or_from_slice_get tails index tail [] h

module _ (tails : List (List ℕ)) (numbers : List ℕ) (heads lines : List (List ℕ)) (view : whole_lines tails numbers heads ≡ lines) (h : HaveTails tails numbers heads) (new_numbers : List ℕ) (new_heads : List (List ℕ)) (number : ℕ) (head : List ℕ) (numbers_are : new_numbers ≡ numbers ++ number ∷ []) (heads_are : new_heads ≡ heads ++ head ∷ []) where
  pub tails_added : number ≤ length tails → HaveTails tails new_numbers new_heads
  tails_added within =
      subst (λ l. HaveTails tails l new_heads) (sym numbers_are)
      (subst (λ l. HaveTails tails (numbers ++ number ∷ []) l) (sym heads_are) (tails_more tails numbers heads number head h within))

  pub line_added : whole_lines tails new_numbers new_heads ≡ lines ++ (head ++ tail_of tails number) ∷ []
  line_added =
      ap (λ l. whole_lines tails l new_heads) numbers_are
      ∙ ap (whole_lines tails (numbers ++ number ∷ [])) heads_are
      ∙ lines_more tails numbers heads number head h
      ∙ ap (λ l. l ++ (head ++ tail_of tails number) ∷ []) view

pub on_any_error : {T E P : Type 0} (result : Result T E) → P → OnErr result P
on_any_error (Ok value) p = tt
on_any_error (Err error) p = p

-- ---- lines that are texts

pub lines_of_texts : (tails texts : List (List ℕ)) → whole_lines tails (replicate (length texts) 0) texts ≡ texts
lines_of_texts tails [] = refl
lines_of_texts tails (text ∷ texts) = ap (λ l. l ∷ whole_lines tails (replicate (length texts) 0) texts) (append-nil text) ∙ ap (λ rest. text ∷ rest) (lines_of_texts tails texts)

pub tails_of_texts : (tails texts : List (List ℕ)) → HaveTails tails (replicate (length texts) 0) texts
tails_of_texts tails [] = tt
tails_of_texts tails (text ∷ texts) = (omega arith, tails_of_texts tails texts)

-- ---- reading

pub length-numbers : (tails : List (List ℕ)) (numbers : List ℕ) (heads : List (List ℕ)) → HaveTails tails numbers heads → length numbers ≡ length heads
length-numbers tails [] [] h = refl
length-numbers tails [] (head ∷ heads) h = absurd h
length-numbers tails (number ∷ numbers) [] h = absurd h
length-numbers tails (number ∷ numbers) (head ∷ heads) h = ap suc (length-numbers tails numbers heads h.1)

pub length-whole : (tails : List (List ℕ)) (numbers : List ℕ) (heads : List (List ℕ)) → HaveTails tails numbers heads → length (whole_lines tails numbers heads) ≡ length heads
length-whole tails [] [] h = refl
length-whole tails [] (head ∷ heads) h = absurd h
length-whole tails (number ∷ numbers) [] h = absurd h
length-whole tails (number ∷ numbers) (head ∷ heads) h = ap suc (length-whole tails numbers heads h.1)

pub number_within : (tails : List (List ℕ)) (numbers : List ℕ) (heads : List (List ℕ)) (index number : ℕ) → HaveTails tails numbers heads → index < length heads → number ≡ get_or numbers index number → number ≤ length tails
number_within tails [] [] index number h within is = absurd (omega (arith, within))
number_within tails [] (head ∷ heads) index number h within is = absurd h
number_within tails (first ∷ numbers) [] index number h within is = absurd h
number_within tails (first ∷ numbers) (head ∷ heads) zero number h within is = omega (arith, h.0, is)
number_within tails (first ∷ numbers) (head ∷ heads) (suc index) number h within is = number_within tails numbers heads index number h.1 (omega (arith, within)) is

pub whole_at : (tails : List (List ℕ)) (numbers : List ℕ) (heads : List (List ℕ)) (index number : ℕ) (head other : List ℕ) → HaveTails tails numbers heads → index < length heads → number ≡ get_or numbers index number → head ≡ get_or heads index head → head ++ tail_of tails number ≡ get_or (whole_lines tails numbers heads) index other
whole_at tails [] [] index number head other h within is at = absurd (omega (arith, within))
whole_at tails [] (first ∷ heads) index number head other h within is at = absurd h
whole_at tails (one ∷ numbers) [] index number head other h within is at = absurd h
whole_at tails (one ∷ numbers) (first ∷ heads) zero number head other h within is at = ap (λ l. l ++ tail_of tails number) at ∙ ap (λ n. first ++ tail_of tails n) is
whole_at tails (one ∷ numbers) (first ∷ heads) (suc index) number head other h within is at = whole_at tails numbers heads index number head other h.1 (omega (arith, within)) is at

pub no_tail : (tails : List (List ℕ)) (number : ℕ) → (1 ≤ number → ⊥) → tail_of tails number ≡ []
no_tail tails zero h = refl
no_tail tails (suc number) h = absurd (h (omega arith))

pub its_tail : (tails : List (List ℕ)) (number place : ℕ) (tail : List ℕ) → 1 ≤ number → place ≡ number - 1 → number ≤ length tails → tail ≡ get_or tails place tail → tail ≡ tail_of tails number
its_tail tails zero place tail some is within at = absurd (omega (arith, some))
its_tail tails (suc number) place tail some is within at =
    let here : place ≡ number = omega (arith, is) in
    at ∙ ap (λ n. get_or tails n tail) here ∙ get_or_default tails number tail [] (omega (arith, within))

-- ---- the first lines alone

pub first_lines : (tails : List (List ℕ)) (numbers : List ℕ) (heads : List (List ℕ)) (count : ℕ) → HaveTails tails numbers heads → whole_lines tails (take count numbers) (take count heads) ≡ take count (whole_lines tails numbers heads)
first_lines tails numbers heads zero h = refl
first_lines tails [] heads (suc count) h = refl
first_lines tails (number ∷ numbers) [] (suc count) h = refl
first_lines tails (number ∷ numbers) (head ∷ heads) (suc count) h = ap (λ rest. (head ++ tail_of tails number) ∷ rest) (first_lines tails numbers heads count h.1)

pub first_tails : (tails : List (List ℕ)) (numbers : List ℕ) (heads : List (List ℕ)) (count : ℕ) → HaveTails tails numbers heads → HaveTails tails (take count numbers) (take count heads)
first_tails tails numbers heads zero h = tt
first_tails tails [] [] (suc count) h = tt
first_tails tails [] (head ∷ heads) (suc count) h = absurd h
first_tails tails (number ∷ numbers) [] (suc count) h = absurd h
first_tails tails (number ∷ numbers) (head ∷ heads) (suc count) h = (h.0, first_tails tails numbers heads count h.1)

-- ---- lines of others

pub range_more : (lines : List (List ℕ)) (start i : ℕ) (line : List ℕ) → start ≤ i → i < length lines → line ≡ get_or lines i line → slice_range lines start (i + 1) ≡ slice_range lines start i ++ line ∷ []
range_more lines start i line started within is =
    let here : start + (i - start) ≡ i = omega (arith, started) in
    let next : i + 1 - start ≡ (i - start) + 1 = omega (arith, started) in
    ap (λ n. take n (drop start lines)) next
    ∙ take_more (drop start lines) (i - start) line (omega (arith, started, within, length-drop start lines))
    ∙ ap (λ l. slice_range lines start i ++ l ∷ []) (get_or-drop start lines (i - start) line ∙ ap (λ n. get_or lines n line) here ∙ sym is)

-- Where choices lead, part by part.
use Rattle.std.proofs.Common.{◌≡◌, ℕ, zero, suc, ◌+◌, ◌-◌, ◌*◌, ◌<◌, ◌≤◌, max, Bool, true, false, List, [], ◌∷◌, ◌++◌, map, length, Some, nat_eq, refl, sym, ap, ◌∙◌, subst, append_assoc, length-append, inl, inr, arith}
use Rattle.std.specs.Prelude.{if◌then◌else◌}
use Rattle.std.specs.List.{AllByRecursion, slice_get}
use Rattle.std.proofs.Math.Nat.{mul-le-mul_left}
use Rattle.std.proofs.lemmas.Bool.{false≢true}
use Rattle.std.proofs.lemmas.Bool.Decides.{nat_tests}
use Rattle.std.proofs.lemmas.Option.{slice_get_within}
use Rattle.tpol_cert.specs.declared.choice.Choice.{Choice}
use Rattle.tpol_cert.specs.declared.choice.Choice.TheVariants.{Branch, Document, Outside}
use Rattle.tpol_cert.specs.Choices.{behind, each_with, same_choice}
use Rattle.tpol_cert.specs.declared.follow.Stray.{Stray}
use Rattle.tpol_cert.specs.declared.follow.Stray.TheVariants.{At, NoMemory}
use Rattle.tpol_cert.specs.Following.{IsStray, Leads, Misses, Strays, common, most}
use Rattle.tpol_cert.specs.Judging.{IsNoStep}
use Rattle.tpol_cert.proofs.Apart.{AllPart, BeginsAtBranch, BeginsAtDocument, Part, at_index, each_append, same_itself}
use Rattle.tpol_cert.proofs.Going.{at_first, at_later, at_map, at_product}

-- ---- choices that are the same

same_choice_sym : (a b : Choice) → same_choice a b ≡ same_choice b a
same_choice_sym (Branch n) (Branch m) = grind (arith, nat_tests)
same_choice_sym (Branch n) (Document m) = refl
same_choice_sym (Branch n) Outside = refl
same_choice_sym (Document n) (Branch m) = refl
same_choice_sym (Document n) (Document m) = grind (arith, nat_tests)
same_choice_sym (Document n) Outside = refl
same_choice_sym Outside (Branch m) = refl
same_choice_sym Outside (Document m) = refl
same_choice_sym Outside Outside = refl

part_sym : (xs ys : List Choice) → Part xs ys → Part ys xs
part_sym [] ys h = absurd h
part_sym (x ∷ xs) [] h = absurd h
part_sym (x ∷ xs) (y ∷ ys) (inl e) = inl (same_choice_sym y x ∙ e)
part_sym (x ∷ xs) (y ∷ ys) (inr h) = inr (part_sym xs ys h)

-- ---- what steps have in common with choices

abbrev pub Short : List Choice → List (List Choice) → Type 0
Short steps all = AllByRecursion (λ choices. common steps choices < length choices) all

common_short : (s x y : List Choice) → common s x < length x → common s (x ++ y) ≡ common s x
common_short [] x y h = refl
common_short (a ∷ s) [] y h = absurd (omega arith)
common_short (a ∷ s) (b ∷ x) y h = by (same_choice a b) (common_short s x y) h
  where
    by : (t : Bool) → (common s x < length x → common s (x ++ y) ≡ common s x) → (if t then common s x + 1 else 0) < length (b ∷ x) → (if t then common s (x ++ y) + 1 else 0) ≡ (if t then common s x + 1 else 0)
    by true later k = ap (λ n. n + 1) (later (omega arith))
    by false later k = refl

common_under : (x s y : List Choice) → common (x ++ s) (x ++ y) ≡ length x + common s y
common_under [] s y = omega arith
common_under (a ∷ x) s y =
    ap (λ b. if b then common (x ++ s) (x ++ y) + 1 else 0) (same_itself a) ∙ ap (λ n. n + 1) (common_under x s y) ∙ omega arith

common_part : (x xs s : List Choice) → Part xs x → (common (xs ++ s) x < length xs) × (common (xs ++ s) x < length x)
common_part x [] s h = absurd h
common_part [] (b ∷ xs) s h = absurd h
common_part (a ∷ x) (b ∷ xs) s (inl e) =
    let none : common ((b ∷ xs) ++ s) (a ∷ x) ≡ 0 = ap (λ t. if t then common (xs ++ s) x + 1 else 0) e in
    (omega (arith, none), omega (arith, none))
common_part (a ∷ x) (b ∷ xs) s (inr h) = by (same_choice b a) (common_part x xs s h)
  where
    by : (t : Bool) → (common (xs ++ s) x < length xs) × (common (xs ++ s) x < length x) → ((if t then common (xs ++ s) x + 1 else 0) < length (b ∷ xs)) × ((if t then common (xs ++ s) x + 1 else 0) < length (a ∷ x))
    by true later = (omega (arith, later.0), omega (arith, later.1))
    by false later = (omega arith, omega arith)

most-append : (s : List Choice) (xs ys : List (List Choice)) → most s (xs ++ ys) ≡ max (most s xs) (most s ys)
most-append s [] ys = omega arith
most-append s (x ∷ xs) ys = let later = most-append s xs ys in omega (arith, later)

-- ---- choices that steps do not begin

abbrev pub Untouched : List Choice → List (List Choice) → Type 0
Untouched steps all = AllByRecursion (λ choices. (common steps choices ≡ 0) × (0 < length choices)) all

untouched_most : (s : List Choice) (xs : List (List Choice)) → Untouched s xs → most s xs ≡ 0
untouched_most s [] h = refl
untouched_most s (x ∷ xs) h = let later = untouched_most s xs h.1 in omega (arith, later, h.0.0)

untouched_short : (s : List Choice) (xs : List (List Choice)) → Untouched s xs → Short s xs
untouched_short s [] h = tt
untouched_short s (x ∷ xs) h = (omega (arith, h.0.0, h.0.1), untouched_short s xs h.1)

pub strays_untouched : (s : List Choice) (xs : List (List Choice)) → Untouched s xs → Strays xs s s
strays_untouched s xs h = record { reached = let none = untouched_most s xs h in omega (arith, none); none = untouched_short s xs h }

pub untouched_behind : (s : List Choice) (choice : Choice) (xs : List (List Choice)) → Misses choice s → Untouched s (behind choice xs)
untouched_behind s choice [] h = tt
untouched_behind [] choice (x ∷ xs) h = ((refl, omega arith), untouched_behind [] choice xs h)
untouched_behind (a ∷ s) choice (x ∷ xs) h = ((ap (λ b. if b then common s x + 1 else 0) h, omega arith), untouched_behind (a ∷ s) choice xs h)

pub untouched_append : (s : List Choice) (xs ys : List (List Choice)) → Untouched s xs → Untouched s ys → Untouched s (xs ++ ys)
untouched_append s xs ys h k = each_append (λ choices. (common s choices ≡ 0) × (0 < length choices)) xs ys h k

-- behind a branch, or a document, come those of greater numbers
pub untouched_branches : (n : ℕ) (s : List Choice) (xs : List (List Choice)) → AllByRecursion (BeginsAtBranch (n + 1)) xs → Untouched (Branch n ∷ s) xs
untouched_branches n s [] h = tt
untouched_branches n s (x ∷ xs) h = (one x h.0, untouched_branches n s xs h.1)
  where
    other : (m : ℕ) → n + 1 ≤ m → nat_eq n m ≡ false
    other m k = grind (arith, nat_tests)

    one : (y : List Choice) → BeginsAtBranch (n + 1) y → (common (Branch n ∷ s) y ≡ 0) × (0 < length y)
    one [] k = absurd k
    one (Branch m ∷ y) k = (ap (λ b. if b then common s y + 1 else 0) (other m k), omega arith)
    one (Document m ∷ y) k = absurd k
    one (Outside ∷ y) k = absurd k

pub untouched_documents : (n : ℕ) (s : List Choice) (xs : List (List Choice)) → AllByRecursion (BeginsAtDocument (n + 1)) xs → Untouched (Document n ∷ s) xs
untouched_documents n s [] h = tt
untouched_documents n s (x ∷ xs) h = (one x h.0, untouched_documents n s xs h.1)
  where
    other : (m : ℕ) → n + 1 ≤ m → nat_eq n m ≡ false
    other m k = grind (arith, nat_tests)

    one : (y : List Choice) → BeginsAtDocument (n + 1) y → (common (Document n ∷ s) y ≡ 0) × (0 < length y)
    one [] k = absurd k
    one (Branch m ∷ y) k = absurd k
    one (Document m ∷ y) k = (ap (λ b. if b then common s y + 1 else 0) (other m k), omega arith)
    one (Outside ∷ y) k = absurd k

-- ---- one part, and then another

pub leads_nowhere : (s : List Choice) → Leads ([] ∷ []) s 0 s
leads_nowhere s = record { choices = []; is_there = refl; follows = refl }

pub leads_through : (s left rest : List Choice) (firsts rests : List (List Choice)) (i j k : ℕ) → Leads firsts s i left → Leads rests left j rest → k ≡ i * length rests + j → Leads (each_with firsts rests) s k rest
leads_through s left rest firsts rests i j k g h e = record {
  choices = g.choices ++ h.choices;
  is_there = at_product firsts rests i j k g.choices h.choices g.is_there h.is_there e;
  follows = g.follows ∙ ap (λ l. g.choices ++ l) h.follows ∙ sym (append_assoc g.choices h.choices rest);
}

short_under : (s x : List Choice) (rests : List (List Choice)) → common s x < length x → Short s (map (λ y. x ++ y) rests)
short_under s x [] h = tt
short_under s x (y ∷ rests) h = (omega (arith, common_short s x y h, length-append x y, h), short_under s x rests h)

most_short : (s x : List Choice) (rests : List (List Choice)) → common s x < length x → most s (map (λ y. x ++ y) rests) ≤ common s x
most_short s x [] h = omega arith
most_short s x (y ∷ rests) h = let later = most_short s x rests h in omega (arith, later, common_short s x y h)

most_short_some : (s x : List Choice) (rests : List (List Choice)) → common s x < length x → 0 < length rests → most s (map (λ y. x ++ y) rests) ≡ common s x
most_short_some s x [] h some = absurd (omega arith)
most_short_some s x (y ∷ rests) h some = let later = most_short s x rests h in omega (arith, later, common_short s x y h)

first_strays : (s : List Choice) (firsts rests : List (List Choice)) → Short s firsts → 0 < length rests → (most s (each_with firsts rests) ≡ most s firsts) × Short s (each_with firsts rests)
first_strays s [] rests h some = (refl, tt)
first_strays s (x ∷ firsts) rests h some =
    let later = first_strays s firsts rests h.1 some in
    let here = most_short_some s x rests h.0 some in
    let whole = most-append s (map (λ y. x ++ y) rests) (each_with firsts rests) in (
      omega (arith, later.0, here, whole),
      each_append (λ choices. common s choices < length choices) (map (λ y. x ++ y) rests) (each_with firsts rests) (short_under s x rests h.0) later.1,
    )

pub strays_first : (s left : List Choice) (firsts rests : List (List Choice)) → 0 < length rests → Strays firsts s left → Strays (each_with firsts rests) s left
strays_first s left firsts rests some h =
    let both = first_strays s firsts rests h.none some in
    record { reached = omega (arith, both.0, h.reached); none = both.1 }

most_under : (x s : List Choice) (rests : List (List Choice)) → 0 < length rests → most (x ++ s) (map (λ y. x ++ y) rests) ≡ length x + most s rests
most_under x s [] some = absurd (omega arith)
most_under x s (y ∷ []) some = omega (arith, common_under x s y)
most_under x s (y ∷ z ∷ rests) some = let later = most_under x s (z ∷ rests) (omega arith) in omega (arith, later, common_under x s y)

under_short : (x s : List Choice) (rests : List (List Choice)) → Short s rests → Short (x ++ s) (map (λ y. x ++ y) rests)
under_short x s [] h = tt
under_short x s (y ∷ rests) h = (omega (arith, common_under x s y, length-append x y, h.0), under_short x s rests h.1)

-- beside the choices that were followed stand some that part from them
beside_most : (xs s : List Choice) (others rests : List (List Choice)) → AllByRecursion (Part xs) others → (most (xs ++ s) (each_with others rests) ≤ length xs) × Short (xs ++ s) (each_with others rests)
beside_most xs s [] rests h = (omega arith, tt)
beside_most xs s (x ∷ others) rests h =
    let here = common_part x xs s h.0 in
    let later = beside_most xs s others rests h.1 in
    let first = most_short (xs ++ s) x rests here.1 in
    let whole = most-append (xs ++ s) (map (λ y. x ++ y) rests) (each_with others rests) in (
      omega (arith, later.0, first, here.0, whole),
      each_append (λ choices. common (xs ++ s) choices < length choices) (map (λ y. x ++ y) rests) (each_with others rests) (short_under (xs ++ s) x rests here.1) later.1,
    )

second_strays : (xs s : List Choice) (firsts rests : List (List Choice)) (i : ℕ) → AllPart firsts → slice_get firsts i ≡ Some xs → Short s rests → 0 < length rests → (most (xs ++ s) (each_with firsts rests) ≡ length xs + most s rests) × Short (xs ++ s) (each_with firsts rests)
second_strays xs s [] rests i part is h some = absurd cc
second_strays xs s (x ∷ firsts) rests zero part is h some =
    let same : x ≡ xs = cc in
    let beside = beside_most xs s firsts rests (subst (λ z. AllByRecursion (Part z) firsts) same part.0) in
    let here = most_under xs s rests some in
    let whole = most-append (xs ++ s) (map (λ y. xs ++ y) rests) (each_with firsts rests) in
    subst (λ z. (most (xs ++ s) (map (λ y. z ++ y) rests ++ each_with firsts rests) ≡ length xs + most s rests) × Short (xs ++ s) (map (λ y. z ++ y) rests ++ each_with firsts rests)) (sym same) (
      omega (arith, beside.0, here, whole),
      each_append (λ choices. common (xs ++ s) choices < length choices) (map (λ y. xs ++ y) rests) (each_with firsts rests) (under_short xs s rests h) beside.1,
    )
second_strays xs s (x ∷ firsts) rests (suc i) part is h some =
    let later = second_strays xs s firsts rests i part.1 is h some in
    let parted = part_sym x xs (at_index (Part x) firsts i xs part.0 is) in
    let here = common_part x xs s parted in
    let first = most_short (xs ++ s) x rests here.1 in
    let whole = most-append (xs ++ s) (map (λ y. x ++ y) rests) (each_with firsts rests) in (
      omega (arith, later.0, first, here.0, whole),
      each_append (λ choices. common (xs ++ s) choices < length choices) (map (λ y. x ++ y) rests) (each_with firsts rests) (short_under (xs ++ s) x rests here.1) later.1,
    )

pub strays_second : (s left rest : List Choice) (firsts rests : List (List Choice)) (i : ℕ) → AllPart firsts → 0 < length rests → Leads firsts s i left → Strays rests left rest → Strays (each_with firsts rests) s rest
strays_second s left rest firsts rests i part some g h =
    let both = second_strays g.choices left firsts rests i part g.is_there h.none some in
    subst (λ t. Strays (each_with firsts rests) t rest) (sym g.follows)
    (record { reached = omega (arith, both.0, h.reached, length-append g.choices left); none = both.1 })

pub strays_none : (s : List Choice) (all : List (List Choice)) → length all ≡ 0 → Strays all s s
strays_none s [] e = strays_untouched s [] tt
strays_none s (x ∷ all) e = absurd (omega (arith, e))

-- ---- behind a choice, and past others

pub leads_behind : (s rest left : List Choice) (choice : Choice) (inner others : List (List Choice)) (i : ℕ) → s ≡ choice ∷ rest → Leads inner rest i left → Leads (behind choice inner ++ others) s i left
leads_behind s rest left choice inner others i e g = record {
  choices = choice ∷ g.choices;
  is_there = at_first (behind choice inner) others i (choice ∷ g.choices) (at_map (λ y. choice ∷ y) inner i g.choices g.is_there);
  follows = e ∙ ap (λ l. choice ∷ l) g.follows;
}

pub leads_past : (s left : List Choice) (xs others : List (List Choice)) (i j : ℕ) → j ≡ length xs + i → Leads others s i left → Leads (xs ++ others) s j left
leads_past s left xs others i j e g = record { choices = g.choices; is_there = at_later xs others i j g.choices e g.is_there; follows = g.follows }

most_behind : (choice : Choice) (rest : List Choice) (inner : List (List Choice)) → 0 < length inner → most (choice ∷ rest) (behind choice inner) ≡ 1 + most rest inner
most_behind choice rest inner some = most_under (choice ∷ []) rest inner some

pub strays_behind : (s rest left : List Choice) (choice : Choice) (inner others : List (List Choice)) → s ≡ choice ∷ rest → 0 < length inner → Untouched (choice ∷ rest) others → Strays inner rest left → Strays (behind choice inner ++ others) s left
strays_behind s rest left choice inner others e some away h =
    let here = most_behind choice rest inner some in
    let none = untouched_most (choice ∷ rest) others away in
    let whole = most-append (choice ∷ rest) (behind choice inner) others in
    subst (λ t. Strays (behind choice inner ++ others) t left) (sym e)
    (record {
      reached = omega (arith, here, none, whole, h.reached);
      none = each_append (λ choices. common (choice ∷ rest) choices < length choices) (behind choice inner) others (under_short (choice ∷ []) rest inner h.none) (untouched_short (choice ∷ rest) others away);
    })

pub strays_empty : (s rest : List Choice) (choice : Choice) (inner others : List (List Choice)) → s ≡ choice ∷ rest → length inner ≡ 0 → Untouched (choice ∷ rest) others → Strays (behind choice inner ++ others) s s
strays_empty s rest choice [] others e none away = strays_untouched s others (subst (λ t. Untouched t others) (sym e) away)
strays_empty s rest choice (x ∷ inner) others e none away = absurd (omega (arith, none))

pub strays_past : (s left : List Choice) (xs others : List (List Choice)) → Untouched s xs → Strays others s left → Strays (xs ++ others) s left
strays_past s left xs others away h = record {
  reached = omega (arith, untouched_most s xs away, most-append s xs others, h.reached);
  none = each_append (λ choices. common s choices < length choices) xs others (untouched_short s xs away) h.none;
}

pub leads_within : (all : List (List Choice)) (s left : List Choice) (i : ℕ) → Leads all s i left → i < length all
leads_within all s left i g = slice_get_within all i g.choices g.is_there

pub stray_by : (some all : List (List Choice)) (s t : List Choice) (stray : Stray) → ((left : List Choice) → Strays some s left → Strays all t left) → IsStray some s stray → IsStray all t stray
stray_by some all s t NoMemory f h = tt
stray_by some all s t (At left) f h = f left.now h

-- what is counted of two parts
pub fits_two : (i j first rest : ℕ) → first * rest ≤ 65536 → i < first → j < rest → (i * rest ≤ 65536) × (i * rest + j ≤ 65536)
fits_two i j first rest few h k =
    let row : (i + 1) * rest ≤ first * rest = more_of (i + 1) first rest (omega arith) in
    (omega (arith, row, few), omega (arith, row, few, k))
  where
    more_of : (a b c : ℕ) → a ≤ b → a * c ≤ b * c
    more_of a b c le = let h = mul-le-mul_left c le in omega (arith, h)

-- ---- the choices of no path

common_itself : (xs : List Choice) → common xs xs ≡ length xs
common_itself [] = refl
common_itself (x ∷ xs) = ap (λ b. if b then common xs xs + 1 else 0) (same_itself x) ∙ ap (λ n. n + 1) (common_itself xs) ∙ omega arith

common_front : (xs s : List Choice) → common (xs ++ s) xs ≡ length xs
common_front [] s = by s
  where
    by : (t : List Choice) → common t [] ≡ 0
    by [] = refl
    by (a ∷ t) = refl
common_front (x ∷ xs) s = ap (λ b. if b then common (xs ++ s) xs + 1 else 0) (same_itself x) ∙ ap (λ n. n + 1) (common_front xs s) ∙ omega arith

short_excludes : (all : List (List Choice)) (s : List Choice) (i : ℕ) → Short s all → slice_get all i ≡ Some s → ⊥
short_excludes all s i h e = let less = at_index (λ choices. common s choices < length choices) all i s h e in let same = common_itself s in absurd (omega (arith, less, same))

pub strays_nowhere : (all : List (List Choice)) (s left : List Choice) (number : ℕ) → number ≡ length s - length left + 1 → Strays all s left → IsNoStep all s number
strays_nowhere all s left number e h = record {
  none = λ i is. short_excludes all s i h.none is;
  first = omega (arith, e, h.reached);
}

others_most : (xs s : List Choice) (others : List (List Choice)) → AllByRecursion (Part xs) others → most (xs ++ s) others ≤ length xs
others_most xs s [] h = omega arith
others_most xs s (x ∷ others) h = let here = common_part x xs s h.0 in let later = others_most xs s others h.1 in omega (arith, here.0, later)

leads_most : (all : List (List Choice)) (xs s : List Choice) (i : ℕ) → AllPart all → slice_get all i ≡ Some xs → most (xs ++ s) all ≡ length xs
leads_most [] xs s i part is = absurd cc
leads_most (x ∷ all) xs s zero part is =
    let same : x ≡ xs = cc in
    let others = others_most xs s all (subst (λ z. AllByRecursion (Part z) all) same part.0) in
    let here = ap (λ z. common (xs ++ s) z) same ∙ common_front xs s in
    omega (arith, here, others)
leads_most (x ∷ all) xs s (suc i) part is =
    let here = common_part x xs s (part_sym x xs (at_index (Part x) all i xs part.0 is)) in
    let later = leads_most all xs s i part.1 is in
    omega (arith, here.0, later)

part_front : (xs s : List Choice) → Part xs (xs ++ s) → ⊥
part_front [] s h = h
part_front (x ∷ xs) s (inl e) = false≢true (sym e ∙ same_itself x)
part_front (x ∷ xs) s (inr h) = part_front xs s h

leads_excludes : (all : List (List Choice)) (xs s : List Choice) (i j : ℕ) → 0 < length s → AllPart all → slice_get all i ≡ Some xs → slice_get all j ≡ Some (xs ++ s) → ⊥
leads_excludes [] xs s i j some part is at = absurd cc
leads_excludes (x ∷ all) xs s zero zero some part is at =
    let same : xs ≡ xs ++ s = cc in
    absurd (omega (arith, ap length same, length-append xs s, some))
leads_excludes (x ∷ all) xs s zero (suc j) some part is at =
    let same : x ≡ xs = cc in
    part_front xs s (subst (λ z. Part z (xs ++ s)) same (at_index (Part x) all j (xs ++ s) part.0 at))
leads_excludes (x ∷ all) xs s (suc i) zero some part is at =
    let same : x ≡ xs ++ s = cc in
    part_front xs s (part_sym (xs ++ s) xs (subst (λ z. Part z xs) same (at_index (Part x) all i xs part.0 is)))
leads_excludes (x ∷ all) xs s (suc i) (suc j) some part is at = leads_excludes all xs s i j some part.1 is at

pub leads_too_far : (all : List (List Choice)) (s left : List Choice) (i number : ℕ) → AllPart all → 0 < length left → number ≡ length s - length left + 1 → Leads all s i left → IsNoStep all s number
leads_too_far all s left i number part some e g = record {
  none = λ j is. leads_excludes all g.choices left i j some part g.is_there (is ∙ ap (λ x. Some x) g.follows);
  first = omega (arith, e, ap (λ x. most x all) g.follows, leads_most all g.choices left i part g.is_there, ap length g.follows, length-append g.choices left);
}

pub part_apart : (all : List (List Choice)) (m n : ℕ) (xs more : List Choice) → AllPart all → slice_get all m ≡ Some xs → slice_get all n ≡ Some (xs ++ more) → m ≡ n
part_apart [] m n xs more part is at = absurd cc
part_apart (x ∷ all) zero zero xs more part is at = refl
part_apart (x ∷ all) zero (suc n) xs more part is at =
    let same : x ≡ xs = cc in
    absurd (part_front xs more (subst (λ z. Part z (xs ++ more)) same (at_index (Part x) all n (xs ++ more) part.0 at)))
part_apart (x ∷ all) (suc m) zero xs more part is at =
    let same : x ≡ xs ++ more = cc in
    absurd (part_front xs more (part_sym (xs ++ more) xs (subst (λ z. Part z xs) same (at_index (Part x) all m xs part.0 is))))
part_apart (x ∷ all) (suc m) (suc n) xs more part is at = ap suc (part_apart all m n xs more part.1 is at)

-- The least number that passes a test, and how many pass.
use Rattle.std.proofs.Common.{◌≡◌, ℕ, ◌+◌, ◌<◌, suc, zero, ⊎_elim, Bool, true, false, Option, None, Some, if◌then◌else◌, refl, ap, sym, ◌∙◌, arith, add-one}
use Rattle.std.specs.Option.{option_or}
use Rattle.std.proofs.lemmas.Bool.{cases_lt}
use Rattle.std.proofs.lemmas.Option.{none-some, same_Some}
use Rattle.tpm_session.specs.Slots.{least_below, count_below}

pub least-none : (test : ℕ → Bool) → least_below test 0 ≡ None
unfolding least_below
least-none test = refl

pub least-suc : (test : ℕ → Bool) (n : ℕ) → least_below test (suc n) ≡ option_or (least_below test n) (if test n then Some n else None)
unfolding least_below
least-suc test n = refl

pub least-more : (test : ℕ → Bool) (n : ℕ) → least_below test n ≡ None → test n ≡ false → least_below test (n + 1) ≡ None
least-more test n none fails = ap (least_below test) (add-one n) ∙ (least-suc test n ∙ rw (none, fails) refl)

pub least-found : (test : ℕ → Bool) (n m : ℕ) → least_below test n ≡ None → test n ≡ true → n < m → least_below test m ≡ Some n
least-found test n zero none passes less = absurd (omega (arith, less))
least-found test n (suc m) none passes less =
    ⊎_elim
    (λ below. least-suc test m ∙ rw (least-found test n m none passes below) refl)
    (λ at. let same : m ≡ n = omega (arith, less, at) in ap (λ k. least_below test (suc k)) same ∙ (least-suc test n ∙ rw (none, passes) refl))
    (cases_lt n m)

-- what passes below, where none does
pub none-below : (test : ℕ → Bool) (n : ℕ) → least_below test n ≡ None → (k : ℕ) → k < n → test k ≡ false
none-below test zero none k less = absurd (omega (arith, less))
none-below test (suc n) none k less =
    at (least_below test n) refl (test n) refl (sym (least-suc test n) ∙ none) (λ h. none-below test n h k)
  where
    last : (k < n → test k ≡ false) → test n ≡ false → test k ≡ false
    last earlier fails = ⊎_elim earlier (λ ge. let same : k ≡ n = omega (arith, less, ge) in ap test same ∙ fails) (cases_lt k n)

    at : (found : Option ℕ) → least_below test n ≡ found → (b : Bool) → test n ≡ b → option_or found (if b then Some n else None) ≡ None → (least_below test n ≡ None → k < n → test k ≡ false) → test k ≡ false
    at None h false fails e earlier = last (earlier h) fails
    at None h true passes e earlier = absurd (none-some n (sym e))
    at (Some found) h b passes e earlier = absurd (none-some found (sym e))

-- the least passes, is below the bound, and no smaller one passes
pub record IsLeast (test : ℕ → Bool) (n found : ℕ) : Type 0 where
  pub within : found < n
  pub passes : test found ≡ true
  pub first : (k : ℕ) → k < found → test k ≡ false

pub least-is : (test : ℕ → Bool) (n found : ℕ) → least_below test n ≡ Some found → IsLeast test n found
least-is test zero found h = absurd (none-some found (sym (least-none test) ∙ h))
least-is test (suc n) found h = at (least_below test n) refl (test n) refl (sym (least-suc test n) ∙ h) (least-is test n found)
  where
    at : (before : Option ℕ) → least_below test n ≡ before → (b : Bool) → test n ≡ b → option_or before (if b then Some n else None) ≡ Some found → (least_below test n ≡ Some found → IsLeast test n found) → IsLeast test (suc n) found
    at None none true passes e earlier =
        let same : n ≡ found = same_Some n found e in
        record { within = omega arith; passes = ap test (sym same) ∙ passes; first = λ k less. none-below test n none k (omega (arith, less, same)) }
    at None none false passes e earlier = absurd (none-some found e)
    at (Some before) some b passes e earlier =
        let least = earlier (some ∙ e) in
        record { within = omega (arith, least.within); passes = least.passes; first = least.first }

pub count-none : (test : ℕ → Bool) → count_below test 0 ≡ 0
unfolding count_below
count-none test = refl

pub count-suc : (test : ℕ → Bool) (n : ℕ) → count_below test (suc n) ≡ count_below test n + (if test n then 1 else 0)
unfolding count_below
count-suc test n = refl

pub count-passed : (test : ℕ → Bool) (n : ℕ) → test n ≡ true → count_below test (n + 1) ≡ count_below test n + 1
count-passed test n passes = ap (count_below test) (add-one n) ∙ (count-suc test n ∙ rw passes refl)

pub count-failed : (test : ℕ → Bool) (n : ℕ) → test n ≡ false → count_below test (n + 1) ≡ count_below test n
count-failed test n fails = ap (count_below test) (add-one n) ∙ (count-suc test n ∙ rw fails (omega arith))

-- Sets of PCRs that are filled without a fault: each is one of 24.
use Rattle.std.proofs.Common.{◌≡◌, ◌≢◌, ◌+◌, ◌<◌, ◌≤◌, ◌^◌, ◌/◌, ◌%◌, ℕ, Bool, true, false, List, [], ◌∷◌, map, refl, ap, sym, ◌∙◌, arith, get_or, cond, subst, inl, inr}
use Rattle.std.proofs.Math.Pow.{pow-lt}
use Rattle.std.proofs.lemmas.Bool.{cases_Bool, eq-eqb, false≢true, ltb-true}
use Rattle.std.proofs.lemmas.List.Elements.{All-from_recursion}
use Rattle.std.proofs.lemmas.Nat.{or_lt}
use Rattle.std.specs.List.{AllByRecursion, range_with_len}
use Rattle.std.specs.Prelude.{Option, Result, Err, bit_or, filter, fold}
use Rattle.tpol_base.specs.declared.digest.Digest32.{Digest32}
use Rattle.tpol_base.specs.Handle.{is_pcr}
use Rattle.tpol_base.specs.Pcr.{is_in_mask, mask_of_pcrs, pcrs_of_mask}
use Rattle.tpol_fill.proofs.WellFormedLemmas.{no_first, no_second}
use Rattle.tpol_fill.specs.declared.fault.FillKind.{FillKind}
use Rattle.tpol_fill.specs.Filling.{current_faults, value_faults}
use Rattle.tpol_fill.specs.Outcome.{Fault, each_fault, faults_of}
use Rattle.tpol_json.specs.declared.place.Place.{Place}
use Rattle.tpol_json.specs.Places.{at_item}
use Rattle.tpol_name.specs.declared.sight.Sight.{Sight}

-- what has no fault passed the test
passed : (test : Bool) (fault : Fault) → cond test [] (fault ∷ []) ≡ [] → test ≡ true
passed true fault clear = refl
passed false fault clear = cc

was_there : (test : Bool) (found : Result Digest32 FillKind) (kind : FillKind) (place : Place) → faults_of (cond test found (Err kind)) place ≡ [] → test ≡ true
was_there true found kind place clear = refl
was_there false found kind place clear = cc

-- ---- PCRs with their values

mask_from : (list : Place) (n mask : ℕ) (values : List (ℕ × Digest32)) → each_fault (value_faults list) n values ≡ [] → mask < 2 ^ 24 → fold (λ mask pcr. bit_or mask (2 ^ pcr)) mask (map (λ v. v.0) values) < 2 ^ 24
mask_from list n mask [] clear small = small
mask_from list n mask (value ∷ values) clear small =
    let one_of_24 : value.0 < 24 = ltb-true _ _ (passed (is_pcr value.0) _ (no_first _ _ clear)) in
    mask_from list (n + 1) (bit_or mask (2 ^ value.0)) values (no_second _ _ clear) (or_lt 24 mask (2 ^ value.0) small (pow-lt one_of_24))

pub written_mask : (list : Place) (values : List (ℕ × Digest32)) → each_fault (value_faults list) 0 values ≡ [] → mask_of_pcrs (map (λ v. v.0) values) < 2 ^ 24
written_mask list values clear = mask_from list 0 0 values clear (omega arith)

-- ---- current PCRs

current_below : (sight : Option Sight) (list : Place) (n : ℕ) (pcrs : List ℕ) → each_fault (current_faults sight list) n pcrs ≡ [] → AllByRecursion (λ pcr. pcr < 24) pcrs
current_below sight list n [] clear = tt
current_below sight list n (pcr ∷ pcrs) clear =
    (ltb-true _ _ (was_there (is_pcr pcr) _ _ (at_item list n) (no_first _ _ clear)), current_below sight list (n + 1) pcrs (no_second _ _ clear))

-- what holds of the items that are left holds of each item that passes the test
of_filtered : (test : ℕ → Bool) (P : ℕ → Type 0) (items : List ℕ) → AllByRecursion P (filter test items) → AllByRecursion (λ item. test item ≡ true → P item) items
of_filtered test P [] h = tt
of_filtered test P (item ∷ items) h =
    elim (cases_Bool (test item)) [
      | inl passes ↦
          let both : AllByRecursion P (item ∷ filter test items) = subst (AllByRecursion P) (ap (λ b. cond b (item ∷ filter test items) (filter test items)) passes) h in
          ((λ _. both.0), of_filtered test P items both.1)
      | inr fails ↦
          let rest : AllByRecursion P (filter test items) = subst (AllByRecursion P) (ap (λ b. cond b (item ∷ filter test items) (filter test items)) fails) h in
          ((λ passes. absurd (false≢true (sym fails ∙ passes))), of_filtered test P items rest)
    ]

-- a set of 32 bits that has none of the last eight has 24
halved : (mask : ℕ) → mask < 2 ^ 32
    → mask / 2 ^ 31 % 2 ≢ 1 → mask / 2 ^ 30 % 2 ≢ 1 → mask / 2 ^ 29 % 2 ≢ 1 → mask / 2 ^ 28 % 2 ≢ 1
    → mask / 2 ^ 27 % 2 ≢ 1 → mask / 2 ^ 26 % 2 ≢ 1 → mask / 2 ^ 25 % 2 ≢ 1 → mask / 2 ^ 24 % 2 ≢ 1 → mask < 2 ^ 24
halved mask small a b c d e f g h =
    let at_31 : mask < 2 ^ 31 = omega (arith, a) in
    let at_30 : mask < 2 ^ 30 = omega (arith, b) in
    let at_29 : mask < 2 ^ 29 = omega (arith, c) in
    let at_28 : mask < 2 ^ 28 = omega (arith, d) in
    let at_27 : mask < 2 ^ 27 = omega (arith, e) in
    let at_26 : mask < 2 ^ 26 = omega (arith, f) in
    let at_25 : mask < 2 ^ 25 = omega (arith, g) in
    omega (arith, h)

not_there : (mask pcr : ℕ) → 24 ≤ pcr → (is_in_mask mask pcr ≡ true → pcr < 24) → mask / 2 ^ pcr % 2 ≢ 1
not_there mask pcr above there = λ one. absurd (omega (arith, there (eq-eqb _ _ one)))

pub current_mask : (sight : Option Sight) (list : Place) (mask : ℕ) → each_fault (current_faults sight list) 0 (pcrs_of_mask mask) ≡ [] → mask < 2 ^ 32 → mask < 2 ^ 24
unfolding pcrs_of_mask
current_mask sight list mask clear small =
    let below : (i : ℕ) → i < 32 → is_in_mask mask (get_or (range_with_len 0 32) i 0) ≡ true → get_or (range_with_len 0 32) i 0 < 24 =
    λ i h. All-from_recursion (λ pcr. is_in_mask mask pcr ≡ true → pcr < 24) (range_with_len 0 32) (of_filtered (is_in_mask mask) (λ pcr. pcr < 24) (range_with_len 0 32) (current_below sight list 0 _ clear)) i 0 h in
    halved mask small
    (not_there mask 31 (omega arith) (below 31 (omega arith)))
    (not_there mask 30 (omega arith) (below 30 (omega arith)))
    (not_there mask 29 (omega arith) (below 29 (omega arith)))
    (not_there mask 28 (omega arith) (below 28 (omega arith)))
    (not_there mask 27 (omega arith) (below 27 (omega arith)))
    (not_there mask 26 (omega arith) (below 26 (omega arith)))
    (not_there mask 25 (omega arith) (below 25 (omega arith)))
    (not_there mask 24 (omega arith) (below 24 (omega arith)))

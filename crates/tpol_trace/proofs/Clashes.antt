-- Where no clash and no string of digest zero is found, there is none.
use Rattle.std.proofs.Common.{◌≡◌, ◌≢◌, ℕ, Bool, true, false, List, [], ◌∷◌, Option, Some, None, inl, inr, refl, sym, ap, ◌∙◌, not}
use Rattle.std.specs.Prelude.{if◌then◌else◌}
use Rattle.std.specs.Bool.{Decides}
use Rattle.std.specs.List.{flat_map, AllByRecursion}
use Rattle.std.specs.Str.{bytes_eq}
use Rattle.std.proofs.lemmas.Bool.Decides.{Decides-not, not_from_Decides}
use Rattle.std.proofs.lemmas.Slice.Eq.{bytes_eq-Decides}
use Rattle.tpol_base.proofs.Digests.{same_digest}
use Rattle.tpol_base.specs.declared.digest.Digest32.{Digest32}
use Rattle.tpol_hash.specs.Sha256.{sha256_digest}
use Rattle.tpol_digest.specs.Digest.{zero_digest}
use Rattle.tpol_trace.specs.Openings.{is_clash, clash_with, pair_or, first_clash, first_zero}
use Rattle.tpol_trace.proofs.Strings.{IsSane, each_left, each_right}
use Rattle.tpol_trace.proofs.Deciding.{and_Decides, Decides-by}
use Rattle.tpol_trace.proofs.WaysBack.{IsIn}

pub digest_test_Decides : (a b : Digest32) → Decides (bytes_eq a.bytes b.bytes) (a ≡ b)
digest_test_Decides a b =
    Decides-by (bytes_eq a.bytes b.bytes) (λ e. same_digest a b e) (λ e. ap (λ (d : Digest32). d.bytes) e) (bytes_eq-Decides a.bytes b.bytes)

-- two different strings of one digest
pub clash_Decides : (a b : List ℕ) → Decides (is_clash a b) ((a ≢ b) × (sha256_digest a ≡ sha256_digest b))
clash_Decides a b =
    and_Decides (not (bytes_eq a b)) (bytes_eq (sha256_digest a).bytes (sha256_digest b).bytes) (Decides-not (bytes_eq a b) (bytes_eq-Decides a b)) (digest_test_Decides (sha256_digest a) (sha256_digest b))

-- a choice that gives nothing
pub none_of_choice : {A : Type 0} (b : Bool) (x : A) (rest : Option A) → (if b then Some x else rest) ≡ None → (b ≡ false) × (rest ≡ None)
none_of_choice true x rest e = cc e
none_of_choice false x rest e = (refl, e)

pub none_of_pair : (string : List ℕ) (other : Option (List ℕ)) (pair : Option (List ℕ × List ℕ)) → pair_or string other pair ≡ None → (other ≡ None) × (pair ≡ None)
none_of_pair string (Some x) pair e = cc e
none_of_pair string None pair e = (refl, e)

-- a string that clashes with none of these is the one of its digest
same_if_no_clash : (a b : List ℕ) → is_clash a b ≡ false → sha256_digest a ≡ sha256_digest b → a ≡ b
same_if_no_clash a b none e = by_test (bytes_eq a b) refl
  where
    by_test : (t : Bool) → bytes_eq a b ≡ t → a ≡ b
    by_test true is = (bytes_eq-Decides a b).0 is
    by_test false is =
        absurd (not_from_Decides (is_clash a b) (clash_Decides a b) none (not_from_Decides (bytes_eq a b) (bytes_eq-Decides a b) is, e))

one_with : (string : List ℕ) (rest : List (List ℕ)) → clash_with string rest ≡ None → (t : List ℕ) → IsIn t rest → sha256_digest string ≡ sha256_digest t → string ≡ t
one_with string [] none t h e = absurd h
one_with string (x ∷ rest) none t (inl is) e =
    same_if_no_clash string x (none_of_choice (is_clash string x) x (clash_with string rest) none).0 (e ∙ ap sha256_digest is) ∙ sym is
one_with string (x ∷ rest) none t (inr h) e =
    one_with string rest (none_of_choice (is_clash string x) x (clash_with string rest) none).1 t h e

pub one_of_digest : (strings : List (List ℕ)) → first_clash strings ≡ None → (s t : List ℕ) → IsIn s strings → IsIn t strings → sha256_digest s ≡ sha256_digest t → s ≡ t
one_of_digest [] none s t h k e = absurd h
one_of_digest (x ∷ rest) none s t (inl a) (inl b) e = a ∙ sym b
one_of_digest (x ∷ rest) none s t (inl a) (inr k) e =
    a ∙ one_with x rest (none_of_pair x (clash_with x rest) (first_clash rest) none).0 t k (ap sha256_digest (sym a) ∙ e)
one_of_digest (x ∷ rest) none s t (inr h) (inl b) e =
    sym (one_with x rest (none_of_pair x (clash_with x rest) (first_clash rest) none).0 s h (ap sha256_digest (sym b) ∙ sym e)) ∙ sym b
one_of_digest (x ∷ rest) none s t (inr h) (inr k) e =
    one_of_digest rest (none_of_pair x (clash_with x rest) (first_clash rest) none).1 s t h k e

pub none_zero : (strings : List (List ℕ)) → first_zero strings ≡ None → (s : List ℕ) → IsIn s strings → sha256_digest s ≡ zero_digest → ⊥
none_zero [] none s h e = absurd h
none_zero (x ∷ rest) none s (inl a) e =
    not_from_Decides (bytes_eq (sha256_digest x).bytes zero_digest.bytes) (digest_test_Decides (sha256_digest x) zero_digest) (none_of_choice (bytes_eq (sha256_digest x).bytes zero_digest.bytes) x (first_zero rest) none).0 (ap sha256_digest (sym a) ∙ e)
none_zero (x ∷ rest) none s (inr h) e =
    none_zero rest (none_of_choice (bytes_eq (sha256_digest x).bytes zero_digest.bytes) x (first_zero rest) none).1 s h e

pub sane_strings : (strings : List (List ℕ)) → first_clash strings ≡ None → first_zero strings ≡ None → IsSane (λ s. IsIn s strings)
sane_strings strings no_clash no_zero = record { one = one_of_digest strings no_clash; some = none_zero strings no_zero }

-- each string of a list is in it
each_among : (xs strings : List (List ℕ)) → ((s : List ℕ) → IsIn s xs → IsIn s strings) → AllByRecursion (λ s. IsIn s strings) xs
each_among [] strings f = tt
each_among (x ∷ rest) strings f = (f x (inl refl), each_among rest strings (λ s h. f s (inr h)))

pub each_in : (strings : List (List ℕ)) → AllByRecursion (λ s. IsIn s strings) strings
each_in strings = each_among strings strings (λ s h. h)

-- strings of several things, thing by thing
pub each_by : {A B : Type 0} (P : B → Type 0) (f : A → List B) (xs : List A) → AllByRecursion P (flat_map f xs) → AllByRecursion (λ x. AllByRecursion P (f x)) xs
each_by P f [] h = tt
each_by P f (x ∷ rest) h = (
  each_left P (f x) (flat_map f rest) h,
  each_by P f rest (each_right P (f x) (flat_map f rest) h),
)

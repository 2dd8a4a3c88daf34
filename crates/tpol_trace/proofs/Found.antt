-- What the search for a clash or a zero digest finds is the first one.
use Rattle.std.proofs.Common.{◌≡◌, ◌≢◌, ℕ, zero, suc, ◌<◌, ◌≤◌, Bool, true, false, List, [], ◌∷◌, Option, Some, None, inl, inr, refl, sym, ap, ◌∙◌, subst, arith, get_or}
use Rattle.std.specs.Prelude.{◌⊎◌, if◌then◌else◌, Any, slice_get}
use Rattle.std.specs.Str.{bytes_eq}
use Rattle.std.proofs.lemmas.Bool.{false≢true}
use Rattle.std.proofs.lemmas.Bool.Decides.{not_from_Decides}
use Rattle.std.proofs.lemmas.Option.{slice_get_within}
use Rattle.tpol_hash.specs.Sha256.{sha256_digest}
use Rattle.tpol_digest.specs.Digest.{zero_digest}
use Rattle.tpol_trace.specs.Openings.{IsClash, IsFirstClash, NoClash, IsFirstZero, is_clash, clash_with, pair_or, first_clash, first_zero}
use Rattle.tpol_trace.proofs.Clashes.{digest_test_Decides, clash_Decides, none_of_choice, none_of_pair}

-- the first string that clashes with one, by its place
record IsFirstWith (string : List ℕ) (rest : List (List ℕ)) (other : List ℕ) : Type 0 where
  pub j : ℕ
  pub listed : slice_get rest j ≡ Some other
  pub clash : is_clash string other ≡ true
  pub least : (l : ℕ) (b : List ℕ) → slice_get rest l ≡ Some b → is_clash string b ≡ true → j ≤ l

none_with : (string : List ℕ) (rest : List (List ℕ)) → clash_with string rest ≡ None → (l : ℕ) (b : List ℕ) → slice_get rest l ≡ Some b → is_clash string b ≡ true → ⊥
none_with string [] none l b e h = cc e
none_with string (x ∷ rest) none zero b e h =
    let same : x ≡ b = cc e in
    false≢true (sym (none_of_choice (is_clash string x) x (clash_with string rest) none).0 ∙ ap (is_clash string) same ∙ h)
none_with string (x ∷ rest) none (suc l) b e h =
    none_with string rest (none_of_choice (is_clash string x) x (clash_with string rest) none).1 l b e h

first_with : (string : List ℕ) (rest : List (List ℕ)) (other : List ℕ) → clash_with string rest ≡ Some other → IsFirstWith string rest other
first_with string [] other e = cc e
first_with string (x ∷ rest) other e = by_test (is_clash string x) refl e (first_with string rest other)
  where
    by_test : (t : Bool) → is_clash string x ≡ t → (if t then Some x else clash_with string rest) ≡ Some other → (clash_with string rest ≡ Some other → IsFirstWith string rest other) → IsFirstWith string (x ∷ rest) other
    by_test true is found later =
        let same : x ≡ other = cc found in
        record { j = 0; listed = found; clash = ap (is_clash string) (sym same) ∙ is; least = λ l b at h. omega arith }
    by_test false is found later =
        let f = later found in
        record { j = suc f.j; listed = f.listed; clash = f.clash; least = least_below f }
      where
        least_below : (f : IsFirstWith string rest other) (l : ℕ) (b : List ℕ) → slice_get (x ∷ rest) l ≡ Some b → is_clash string b ≡ true → suc f.j ≤ l
        least_below f zero b at h =
            let same : x ≡ b = cc at in
            absurd (false≢true (sym is ∙ ap (is_clash string) same ∙ h))
        least_below f (suc l) b at h = let m = f.least l b at h in omega arith

is_clash_of : (strings : List (List ℕ)) (i j : ℕ) (a b : List ℕ) → IsClash strings i j a b → is_clash a b ≡ true
is_clash_of strings i j a b c = (clash_Decides a b).1 (c.different, c.one_digest)

-- a clash of a longer list is of its head, or of the rest
pub no_clash : (strings : List (List ℕ)) → first_clash strings ≡ None → NoClash strings
no_clash [] none i j a b c = let e = c.first_listed in cc e
no_clash (x ∷ rest) none zero zero a b c = let l = c.order in absurd (omega arith)
no_clash (x ∷ rest) none zero (suc j) a b c =
    let e = c.first_listed in
    let same : x ≡ a = cc e in
    none_with x rest (none_of_pair x (clash_with x rest) (first_clash rest) none).0 j b c.second_listed (ap (λ s. is_clash s b) same ∙ is_clash_of (x ∷ rest) 0 (suc j) a b c)
no_clash (x ∷ rest) none (suc i) zero a b c = let l = c.order in absurd (omega arith)
no_clash (x ∷ rest) none (suc i) (suc j) a b c =
    no_clash rest (none_of_pair x (clash_with x rest) (first_clash rest) none).1 i j a b (record { order = (let l = c.order in omega arith); first_listed = c.first_listed; second_listed = c.second_listed; different = c.different; one_digest = c.one_digest })

-- a clash of the rest is one of the whole list, and the other way
deeper : (x : List ℕ) (rest : List (List ℕ)) (i j : ℕ) (a b : List ℕ) → IsClash rest i j a b → IsClash (x ∷ rest) (suc i) (suc j) a b
deeper x rest i j a b c =
    record { order = (let l = c.order in omega arith); first_listed = c.first_listed; second_listed = c.second_listed; different = c.different; one_digest = c.one_digest }

least_of_head : (x other : List ℕ) (rest : List (List ℕ)) (f : IsFirstWith x rest other) (k l : ℕ) (a b : List ℕ) → IsClash (x ∷ rest) k l a b → (0 < k) ⊎ ((0 ≡ k) × (suc f.j ≤ l))
least_of_head x other rest f zero zero a b c = let l = c.order in absurd (omega arith)
least_of_head x other rest f zero (suc l) a b c =
    let e = c.first_listed in
    let same : x ≡ a = cc e in
    let m = f.least l b c.second_listed (ap (λ s. is_clash s b) same ∙ is_clash_of (x ∷ rest) 0 (suc l) a b c) in
    inr (refl, omega arith)
least_of_head x other rest f (suc k) l a b c = inl (omega arith)

least_of_rest : (x first second : List ℕ) (rest : List (List ℕ)) → clash_with x rest ≡ None → (r : IsFirstClash rest first second) (k l : ℕ) (a b : List ℕ) → IsClash (x ∷ rest) k l a b → (suc r.i < k) ⊎ ((suc r.i ≡ k) × (suc r.j ≤ l))
least_of_rest x first second rest none r zero zero a b c = let l = c.order in absurd (omega arith)
least_of_rest x first second rest none r zero (suc l) a b c =
    let e = c.first_listed in
    let same : x ≡ a = cc e in
    absurd (none_with x rest none l b c.second_listed (ap (λ s. is_clash s b) same ∙ is_clash_of (x ∷ rest) 0 (suc l) a b c))
least_of_rest x first second rest none r (suc k) zero a b c = let l = c.order in absurd (omega arith)
least_of_rest x first second rest none r (suc k) (suc l) a b c =
    elim (r.least k l a b (record { order = (let o = c.order in omega arith); first_listed = c.first_listed; second_listed = c.second_listed; different = c.different; one_digest = c.one_digest })) [
      | inl less ↦ inl (omega arith)
      | inr p ↦ let e = p.0 in let m = p.1 in inr (ap suc e, omega arith)
    ]

pub clash_found : (strings : List (List ℕ)) (pair : List ℕ × List ℕ) → first_clash strings ≡ Some pair → IsFirstClash strings pair.0 pair.1
clash_found [] pair e = cc e
clash_found (x ∷ rest) pair e = by_with (clash_with x rest) refl e (clash_found rest pair)
  where
    by_with : (found : Option (List ℕ)) → clash_with x rest ≡ found → pair_or x found (first_clash rest) ≡ Some pair → (first_clash rest ≡ Some pair → IsFirstClash rest pair.0 pair.1) → IsFirstClash (x ∷ rest) pair.0 pair.1
    by_with (Some other) is found later =
        let f = first_with x rest other is in
        let d = (clash_Decides x other).0 f.clash in
        let same : (x, other) ≡ pair = cc found in
        subst (λ p. IsFirstClash (x ∷ rest) p.0 p.1) same (record {
          i = 0;
          j = suc f.j;
          clash = record { order = omega arith; first_listed = refl; second_listed = f.listed; different = d.0; one_digest = d.1 };
          least = least_of_head x other rest f;
        })
    by_with None is found later =
        let r = later found in
        record { i = suc r.i; j = suc r.j; clash = deeper x rest r.i r.j pair.0 pair.1 r.clash; least = least_of_rest x pair.0 pair.1 rest is r }

pub zero_found : (strings : List (List ℕ)) (string : List ℕ) → first_zero strings ≡ Some string → IsFirstZero strings string
zero_found [] string e = cc e
zero_found (x ∷ rest) string e = by_test (bytes_eq (sha256_digest x).bytes zero_digest.bytes) refl e (zero_found rest string)
  where
    by_test : (t : Bool) → bytes_eq (sha256_digest x).bytes zero_digest.bytes ≡ t → (if t then Some x else first_zero rest) ≡ Some string → (first_zero rest ≡ Some string → IsFirstZero rest string) → IsFirstZero (x ∷ rest) string
    by_test true is found later =
        let same : x ≡ string = cc found in
        record { i = 0; listed = found; zero = ap sha256_digest (sym same) ∙ (digest_test_Decides (sha256_digest x) zero_digest).0 is; first = λ k earlier less at. absurd (omega arith) }
    by_test false is found later =
        let r = later found in
        record { i = suc r.i; listed = r.listed; zero = r.zero; first = first_below r }
      where
        first_below : (r : IsFirstZero rest string) (k : ℕ) (earlier : List ℕ) → k < suc r.i → slice_get (x ∷ rest) k ≡ Some earlier → sha256_digest earlier ≢ zero_digest
        first_below r zero earlier less at =
            let same : x ≡ earlier = cc at in
            λ h. not_from_Decides (bytes_eq (sha256_digest x).bytes zero_digest.bytes) (digest_test_Decides (sha256_digest x) zero_digest) is (ap sha256_digest same ∙ h)
        first_below r (suc k) earlier less at = r.first k earlier (omega arith) at

-- so the strings are broken
pub broken_clash : (strings : List (List ℕ)) (pair : List ℕ × List ℕ) → first_clash strings ≡ Some pair → (i : ℕ) × (j : ℕ) × (a : List ℕ) × (b : List ℕ) × IsClash strings i j a b
broken_clash strings pair e = let f = clash_found strings pair e in (f.i, f.j, pair.0, pair.1, f.clash)

item_at : (strings : List (List ℕ)) (i : ℕ) (string : List ℕ) → slice_get strings i ≡ Some string → get_or strings i string ≡ string
item_at [] i string e = cc e
item_at (x ∷ rest) zero string e = cc
item_at (x ∷ rest) (suc i) string e = item_at rest i string e

zero_any : (strings : List (List ℕ)) (i : ℕ) (string : List ℕ) → slice_get strings i ≡ Some string → sha256_digest string ≡ zero_digest → Any (λ s. sha256_digest s ≡ zero_digest) strings
zero_any strings i string at h = (i, string, slice_get_within strings i string at, item_at strings i string at, h)

pub broken_zero : (strings : List (List ℕ)) (string : List ℕ) → first_zero strings ≡ Some string → Any (λ s. sha256_digest s ≡ zero_digest) strings
broken_zero strings string e = let f = zero_found strings string e in zero_any strings f.i string f.listed f.zero

-- What is read is spelled so, and what is spelled so is read.
use Rattle.std.proofs.Common.{◌≡◌, ℕ, zero, suc, ◌+◌, ◌^◌, ◌<◌, ◌≤◌, Bool, true, false, ltb, List, [], ◌∷◌, ◌++◌, length, get_or, take, drop, Option, Some, None, refl, sym, ap, subst, ◌∙◌, append_assoc, arith, inl, inr}
use Rattle.std.specs.Prelude.{⊤, ◌==◌, if◌then◌else◌}
use Rattle.std.specs.Int.{Width, w16, w32, byte_len, from_be_bytes, to_be_bytes}
use Rattle.std.specs.List.{flat_map, AllByRecursion}
use Rattle.std.specs.Option.{option_and_then, option_map}
use Rattle.std.specs.Str.{bytes_eq}
use Rattle.std.proofs.lemmas.Bool.{cases_lt, eqb-true, ltb-false, le-ltb}
use Rattle.std.proofs.lemmas.List.{append-nil, nil_from_length, take_at, drop_at, take-append-drop, length-append, length-take, get_or-drop, get_or-take, get_or_past}
use Rattle.std.proofs.lemmas.Slice.Eq.{bytes_eq-Decides}
use Rattle.std.proofs.lemmas.Nat.{be_bytes_2, be_bytes_4, from_be_bytes-to_be_bytes_2, from_be_bytes-to_be_bytes_4}
use Rattle.tpol_base.specs.declared.digest.Digest32.{Digest32}
use Rattle.tpol_base.specs.Digest.{digest_of_bytes}
use Rattle.tpol_base.proofs.Digests.{digest_of_whole, digest_again}
use Rattle.tpol_cert.specs.declared.certificate.Certificate.{Certificate}
use Rattle.tpol_cert.specs.declared.choice.Choice.{Choice}
use Rattle.tpol_cert.specs.declared.choice.Choice.TheVariants.{Branch, Document, Outside}
use Rattle.tpol_cert.specs.Reading.{Reader, number_in, choice_in, digest_in, many_in, list_in, certificate_in}
use Rattle.tpol_cert.specs.Spelling.{ChoiceFits, Fits, magic, spelled, spelled_choice, spelled_choices, spelled_digests}

abbrev pub IsBytes : List ℕ → Type 0
IsBytes bytes = (i : ℕ) → get_or bytes i 0 < 256

IsBytes-drop : (n : ℕ) (bytes : List ℕ) → IsBytes bytes → IsBytes (drop n bytes)
IsBytes-drop n bytes h i = rw get_or-drop (h (n + i))

IsBytes-take : (n : ℕ) (bytes : List ℕ) → IsBytes bytes → IsBytes (take n bytes)
IsBytes-take n bytes h i =
    elim (cases_lt i n) [
      | inl lt ↦ rw (get_or-take n bytes i 0 lt) (h i)
      | inr le ↦ rw (get_or_past (take n bytes) i 0 (omega (arith, length-take n bytes))) (omega arith)
    ]

IsBytes-rest : (b : ℕ) (bytes : List ℕ) → IsBytes (b ∷ bytes) → IsBytes bytes
IsBytes-rest b bytes h i = h (suc i)

-- ---- steps of a reading

then_some : {A B : Type 0} (o : Option A) (f : A → Option B) (y : B) → option_and_then f o ≡ Some y → (x : A) × (o ≡ Some x) × (f x ≡ Some y)
then_some (Some x) f y e = (x, refl, e)
then_some None f y e = absurd cc

map_some : {A B : Type 0} (o : Option A) (f : A → B) (y : B) → option_map f o ≡ Some y → (x : A) × (o ≡ Some x) × (f x ≡ y)
map_some (Some x) f y e = (x, refl, cc)
map_some None f y e = absurd cc

unless_some : {A : Type 0} (b : Bool) (x y : A) → (if b then None else Some x) ≡ Some y → (b ≡ false) × (x ≡ y)
unless_some true x y e = absurd cc
unless_some false x y e = (refl, cc)

if_some : {A : Type 0} (b : Bool) (o : Option A) (y : A) → (if b then o else None) ≡ Some y → (b ≡ true) × (o ≡ Some y)
if_some true o y e = (refl, e)
if_some false o y e = absurd cc

some_is : {A : Type 0} (x y : A) → Some x ≡ Some y → x ≡ y
some_is x y e = cc

-- what was taken from the front
pub record Takes (bytes text rest : List ℕ) : Type 0 where
  pub parts : bytes ≡ text ++ rest
  pub rest_fits : IsBytes rest

takes_then : (a x b y c : List ℕ) → Takes a x b → Takes b y c → Takes a (x ++ y) c
takes_then a x b y c p q = record { parts = p.parts ∙ ap (λ (t : List ℕ). x ++ t) q.parts ∙ sym (append_assoc x y c); rest_fits = q.rest_fits }

takes_behind : (b : ℕ) (bytes text rest : List ℕ) → Takes bytes text rest → Takes (b ∷ bytes) (b ∷ text) rest
takes_behind b bytes text rest t = record { parts = ap (λ (l : List ℕ). b ∷ l) t.parts; rest_fits = t.rest_fits }

-- ---- numbers

pub record IsWide (w : Width) (limit : ℕ) : Type 0 where
  pub len : (n : ℕ) → length (to_be_bytes w n) ≡ byte_len w
  pub back : (bytes : List ℕ) → length bytes ≡ byte_len w → IsBytes bytes → to_be_bytes w (from_be_bytes w bytes) ≡ bytes
  pub again : (n : ℕ) → n < limit → from_be_bytes w (to_be_bytes w n) ≡ n
  pub below : (bytes : List ℕ) → IsBytes bytes → from_be_bytes w bytes < limit

wide16 : IsWide w16 (2 ^ 16)
wide16 = record {
  len = λ n. refl;
  back = λ bytes len fits. be_bytes_2 bytes _ len fits refl;
  again = λ n lt. from_be_bytes-to_be_bytes_2 n lt;
  below = λ bytes fits. omega (arith, fits 0, fits 1);
}

wide32 : IsWide w32 (2 ^ 32)
wide32 = record {
  len = λ n. refl;
  back = λ bytes len fits. be_bytes_4 bytes _ len fits refl;
  again = λ n lt. from_be_bytes-to_be_bytes_4 n lt;
  below = λ bytes fits. omega (arith, fits 0, fits 1, fits 2, fits 3);
}

number_takes : (w : Width) (limit : ℕ) (wide : IsWide w limit) (bytes : List ℕ) (n : ℕ) (rest : List ℕ) → IsBytes bytes → number_in w bytes ≡ Some (n, rest) → Takes bytes (to_be_bytes w n) rest × (n < limit)
number_takes w limit wide bytes n rest fits e =
    let g = unless_some (ltb (length bytes) (byte_len w)) (from_be_bytes w (take (byte_len w) bytes), drop (byte_len w) bytes) (n, rest) e in
    let long : byte_len w ≤ length bytes = ltb-false _ _ g.0 in
    let n-is : from_be_bytes w (take (byte_len w) bytes) ≡ n = ap (λ (p : ℕ × List ℕ). p.0) g.1 in
    let rest-is : drop (byte_len w) bytes ≡ rest = ap (λ (p : ℕ × List ℕ). p.1) g.1 in
    let front : to_be_bytes w n ≡ take (byte_len w) bytes = rw (← n-is) (wide.back (take (byte_len w) bytes) (omega (arith, length-take (byte_len w) bytes)) (IsBytes-take (byte_len w) bytes fits)) in
    (record { parts = rw (front, ← rest-is) (sym (take-append-drop (byte_len w) bytes)); rest_fits = rw (← rest-is) (IsBytes-drop (byte_len w) bytes fits) }, rw (← n-is) (wide.below (take (byte_len w) bytes) (IsBytes-take (byte_len w) bytes fits)))

number_again : (w : Width) (limit : ℕ) (wide : IsWide w limit) (n : ℕ) (rest : List ℕ) → n < limit → number_in w (to_be_bytes w n ++ rest) ≡ Some (n, rest)
number_again w limit wide n rest lt =
    let len = wide.len n in
    let long : ltb (length (to_be_bytes w n ++ rest)) (byte_len w) ≡ false = le-ltb _ _ (omega (arith, length-append (to_be_bytes w n) rest)) in
    rw (long, take_at (to_be_bytes w n) rest (byte_len w) len, drop_at (to_be_bytes w n) rest (byte_len w) len, wide.again n lt) refl

-- ---- one choice, one digest

choice_takes : (bytes : List ℕ) (x : Choice × List ℕ) → IsBytes bytes → choice_in bytes ≡ Some x → Takes bytes (spelled_choice x.0) x.1 × ChoiceFits x.0
unfolding choice_in
choice_takes [] x fits e = absurd cc
choice_takes (zero ∷ rest) x fits e = absurd cc
choice_takes (suc zero ∷ rest) x fits e =
    let n = map_some (number_in w32 rest) (λ m. (Branch m.0, m.1)) x e in
    let t = number_takes w32 (2 ^ 32) wide32 rest n.0.0 n.0.1 (IsBytes-rest 1 rest fits) n.1 in
    subst (λ (y : Choice × List ℕ). Takes (1 ∷ rest) (spelled_choice y.0) y.1 × ChoiceFits y.0) n.2 (takes_behind 1 rest (to_be_bytes w32 n.0.0) n.0.1 t.0, t.1)
choice_takes (suc (suc zero) ∷ rest) x fits e =
    let n = map_some (number_in w32 rest) (λ m. (Document m.0, m.1)) x e in
    let t = number_takes w32 (2 ^ 32) wide32 rest n.0.0 n.0.1 (IsBytes-rest 2 rest fits) n.1 in
    subst (λ (y : Choice × List ℕ). Takes (2 ∷ rest) (spelled_choice y.0) y.1 × ChoiceFits y.0) n.2 (takes_behind 2 rest (to_be_bytes w32 n.0.0) n.0.1 t.0, t.1)
choice_takes (suc (suc (suc zero)) ∷ rest) x fits e =
    subst (λ (y : Choice × List ℕ). Takes (3 ∷ rest) (spelled_choice y.0) y.1 × ChoiceFits y.0) (some_is (Outside, rest) x e) (record { parts = refl; rest_fits = IsBytes-rest 3 rest fits }, tt)
choice_takes (suc (suc (suc (suc kind))) ∷ rest) x fits e = absurd cc

choice_again : (x : Choice) (rest : List ℕ) → ChoiceFits x → choice_in (spelled_choice x ++ rest) ≡ Some (x, rest)
unfolding choice_in
choice_again (Branch number) rest fits = rw (number_again w32 (2 ^ 32) wide32 number rest fits) refl
choice_again (Document number) rest fits = rw (number_again w32 (2 ^ 32) wide32 number rest fits) refl
choice_again Outside rest fits = refl

digest_takes : (bytes : List ℕ) (x : Digest32 × List ℕ) → IsBytes bytes → digest_in bytes ≡ Some x → Takes bytes x.0.bytes x.1 × ⊤
digest_takes bytes x fits e =
    let g = unless_some (ltb (length bytes) 32) (digest_of_bytes (take 32 bytes), drop 32 bytes) x e in
    let long : 32 ≤ length bytes = ltb-false _ _ g.0 in
    let whole = digest_of_whole (take 32 bytes) (omega (arith, length-take 32 bytes)) in
    let taken : Takes bytes (digest_of_bytes (take 32 bytes)).bytes (drop 32 bytes) = record { parts = sym (take-append-drop 32 bytes) ∙ ap (λ (t : List ℕ). t ++ drop 32 bytes) (sym whole); rest_fits = IsBytes-drop 32 bytes fits } in
    subst (λ (y : Digest32 × List ℕ). Takes bytes y.0.bytes y.1 × ⊤) g.1 (taken, tt)

digest_again_in : (x : Digest32) (rest : List ℕ) → ⊤ → digest_in (x.bytes ++ rest) ≡ Some (x, rest)
digest_again_in x rest fits =
    let long : ltb (length (x.bytes ++ rest)) 32 ≡ false = le-ltb _ _ (omega (arith, x.whole, length-append x.bytes rest)) in
    rw (long, take_at x.bytes rest 32 x.whole, drop_at x.bytes rest 32 x.whole, digest_again x) refl

-- ---- so many, one after the other

module _ {A : Type 0} (read : Reader A) (spell : A → List ℕ) (Fit : A → Type 0)
    (takes : (bytes : List ℕ) (x : A × List ℕ) → IsBytes bytes → read bytes ≡ Some x → Takes bytes (spell x.0) x.1 × Fit x.0)
    (again : (x : A) (rest : List ℕ) → Fit x → read (spell x ++ rest) ≡ Some (x, rest)) where
  many_take : (n : ℕ) (bytes : List ℕ) (x : List A × List ℕ) → IsBytes bytes → many_in read n bytes ≡ Some x → Takes bytes (flat_map spell x.0) x.1 × (length x.0 ≡ n) × AllByRecursion Fit x.0
  unfolding many_in
  many_take zero bytes x fits e =
      subst (λ (y : List A × List ℕ). Takes bytes (flat_map spell y.0) y.1 × (length y.0 ≡ 0) × AllByRecursion Fit y.0) (some_is ([], bytes) x e) (record { parts = refl; rest_fits = fits }, refl, tt)
  many_take (suc n) bytes x fits e =
      let a = then_some (read bytes) (λ first. option_map (λ others. (first.0 ∷ others.0, others.1)) (many_in read n first.1)) x e in
      let b = map_some (many_in read n a.0.1) (λ others. (a.0.0 ∷ others.0, others.1)) x a.2 in
      let first = takes bytes a.0 fits a.1 in
      let second = many_take n a.0.1 b.0 first.0.rest_fits b.1 in
      let both = takes_then bytes (spell a.0.0) a.0.1 (flat_map spell b.0.0) b.0.1 first.0 second.0 in
      subst (λ (y : List A × List ℕ). Takes bytes (flat_map spell y.0) y.1 × (length y.0 ≡ suc n) × AllByRecursion Fit y.0) b.2 (both, ap suc second.1, (first.1, second.2))

  many_again : (xs : List A) (rest : List ℕ) → AllByRecursion Fit xs → many_in read (length xs) (flat_map spell xs ++ rest) ≡ Some (xs, rest)
  unfolding many_in
  many_again [] rest fits = refl
  many_again (x ∷ xs) rest fits =
      let regrouped : flat_map spell (x ∷ xs) ++ rest ≡ spell x ++ (flat_map spell xs ++ rest) = append_assoc (spell x) (flat_map spell xs) rest in
      ap (many_in read (suc (length xs))) regrouped ∙ rw (again x (flat_map spell xs ++ rest) fits.0, many_again xs rest fits.1) refl

  list_takes : (bytes : List ℕ) (x : List A × List ℕ) → IsBytes bytes → list_in read bytes ≡ Some x → Takes bytes (to_be_bytes w16 (length x.0) ++ flat_map spell x.0) x.1 × (length x.0 < 2 ^ 16) × AllByRecursion Fit x.0
  unfolding list_in
  list_takes bytes x fits e =
      let a = then_some (number_in w16 bytes) (λ n. many_in read n.0 n.1) x e in
      let first = number_takes w16 (2 ^ 16) wide16 bytes a.0.0 a.0.1 fits a.1 in
      let second = many_take a.0.0 a.0.1 x first.0.rest_fits a.2 in
      let both = takes_then bytes (to_be_bytes w16 a.0.0) a.0.1 (flat_map spell x.0) x.1 first.0 second.0 in
      (subst (λ (k : ℕ). Takes bytes (to_be_bytes w16 k ++ flat_map spell x.0) x.1) (sym second.1) both, omega (arith, second.1, first.1), second.2)

  list_again : (xs : List A) (rest : List ℕ) → length xs < 2 ^ 16 → AllByRecursion Fit xs → list_in read ((to_be_bytes w16 (length xs) ++ flat_map spell xs) ++ rest) ≡ Some (xs, rest)
  unfolding list_in
  list_again xs rest few fits =
      ap (list_in read) (append_assoc (to_be_bytes w16 (length xs)) (flat_map spell xs) rest)
      ∙ rw (number_again w16 (2 ^ 16) wide16 (length xs) (flat_map spell xs ++ rest) few) (many_again xs rest fits)

-- ---- the whole

abbrev certificate : List Choice → List Digest32 → Certificate
certificate steps digests = record { steps = steps; digests = digests }

all_digests : (digests : List Digest32) → AllByRecursion (λ _. ⊤) digests
all_digests [] = tt
all_digests (x ∷ xs) = (tt, all_digests xs)

pub certificate_takes : (bytes : List ℕ) (c : Certificate) → IsBytes bytes → certificate_in bytes ≡ Some c → Fits c × (bytes ≡ spelled c)
unfolding certificate_in
certificate_takes bytes c fits e =
    let m = if_some (bytes_eq (take 4 bytes) magic) (option_and_then (λ (steps : List Choice × List ℕ). option_and_then (λ (digests : List Digest32 × List ℕ). if length digests.1 == 0 then Some (certificate steps.0 digests.0) else None) (list_in digest_in steps.1)) (list_in choice_in (drop 4 bytes))) c e in
    let s = then_some (list_in choice_in (drop 4 bytes)) (λ (steps : List Choice × List ℕ). option_and_then (λ (digests : List Digest32 × List ℕ). if length digests.1 == 0 then Some (certificate steps.0 digests.0) else None) (list_in digest_in steps.1)) c m.1 in
    let d = then_some (list_in digest_in s.0.1) (λ (digests : List Digest32 × List ℕ). if length digests.1 == 0 then Some (certificate s.0.0 digests.0) else None) c s.2 in
    let g = if_some (length d.0.1 == 0) (Some (certificate s.0.0 d.0.0)) c d.2 in
    let front : take 4 bytes ≡ magic = (bytes_eq-Decides (take 4 bytes) magic).0 m.0 in
    let first = list_takes choice_in spelled_choice ChoiceFits choice_takes choice_again (drop 4 bytes) s.0 (IsBytes-drop 4 bytes fits) s.1 in
    let second = list_takes digest_in (λ digest. digest.bytes) (λ _. ⊤) digest_takes digest_again_in s.0.1 d.0 first.0.rest_fits d.1 in
    let nothing : d.0.1 ≡ [] = nil_from_length d.0.1 (eqb-true _ _ g.0) in
    let both = (takes_then (drop 4 bytes) (spelled_choices s.0.0) s.0.1 (spelled_digests d.0.0) d.0.1 first.0 second.0).parts in
    let rest : drop 4 bytes ≡ spelled_choices s.0.0 ++ spelled_digests d.0.0 = both ∙ ap (λ (r : List ℕ). (spelled_choices s.0.0 ++ spelled_digests d.0.0) ++ r) nothing ∙ append-nil (spelled_choices s.0.0 ++ spelled_digests d.0.0) in
    let whole : bytes ≡ spelled (certificate s.0.0 d.0.0) = sym (take-append-drop 4 bytes) ∙ ap (λ (l : List ℕ). l ++ drop 4 bytes) front ∙ ap (λ (l : List ℕ). magic ++ l) rest in
    subst (λ (v : Certificate). Fits v × (bytes ≡ spelled v)) (some_is (certificate s.0.0 d.0.0) c g.1) (record { steps = first.1; numbers = first.2; digests = second.1 }, whole)

pub certificate_again : (c : Certificate) → Fits c → certificate_in (spelled c) ≡ Some c
unfolding certificate_in
certificate_again c fits =
    let first = list_again choice_in spelled_choice ChoiceFits choice_takes choice_again c.steps (spelled_digests c.digests) fits.steps fits.numbers in
    let second : list_in digest_in (spelled_digests c.digests) ≡ Some (c.digests, []) =
    ap (list_in digest_in) (sym (append-nil (spelled_digests c.digests))) ∙ list_again digest_in (λ digest. digest.bytes) (λ _. ⊤) digest_takes digest_again_in c.digests [] fits.digests (all_digests c.digests) in
    rw (first, second) refl

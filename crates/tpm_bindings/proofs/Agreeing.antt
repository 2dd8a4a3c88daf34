-- Moves that agree: rule by rule, with one more move, without the last ones, and as others that bind the same.
use Rattle.std.proofs.Common.{◌≡◌, ◌∙◌, ap, sym, refl, ℕ, zero, suc, ◌==◌, Bool, true, false, ◌&&◌, ◌||◌, nat_eq, bit_and, fold, List, [], ◌∷◌, ◌++◌, map, Option, Some, None, arith}
use Rattle.std.specs.Prelude.{not, if◌then◌else◌}
use Rattle.std.specs.Bool.{beq}
use Rattle.std.specs.Int.Bits.{and_zero_l}
use Rattle.std.specs.List.{list_all}
use Rattle.std.specs.Str.{bytes_eq}
use Rattle.std.proofs.lemmas.Bool.{false≢true}
use Rattle.std.proofs.lemmas.Bool.Decides.{Decides-eqb, nat_tests}
use Rattle.std.proofs.lemmas.List.Concat.{flat_map-append}
use Rattle.std.proofs.lemmas.List.Folds.{list_all-append}
use Rattle.std.proofs.lemmas.List.Sums.{fold-append}
use Rattle.std.proofs.lemmas.Slice.Eq.{bytes_eq-Decides}
use Rattle.tpol_base.specs.declared.digest.Digest32.{Digest32}
use Rattle.tpol_tree.specs.declared.path.Move.{Move}
use Rattle.tpm_bindings.specs.Agreement.{Agree}
use Rattle.tpm_bindings.specs.declared.disagreement.Disagreement.{Disagreement}
use Rattle.tpm_bindings.specs.declared.disagreement.Disagreement.TheVariants.{Code, Locality, CpHash, NameHash, Kinds, NvWritten}
use Rattle.tpm_bindings.specs.Facts.{codes_of, cp_hashes_of, localities_of, name_hashes_of, parent_hashes_of, written_of, in_assertion, code_in, locality_in, cp_hash_in, name_hash_in, parent_hash_in, written_in}
use Rattle.tpol_base.specs.Digest.{is_same_digest}
use Rattle.tpm_bindings.specs.Held.{all_are, any_of, are_one, each_of, listed}
use Rattle.tpm_bindings.proofs.Merging.{each_of-push}

-- ---- rule by rule

-- the rules of agreement over what moves bind: codes, sets of localities, digests of PolicyCpHash, nameHashes
-- that a digest fixes, those that one leaves open, states of PolicyNvWritten
pub record AreOne (codes localities : List ℕ) (cp_hashes name_hashes parents : List Digest32) (written : List Bool) : Type 0 where
  pub codes-one : are_one nat_eq codes ≡ true
  pub together : (fold bit_and 0xff localities == 0) ≡ false
  pub cp_hashes-one : are_one is_same_digest cp_hashes ≡ true
  pub name_hashes-one : are_one is_same_digest name_hashes ≡ true
  pub one_kind : (any_of cp_hashes && (any_of name_hashes || any_of parents)) ≡ false
  pub written-one : are_one beq written ≡ true

-- of what the moves bind
abbrev pub Keep : List Move → Type 0
Keep moves = AreOne (codes_of moves) (localities_of moves) (cp_hashes_of moves) (name_hashes_of moves) (parent_hashes_of moves) (written_of moves)

abbrev verdict : Bool → Bool → Bool → Bool → Bool → Bool → Option Disagreement
verdict codes apart cp_hashes name_hashes both written =
    if not codes then Some Code else
    (if apart then Some Locality else
    (if not cp_hashes then Some CpHash else
    (if not name_hashes then Some NameHash else
    (if both then Some Kinds else
    (if not written then Some NvWritten else None)))))

by_rule : (a b c d e f : Bool) → verdict a b c d e f ≡ None → (a ≡ true) × (b ≡ false) × (c ≡ true) × (d ≡ true) × (e ≡ false) × (f ≡ true)
by_rule true false true true false true none = (refl, refl, refl, refl, refl, refl)
by_rule false b c d e f none = cc none
by_rule true true c d e f none = cc none
by_rule true false false d e f none = cc none
by_rule true false true false e f none = cc none
by_rule true false true true true f none = cc none
by_rule true false true true false false none = cc none

all_rules : (a b c d e f : Bool) → a ≡ true → b ≡ false → c ≡ true → d ≡ true → e ≡ false → f ≡ true → verdict a b c d e f ≡ None
all_rules a b c d e f a-is b-is c-is d-is e-is f-is = rw (a-is, b-is, c-is, d-is, e-is, f-is) refl

pub keep_of : (moves : List Move) → Agree moves → Keep moves
keep_of moves agree =
    let rules = by_rule _ _ _ _ _ _ agree in
    record { codes-one = rules.0; together = rules.1; cp_hashes-one = rules.2; name_hashes-one = rules.3; one_kind = rules.4; written-one = rules.5 }

pub agree_of : (moves : List Move) → Keep moves → Agree moves
agree_of moves keep =
    all_rules _ _ _ _ _ _ keep.codes-one keep.together keep.cp_hashes-one keep.name_hashes-one keep.one_kind keep.written-one

-- ---- with one more move

-- moves agree with one more where what they bind with what it binds keeps the rules
pub agree_with : (moves : List Move) (act : Move)
    → AreOne (codes_of moves ++ listed (in_assertion code_in act)) (localities_of moves ++ listed (in_assertion locality_in act))
    (cp_hashes_of moves ++ listed (in_assertion cp_hash_in act)) (name_hashes_of moves ++ listed (in_assertion name_hash_in act))
    (parent_hashes_of moves ++ listed (in_assertion parent_hash_in act)) (written_of moves ++ listed (in_assertion written_in act))
    → Agree (moves ++ act ∷ [])
agree_with moves act keep =
    rw (
      each_of-push (in_assertion code_in) moves act,
      each_of-push (in_assertion locality_in) moves act,
      each_of-push (in_assertion cp_hash_in) moves act,
      each_of-push (in_assertion name_hash_in) moves act,
      each_of-push (in_assertion parent_hash_in) moves act,
      each_of-push (in_assertion written_in) moves act,
    )
    (all_rules _ _ _ _ _ _ keep.codes-one keep.together keep.cp_hashes-one keep.name_hashes-one keep.one_kind keep.written-one)

pub and_left : (a b : Bool) → (a && b) ≡ true → a ≡ true
and_left true b e = refl
and_left false b e = e

pub and_right : (a b : Bool) → (a && b) ≡ true → b ≡ true
and_right true b e = e
and_right false b e = cc e

-- one more value that is the same as each before
pub are_one-push : {A : Type 0} (same : A → A → Bool) → ((a b : A) → same a b ≡ true → same b a ≡ true) → (xs : List A) (x : A) → are_one same xs ≡ true → all_are same x xs ≡ true → are_one same (xs ++ x ∷ []) ≡ true
are_one-push same swap [] x one all = refl
are_one-push same swap (first ∷ rest) x one all =
    list_all-append (same first) rest (x ∷ []) ∙ rw (one, swap x first (and_left (same x first) (list_all (same x) rest) all)) refl

pub nat_eq-swap : (a b : ℕ) → nat_eq a b ≡ true → nat_eq b a ≡ true
nat_eq-swap a b e = (Decides-eqb b a).1 (sym ((Decides-eqb a b).0 e))

pub digest-swap : (a b : Digest32) → is_same_digest a b ≡ true → is_same_digest b a ≡ true
digest-swap a b e = (bytes_eq-Decides b.bytes a.bytes).1 (sym ((bytes_eq-Decides a.bytes b.bytes).0 e))

pub beq-swap : (a b : Bool) → beq a b ≡ true → beq b a ≡ true
beq-swap true true e = refl
beq-swap false false e = refl
beq-swap true false e = e
beq-swap false true e = e

-- ---- without the last moves

both_true : (a b : Bool) → a ≡ true → b ≡ true → (a && b) ≡ true
both_true a b a-is b-is = rw (a-is, b-is) refl

all-first : {A : Type 0} (test : A → Bool) (xs ys : List A) → list_all test (xs ++ ys) ≡ true → list_all test xs ≡ true
all-first test [] ys all = refl
all-first test (x ∷ xs) ys all =
    both_true (test x) (list_all test xs) (and_left (test x) (list_all test (xs ++ ys)) all)
    (all-first test xs ys (and_right (test x) (list_all test (xs ++ ys)) all))

one-first : {A : Type 0} (same : A → A → Bool) (xs ys : List A) → are_one same (xs ++ ys) ≡ true → are_one same xs ≡ true
one-first same [] ys one = refl
one-first same (x ∷ xs) ys one = all-first (same x) xs ys one

any-first : {A : Type 0} (xs ys : List A) → any_of xs ≡ true → any_of (xs ++ ys) ≡ true
any-first [] ys any = cc
any-first (x ∷ xs) ys any = refl

-- localities that no set has in common stay apart
none-shared : (xs : List ℕ) → fold bit_and 0 xs ≡ 0
none-shared [] = refl
none-shared (x ∷ xs) = ap (λ n. fold bit_and n xs) (and_zero_l x) ∙ none-shared xs

together-first : (xs ys : List ℕ) → (fold bit_and 0xff (xs ++ ys) == 0) ≡ false → (fold bit_and 0xff xs == 0) ≡ false
together-first xs ys together = by (fold bit_and 0xff xs) (fold-append bit_and 0xff xs ys) together
  where
    by : (n : ℕ) → fold bit_and 0xff (xs ++ ys) ≡ fold bit_and n ys → (fold bit_and 0xff (xs ++ ys) == 0) ≡ false → (n == 0) ≡ false
    by zero e h = absurd (false≢true (sym h ∙ ap (λ m. m == 0) (e ∙ none-shared ys)))
    by (suc n) e h = grind (arith, nat_tests)

or_true : (b : Bool) → (b || true) ≡ true
or_true true = refl
or_true false = refl

kinds-first : (a b c x y z : Bool) → (a ≡ true → x ≡ true) → (b ≡ true → y ≡ true) → (c ≡ true → z ≡ true) → (x && (y || z)) ≡ false → (a && (b || c)) ≡ false
kinds-first false b c x y z f g h one = refl
kinds-first true false false x y z f g h one = refl
kinds-first true true c x y z f g h one = absurd (false≢true (sym one ∙ rw (f refl, g refl) refl))
kinds-first true false true x y z f g h one = absurd (false≢true (sym one ∙ rw (f refl, h refl) (or_true y)))

are_one-first : (codes more_codes localities more_localities : List ℕ) (cp_hashes more_cp_hashes name_hashes more_name_hashes parents more_parents : List Digest32) (written more_written : List Bool)
    → AreOne (codes ++ more_codes) (localities ++ more_localities) (cp_hashes ++ more_cp_hashes) (name_hashes ++ more_name_hashes) (parents ++ more_parents) (written ++ more_written)
    → AreOne codes localities cp_hashes name_hashes parents written
are_one-first codes more_codes localities more_localities cp_hashes more_cp_hashes name_hashes more_name_hashes parents more_parents written more_written keep = record {
  codes-one = one-first nat_eq codes more_codes keep.codes-one;
  together = together-first localities more_localities keep.together;
  cp_hashes-one = one-first is_same_digest cp_hashes more_cp_hashes keep.cp_hashes-one;
  name_hashes-one = one-first is_same_digest name_hashes more_name_hashes keep.name_hashes-one;
  one_kind = kinds-first (any_of cp_hashes) (any_of name_hashes) (any_of parents) _ _ _
      (any-first cp_hashes more_cp_hashes) (any-first name_hashes more_name_hashes) (any-first parents more_parents) keep.one_kind;
  written-one = one-first beq written more_written keep.written-one;
}

each-append : {B : Type 0} (f : Move → Option B) (xs ys : List Move) → each_of f (xs ++ ys) ≡ each_of f xs ++ each_of f ys
each-append f xs ys = flat_map-append (λ x. listed (f x)) xs ys

pub keep-first : (xs ys : List Move) → Keep (xs ++ ys) → Keep xs
keep-first xs ys keep =
    are_one-first (codes_of xs) (codes_of ys) (localities_of xs) (localities_of ys) (cp_hashes_of xs) (cp_hashes_of ys)
    (name_hashes_of xs) (name_hashes_of ys) (parent_hashes_of xs) (parent_hashes_of ys) (written_of xs) (written_of ys)
    (rw (
      sym (each-append (in_assertion code_in) xs ys),
      sym (each-append (in_assertion locality_in) xs ys),
      sym (each-append (in_assertion cp_hash_in) xs ys),
      sym (each-append (in_assertion name_hash_in) xs ys),
      sym (each-append (in_assertion parent_hash_in) xs ys),
      sym (each-append (in_assertion written_in) xs ys),
    ) keep)

-- what agrees agrees without its last moves
pub agree-first : (xs ys : List Move) → Agree (xs ++ ys) → Agree xs
agree-first xs ys agree = agree_of xs (keep-first xs ys (keep_of (xs ++ ys) agree))

-- ---- as others that bind the same

abbrev pub bytes_of : Digest32 → List ℕ
bytes_of digest = digest.bytes

-- what some moves bind is what others bind, their codes as `told` gives them
pub record BindAs (told : ℕ → ℕ) (moves others : List Move) : Type 0 where
  pub codes : codes_of moves ≡ map told (codes_of others)
  pub localities : localities_of moves ≡ localities_of others
  pub cp_hashes : map bytes_of (cp_hashes_of moves) ≡ map bytes_of (cp_hashes_of others)
  pub name_hashes : map bytes_of (name_hashes_of moves) ≡ map bytes_of (name_hashes_of others)
  pub parents : any_of (parent_hashes_of moves) ≡ any_of (parent_hashes_of others)
  pub written : written_of moves ≡ written_of others

one_told : (told : ℕ → ℕ) (xs : List ℕ) → are_one nat_eq xs ≡ true → are_one nat_eq (map told xs) ≡ true
one_told told [] one = refl
one_told told (x ∷ xs) one = all_told xs one
  where
    same : (y : ℕ) → nat_eq x y ≡ true → nat_eq (told x) (told y) ≡ true
    same y e = (Decides-eqb (told x) (told y)).1 (ap told ((Decides-eqb x y).0 e))

    all_told : (ys : List ℕ) → list_all (nat_eq x) ys ≡ true → list_all (nat_eq (told x)) (map told ys) ≡ true
    all_told [] all = refl
    all_told (y ∷ ys) all =
        both_true (nat_eq (told x) (told y)) (list_all (nat_eq (told x)) (map told ys)) (same y (and_left (nat_eq x y) (list_all (nat_eq x) ys) all))
        (all_told ys (and_right (nat_eq x y) (list_all (nat_eq x) ys) all))

same_all : (d : Digest32) (xs : List Digest32) → list_all (is_same_digest d) xs ≡ list_all (bytes_eq d.bytes) (map bytes_of xs)
same_all d [] = refl
same_all d (x ∷ xs) = ap (λ b. bytes_eq d.bytes x.bytes && b) (same_all d xs)

same_one : (xs : List Digest32) → are_one is_same_digest xs ≡ are_one bytes_eq (map bytes_of xs)
same_one [] = refl
same_one (x ∷ xs) = same_all x xs

any_map : {A B : Type 0} (f : A → B) (xs : List A) → any_of (map f xs) ≡ any_of xs
any_map f [] = refl
any_map f (x ∷ xs) = refl

same_any : (xs ys : List Digest32) → map bytes_of xs ≡ map bytes_of ys → any_of xs ≡ any_of ys
same_any xs ys same = sym (any_map bytes_of xs) ∙ (ap any_of same ∙ any_map bytes_of ys)

-- moves that bind the same as others that agree
pub agree_too : (told : ℕ → ℕ) (moves others : List Move) → BindAs told moves others → Agree others → Agree moves
agree_too told moves others same agree =
    let keep = keep_of others agree in
    agree_of moves (record {
      codes-one = ap (are_one nat_eq) same.codes ∙ one_told told (codes_of others) keep.codes-one;
      together = ap (λ l. fold bit_and 0xff l == 0) same.localities ∙ keep.together;
      cp_hashes-one = same_one (cp_hashes_of moves) ∙ (ap (are_one bytes_eq) same.cp_hashes ∙ (sym (same_one (cp_hashes_of others)) ∙ keep.cp_hashes-one));
      name_hashes-one = same_one (name_hashes_of moves) ∙ (ap (are_one bytes_eq) same.name_hashes ∙ (sym (same_one (name_hashes_of others)) ∙ keep.name_hashes-one));
      one_kind = rw (
        same_any (cp_hashes_of moves) (cp_hashes_of others) same.cp_hashes,
        same_any (name_hashes_of moves) (name_hashes_of others) same.name_hashes,
        same.parents,
      ) keep.one_kind;
      written-one = ap (are_one beq) same.written ∙ keep.written-one;
    })

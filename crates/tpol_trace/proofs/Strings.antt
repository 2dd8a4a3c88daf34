-- Where no two of some strings have one digest, and none has the digest zero, equal digests say equal parts.
use Rattle.std.proofs.Common.{◌≡◌, ℕ, List, [], ◌∷◌, ◌++◌, length, take, drop, Option, Some, None, refl, sym, ap, ◌∙◌, subst, ◌<◌, ◌^◌, append_assoc}
use Rattle.std.specs.Prelude.{is_some}
use Rattle.std.specs.Int.{from_be_bytes, to_be_bytes, w32}
use Rattle.std.specs.List.{AllByRecursion}
use Rattle.std.specs.Option.{option_to_list}
use Rattle.std.proofs.lemmas.Bool.{false≢true}
use Rattle.std.proofs.lemmas.List.{take_at, drop_at}
use Rattle.std.proofs.lemmas.Nat.{from_be_bytes-to_be_bytes_4}
use Rattle.tpol_base.specs.declared.digest.Digest32.{Digest32}
use Rattle.tpol_base.proofs.Digests.{same_digest}
use Rattle.tpol_hash.specs.Sha256.{sha256_digest}
use Rattle.tpol_digest.specs.Digest.{zero_digest, start_of, inner_digest, head_of, first_string}
use Rattle.tpol_digest.specs.Inputs.{strings_of, second_string}
use Rattle.tpol_digest.specs.Update.{Update}
use Rattle.tpol_trace.proofs.Codes.{IsRegular, starts_fresh, hashes_inner}

-- no clash and no string of digest zero among the strings of a kind
pub record IsSane (In : List ℕ → Type 0) : Type 0 where
  pub one : (s t : List ℕ) → In s → In t → sha256_digest s ≡ sha256_digest t → s ≡ t
  pub some : (s : List ℕ) → In s → sha256_digest s ≡ zero_digest → ⊥

-- two lists joined in two ways at one place
pub split_at : {A : Type 0} (a b c d : List A) → length a ≡ length c → a ++ b ≡ c ++ d → (a ≡ c) × (b ≡ d)
split_at a b c d l e = (
  sym (take_at a b (length a) refl) ∙ ap (take (length a)) e ∙ take_at c d (length a) (sym l),
  sym (drop_at a b (length a) refl) ∙ ap (drop (length a)) e ∙ drop_at c d (length a) (sym l),
)

-- digests in front of bytes
pub split_digest : (x y : Digest32) (a b : List ℕ) → x.bytes ++ a ≡ y.bytes ++ b → (x ≡ y) × (a ≡ b)
split_digest x y a b e =
    let p = split_at x.bytes a y.bytes b (x.whole ∙ sym y.whole) e in
    (same_digest x y p.0, p.1)

same_code : (a b : ℕ) (x y : List ℕ) → a < 2 ^ 32 → b < 2 ^ 32 → to_be_bytes w32 a ++ x ≡ to_be_bytes w32 b ++ y → (a ≡ b) × (x ≡ y)
same_code a b x y small less e =
    let p = split_at (to_be_bytes w32 a) x (to_be_bytes w32 b) y refl e in
    (sym (from_be_bytes-to_be_bytes_4 a small) ∙ ap (from_be_bytes w32) p.0 ∙ from_be_bytes-to_be_bytes_4 b less, p.1)

module _ {A : Type 0} (P : A → Type 0) where
  pub each_left : (xs ys : List A) → AllByRecursion P (xs ++ ys) → AllByRecursion P xs
  each_left [] ys h = tt
  each_left (x ∷ xs) ys h = (h.0, each_left xs ys h.1)

  pub each_right : (xs ys : List A) → AllByRecursion P (xs ++ ys) → AllByRecursion P ys
  each_right [] ys h = h
  each_right (x ∷ xs) ys h = each_right xs ys h.1

-- what two equal strings of first hashes say
pub record IsSameFirst (a b : Update) (x y : Digest32) : Type 0 where
  pub fresh : a.fresh ≡ b.fresh
  pub code : a.code ≡ b.code
  pub inner : a.inner ≡ b.inner
  pub rest : a.rest ≡ b.rest
  pub start : start_of a.fresh x ≡ start_of b.fresh y

module _ (In : List ℕ → Type 0) (sane : IsSane In) where
  same_inner : (i j : Option (List ℕ)) (x y : List ℕ) → is_some i ≡ is_some j → AllByRecursion In (option_to_list i) → AllByRecursion In (option_to_list j) → inner_digest i ++ x ≡ inner_digest j ++ y → (i ≡ j) × (x ≡ y)
  same_inner None None x y e h k is = (refl, is)
  same_inner None (Some j) x y e h k is = absurd (false≢true e)
  same_inner (Some i) None x y e h k is = absurd (false≢true (sym e))
  same_inner (Some i) (Some j) x y e h k is =
      let p = split_digest (sha256_digest i) (sha256_digest j) x y is in
      (ap Some (sane.one i j h.0 k.0 p.0), p.1)

  -- the strings of an update that are hashed
  pub inner_in : (u : Update) (d : Digest32) → AllByRecursion In (strings_of u d) → AllByRecursion In (option_to_list u.inner)
  inner_in u d h = each_left In (option_to_list u.inner) (first_string u d ∷ second_string u d u.policy_ref) h

  pub first_in : (u : Update) (d : Digest32) → AllByRecursion In (strings_of u d) → In (first_string u d)
  first_in u d h =
      (each_right In (option_to_list u.inner) (first_string u d ∷ second_string u d u.policy_ref) h).0

  pub second_in : (u : Update) (d : Digest32) (policy_ref : List ℕ) → u.policy_ref ≡ Some policy_ref → AllByRecursion In (strings_of u d) → In ((sha256_digest (first_string u d)).bytes ++ policy_ref)
  second_in u d policy_ref e h =
      let rest : AllByRecursion In (second_string u d u.policy_ref) = (each_right In (option_to_list u.inner) (first_string u d ∷ second_string u d u.policy_ref) h).1 in
      (subst (λ x. AllByRecursion In (second_string u d x)) e rest).0

  pub same_first : (a b : Update) (x y : Digest32) → IsRegular a → IsRegular b → AllByRecursion In (option_to_list a.inner) → AllByRecursion In (option_to_list b.inner) → first_string a x ≡ first_string b y → IsSameFirst a b x y
  same_first a b x y ra rb h k e =
      let p = split_digest (start_of a.fresh x) (start_of b.fresh y) (head_of a) (head_of b) e in
      let q = same_code a.code b.code (inner_digest a.inner ++ a.rest) (inner_digest b.inner ++ b.rest) ra.bound rb.bound (sym (append_assoc (to_be_bytes w32 a.code) (inner_digest a.inner) a.rest) ∙ p.1 ∙ append_assoc (to_be_bytes w32 b.code) (inner_digest b.inner) b.rest) in
      let r = same_inner a.inner b.inner a.rest b.rest (ra.inner ∙ ap hashes_inner q.0 ∙ sym rb.inner) h k q.1 in
      record { fresh = ra.fresh ∙ ap starts_fresh q.0 ∙ sym rb.fresh; code = q.0; inner = r.0; rest = r.1; start = p.0 }

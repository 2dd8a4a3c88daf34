-- Two chains of assertions with one digest are the same.
use Rattle.std.proofs.Common.{◌≡◌, ℕ, true, List, [], ◌∷◌, ◌++◌, Option, Some, None, inl, inr, refl, sym, ap, ◌∙◌, subst, append_assoc}
use Rattle.std.specs.Prelude.{is_some}
use Rattle.std.specs.List.{AllByRecursion}
use Rattle.std.specs.Option.{option_to_list}
use Rattle.std.proofs.lemmas.Bool.{false≢true}
use Rattle.std.proofs.lemmas.List.{append-nil}
use Rattle.tpol_base.specs.declared.digest.Digest32.{Digest32}
use Rattle.tpol_tree.specs.declared.closed.Assertion.{Assertion}
use Rattle.tpol_tree.specs.declared.path.Move.{Move}
use Rattle.tpol_tree.specs.declared.path.Move.TheVariants.{Assert}
use Rattle.tpol_digest.specs.Digest.{zero_digest, first_string, digest_after_assertion, digest_from, digest_of_moves, start_of}
use Rattle.tpol_digest.specs.Inputs.{strings_of, inputs_of_moves}
use Rattle.tpol_digest.specs.Update.{update_of_assertion}
use Rattle.tpol_trace.specs.Chains.{moves_of_assertions, EndsTwice, digest_of_chain, half_inputs, inputs_of_chain, IsSameHalf, ChainsAgree}
use Rattle.tpol_trace.specs.Openings.{first_clash, first_zero}
use Rattle.tpol_trace.specs.Same.{AreSame}
use Rattle.tpol_trace.proofs.Chains.{AreHashed, hashed_front}
use Rattle.tpol_trace.proofs.Clashes.{sane_strings, each_in}
use Rattle.tpol_trace.proofs.Codes.{regular, assertion_goes_on, same_hash_approves}
use Rattle.tpol_trace.proofs.Found.{broken_clash, broken_zero}
use Rattle.tpol_trace.proofs.Halves.{IsNoHalf, IsHalfIn, none_of_zero, zero_no_half, no_half_after, whole_not_half, back}
use Rattle.tpol_trace.proofs.Inversion.{goes_on}
use Rattle.tpol_trace.proofs.Strings.{IsSane, each_left, each_right, same_first}
use Rattle.tpol_trace.proofs.WaysBack.{IsIn}

-- the last moves are those of a chain, and the ones in front of them lead to a digest
record IsBehind (d : Digest32) (chain moves : List Move) : Type 0 where
  pub front : List Move
  pub rest : List Move
  pub split : moves ≡ front ++ rest
  pub reached : digest_of_moves front ≡ d
  pub same : AreSame chain rest

module _ (In : List ℕ → Type 0) (sane : IsSane In) where
  no_half_chain : (assertions : List Assertion) (d : Digest32) → IsNoHalf In d → AllByRecursion In (inputs_of_moves d (moves_of_assertions assertions)) → IsNoHalf In (digest_from d (moves_of_assertions assertions))
  no_half_chain [] d none strings = none
  no_half_chain (a ∷ rest) d none strings =
      let here = each_left In (strings_of (update_of_assertion a) d) (inputs_of_moves (digest_after_assertion a d) (moves_of_assertions rest)) strings in
      let there = each_right In (strings_of (update_of_assertion a) d) (inputs_of_moves (digest_after_assertion a d) (moves_of_assertions rest)) strings in
      no_half_chain rest (digest_after_assertion a d) (no_half_after In sane d none (update_of_assertion a) (regular (Assert a)) here) there

  chain_back : (assertions : List Assertion) (d : Digest32) → IsNoHalf In d → AllByRecursion In (inputs_of_moves d (moves_of_assertions assertions)) → (moves : List Move) → AreHashed In moves → digest_of_moves moves ≡ digest_from d (moves_of_assertions assertions) → IsBehind d (moves_of_assertions assertions) moves
  chain_back [] d none strings moves hashed e =
      record { front = moves; rest = []; split = sym (append-nil moves); reached = e; same = tt }
  chain_back (a ∷ rest) d none strings moves hashed e =
      let u = update_of_assertion a in
      let after = digest_after_assertion a d in
      let here = each_left In (strings_of u d) (inputs_of_moves after (moves_of_assertions rest)) strings in
      let there = each_right In (strings_of u d) (inputs_of_moves after (moves_of_assertions rest)) strings in
      let r = chain_back rest after (no_half_after In sane d none u (regular (Assert a)) here) there moves hashed e in
      let b = back In sane d none u (regular (Assert a)) here r.front (hashed_front In r.front r.rest (subst (AreHashed In) r.split hashed)) r.reached in
      record {
        front = b.front;
        rest = b.last ∷ r.rest;
        split = r.split ∙ ap (λ l. l ++ r.rest) b.is ∙ append_assoc b.front (b.last ∷ []) r.rest;
        reached = goes_on u.fresh (digest_of_moves b.front) d (assertion_goes_on a) b.start;
        same = (record { hashed = sym b.hashed; approved = same_hash_approves (Assert a) b.last (sym b.hashed) refl }, r.same);
      }

  same_chains : (xs ys : List Assertion) → AreHashed In (moves_of_assertions xs) → AreHashed In (moves_of_assertions ys) → digest_of_moves (moves_of_assertions xs) ≡ digest_of_moves (moves_of_assertions ys) → AreSame (moves_of_assertions xs) (moves_of_assertions ys)
  same_chains xs ys h k e =
      let r = chain_back xs zero_digest (zero_no_half In sane) h (moves_of_assertions ys) k (sym e) in
      let none = none_of_zero In sane r.front (hashed_front In r.front r.rest (subst (AreHashed In) r.split k)) r.reached in
      subst (AreSame (moves_of_assertions xs)) (sym (r.split ∙ ap (λ l. l ++ r.rest) none)) r.same

  half_strings : (last : Assertion) (d : Digest32) → AllByRecursion In (half_inputs (Some last) d) → IsHalfIn In (update_of_assertion last) d
  half_strings last d h = record {
    inner = each_left In (option_to_list (update_of_assertion last).inner) (first_string (update_of_assertion last) d ∷ []) h;
    first = (each_right In (option_to_list (update_of_assertion last).inner) (first_string (update_of_assertion last) d ∷ []) h).0;
  }

  -- a whole digest is none of a chain that ends at a half one
  whole_or_half : (xs ys : List Assertion) (last : Assertion) → EndsTwice (Some last) → AreHashed In (moves_of_assertions xs) → AreHashed In (moves_of_assertions ys) → AllByRecursion In (half_inputs (Some last) (digest_of_moves (moves_of_assertions ys))) → digest_of_moves (moves_of_assertions xs) ≡ digest_of_chain ys (Some last) → ⊥
  whole_or_half xs ys last twice h k half e = by_second (update_of_assertion last).policy_ref refl twice
    where
      d : Digest32
      d = digest_of_moves (moves_of_assertions ys)

      by_second : (second : Option (List ℕ)) → (update_of_assertion last).policy_ref ≡ second → is_some second ≡ true → ⊥
      by_second None is some = false≢true some
      by_second (Some policy_ref) is some =
          whole_not_half In sane d (no_half_chain ys zero_digest (zero_no_half In sane) k) (update_of_assertion last) policy_ref (regular (Assert last)) is (half_strings last d half) (moves_of_assertions xs) h e

  same_halves : (xs ys : List Assertion) (a b : Assertion) → AreHashed In (moves_of_assertions xs) → AllByRecursion In (half_inputs (Some a) (digest_of_moves (moves_of_assertions xs))) → AreHashed In (moves_of_assertions ys) → AllByRecursion In (half_inputs (Some b) (digest_of_moves (moves_of_assertions ys))) → digest_of_chain xs (Some a) ≡ digest_of_chain ys (Some b) → AreSame (moves_of_assertions xs) (moves_of_assertions ys) × IsSameHalf (Some a) (Some b)
  same_halves xs ys a b h half k other e =
      let x = digest_of_moves (moves_of_assertions xs) in
      let y = digest_of_moves (moves_of_assertions ys) in
      let p = half_strings a x half in
      let q = half_strings b y other in
      let s = same_first In sane (update_of_assertion a) (update_of_assertion b) x y (regular (Assert a)) (regular (Assert b)) p.inner q.inner (sane.one (first_string (update_of_assertion a) x) (first_string (update_of_assertion b) y) p.first q.first e) in
      (same_chains xs ys h k (goes_on (update_of_assertion a).fresh x y (assertion_goes_on a) (s.start ∙ ap (λ fresh. start_of fresh y) (sym s.fresh))), (s.code, s.rest))

  chains_agree : (xs ys : List Assertion) (half other : Option Assertion) → EndsTwice half → EndsTwice other → AreHashed In (moves_of_assertions xs) → AllByRecursion In (half_inputs half (digest_of_moves (moves_of_assertions xs))) → AreHashed In (moves_of_assertions ys) → AllByRecursion In (half_inputs other (digest_of_moves (moves_of_assertions ys))) → digest_of_chain xs half ≡ digest_of_chain ys other → AreSame (moves_of_assertions xs) (moves_of_assertions ys) × IsSameHalf half other
  chains_agree xs ys None None t u h i k j e = (same_chains xs ys h k e, tt)
  chains_agree xs ys None (Some b) t u h i k j e = absurd (whole_or_half xs ys b u h k j e)
  chains_agree xs ys (Some a) None t u h i k j e = absurd (whole_or_half ys xs a t k h i (sym e))
  chains_agree xs ys (Some a) (Some b) t u h i k j e = same_halves xs ys a b h i k j e

module _ (xs ys : List Assertion) (half other : Option Assertion) (twice : EndsTwice half) (too : EndsTwice other) (e : digest_of_chain xs half ≡ digest_of_chain ys other) where
  abbrev strings : List (List ℕ)
  strings = inputs_of_chain xs half ++ inputs_of_chain ys other

  by_search : (clash : Option (List ℕ × List ℕ)) → first_clash strings ≡ clash → (zero : Option (List ℕ)) → first_zero strings ≡ zero → ChainsAgree xs half ys other
  by_search (Some pair) c zero z = inr (inl (broken_clash strings pair c))
  by_search None c (Some string) z = inr (inr (broken_zero strings string z))
  by_search None c None z =
      let In : List ℕ → Type 0 = λ s. IsIn s strings in
      let all = each_in strings in
      let left = each_left In (inputs_of_chain xs half) (inputs_of_chain ys other) all in
      let right = each_right In (inputs_of_chain xs half) (inputs_of_chain ys other) all in
      let x = inputs_of_moves zero_digest (moves_of_assertions xs) in
      let y = inputs_of_moves zero_digest (moves_of_assertions ys) in
      let i = half_inputs half (digest_of_moves (moves_of_assertions xs)) in
      let j = half_inputs other (digest_of_moves (moves_of_assertions ys)) in
      inl (chains_agree In (sane_strings strings c z) xs ys half other twice too (each_left In x i left) (each_right In x i left) (each_left In y j right) (each_right In y j right) e)

pub chains_with_one_digest : (xs ys : List Assertion) (half other : Option Assertion) → EndsTwice half → EndsTwice other → digest_of_chain xs half ≡ digest_of_chain ys other → ChainsAgree xs half ys other
chains_with_one_digest xs ys half other twice too e =
    by_search xs ys half other twice too e (first_clash (inputs_of_chain xs half ++ inputs_of_chain ys other)) refl (first_zero (inputs_of_chain xs half ++ inputs_of_chain ys other)) refl

-- What is computed as the opening is one by the relations.
use Rattle.std.proofs.Common.{◌≡◌, ℕ, zero, suc, ◌+◌, ◌-◌, ◌<◌, Bool, true, false, List, [], ◌∷◌, Option, Some, None, refl, sym, ap, ◌∙◌, subst, arith}
use Rattle.std.specs.Prelude.{if◌then◌else◌, is_some, slice_get}
use Rattle.std.specs.List.{AllByRecursion}
use Rattle.std.specs.Option.{option_map}
use Rattle.std.proofs.lemmas.Bool.{false≢true}
use Rattle.std.proofs.lemmas.Bool.Decides.{not_from_Decides}
use Rattle.std.proofs.lemmas.List.Elements.{All-from_recursion}
use Rattle.tpol_tree.specs.declared.closed.Closed.{Closed}
use Rattle.tpol_tree.specs.declared.facts.Fact.{Fact}
use Rattle.tpol_tree.specs.declared.path.ApprovedDoc.{ApprovedDoc}
use Rattle.tpol_tree.specs.declared.path.Path.{Path}
use Rattle.tpol_digest.specs.Paths.{paths_of}
use Rattle.tpol_tree.specs.Facts.{moves_of}
use Rattle.tpol_trace.specs.declared.answer.Opening.{Opening}
use Rattle.tpol_trace.specs.declared.answer.Opening.TheVariants.{Branch, Clash, ZeroInput}
use Rattle.tpol_trace.specs.Matching.{Matches, matches}
use Rattle.tpol_trace.specs.Openings.{inputs, events_of, IsFirstMatch, NoMatch, IsOpening, first_index, first_clash, first_zero, broken_opening, zero_opening, opening_by, first_match, opening_of}
use Rattle.tpol_trace.proofs.Found.{no_clash, clash_found, zero_found}
use Rattle.tpol_trace.proofs.Matched.{matches_Decides}
use Rattle.tpol_trace.proofs.Opened.{none_of_index}

-- the first item that passes a test
record IsFirst {A : Type 0} (test : A → Bool) (xs : List A) (index : ℕ) : Type 0 where
  pub item : A
  pub listed : slice_get xs index ≡ Some item
  pub passes : test item ≡ true
  pub first : (k : ℕ) (earlier : A) → k < index → slice_get xs k ≡ Some earlier → test earlier ≡ false

first_of : {A : Type 0} (test : A → Bool) (xs : List A) (index : ℕ) → first_index test xs ≡ Some index → IsFirst test xs index
first_of test [] index e = cc e
first_of {A} test (x ∷ rest) index e = by_test (test x) refl (first_index test rest) e (first_of test rest)
  where
    later : (i : ℕ) → test x ≡ false → IsFirst test rest i → IsFirst test (x ∷ rest) (i + 1)
    later i is f = record { item = f.item; listed = (let n : i + 1 ≡ suc i = omega arith in ap (slice_get (x ∷ rest)) n ∙ f.listed); passes = f.passes; first = below }
      where
        below : (k : ℕ) (earlier : A) → k < i + 1 → slice_get (x ∷ rest) k ≡ Some earlier → test earlier ≡ false
        below zero earlier less at = let same : x ≡ earlier = cc at in ap test (sym same) ∙ is
        below (suc k) earlier less at = f.first k earlier (omega arith) at

    by_test : (t : Bool) → test x ≡ t → (o : Option ℕ) → (if t then Some 0 else option_map (λ i. i + 1) o) ≡ Some index → ((i : ℕ) → o ≡ Some i → IsFirst test rest i) → IsFirst test (x ∷ rest) index
    by_test true is o found f =
        let here : 0 ≡ index = cc found in
        subst (IsFirst test (x ∷ rest)) here (record { item = x; listed = refl; passes = is; first = λ k earlier less at. absurd (omega arith) })
    by_test false is None found f = cc found
    by_test false is (Some i) found f =
        let there : i + 1 ≡ index = cc found in
        subst (IsFirst test (x ∷ rest)) there (later i is (f i refl))

module _ (policy : Closed) (approvals : List ApprovedDoc) (facts : List Fact) where
  abbrev test : Path → Bool
  test path = matches approvals path (moves_of facts)

  not_matching : (path : Path) → test path ≡ false → Matches approvals path (moves_of facts) → ⊥
  not_matching path e =
      not_from_Decides (test path) (matches_Decides approvals path (moves_of facts)) e

  no_match : (paths : List Path) → first_index test paths ≡ None → AllByRecursion (λ path. Matches approvals path (moves_of facts) → ⊥) paths
  no_match [] none = tt
  no_match (path ∷ rest) none =
      let p = none_of_index (test path) (first_index test rest) none in
      (not_matching path p.0, no_match rest p.1)

  nothing_matches : first_match policy approvals facts ≡ None → NoMatch policy approvals facts
  nothing_matches none =
      All-from_recursion (λ path. Matches approvals path (moves_of facts) → ⊥) (paths_of policy approvals) (no_match (paths_of policy approvals) none)

  matched : (index : ℕ) → first_match policy approvals facts ≡ Some index → IsFirstMatch policy approvals facts (index + 1)
  matched index e =
      let f = first_of test (paths_of policy approvals) index e in
      let n : index + 1 - 1 ≡ index = omega arith in
      record {
        path = f.item;
        counted = omega arith;
        listed = ap (slice_get (paths_of policy approvals)) n ∙ f.listed;
        matching = (matches_Decides approvals f.item (moves_of facts)).0 f.passes;
        first = λ k earlier less at. not_matching earlier (f.first k earlier (omega arith) at);
      }

  means_by : (opening : Opening) (index : Option ℕ) → first_match policy approvals facts ≡ index → (clash : Option (List ℕ × List ℕ)) → first_clash (inputs policy approvals facts) ≡ clash → (string : Option (List ℕ)) → first_zero (inputs policy approvals facts) ≡ string → opening_by index (events_of facts) (inputs policy approvals facts) ≡ Some opening → IsOpening policy approvals facts opening
  means_by opening (Some index) a clash b string c e =
      let same : Branch (index + 1) (events_of facts) ≡ opening = cc e in
      subst (IsOpening policy approvals facts) same (matched index a, refl)
  means_by opening None a (Some pair) b string c e =
      let found : Some (Clash pair.0 pair.1) ≡ Some opening = sym (ap (λ x. broken_opening x (first_zero (inputs policy approvals facts))) b) ∙ e in
      let same : Clash pair.0 pair.1 ≡ opening = cc found in
      subst (IsOpening policy approvals facts) same (nothing_matches a, clash_found (inputs policy approvals facts) pair b)
  means_by opening None a None b (Some string) c e =
      let found : Some (ZeroInput string) ≡ Some opening = sym (ap (λ x. broken_opening x (first_zero (inputs policy approvals facts))) b ∙ ap zero_opening c) ∙ e in
      let same : ZeroInput string ≡ opening = cc found in
      subst (IsOpening policy approvals facts) same (nothing_matches a, no_clash (inputs policy approvals facts) b, zero_found (inputs policy approvals facts) string c)
  means_by opening None a None b None c e =
      absurd (false≢true (ap is_some (sym (ap (λ x. broken_opening x (first_zero (inputs policy approvals facts))) b ∙ ap zero_opening c) ∙ e)))

  pub opening_means : (opening : Opening) → opening_of policy approvals facts ≡ Some opening → IsOpening policy approvals facts opening
  opening_means opening e =
      means_by opening (first_match policy approvals facts) refl (first_clash (inputs policy approvals facts)) refl (first_zero (inputs policy approvals facts)) refl e

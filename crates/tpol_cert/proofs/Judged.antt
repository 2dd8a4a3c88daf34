-- What `check` answers is the judgement over all choices and paths.
use Rattle.std.proofs.Common.{◌≡◌, ℕ, zero, suc, ◌+◌, ◌-◌, ◌≤◌, Bool, true, false, List, [], ◌∷◌, Option, Some, None, Result, Ok, Err, refl, sym, ap, ◌∙◌, subst, inl, inr, arith}
use Rattle.std.specs.Prelude.{if◌then◌else◌}
use Rattle.std.specs.List.{slice_get}
use Rattle.std.proofs.lemmas.Bool.{eqb-true}
use Rattle.std.proofs.lemmas.Slice.Eq.{bytes_eq-Decides}
use Rattle.tpol_base.specs.declared.digest.Digest32.{Digest32}
use Rattle.tpol_tree.specs.declared.closed.Closed.{Closed}
use Rattle.tpol_tree.specs.declared.path.ApprovedDoc.{ApprovedDoc}
use Rattle.tpol_tree.specs.declared.path.Path.{Path}
use Rattle.tpol_digest.specs.Digest.{zero_digest}
use Rattle.tpol_digest.specs.Paths.{paths_of}
use Rattle.tpol_cert.specs.declared.certificate.Certificate.{Certificate}
use Rattle.tpol_cert.specs.declared.choice.Choice.{Choice}
use Rattle.tpol_cert.specs.declared.choice.Choice.TheVariants.{Branch, Document, Outside}
use Rattle.tpol_cert.specs.declared.fault.CertFault.{CertFault}
use Rattle.tpol_cert.specs.declared.fault.CertFault.TheVariants as faults
use Rattle.tpol_cert.specs.Certificates.{digests_along}
use Rattle.tpol_cert.specs.Choices.{choices_of, same_choice}
use Rattle.tpol_cert.specs.Judgement.{judgement_at, judgement_of, judgement_on, moves_in, position_of, same_choices, unless_different}
use Rattle.tpol_cert.specs.Judging.{AnswersUnlessNoMemory, IsAt, Judged, first_difference}
use Rattle.tpol_cert.specs.Reading.{certificate_in}
use Rattle.tpol_cert.proofs.Apart.{choices_part, one_index, same_itself}

-- ---- digests

pub none_where_same : (n : ℕ) (xs : List Digest32) → first_difference n xs xs ≡ None
none_where_same n [] = refl
none_where_same n (x ∷ xs) =
    ap (λ b. if b then first_difference (n + 1) xs xs else Some n) ((bytes_eq-Decides x.bytes x.bytes).1 refl) ∙ none_where_same (n + 1) xs

-- ---- positions

pub one_position : (policy : Closed) (approvals : List ApprovedDoc) (m n : ℕ) (choices : List Choice) → 1 ≤ m → 1 ≤ n → slice_get (choices_of policy approvals) (m - 1) ≡ Some choices → slice_get (choices_of policy approvals) (n - 1) ≡ Some choices → m ≡ n
one_position policy approvals m n choices h k e f =
    let same = one_index (choices_of policy approvals) (m - 1) (n - 1) choices (choices_part policy approvals) e f in
    omega (arith, same, h, k)

pub some_is : {A : Type 0} (x y : A) → Some x ≡ Some y → x ≡ y
some_is x y e = cc

same_choice_is : (a b : Choice) → same_choice a b ≡ true → a ≡ b
same_choice_is (Branch m) (Branch n) h = ap (λ k. Branch k) (eqb-true m n h)
same_choice_is (Branch m) (Document n) h = absurd cc
same_choice_is (Branch m) Outside h = absurd cc
same_choice_is (Document m) (Branch n) h = absurd cc
same_choice_is (Document m) (Document n) h = ap (λ k. Document k) (eqb-true m n h)
same_choice_is (Document m) Outside h = absurd cc
same_choice_is Outside (Branch n) h = absurd cc
same_choice_is Outside (Document n) h = absurd cc
same_choice_is Outside Outside h = refl

same_choices_are : (xs ys : List Choice) → same_choices xs ys ≡ true → xs ≡ ys
same_choices_are [] [] h = refl
same_choices_are [] (b ∷ ys) h = absurd cc
same_choices_are (a ∷ xs) [] h = absurd cc
same_choices_are (a ∷ xs) (b ∷ ys) h = by (same_choice a b) (same_choice_is a b) (same_choices_are xs ys) h
  where
    by : (first : Bool) → (first ≡ true → a ≡ b) → (same_choices xs ys ≡ true → xs ≡ ys) → (if first then same_choices xs ys else false) ≡ true → a ∷ xs ≡ b ∷ ys
    by true same rest e = ap (λ c. c ∷ xs) (same refl) ∙ ap (λ l. b ∷ l) (rest e)
    by false same rest e = absurd cc

same_themselves : (xs : List Choice) → same_choices xs xs ≡ true
same_themselves [] = refl
same_themselves (x ∷ xs) = ap (λ b. if b then same_choices xs xs else false) (same_itself x) ∙ same_themselves xs

-- the steps stand where they are found
pub found_at : (n : ℕ) (steps : List Choice) (all : List (List Choice)) (m : ℕ) → position_of n steps all ≡ Some m → (n ≤ m) × (slice_get all (m - n) ≡ Some steps)
found_at n steps [] m e = absurd cc
found_at n steps (choices ∷ rest) m e = by (same_choices steps choices) (same_choices_are steps choices) (found_at (n + 1) steps rest m) e
  where
    by : (b : Bool) → (b ≡ true → steps ≡ choices) → (position_of (n + 1) steps rest ≡ Some m → (n + 1 ≤ m) × (slice_get rest (m - (n + 1)) ≡ Some steps)) → (if b then Some n else position_of (n + 1) steps rest) ≡ Some m → (n ≤ m) × (slice_get (choices ∷ rest) (m - n) ≡ Some steps)
    by true same later h =
        let is = some_is n m h in
        let none : m - n ≡ 0 = omega (arith, is) in
        (omega (arith, is), ap (slice_get (choices ∷ rest)) none ∙ ap (λ l. Some l) (sym (same refl)))
    by false same later h =
        let there = later h in
        let index : m - n ≡ suc (m - (n + 1)) = omega (arith, there.0) in
        (omega (arith, there.0), ap (slice_get (choices ∷ rest)) index ∙ there.1)

-- and nowhere where they are not found
none_at : (n : ℕ) (steps : List Choice) (all : List (List Choice)) → position_of n steps all ≡ None → (index : ℕ) → slice_get all index ≡ Some steps → ⊥
none_at n steps [] e index h = cc
none_at n steps (choices ∷ rest) e zero h =
    let same : same_choices steps choices ≡ true = subst (λ l. same_choices steps l ≡ true) (sym (some_is choices steps h)) (same_themselves steps) in
    let both : Some n ≡ None = ap (λ b. if b then Some n else position_of (n + 1) steps rest) (sym same) ∙ e in
    cc
none_at n steps (choices ∷ rest) e (suc index) h = by (same_choices steps choices) (λ none. none_at (n + 1) steps rest none index h) e
  where
    by : (b : Bool) → (position_of (n + 1) steps rest ≡ None → ⊥) → (if b then Some n else position_of (n + 1) steps rest) ≡ None → ⊥
    by true later f = cc
    by false later f = later f

-- ---- the judgement

module _ (policy : Closed) (approvals : List ApprovedDoc) where
  abbrev all : List (List Choice)
  all = choices_of policy approvals

  abbrev paths : List Path
  paths = paths_of policy approvals

  -- of a certificate whose steps lead to this path
  at_path : (c : Certificate) (m position : ℕ) (path : Path) (difference : Option ℕ) → IsAt policy approvals position c.steps path → position_of 1 c.steps all ≡ Some m
      → first_difference 1 c.digests (digests_along zero_digest path.moves) ≡ difference → judgement_at all paths c (Some m) ≡ unless_different position difference
  at_path c m position path difference is found differs =
      let there = found_at 1 c.steps all m found in
      let here : m ≡ position = one_position policy approvals m position c.steps there.0 is.counted there.1 is.chosen in
      ap (λ (k : ℕ). judgement_at all paths c (Some k)) here
      ∙ (ap (λ (p : Option Path). unless_different position (first_difference 1 c.digests (digests_along zero_digest (moves_in p)))) is.is_there
      ∙ ap (unless_different position) differs)

  as_judged : (c : Certificate) (found : Option ℕ) (result : Result ℕ CertFault) → position_of 1 c.steps all ≡ found → Judged policy approvals c result
      → AnswersUnlessNoMemory result (judgement_at all paths c found)
  as_judged c found (Err faults.NoMemory) e h = inl refl
  as_judged c found (Err faults.Malformed) e h = absurd h
  as_judged c None (Ok position) e h = absurd (none_at 1 c.steps all e (position - 1) h.at.chosen)
  as_judged c None (Err (faults.NoStep number)) e h = inr (ap (λ (k : ℕ). Err (faults.NoStep k)) h.first)
  as_judged c None (Err (faults.Differs number)) e h = absurd (none_at 1 c.steps all e (h.position - 1) h.at.chosen)
  as_judged c (Some m) (Ok position) e h =
      let same : first_difference 1 c.digests (digests_along zero_digest h.path.moves) ≡ None = ap (first_difference 1 c.digests) (sym h.same) ∙ none_where_same 1 c.digests in
      inr (sym (at_path c m position h.path None h.at e same))
  as_judged c (Some m) (Err (faults.NoStep number)) e h = let there = found_at 1 c.steps all m e in absurd (h.none (m - 1) there.1)
  as_judged c (Some m) (Err (faults.Differs number)) e h = inr (sym (at_path c m h.position h.path (Some number) h.at e h.first))

  -- of bytes that were read, and of others
  pub told_read : (bytes : List ℕ) (c : Certificate) (result : Result ℕ CertFault) → certificate_in bytes ≡ Some c → Judged policy approvals c result → AnswersUnlessNoMemory result (judgement_of policy approvals bytes)
  unfolding judgement_of
  told_read bytes c result e h =
      subst (λ (read : Option Certificate). AnswersUnlessNoMemory result (judgement_on all paths read)) (sym e) (as_judged c (position_of 1 c.steps all) result refl h)

  pub told_unread : (bytes : List ℕ) → certificate_in bytes ≡ None → Err faults.Malformed ≡ judgement_of policy approvals bytes
  unfolding judgement_of
  told_unread bytes e = sym (ap (judgement_on all paths) e)

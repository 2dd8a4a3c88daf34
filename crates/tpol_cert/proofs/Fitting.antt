-- The numbers of choices are small, so that each path within the limits has a certificate.
use Rattle.std.proofs.Common.{◌≡◌, ℕ, zero, suc, ◌+◌, ◌-◌, ◌<◌, ◌≤◌, Bool, true, false, List, [], ◌∷◌, ◌++◌, map, length, length-append, Some, refl, sym, ap, ◌∙◌, subst, inl, inr, arith}
use Rattle.std.specs.Prelude.{◌⊎◌, ⊤, is_some, if◌then◌else◌}
use Rattle.std.specs.List.{AllByRecursion, slice_get}
use Rattle.std.proofs.lemmas.List.{length-map}
use Rattle.std.proofs.lemmas.List.Elements.{recursion_from_All}
use Rattle.tpol_tree.specs.Closed.{BranchesHaveBranchCounts, ElementHasBranchCounts, HasBranchCounts, branch_count}
use Rattle.tpol_tree.specs.declared.closed.Closed.{Closed}
use Rattle.tpol_tree.specs.declared.closed.ClosedElements.{ClosedElements}
use Rattle.tpol_tree.specs.declared.closed.ClosedElements.TheVariants.{More', End}
use Rattle.tpol_tree.specs.declared.closed.ClosedElement.{ClosedElement}
use Rattle.tpol_tree.specs.declared.closed.ClosedElement.TheVariants.{Assert, Or, Authorize, AuthorizeNv}
use Rattle.tpol_tree.specs.declared.closed.ClosedBranches.{ClosedBranches}
use Rattle.tpol_tree.specs.declared.closed.ClosedBranches.TheVariants.{More' as MoreBranches', End as EndBranches}
use Rattle.tpol_tree.specs.declared.path.ApprovedDoc.{ApprovedDoc}
use Rattle.tpol_tree.specs.declared.path.Path.{Path}
use Rattle.tpol_digest.proofs.Extents.{mul_bounds}
use Rattle.tpol_digest.proofs.Positions.{found_has}
use Rattle.tpol_digest.specs.Digest.{zero_digest}
use Rattle.tpol_digest.specs.Limits.{AreWithinLimits}
use Rattle.tpol_digest.specs.Paths.{approval_of, paths_of}
use Rattle.tpol_digest.specs.WellFormed.{HaveBranchCounts}
use Rattle.tpol_cert.specs.declared.choice.Choice.{Choice}
use Rattle.tpol_cert.specs.declared.choice.Choice.TheVariants.{Branch, Document, Outside}
use Rattle.tpol_cert.specs.Certificates.{Certifies, certificate_of}
use Rattle.tpol_cert.specs.Choices.{approved_choices, behind, choices_at, choices_at_branches, choices_at_element, choices_of, document_choices, each_with}
use Rattle.tpol_cert.specs.Judgement.{certificate_bytes, certificate_with}
use Rattle.tpol_cert.specs.Laws.{PathsHaveCertificates}
use Rattle.tpol_cert.specs.Spelling.{ChoiceFits, Fits, spelled}
use Rattle.tpol_cert.proofs.Along.{length-digests_along}
use Rattle.tpol_cert.proofs.Apart.{at_index, each_append, each_map, each_weaker}
use Rattle.tpol_cert.proofs.Beside.{beside-at, beside-length, choices_beside}
use Rattle.tpol_cert.proofs.Going.{length-product}

-- ---- numbers up to a bound

abbrev IsUpTo : ℕ → Choice → Type 0
IsUpTo n (Branch number) = number ≤ n
IsUpTo n (Document number) = number ≤ n
IsUpTo n Outside = ⊤

abbrev AreUpTo : ℕ → List (List Choice) → Type 0
AreUpTo n all = AllByRecursion (AllByRecursion (IsUpTo n)) all

up_to_more : (n m : ℕ) → n ≤ m → (choice : Choice) → IsUpTo n choice → IsUpTo m choice
up_to_more n m h (Branch number) k = omega (arith, h, k)
up_to_more n m h (Document number) k = omega (arith, h, k)
up_to_more n m h Outside k = tt

more : (n m : ℕ) → n ≤ m → (all : List (List Choice)) → AreUpTo n all → AreUpTo m all
more n m h all k = each_weaker (AllByRecursion (IsUpTo n)) (AllByRecursion (IsUpTo m)) all (λ xs. each_weaker (IsUpTo n) (IsUpTo m) xs (up_to_more n m h)) k

product_up_to : (n : ℕ) (firsts rests : List (List Choice)) → AreUpTo n firsts → AreUpTo n rests → AreUpTo n (each_with firsts rests)
product_up_to n [] rests h k = tt
product_up_to n (xs ∷ firsts) rests h k =
    each_append (AllByRecursion (IsUpTo n)) (map (λ rest. xs ++ rest) rests) (each_with firsts rests)
    (each_map (AllByRecursion (IsUpTo n)) (AllByRecursion (IsUpTo n)) (λ rest. xs ++ rest) rests (λ ys l. each_append (IsUpTo n) xs ys h.0 l) k)
    (product_up_to n firsts rests h.1 k)

-- there are some, and no number is larger than their count
abbrev AreCounted : List (List Choice) → Type 0
AreCounted all = (1 ≤ length all) × AreUpTo (length all) all

product_counted : (firsts rests : List (List Choice)) → AreCounted firsts → AreCounted rests → AreCounted (each_with firsts rests)
product_counted firsts rests h k =
    let count = length-product firsts rests in
    let bounds = mul_bounds (length firsts) (length rests) (length (each_with firsts rests)) h.0 k.0 (omega (arith, count)) in (
      omega (arith, bounds.0, h.0),
      product_up_to (length (each_with firsts rests)) firsts rests
          (more (length firsts) (length (each_with firsts rests)) bounds.0 firsts h.1) (more (length rests) (length (each_with firsts rests)) bounds.1 rests k.1),
    )

-- a branch or a document of a number, in front of others
module _ (choice : Choice) (number : ℕ) (is : (n : ℕ) → number ≤ n → IsUpTo n choice) where
  behind_up_to : (inner others : List (List Choice)) → 1 ≤ number → AreCounted inner → AreUpTo (number + length others) others
      → AreUpTo (number - 1 + length (behind choice inner ++ others)) (behind choice inner ++ others)
  behind_up_to inner others positive h k =
      let total = length-append (behind choice inner) others in
      let same = length-map inner (λ rest. choice ∷ rest) in
      let bound = number - 1 + length (behind choice inner ++ others) in
      let here : number ≤ bound = omega (arith, total, same, h.0, positive) in
      let inside : length inner ≤ bound = omega (arith, total, same) in
      let later : number + length others ≤ bound = omega (arith, total, same, h.0, positive) in
      each_append (AllByRecursion (IsUpTo bound)) (behind choice inner) others
      (each_map (AllByRecursion (IsUpTo bound)) (AllByRecursion (IsUpTo bound)) (λ rest. choice ∷ rest) inner (λ xs l. (is bound here, l)) (more (length inner) bound inside inner h.1))
      (more (number + length others) bound later others k)

-- ---- of the parts of a policy, where documents are entered, or none is

abbrev AreEntered : (ApprovedDoc → List (List Choice)) → List ApprovedDoc → Type 0
AreEntered within documents = AllByRecursion (λ document. AreCounted (within document)) documents ⊎ ((document : ApprovedDoc) → within document ≡ [])

module _ (within : ApprovedDoc → List (List Choice)) where
  approved_up_to : (element : ClosedElement) (some : List ApprovedDoc) (number : ℕ) → 1 ≤ number → AllByRecursion (λ document. AreCounted (within document)) some
      → AreUpTo (number - 1 + length (approved_choices within number element some)) (approved_choices within number element some)
  approved_up_to element [] number positive h = tt
  approved_up_to element (document ∷ rest) number positive h =
      by (is_some (approval_of element document)) (approved_up_to element rest number positive h.1) (approved_up_to element rest (number + 1) (omega arith) h.1)
    where
      by : (b : Bool) → AreUpTo (number - 1 + length (approved_choices within number element rest)) (approved_choices within number element rest)
          → AreUpTo (number + 1 - 1 + length (approved_choices within (number + 1) element rest)) (approved_choices within (number + 1) element rest)
          → AreUpTo (number - 1 + length (if b then behind (Document number) (within document) ++ approved_choices within (number + 1) element rest else approved_choices within number element rest))
          (if b then behind (Document number) (within document) ++ approved_choices within (number + 1) element rest else approved_choices within number element rest)
      by true k l =
          let others = approved_choices within (number + 1) element rest in
          behind_up_to (Document number) number (λ n le. le) (within document) others positive h.0 (more (number + 1 - 1 + length others) (number + length others) (omega arith) others l)
      by false k l = k

  none_approved : ((document : ApprovedDoc) → within document ≡ []) → (element : ClosedElement) (some : List ApprovedDoc) (number : ℕ) → approved_choices within number element some ≡ []
  none_approved none element [] number = refl
  none_approved none element (document ∷ rest) number =
      by (is_some (approval_of element document)) (none_approved none element rest number) (none_approved none element rest (number + 1))
    where
      by : (b : Bool) → approved_choices within number element rest ≡ [] → approved_choices within (number + 1) element rest ≡ []
          → (if b then behind (Document number) (within document) ++ approved_choices within (number + 1) element rest else approved_choices within number element rest) ≡ []
      by true k l = ap (λ inner. behind (Document number) inner ++ approved_choices within (number + 1) element rest) (none document) ∙ l
      by false k l = k

  module _ (documents : List ApprovedDoc) (entered : AreEntered within documents) where
    approval_counted : (element : ClosedElement) → AreCounted (approved_choices within 1 element documents ++ (Outside ∷ []) ∷ [])
    approval_counted element = by entered
      where
        by : AreEntered within documents → AreCounted (approved_choices within 1 element documents ++ (Outside ∷ []) ∷ [])
        by (inl each) =
            let some = approved_choices within 1 element documents in
            let all = some ++ (Outside ∷ []) ∷ [] in
            let total = length-append some ((Outside ∷ []) ∷ []) in
            let few : 1 - 1 + length some ≤ length all = omega (arith, total) in (
              omega (arith, total),
              each_append (AllByRecursion (IsUpTo (length all))) some ((Outside ∷ []) ∷ [])
                  (more (1 - 1 + length some) (length all) few some (approved_up_to element documents 1 (omega arith) each)) ((tt, tt), tt),
            )
        by (inr none) = subst (λ some. AreCounted (some ++ (Outside ∷ []) ∷ [])) (sym (none_approved none element documents 1)) (omega arith, ((tt, tt), tt))

    mutual
      elements_counted : (elements : ClosedElements) → HasBranchCounts elements → AreCounted (choices_at within documents elements)
      elements_counted End h = (omega arith, (tt, tt))
      elements_counted (More' p element q rest) h =
          product_counted (choices_at_element within documents element) (choices_at within documents rest) (element_counted element h.0) (elements_counted rest h.1)

      element_counted : (element : ClosedElement) → ElementHasBranchCounts element → AreCounted (choices_at_element within documents element)
      element_counted (Assert assertion) h = (omega arith, (tt, tt))
      element_counted (Or branches) h =
          let all = choices_at_branches within documents branches 1 in
          let each = branches_counted branches 1 (omega arith) h.1 in
          let some : 1 ≤ length all = omega (arith, each.0, h.0.0) in
          (some, more (1 - 1 + length all) (length all) (omega arith) all each.1)
      element_counted (Authorize key policy_ref) h = approval_counted (Authorize key policy_ref)
      element_counted (AuthorizeNv index) h = approval_counted (AuthorizeNv index)

      branches_counted : (branches : ClosedBranches) (position : ℕ) → 1 ≤ position → BranchesHaveBranchCounts branches
          → (branch_count branches ≤ length (choices_at_branches within documents branches position)) × AreUpTo (position - 1 + length (choices_at_branches within documents branches position)) (choices_at_branches within documents branches position)
      branches_counted EndBranches position positive h = (omega arith, tt)
      branches_counted (MoreBranches' p name elements q rest) position positive h =
          let inner = choices_at within documents elements in
          let others = choices_at_branches within documents rest (position + 1) in
          let first = elements_counted elements h.0 in
          let later = branches_counted rest (position + 1) (omega arith) h.1 in
          let total = length-append (behind (Branch position) inner) others in
          let same = length-map inner (λ l. Branch position ∷ l) in (
            omega (arith, total, same, first.0, later.0),
            behind_up_to (Branch position) position (λ n le. le) inner others positive first
                (more (position + 1 - 1 + length others) (position + length others) (omega arith) others later.1),
          )

documents_entered : (documents : List ApprovedDoc) (levels : ℕ) → AllByRecursion (λ document. HasBranchCounts document.closed.elements) documents → AreEntered (document_choices documents levels) documents
unfolding document_choices
documents_entered documents zero h = inr (λ document. refl)
documents_entered documents (suc levels) h = inl (each (documents_entered documents levels h) documents h)
  where
    each : AreEntered (document_choices documents levels) documents → (some : List ApprovedDoc) → AllByRecursion (λ document. HasBranchCounts document.closed.elements) some → AllByRecursion (λ document. AreCounted (document_choices documents (suc levels) document)) some
    each before [] k = tt
    each before (document ∷ rest) k = (elements_counted (document_choices documents levels) documents before document.closed.elements k.0, each before rest k.1)

choices_counted : (policy : Closed) (approvals : List ApprovedDoc) → HaveBranchCounts policy approvals → AreCounted (choices_of policy approvals)
choices_counted policy approvals h =
    elements_counted (document_choices approvals 4) approvals
    (documents_entered approvals 4 (recursion_from_All (λ document. HasBranchCounts document.closed.elements) approvals h.documents)) policy.elements h.policy_itself

-- ---- so a certificate fits

pub as_many : (policy : Closed) (approvals : List ApprovedDoc) → length (choices_of policy approvals) ≡ length (paths_of policy approvals)
as_many policy approvals = beside-length (choices_of policy approvals) (paths_of policy approvals) (choices_beside policy approvals)

pub short : (policy : Closed) (approvals : List ApprovedDoc) (index : ℕ) (path : Path) → AreWithinLimits (paths_of policy approvals) → slice_get (paths_of policy approvals) index ≡ Some path → length path.moves ≤ 512
short policy approvals index path within is = found_has (λ p. length p.moves ≤ 512) (paths_of policy approvals) index path within.short is

small : (n : ℕ) → n ≤ 65536 → (choice : Choice) → IsUpTo n choice → ChoiceFits choice
small n h (Branch number) k = omega (arith, h, k)
small n h (Document number) k = omega (arith, h, k)
small n h Outside k = tt

fits : (policy : Closed) (approvals : List ApprovedDoc) → HaveBranchCounts policy approvals → AreWithinLimits (paths_of policy approvals)
    → (index : ℕ) (choices : List Choice) (path : Path) → slice_get (choices_of policy approvals) index ≡ Some choices → slice_get (paths_of policy approvals) index ≡ Some path → Fits (certificate_of choices path)
fits policy approvals counts within index choices path chosen is =
    let all = choices_of policy approvals in
    let counted = choices_counted policy approvals counts in
    let few : length all ≤ 65536 = omega (arith, as_many policy approvals, within.few) in
    let beside = beside-at all (paths_of policy approvals) index choices path (choices_beside policy approvals) chosen is in
    let moves = short policy approvals index path within is in
    record {
      steps = omega (arith, beside.closed, moves);
      numbers = each_weaker (IsUpTo (length all)) ChoiceFits choices (small (length all) few) (at_index (AllByRecursion (IsUpTo (length all))) all index choices counted.1 chosen);
      digests = omega (arith, moves, length-digests_along zero_digest path.moves);
    }

-- ---- the certificate of each path

there_is : {A : Type 0} (xs : List A) (i : ℕ) → i < length xs → (x : A) × (slice_get xs i ≡ Some x)
there_is [] i h = absurd (omega arith)
there_is (x ∷ xs) zero h = (x, refl)
there_is (x ∷ xs) (suc i) h = there_is xs i (omega arith)

pub certified_bytes : (policy : Closed) (approvals : List ApprovedDoc) (position : ℕ) (bytes : List ℕ) → Certifies bytes policy approvals position → certificate_bytes policy approvals position ≡ Some bytes
unfolding certificate_bytes
certified_bytes policy approvals position bytes w =
    ap (λ choices. certificate_with choices (slice_get (paths_of policy approvals) (position - 1))) w.chosen
    ∙ ap (certificate_with (Some w.choices)) w.is_there ∙ ap (λ b. Some b) (sym w.spells)

pub paths_have_certificates : PathsHaveCertificates
paths_have_certificates policy approvals position counts within counted inside =
    let path = there_is (paths_of policy approvals) (position - 1) (omega (arith, counted, inside)) in
    let choices = there_is (choices_of policy approvals) (position - 1) (omega (arith, counted, inside, as_many policy approvals)) in
    let bytes = spelled (certificate_of choices.0 path.0) in
    let certifies : Certifies bytes policy approvals position = record {
      choices = choices.0;
      path = path.0;
      counted = counted;
      chosen = choices.1;
      is_there = path.1;
      fits = fits policy approvals counts within (position - 1) choices.0 path.0 choices.1 path.1;
      spells = refl;
    } in
    record { bytes = bytes; spelled = certified_bytes policy approvals position bytes certifies; certifies = certifies }

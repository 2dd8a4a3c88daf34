-- The choices stand in the order of the paths, and are their steps.
use Rattle.std.proofs.Common.{◌≡◌, ℕ, zero, suc, ◌+◌, List, [], ◌∷◌, ◌++◌, map, length, length-append, Option, Some, None, refl, ap, subst, arith}
use Rattle.std.specs.Prelude.{is_some, if◌then◌else◌}
use Rattle.std.specs.List.{slice_get}
use Rattle.tpol_base.specs.declared.digest.Digest32.{Digest32}
use Rattle.tpol_tree.specs.declared.closed.Closed.{Closed}
use Rattle.tpol_tree.specs.declared.closed.ClosedElements.{ClosedElements}
use Rattle.tpol_tree.specs.declared.closed.ClosedElements.TheVariants.{More', End}
use Rattle.tpol_tree.specs.declared.closed.ClosedElement.{ClosedElement}
use Rattle.tpol_tree.specs.declared.closed.ClosedElement.TheVariants.{Assert, Or, Authorize, AuthorizeNv}
use Rattle.tpol_tree.specs.declared.closed.ClosedBranches.{ClosedBranches}
use Rattle.tpol_tree.specs.declared.closed.ClosedBranches.TheVariants.{More' as MoreBranches', End as EndBranches}
use Rattle.tpol_tree.specs.declared.path.ApprovedDoc.{ApprovedDoc}
use Rattle.tpol_tree.specs.declared.path.Move.{Move}
use Rattle.tpol_tree.specs.declared.path.Move.TheVariants.{Or as OrMove}
use Rattle.tpol_tree.specs.declared.path.Path.{Path}
use Rattle.tpol_tree.specs.declared.path.PathStep.{PathStep}
use Rattle.tpol_tree.specs.declared.path.PathStep.TheVariants.{Branch as BranchStep, Document as DocumentStep}
use Rattle.tpol_digest.specs.Digest.{digest_at_element, branch_digests, zero_digest}
use Rattle.tpol_digest.specs.Paths.{approval_of, approved_paths, between, document_paths, followed_by, outside_paths, paths_at, paths_at_branches, paths_at_element, paths_by_approval, paths_of, product}
use Rattle.tpol_cert.specs.declared.choice.Choice.{Choice}
use Rattle.tpol_cert.specs.declared.choice.Choice.TheVariants.{Branch, Document, Outside}
use Rattle.tpol_cert.specs.Choices.{approved_choices, behind, choices_at, choices_at_branches, choices_at_element, choices_of, document_choices, each_with}
use Rattle.tpol_cert.specs.Steps.{IsStep, AreSteps, AreOf, Beside}

-- ---- of one path

steps-append : (xs ys : List Choice) (ss ts : List PathStep) → AreSteps xs ss → AreSteps ys ts → AreSteps (xs ++ ys) (ss ++ ts)
steps-append [] ys [] ts h k = k
steps-append [] ys (s ∷ ss) ts h k = absurd h
steps-append (x ∷ xs) ys [] ts h k = absurd h
steps-append (x ∷ xs) ys (s ∷ ss) ts h k = (h.0, steps-append xs ys ss ts h.1 k)

of_followed : (xs ys : List Choice) (p q : Path) → AreOf xs p → AreOf ys q → AreOf (xs ++ ys) (followed_by p q)
of_followed xs ys p q h k = record {
  steps = steps-append xs ys p.steps q.steps h.steps k.steps;
  closed = omega (arith, h.closed, k.closed, length-append xs ys, length-append p.moves q.moves);
}

of_between : (choice : Choice) (step : PathStep) (act : Move) (xs : List Choice) (p : Path) → IsStep choice step → AreOf xs p → AreOf (choice ∷ xs) (between step act p)
of_between choice step act xs p is h = record {
  steps = (is, h.steps);
  closed = omega (arith, h.closed, length-append p.moves (act ∷ []));
}

-- ---- of lists of paths

beside-append : (xs ys : List (List Choice)) (ps qs : List Path) → Beside xs ps → Beside ys qs → Beside (xs ++ ys) (ps ++ qs)
beside-append [] ys [] qs h k = k
beside-append [] ys (p ∷ ps) qs h k = absurd h
beside-append (x ∷ xs) ys [] qs h k = absurd h
beside-append (x ∷ xs) ys (p ∷ ps) qs h k = (h.0, beside-append xs ys ps qs h.1 k)

beside-under : (x : List Choice) (p : Path) (ys : List (List Choice)) (qs : List Path) → AreOf x p → Beside ys qs → Beside (map (λ y. x ++ y) ys) (map (followed_by p) qs)
beside-under x p [] [] h k = tt
beside-under x p [] (q ∷ qs) h k = absurd k
beside-under x p (y ∷ ys) [] h k = absurd k
beside-under x p (y ∷ ys) (q ∷ qs) h k = (of_followed x y p q h k.0, beside-under x p ys qs h k.1)

beside-product : (xs ys : List (List Choice)) (ps qs : List Path) → Beside xs ps → Beside ys qs → Beside (each_with xs ys) (product ps qs)
beside-product [] ys [] qs h k = tt
beside-product [] ys (p ∷ ps) qs h k = absurd h
beside-product (x ∷ xs) ys [] qs h k = absurd h
beside-product (x ∷ xs) ys (p ∷ ps) qs h k =
    beside-append (map (λ y. x ++ y) ys) (each_with xs ys) (map (followed_by p) qs) (product ps qs) (beside-under x p ys qs h.0 k) (beside-product xs ys ps qs h.1 k)

beside-between : (choice : Choice) (step : PathStep) (act : Move) (xs : List (List Choice)) (ps : List Path) → IsStep choice step → Beside xs ps → Beside (behind choice xs) (map (between step act) ps)
beside-between choice step act [] [] is h = tt
beside-between choice step act [] (p ∷ ps) is h = absurd h
beside-between choice step act (x ∷ xs) [] is h = absurd h
beside-between choice step act (x ∷ xs) (p ∷ ps) is h = (of_between choice step act x p is h.0, beside-between choice step act xs ps is h.1)

-- ---- of the parts of a policy

module _ (within : ApprovedDoc → List (List Choice)) (entered : ApprovedDoc → List Path) (documents : List ApprovedDoc) (agree : (document : ApprovedDoc) → Beside (within document) (entered document)) where
  approved_beside : (element : ClosedElement) (number : ℕ) (some : List ApprovedDoc) → Beside (approved_choices within number element some) (approved_paths entered some element)
  approved_beside element number [] = tt
  approved_beside element number (document ∷ rest) =
      by (approval_of element document) (approved_beside element number rest) (approved_beside element (number + 1) rest)
    where
      by : (found : Option Move) → Beside (approved_choices within number element rest) (approved_paths entered rest element) → Beside (approved_choices within (number + 1) element rest) (approved_paths entered rest element)
          → Beside (if is_some found then behind (Document number) (within document) ++ approved_choices within (number + 1) element rest else approved_choices within number element rest) (paths_by_approval found document (entered document) ++ approved_paths entered rest element)
      by None h k = h
      by (Some act) h k =
          beside-append (behind (Document number) (within document)) (approved_choices within (number + 1) element rest)
          (map (between (DocumentStep document.document) act) (entered document)) (approved_paths entered rest element)
          (beside-between (Document number) (DocumentStep document.document) act (within document) (entered document) tt (agree document)) k

  mutual
    elements_beside : (elements : ClosedElements) (d : Digest32) → Beside (choices_at within documents elements) (paths_at entered documents elements d)
    elements_beside End d = (record { steps = tt; closed = omega arith }, tt)
    elements_beside (More' p element q rest) d =
        beside-product (choices_at_element within documents element) (choices_at within documents rest) (paths_at_element entered documents element d) (paths_at entered documents rest (digest_at_element element d))
        (element_beside element d) (elements_beside rest (digest_at_element element d))

    element_beside : (element : ClosedElement) (d : Digest32) → Beside (choices_at_element within documents element) (paths_at_element entered documents element d)
    element_beside (Assert assertion) d = (record { steps = tt; closed = omega arith }, tt)
    element_beside (Or branches) d = branches_beside branches 1 (OrMove (branch_digests branches d)) d
    element_beside (Authorize key policy_ref) d =
        beside-append (approved_choices within 1 (Authorize key policy_ref) documents) ((Outside ∷ []) ∷ []) (approved_paths entered documents (Authorize key policy_ref)) (outside_paths (Authorize key policy_ref))
        (approved_beside (Authorize key policy_ref) 1 documents) (record { steps = (tt, tt); closed = omega arith }, tt)
    element_beside (AuthorizeNv index) d =
        beside-append (approved_choices within 1 (AuthorizeNv index) documents) ((Outside ∷ []) ∷ []) (approved_paths entered documents (AuthorizeNv index)) (outside_paths (AuthorizeNv index))
        (approved_beside (AuthorizeNv index) 1 documents) (record { steps = (tt, tt); closed = omega arith }, tt)

    branches_beside : (branches : ClosedBranches) (position : ℕ) (act : Move) (d : Digest32) → Beside (choices_at_branches within documents branches position) (paths_at_branches entered documents branches position act d)
    branches_beside EndBranches position act d = tt
    branches_beside (MoreBranches' p name elements q rest) position act d =
        beside-append (behind (Branch position) (choices_at within documents elements)) (choices_at_branches within documents rest (position + 1))
        (map (between (BranchStep position name) act) (paths_at entered documents elements d)) (paths_at_branches entered documents rest (position + 1) act d)
        (beside-between (Branch position) (BranchStep position name) act (choices_at within documents elements) (paths_at entered documents elements d) refl (elements_beside elements d))
        (branches_beside rest (position + 1) act d)

document_beside : (documents : List ApprovedDoc) (levels : ℕ) (document : ApprovedDoc) → Beside (document_choices documents levels document) (document_paths documents levels document)
unfolding document_choices document_paths
document_beside documents zero document = tt
document_beside documents (suc levels) document =
    elements_beside (document_choices documents levels) (document_paths documents levels) documents (document_beside documents levels) document.closed.elements zero_digest

pub ways_beside : (documents : List ApprovedDoc) (levels : ℕ) (elements : ClosedElements) (d : Digest32) → Beside (choices_at (document_choices documents levels) documents elements) (paths_at (document_paths documents levels) documents elements d)
ways_beside documents levels elements d =
    elements_beside (document_choices documents levels) (document_paths documents levels) documents (document_beside documents levels) elements d

pub element_ways_beside : (documents : List ApprovedDoc) (levels : ℕ) (element : ClosedElement) (d : Digest32) → Beside (choices_at_element (document_choices documents levels) documents element) (paths_at_element (document_paths documents levels) documents element d)
element_ways_beside documents levels element d =
    element_beside (document_choices documents levels) (document_paths documents levels) documents (document_beside documents levels) element d

pub choices_beside : (policy : Closed) (documents : List ApprovedDoc) → Beside (choices_of policy documents) (paths_of policy documents)
choices_beside policy documents = ways_beside documents 4 policy.elements zero_digest

-- ---- so they are as many, and at each index they are of the path

pub beside-length : (xs : List (List Choice)) (ps : List Path) → Beside xs ps → length xs ≡ length ps
beside-length [] [] h = refl
beside-length [] (p ∷ ps) h = absurd h
beside-length (x ∷ xs) [] h = absurd h
beside-length (x ∷ xs) (p ∷ ps) h = ap suc (beside-length xs ps h.1)

pub beside-at : (xs : List (List Choice)) (ps : List Path) (i : ℕ) (x : List Choice) (p : Path) → Beside xs ps → slice_get xs i ≡ Some x → slice_get ps i ≡ Some p → AreOf x p
beside-at [] ps i x p h e k = absurd cc
beside-at (y ∷ xs) [] i x p h e k = absurd h
beside-at (y ∷ xs) (q ∷ ps) zero x p h e k =
    let first : y ≡ x = cc in
    let second : q ≡ p = cc in
    subst (λ z. AreOf z p) first (subst (λ r. AreOf y r) second h.0)
beside-at (y ∷ xs) (q ∷ ps) (suc i) x p h e k = beside-at xs ps i x p h.1 e k

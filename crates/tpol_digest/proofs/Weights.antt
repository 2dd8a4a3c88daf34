-- How many parts a policy has, for the recursions over policies and approved documents.
use Rattle.std.proofs.Common.{◌≡◌, ℕ, zero, suc, ◌+◌, ◌-◌, ◌*◌, ◌<◌, ◌≤◌, max, List, [], ◌∷◌, length, get_or, arith}
use Rattle.tpol_tree.specs.declared.closed.ClosedElements.{ClosedElements}
use Rattle.tpol_tree.specs.declared.closed.ClosedElements.TheVariants.{More', End}
use Rattle.tpol_tree.specs.declared.closed.ClosedElement.{ClosedElement}
use Rattle.tpol_tree.specs.declared.closed.ClosedElement.TheVariants.{Assert, Or, Authorize, AuthorizeNv}
use Rattle.tpol_tree.specs.declared.closed.ClosedBranches.{ClosedBranches}
use Rattle.tpol_tree.specs.declared.closed.ClosedBranches.TheVariants.{More' as MoreBranches', End as EndBranches}
use Rattle.tpol_tree.specs.declared.path.ApprovedDoc.{ApprovedDoc}

-- the number of parts, each itself included
abbrev mutual
  pub weight : ClosedElements → ℕ
  weight End = 1
  weight (More' p element q rest) = weight_of_element element + weight rest + 1

  pub weight_of_element : ClosedElement → ℕ
  weight_of_element (Assert assertion) = 1
  weight_of_element (Or branches) = weight_of_branches branches + 1
  weight_of_element (Authorize key policy_ref) = 1
  weight_of_element (AuthorizeNv index) = 1

  pub weight_of_branches : ClosedBranches → ℕ
  weight_of_branches EndBranches = 1
  weight_of_branches (MoreBranches' p name elements q rest) = weight elements + weight_of_branches rest + 1

-- the greatest weight among documents, and one more
abbrev pub greatest : List ApprovedDoc → ℕ
greatest [] = 1
greatest (document ∷ rest) = max (weight document.closed.elements + 1) (greatest rest)

pub weight-lt-greatest : (documents : List ApprovedDoc) (i : ℕ) (d : ApprovedDoc) → i < length documents → weight (get_or documents i d).closed.elements < greatest documents
weight-lt-greatest [] i d h = absurd (omega arith)
weight-lt-greatest (document ∷ rest) zero d h = omega arith
weight-lt-greatest (document ∷ rest) (suc i) d h = let low = weight-lt-greatest rest i d (omega arith) in omega arith

-- one level less is less, whatever document is entered
pub level_less : (levels n w : ℕ) → 1 ≤ levels → w < n → (levels - 1) * n + w < levels * n
level_less zero n w h k = absurd (omega arith)
level_less (suc m) n w h k = let e : suc m - 1 ≡ m = omega arith in rw e (omega arith)

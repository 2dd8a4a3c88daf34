-- The counts of a walk's parts.
use Rattle.std.proofs.Common.{◌≡◌, ◌≢◌, ℕ, ◌+◌, ◌-◌, ◌<◌, ◌≤◌, ◌++◌, List, map, min, true, length, get_or, refl, ap, ◌∙◌, subst, arith}
use Rattle.std.specs.Prelude.{is_some}
use Rattle.tpol_base.specs.declared.digest.Digest32.{Digest32}
use Rattle.tpol_tree.specs.declared.closed.Closed.{Closed}
use Rattle.tpol_tree.specs.declared.closed.ClosedBranch.{ClosedBranch}
use Rattle.tpol_tree.specs.declared.closed.ClosedBranches.{ClosedBranches}
use Rattle.tpol_tree.specs.declared.closed.ClosedElement.{ClosedElement}
use Rattle.tpol_tree.specs.declared.closed.ClosedElements.{ClosedElements}
use Rattle.tpol_tree.specs.declared.path.ApprovedDoc.{ApprovedDoc}
use Rattle.tpol_tree.specs.declared.path.PathStep.TheVariants.{Branch}
use Rattle.tpol_digest.specs.declared.extent.Extent.{Extent}
use Rattle.tpol_digest.specs.Digest.{digest_at_element, zero_digest}
use Rattle.tpol_digest.specs.Extent.{FullExtent, IsCapped, document_extent, extent_at}
use Rattle.tpol_digest.specs.Limits.{AreWithinLimits}
use Rattle.tpol_digest.specs.Paths.{approval_of, followed_by, paths_of, product}
use Rattle.tpol_digest.specs.Positions.{approval_ways, branch_ways, element_list_ways, element_ways, path_of_step}
use Rattle.tpol_digest.proofs.Positions.{Parted, counted_first, document_counted, part, parted, ways_counted}
use Rattle.tpol_digest.proofs.Walks.{length-product}

-- the number of ways through elements, counted to 65,537
abbrev pub IsCount : List ApprovedDoc → ℕ → ClosedElements → ℕ → Type 0
IsCount documents levels elements count =
    (before : Digest32) → count ≡ min (length (element_list_ways documents levels elements before)) 65537

pub counted : (documents : List ApprovedDoc) (levels : ℕ) (elements : ClosedElements) (count : ℕ) → IsCount documents levels elements count → count ≡ min (extent_at (document_extent documents levels) documents elements).paths 65537
counted documents levels elements count h =
    h zero_digest ∙ ap (λ n. min n 65537) (ways_counted documents levels elements zero_digest)

-- with the moves of the longest
abbrev extent_of : ℕ → FullExtent → Extent
extent_of count full = record { paths = count; moves = min full.moves 513 }

is_capped : (documents : List ApprovedDoc) (levels : ℕ) (elements : ClosedElements) (count : ℕ) → IsCount documents levels elements count → IsCapped (extent_of count (extent_at (document_extent documents levels) documents elements)) (extent_at (document_extent documents levels) documents elements)
is_capped documents levels elements count h = record { paths = counted documents levels elements count h; moves = λ few. refl }

module _ (documents : List ApprovedDoc) (levels : ℕ) where
  -- an element and what stands behind it; `lent` is the element as the code lends it
  pub parts : (choices : ℕ) (element lent : ClosedElement) (rest : ClosedElements) (d : Digest32) (count index : ℕ) → lent ≡ element → count ≡ length (product (element_ways documents levels element d) (element_list_ways documents levels rest (digest_at_element element d))) → count ≤ 65536 → index < count → ((before : Digest32) → choices ≡ min (length (element_ways documents levels lent before)) 65537) → Parted choices count index (length (element_ways documents levels element d)) (length (element_list_ways documents levels rest (digest_at_element element d)))
  parts choices element lent rest d count index e all few inside h =
      let firsts = element_ways documents levels element d in
      let rests = element_list_ways documents levels rest (digest_at_element element d) in
      parted choices count index (length firsts) (length rests) (all ∙ length-product firsts rests) few (h d ∙ ap (λ x. min (length (element_ways documents levels x d)) 65537) e) inside

  -- a branch and those behind it
  pub first_counted : (count : ℕ) (branch lent : ClosedBranch) (rest : ClosedBranches) (d : Digest32) → lent ≡ branch → length (map (followed_by (path_of_step (Branch 1 branch.name))) (element_list_ways documents levels branch.policy.elements d) ++ branch_ways documents levels rest 2 d) ≤ 65536 → IsCount documents levels lent.policy.elements count → (count ≡ length (element_list_ways documents levels branch.policy.elements d)) × (length (map (followed_by (path_of_step (Branch 1 branch.name))) (element_list_ways documents levels branch.policy.elements d) ++ branch_ways documents levels rest 2 d) ≡ count + length (branch_ways documents levels rest 2 d))
  first_counted count branch lent rest d e few h =
      let full = extent_at (document_extent documents levels) documents branch.policy.elements in
      counted_first documents levels (extent_of count full) branch.policy.elements d (followed_by (path_of_step (Branch 1 branch.name))) (branch_ways documents levels rest 2 d) few (is_capped documents levels branch.policy.elements count (subst (λ (b : ClosedBranch). IsCount documents levels b.policy.elements count) e h))

  -- a document that is entered
  pub document_ways : (element : ClosedElement) (count i : ℕ) (document : ApprovedDoc) → i < length documents → document ≡ get_or documents i document → levels ≢ 0 → is_some (approval_of element document) ≡ true → length (approval_ways documents levels element) ≤ 65536 → IsCount documents (levels - 1) document.closed.elements count → (count ≡ length (part documents levels element document)) × (count ≡ length (element_list_ways documents (levels - 1) document.closed.elements zero_digest))
  document_ways element count i document inside is level accepted few h =
      let full = extent_at (document_extent documents (levels - 1)) documents document.closed.elements in
      document_counted documents levels element (extent_of count full) i document inside is level accepted few (is_capped documents (levels - 1) document.closed.elements count h)

  -- the ways through a whole policy
  pub whole_ways : (policy : Closed) (d : Digest32) → levels ≡ 4 → d ≡ zero_digest → element_list_ways documents levels policy.elements d ≡ paths_of policy documents
  whole_ways policy d e f =
      ap (λ n. element_list_ways documents n policy.elements d) e ∙ ap (element_list_ways documents 4 policy.elements) f

  pub whole_counted : (policy : Closed) (count : ℕ) (d : Digest32) → levels ≡ 4 → d ≡ zero_digest → AreWithinLimits (paths_of policy documents) → IsCount documents levels policy.elements count → count ≡ length (element_list_ways documents levels policy.elements d)
  whole_counted policy count d e f within h =
      let all : count ≡ min (length (element_list_ways documents levels policy.elements d)) 65537 = h d in
      let few = within.few in
      let same = ap length (whole_ways policy d e f) in
      omega arith

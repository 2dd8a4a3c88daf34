-- The strings that are hashed for a digest, in order of making.
use Rattle.std.specs.Prelude.{ℕ, List, [], ◌∷◌, ◌++◌, Option, Some, None}
use Rattle.std.specs.List.{flat_map}
use Rattle.std.specs.Option.{option_to_list}
use Rattle.tpol_base.specs.declared.digest.Digest32.{Digest32}
use Rattle.tpol_hash.specs.Sha256.{sha256_digest}
use Rattle.tpol_tree.specs.declared.closed.Assertion.{Assertion}
use Rattle.tpol_tree.specs.declared.closed.Assertion.TheVariants.{Pcr}
use Rattle.tpol_tree.specs.declared.closed.Closed.{Closed}
use Rattle.tpol_tree.specs.declared.closed.ClosedElements.{ClosedElements}
use Rattle.tpol_tree.specs.declared.closed.ClosedElements.TheVariants.{More', End}
use Rattle.tpol_tree.specs.declared.closed.ClosedElement.{ClosedElement}
use Rattle.tpol_tree.specs.declared.closed.ClosedElement.TheVariants.{Assert, Or, Authorize, AuthorizeNv}
use Rattle.tpol_tree.specs.declared.closed.ClosedBranches.{ClosedBranches}
use Rattle.tpol_tree.specs.declared.closed.ClosedBranches.TheVariants.{More' as MoreBranches', End as EndBranches}
use Rattle.tpol_tree.specs.declared.facts.Fact.{Fact}
use Rattle.tpol_tree.specs.declared.path.ApprovedDoc.{ApprovedDoc}
use Rattle.tpol_tree.specs.declared.path.Move.{Move}
use Rattle.tpol_digest.specs.Update.{Update, joined, update_of, update_of_assertion, update_of_or, update_of_approve, update_of_approve_nv}
use Rattle.tpol_digest.specs.Digest.{zero_digest, first_string, digest_after, digest_at_element, branch_digests}
use Rattle.tpol_tree.specs.Facts.{moves_of}

-- the string of the second hash, if there is one
abbrev pub second_string : Update → Digest32 → Option (List ℕ) → List (List ℕ)
second_string s d None = []
second_string s d (Some policy_ref) = ((sha256_digest (first_string s d)).bytes ++ policy_ref) ∷ []

-- the strings of an update, where d is the digest before: the inner one, then those of the two hashes
abbrev pub strings_of : Update → Digest32 → List (List ℕ)
strings_of s d = option_to_list s.inner ++ first_string s d ∷ second_string s d s.policy_ref

-- the strings of moves in a row
abbrev pub inputs_of_moves : Digest32 → List Move → List (List ℕ)
inputs_of_moves d [] = []
inputs_of_moves d (act ∷ rest) = strings_of (update_of act) d ++ inputs_of_moves (digest_after act d) rest

-- the strings of facts; a fact has no values of PCRs
abbrev pub inputs_of_facts : List Fact → List (List ℕ)
inputs_of_facts facts = inputs_of_moves zero_digest (moves_of facts)

-- the PCR values joined, which a policy hashes for a PCR assertion
abbrev pub pcr_values : Assertion → List (List ℕ)
pcr_values (Pcr mask digest values) = joined values ∷ []
pcr_values _ = []

-- the strings of elements, of one element and of branches, where d is the digest before
abbrev mutual
  pub inputs_at : ClosedElements → Digest32 → List (List ℕ)
  inputs_at End d = []
  inputs_at (More' p element q rest) d = inputs_at_element element d ++ inputs_at rest (digest_at_element element d)

  pub inputs_at_element : ClosedElement → Digest32 → List (List ℕ)
  inputs_at_element (Assert assertion) d = pcr_values assertion ++ strings_of (update_of_assertion assertion) d
  inputs_at_element (Or branches) d = inputs_at_branches branches d ++ strings_of (update_of_or (branch_digests branches d)) d
  inputs_at_element (Authorize key policy_ref) d = strings_of (update_of_approve key policy_ref) d
  inputs_at_element (AuthorizeNv index) d = strings_of (update_of_approve_nv index) d

  pub inputs_at_branches : ClosedBranches → Digest32 → List (List ℕ)
  inputs_at_branches EndBranches d = []
  inputs_at_branches (MoreBranches' p name elements q rest) d = inputs_at elements d ++ inputs_at_branches rest d

-- the strings of a policy, and then those of each approved document, in the order of the approvals
abbrev pub inputs_of_policy : Closed → List ApprovedDoc → List (List ℕ)
inputs_of_policy policy approvals =
    inputs_at policy.elements zero_digest ++ flat_map (λ document. inputs_at document.closed.elements zero_digest) approvals

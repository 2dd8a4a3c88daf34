-- Digests of moves and of policies.
use Rattle.std.specs.Prelude.{ℕ, Bool, true, false, List, [], ◌∷◌, ◌++◌, fold, Option, Some, None}
use Rattle.std.specs.Int.{to_be_bytes, w32}
use Rattle.tpol_base.specs.declared.digest.Digest32.{Digest32}
use Rattle.tpol_base.specs.declared.name.Name.{Name}
pub use Rattle.tpol_base.specs.Digest.{zero_digest}
use Rattle.tpol_hash.specs.Sha256.{sha256_digest}
use Rattle.tpol_tree.specs.declared.closed.Assertion.{Assertion}
use Rattle.tpol_tree.specs.declared.closed.Closed.{Closed}
use Rattle.tpol_tree.specs.declared.closed.ClosedElements.{ClosedElements}
use Rattle.tpol_tree.specs.declared.closed.ClosedElements.TheVariants.{More', End}
use Rattle.tpol_tree.specs.declared.closed.ClosedElement.{ClosedElement}
use Rattle.tpol_tree.specs.declared.closed.ClosedElement.TheVariants.{Assert, Or, Authorize, AuthorizeNv}
use Rattle.tpol_tree.specs.declared.closed.ClosedBranches.{ClosedBranches}
use Rattle.tpol_tree.specs.declared.closed.ClosedBranches.TheVariants.{More' as MoreBranches', End as EndBranches}
use Rattle.tpol_tree.specs.declared.path.Move.{Move}
use Rattle.tpol_digest.specs.Update.{Update, update_of, update_of_assertion, update_of_or, update_of_approve, update_of_approve_nv}

-- the digest that an update starts from, where d is the digest before
abbrev pub start_of : Bool → Digest32 → Digest32
start_of true d = zero_digest
start_of false d = d

-- the digest of the inner string, if there is one
abbrev pub inner_digest : Option (List ℕ) → List ℕ
inner_digest None = []
inner_digest (Some inner) = (sha256_digest inner).bytes

-- the bytes that the first hash takes behind the start
abbrev pub head_of : Update → List ℕ
head_of s = to_be_bytes w32 s.code ++ inner_digest s.inner ++ s.rest

-- the string of the first hash
abbrev pub first_string : Update → Digest32 → List ℕ
first_string s d = (start_of s.fresh d).bytes ++ head_of s

-- the digest after a second hash, if there is one
abbrev pub after_second : Option (List ℕ) → Digest32 → Digest32
after_second None first = first
after_second (Some policy_ref) first = sha256_digest (first.bytes ++ policy_ref)

-- the digest after an update
abbrev pub after_update : Update → Digest32 → Digest32
after_update s d = after_second s.policy_ref (sha256_digest (first_string s d))

-- the digest after an assertion, after a move, and after moves in a row
abbrev pub digest_after_assertion : Assertion → Digest32 → Digest32
digest_after_assertion assertion d = after_update (update_of_assertion assertion) d

abbrev pub digest_after : Move → Digest32 → Digest32
digest_after act d = after_update (update_of act) d

abbrev pub digest_from : Digest32 → List Move → Digest32
digest_from d moves = fold (λ before act. digest_after act before) d moves

abbrev pub digest_of_moves : List Move → Digest32
digest_of_moves moves = digest_from zero_digest moves

-- the digests after PolicyOR, PolicyAuthorize and PolicyAuthorizeNV, whatever the digest before is
abbrev pub or_digest : List Digest32 → Digest32
or_digest digests = after_update (update_of_or digests) zero_digest

abbrev pub approve_digest : Name → List ℕ → Digest32
approve_digest key policy_ref = after_update (update_of_approve key policy_ref) zero_digest

abbrev pub approve_nv_digest : Name → Digest32
approve_nv_digest index = after_update (update_of_approve_nv index) zero_digest

-- the digest after elements, after one element, and the digests of branches, where d is the digest before;
-- each branch starts from the digest before the OR
abbrev mutual
  pub digest_at : ClosedElements → Digest32 → Digest32
  digest_at End d = d
  digest_at (More' p element q rest) d = digest_at rest (digest_at_element element d)

  pub digest_at_element : ClosedElement → Digest32 → Digest32
  digest_at_element (Assert assertion) d = digest_after_assertion assertion d
  digest_at_element (Or branches) d = or_digest (branch_digests branches d)
  digest_at_element (Authorize key policy_ref) d = approve_digest key policy_ref
  digest_at_element (AuthorizeNv index) d = approve_nv_digest index

  pub branch_digests : ClosedBranches → Digest32 → List Digest32
  branch_digests EndBranches d = []
  branch_digests (MoreBranches' p name elements q rest) d = digest_at elements d ∷ branch_digests rest d

-- the digest of a policy
abbrev pub policy_digest : Closed → Digest32
policy_digest policy = digest_at policy.elements zero_digest

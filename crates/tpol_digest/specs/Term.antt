-- What is hashed for a policy, as a tree: a term is 32 zero bytes or the hash of parts.
use Rattle.std.specs.Prelude.{ℕ, Bool, true, false, List, [], ◌∷◌, ◌++◌, Option, Some, None}
use Rattle.std.specs.Int.{to_be_bytes, w32}
use Rattle.tpol_base.specs.declared.digest.Digest32.{Digest32}
use Rattle.tpol_base.specs.declared.name.Name.{Name}
use Rattle.tpol_base.specs.declared.command_code.CommandCode.TheVariants.{PolicyOr}
use Rattle.tpol_base.specs.CommandCode.{number_of_code}
use Rattle.tpol_hash.specs.Sha256.{sha256_digest}
use Rattle.tpol_tree.specs.declared.closed.Assertion.{Assertion}
use Rattle.tpol_tree.specs.declared.closed.Closed.{Closed}
use Rattle.tpol_tree.specs.declared.closed.ClosedElements.{ClosedElements}
use Rattle.tpol_tree.specs.declared.closed.ClosedElements.TheVariants.{More', End}
use Rattle.tpol_tree.specs.declared.closed.ClosedElement.{ClosedElement}
use Rattle.tpol_tree.specs.declared.closed.ClosedElement.TheVariants.{Assert, Or, Authorize, AuthorizeNv}
use Rattle.tpol_tree.specs.declared.closed.ClosedBranches.{ClosedBranches}
use Rattle.tpol_tree.specs.declared.closed.ClosedBranches.TheVariants.{More' as MoreBranches', End as EndBranches}
use Rattle.tpol_tree.specs.declared.path.Move.{Move}
use Rattle.tpol_digest.specs.Update.{Update, update_of, update_of_assertion, update_of_or, update_of_approve, update_of_approve_nv}
use Rattle.tpol_digest.specs.Digest.{zero_digest}

mutual
  -- 32 zero bytes, or the hash of parts
  pub data Term : Type 0 where
    Zero : Term
    Hash : Parts → Term

  -- a list of parts, each bytes or a term
  pub data Parts : Type 0 where
    NoParts : Parts
    BytesThen : List ℕ → Parts → Parts
    TermThen : Term → Parts → Parts

-- the digest of a term, and the bytes of parts joined
abbrev mutual
  pub bytes_of_term : Term → Digest32
  bytes_of_term Zero = zero_digest
  bytes_of_term (Hash parts) = sha256_digest (bytes_of_parts parts)

  pub bytes_of_parts : Parts → List ℕ
  bytes_of_parts NoParts = []
  bytes_of_parts (BytesThen bytes rest) = bytes ++ bytes_of_parts rest
  bytes_of_parts (TermThen t rest) = (bytes_of_term t).bytes ++ bytes_of_parts rest

-- the term that an update starts from, where t is the term before
abbrev pub start_term : Bool → Term → Term
start_term true t = Zero
start_term false t = t

-- the hash of the inner string, if there is one, in front of the parts
abbrev pub inner_then : Option (List ℕ) → Parts → Parts
inner_then None parts = parts
inner_then (Some inner) parts = TermThen (Hash (BytesThen inner NoParts)) parts

-- the term after a second hash, if there is one
abbrev pub term_after_second : Option (List ℕ) → Term → Term
term_after_second None first = first
term_after_second (Some policy_ref) first = Hash (TermThen first (BytesThen policy_ref NoParts))

-- the term after an update
abbrev pub term_after_update : Update → Term → Term
term_after_update s t =
    term_after_second s.policy_ref (Hash (TermThen (start_term s.fresh t) (BytesThen (to_be_bytes w32 s.code) (inner_then s.inner (BytesThen s.rest NoParts)))))

-- the term after an assertion, after a move, and after moves in a row
abbrev pub term_after_assertion : Assertion → Term → Term
term_after_assertion assertion t = term_after_update (update_of_assertion assertion) t

abbrev pub term_after : Move → Term → Term
term_after act t = term_after_update (update_of act) t

abbrev pub term_from : Term → List Move → Term
term_from t [] = t
term_from t (act ∷ rest) = term_from (term_after act t) rest

abbrev pub term_of_moves : List Move → Term
term_of_moves moves = term_from Zero moves

-- the terms after PolicyOR, PolicyAuthorize and PolicyAuthorizeNV, whatever the term before is
abbrev pub term_of_or : List Digest32 → Term
term_of_or digests = term_after_update (update_of_or digests) Zero

abbrev pub term_of_approve : Name → List ℕ → Term
term_of_approve key policy_ref = term_after_update (update_of_approve key policy_ref) Zero

abbrev pub term_of_approve_nv : Name → Term
term_of_approve_nv index = term_after_update (update_of_approve_nv index) Zero

-- the term after elements and after one element, where t is the term before, and the terms of branches,
-- each of which starts from the term before the OR
abbrev mutual
  pub term_at : ClosedElements → Term → Term
  term_at End t = t
  term_at (More' p element q rest) t = term_at rest (term_at_element element t)

  pub term_at_element : ClosedElement → Term → Term
  term_at_element (Assert assertion) t = term_after_assertion assertion t
  term_at_element (Or branches) t = Hash (TermThen Zero (BytesThen (to_be_bytes w32 (number_of_code PolicyOr)) (branch_terms branches t)))
  term_at_element (Authorize key policy_ref) t = term_of_approve key policy_ref
  term_at_element (AuthorizeNv index) t = term_of_approve_nv index

  pub branch_terms : ClosedBranches → Term → Parts
  branch_terms EndBranches t = NoParts
  branch_terms (MoreBranches' p name elements q rest) t = TermThen (term_at elements t) (branch_terms rest t)

-- the term of a policy
abbrev pub term_of_policy : Closed → Term
term_of_policy policy = term_at policy.elements Zero

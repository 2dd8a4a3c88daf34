-- The bytes of a term are what the recursion over digests gives.
use Rattle.std.proofs.Common.{◌≡◌, ℕ, Bool, true, false, List, [], ◌∷◌, ◌++◌, Option, Some, None, refl, sym, ap, ◌∙◌, append_assoc}
use Rattle.std.proofs.lemmas.List.{append-nil}
use Rattle.std.specs.Int.{to_be_bytes, w32}
use Rattle.tpol_base.specs.declared.command_code.CommandCode.TheVariants.{PolicyOr}
use Rattle.tpol_base.specs.CommandCode.{number_of_code}
use Rattle.tpol_base.specs.declared.digest.Digest32.{Digest32}
use Rattle.tpol_hash.specs.Sha256.{sha256_digest}
use Rattle.tpol_tree.specs.declared.closed.ClosedElements.{ClosedElements}
use Rattle.tpol_tree.specs.declared.closed.ClosedElements.TheVariants.{More', End}
use Rattle.tpol_tree.specs.declared.closed.ClosedElement.{ClosedElement}
use Rattle.tpol_tree.specs.declared.closed.ClosedElement.TheVariants.{Assert, Or, Authorize, AuthorizeNv}
use Rattle.tpol_tree.specs.declared.closed.ClosedBranches.{ClosedBranches}
use Rattle.tpol_tree.specs.declared.closed.ClosedBranches.TheVariants.{More' as MoreBranches', End as EndBranches}
use Rattle.tpol_tree.specs.declared.path.Move.{Move}
use Rattle.tpol_digest.specs.Update.{Update, update_of, update_of_assertion, update_of_approve, update_of_approve_nv, joined}
use Rattle.tpol_digest.specs.Digest.{zero_digest, start_of, inner_digest, head_of, after_second, after_update, digest_from, digest_at, digest_at_element, branch_digests}
use Rattle.tpol_base.proofs.Digests.{same_digest}
use Rattle.tpol_digest.specs.Term.{Term, Zero, Parts, NoParts, BytesThen, bytes_of_term, bytes_of_parts, start_term, inner_then, term_after_second, term_after_update, term_after, term_from, term_of_moves, term_at, term_at_element, branch_terms}

start_bytes : (fresh : Bool) (t : Term) → bytes_of_term (start_term fresh t) ≡ start_of fresh (bytes_of_term t)
start_bytes true t = refl
start_bytes false t = refl

inner_bytes : (inner : Option (List ℕ)) (parts : Parts) → bytes_of_parts (inner_then inner parts) ≡ inner_digest inner ++ bytes_of_parts parts
inner_bytes None parts = refl
inner_bytes (Some inner) parts = ap (λ s. (sha256_digest s).bytes ++ bytes_of_parts parts) (append-nil inner)

second_bytes : (policy_ref : Option (List ℕ)) (t : Term) → bytes_of_term (term_after_second policy_ref t) ≡ after_second policy_ref (bytes_of_term t)
second_bytes None t = refl
second_bytes (Some policy_ref) t = ap (λ s. sha256_digest ((bytes_of_term t).bytes ++ s)) (append-nil policy_ref)

head_bytes : (s : Update) → bytes_of_parts (BytesThen (to_be_bytes w32 s.code) (inner_then s.inner (BytesThen s.rest NoParts))) ≡ head_of s
head_bytes s =
    ap (λ l. to_be_bytes w32 s.code ++ l) (inner_bytes s.inner (BytesThen s.rest NoParts) ∙ ap (λ l. inner_digest s.inner ++ l) (append-nil s.rest))
    ∙ sym (append_assoc (to_be_bytes w32 s.code) (inner_digest s.inner) s.rest)

pub update_bytes : (s : Update) (t : Term) → bytes_of_term (term_after_update s t) ≡ after_update s (bytes_of_term t)
update_bytes s t =
    second_bytes s.policy_ref _
    ∙ ap (λ l. after_second s.policy_ref (sha256_digest ((bytes_of_term (start_term s.fresh t)).bytes ++ l))) (head_bytes s)
    ∙ ap (λ d. after_second s.policy_ref (sha256_digest (d.bytes ++ head_of s))) (start_bytes s.fresh t)

pub moves_bytes : (moves : List Move) (t : Term) → bytes_of_term (term_from t moves) ≡ digest_from (bytes_of_term t) moves
moves_bytes [] t = refl
moves_bytes (act ∷ rest) t =
    moves_bytes rest (term_after act t) ∙ ap (λ d. digest_from d rest) (update_bytes (update_of act) t)

mutual
  pub term_at_bytes : (elements : ClosedElements) (t : Term) → bytes_of_term (term_at elements t) ≡ digest_at elements (bytes_of_term t)
  term_at_bytes End t = refl
  term_at_bytes (More' p element q rest) t =
      term_at_bytes rest (term_at_element element t) ∙ ap (λ d. digest_at rest d) (term_at_element_bytes element t)

  term_at_element_bytes : (element : ClosedElement) (t : Term) → bytes_of_term (term_at_element element t) ≡ digest_at_element element (bytes_of_term t)
  term_at_element_bytes (Assert assertion) t = update_bytes (update_of_assertion assertion) t
  term_at_element_bytes (Or branches) t =
      ap (λ l. sha256_digest (zero_digest.bytes ++ (to_be_bytes w32 (number_of_code PolicyOr) ++ l))) (branch_terms_bytes branches t)
  term_at_element_bytes (Authorize key policy_ref) t = update_bytes (update_of_approve key policy_ref) t
  term_at_element_bytes (AuthorizeNv index) t = update_bytes (update_of_approve_nv index) t

  branch_terms_bytes : (branches : ClosedBranches) (t : Term) → bytes_of_parts (branch_terms branches t) ≡ joined (branch_digests branches (bytes_of_term t))
  branch_terms_bytes EndBranches t = refl
  branch_terms_bytes (MoreBranches' p name elements q rest) t =
      ap (λ d. d.bytes ++ bytes_of_parts (branch_terms rest t)) (term_at_bytes elements t)
      ∙ ap (λ l. (digest_at elements (bytes_of_term t)).bytes ++ l) (branch_terms_bytes rest t)

-- the digest of elements from 32 zero bytes
pub digest_at-term : (elements : ClosedElements) (d : Digest32) → d.bytes ≡ zero_digest.bytes → digest_at elements d ≡ bytes_of_term (term_at elements Zero)
digest_at-term elements d e = ap (digest_at elements) (same_digest d zero_digest e) ∙ sym (term_at_bytes elements Zero)

pub digest_of_moves-term : (moves : List Move) (d : Digest32) → d.bytes ≡ zero_digest.bytes → digest_from d moves ≡ bytes_of_term (term_of_moves moves)
digest_of_moves-term moves d e = ap (λ x. digest_from x moves) (same_digest d zero_digest e) ∙ sym (moves_bytes moves Zero)

-- What an element hashes, as the update of one move.
use Rattle.std.proofs.Common.{◌≡◌, ℕ, List, [], ◌∷◌, ◌++◌, length, Some, refl, sym, ap, ◌∙◌, subst, arith}
use Rattle.std.specs.Prelude.{nat_eq}
use Rattle.std.specs.List.{AllByRecursion}
use Rattle.std.proofs.lemmas.Bool.{false≢true}
use Rattle.std.proofs.lemmas.List.{length-append}
use Rattle.tpol_base.specs.declared.digest.Digest32.{Digest32}
use Rattle.tpol_tree.specs.declared.closed.ClosedElement.{ClosedElement}
use Rattle.tpol_tree.specs.declared.closed.ClosedElement.TheVariants.{Assert, Or, Authorize, AuthorizeNv}
use Rattle.tpol_tree.specs.declared.path.Move.{Move}
use Rattle.tpol_tree.specs.declared.path.Move.TheVariants.{Assert as AssertMove, Or as OrMove, Approve, ApproveNv}
use Rattle.tpol_digest.specs.Digest.{after_update, digest_at_element, branch_digests}
use Rattle.tpol_digest.specs.Inputs.{strings_of, pcr_values, inputs_at_element, inputs_at_branches}
use Rattle.tpol_digest.specs.Sound.{Among, Meets}
use Rattle.tpol_digest.specs.Update.{Update, joined, update_of, update_of_or}
use Rattle.tpol_trace.specs.Same.{approved_of}
use Rattle.tpol_trace.specs.Tables.{move_of_element}
use Rattle.tpol_trace.proofs.Codes.{assertion_goes_on}
use Rattle.tpol_trace.proofs.Strings.{each_right, split_digest}

pub digest_of_element : (element : ClosedElement) (d : Digest32) → digest_at_element element d ≡ after_update (update_of (move_of_element element d)) d
digest_of_element (Assert assertion) d = refl
digest_of_element (Or branches) d = refl
digest_of_element (Authorize key policy_ref) d = refl
digest_of_element (AuthorizeNv index) d = refl

pub strings_of_element : (In : List ℕ → Type 0) (element : ClosedElement) (d : Digest32) → AllByRecursion In (inputs_at_element element d) → AllByRecursion In (strings_of (update_of (move_of_element element d)) d)
strings_of_element In (Assert assertion) d h =
    each_right In (pcr_values assertion) (strings_of (update_of (AssertMove assertion)) d) h
strings_of_element In (Or branches) d h =
    each_right In (inputs_at_branches branches d) (strings_of (update_of_or (branch_digests branches d)) d) h
strings_of_element In (Authorize key policy_ref) d h = h
strings_of_element In (AuthorizeNv index) d h = h

-- digests that are joined to the same bytes are the same
nothing_joined : (y : Digest32) (rest : List ℕ) → y.bytes ++ rest ≡ [] → ⊥
nothing_joined y rest e = let l : length y.bytes ≡ 32 = y.whole in omega (arith, length-append y.bytes rest, ap length e)

pub joined_one : (xs ys : List Digest32) → joined xs ≡ joined ys → xs ≡ ys
joined_one [] [] e = refl
joined_one [] (y ∷ ys) e = absurd (nothing_joined y (joined ys) (sym e))
joined_one (x ∷ xs) [] e = absurd (nothing_joined x (joined xs) e)
joined_one (x ∷ xs) (y ∷ ys) e =
    let p = split_digest x y (joined xs) (joined ys) e in
    ap (λ d. d ∷ xs) p.0 ∙ ap (λ l. y ∷ l) (joined_one xs ys p.1)

-- what hashes as an OR does met one of its digests, and approves nothing
pub meets_or : (fact : Move) (digests : List Digest32) (d : Digest32) → update_of fact ≡ update_of_or digests → Meets d fact → Among d digests
meets_or (AssertMove assertion) digests d e h =
    absurd (false≢true (sym (assertion_goes_on assertion) ∙ ap (λ (u : Update). u.fresh) e))
meets_or (OrMove others) digests d e h =
    subst (Among d) (joined_one others digests (ap (λ (u : Update). u.rest) e)) h
meets_or (Approve key policy_ref approved signature) digests d e h =
    absurd (false≢true (ap (λ (u : Update). nat_eq u.code 0x171) e))
meets_or (ApproveNv index approved) digests d e h =
    absurd (false≢true (ap (λ (u : Update). nat_eq u.code 0x171) e))

-- an approval met the digest that it approves
pub meets_approved : (fact : Move) (approved d : Digest32) → approved_of fact ≡ Some approved → Meets d fact → d ≡ approved
meets_approved (AssertMove assertion) approved d e h = cc e
meets_approved (OrMove digests) approved d e h = cc e
meets_approved (Approve key policy_ref other signature) approved d e h = cc (e, h)
meets_approved (ApproveNv index other) approved d e h = cc (e, h)

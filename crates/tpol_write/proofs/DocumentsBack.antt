-- Authorizations and whole documents read back.
use Rattle.std.proofs.Common.{◌≡◌, ℕ, suc, ◌+◌, ◌≤◌, nat_lt, Bool, true, false, List, [], ◌∷◌, ◌++◌, length, map, codes, Option, Some, None, Ok, refl, sym, ap, subst, ◌∙◌, arith, append_assoc, append-nil, length-append, lt-ltb, if◌then◌else◌}
use Rattle.std.proofs.lemmas.Bool.{ltb-true, cond-true}
use Rattle.serde_json.specs.Data.{Data, string, Items, no_items, item}
use Rattle.serde_json.specs.Find.{get, as_array}
use Rattle.serde_json.specs.View.{items_of}
use Rattle.tpol_base.specs.declared.digest.Digest32.{Digest32}
use Rattle.tpol_members.proofs.Limits.{FitsRef, digest-fits, policy_ref-fits}
use Rattle.tpol_json.proofs.Limits.{FitsDigest}
use Rattle.tpol_write.proofs.BytesBack.{bound, digest-back}
use Rattle.tpol_write.proofs.ElementsBack.{Takes, ListBack, list_again, element_at-all, policy-all, policy-takes, description-back}
use Rattle.tpol_write.proofs.FieldsBack.{needed-back, policy_ref-back}
use Rattle.tpol_write.proofs.RowsBack.{noted-none, pem-none}
use Rattle.tpol_write.proofs.WishesBack.{Leaving, FitsKey, HasKey, key-fits, key-back, FitsIndex, HasIndex, index-fits, index-back, Each, each_append}
use Rattle.tpol_json.specs.Places.{root, at_member, at_item}
use Rattle.tpol_json.specs.declared.place.Place.{Place}
use Rattle.tpol_json.proofs.AllFound.{AllFound, all_after, all_then, all_map, needed-fits}
use Rattle.tpol_read.specs.Approvals.{type_of_approval, approval_type_in, signature_member, by_key, by_index, approval_of_type, approval_in, counted_approval, approvals_from, approvals_of, approvals_or_none, approvals_member}
use Rattle.tpol_read.specs.Documents.{start, document_in, policy_of}
use Rattle.tpol_read.specs.Elements.{element_at, max_levels, description_member, policy_member}
use Rattle.tpol_read.specs.declared.approvals.ApprovalType.{ApprovalType}
use Rattle.tpol_read.specs.declared.approvals.ApprovalType.TheVariants as types
use Rattle.tpol_members.specs.Values.{digest_in}
use Rattle.tpol_base.specs.Answers.{◌>>=◌}
use Rattle.tpol_json.specs.Reading.{bad}
use Rattle.tpol_members.specs.Fields.{policy_ref_in}
use Rattle.tpol_members.specs.Members.{object_in, noted}
use Rattle.tpol_elements.specs.Rows.{without_pem}
use Rattle.tpol_elements.specs.Wishes.{key_in, index_in}
use Rattle.tpol_json.specs.Words.{find_word}
use Rattle.tpol_members.specs.declared.fault.PolicyKind.TheVariants as kinds
use Rattle.tpol_members.specs.declared.walk.Walk.{Walk}
use Rattle.tpol_tree.specs.declared.policy.Elements.{Elements}
use Rattle.tpol_tree.specs.declared.policy.Policy.{Policy}
use Rattle.tpol_tree.specs.declared.wishes.ApprovalWish.{ApprovalWish}
use Rattle.tpol_tree.specs.declared.wishes.ApprovalWish.TheVariants.{ByKey, ByIndex}
use Rattle.tpol_tree.specs.declared.wishes.IndexWish.{IndexWish}
use Rattle.tpol_tree.specs.declared.wishes.IndexWish.TheVariants as index
use Rattle.tpol_tree.specs.declared.wishes.KeyWish.{KeyWish}
use Rattle.tpol_tree.specs.declared.wishes.KeyWish.TheVariants as key
use Rattle.tpol_write.specs.Approvals.{approval_value}
use Rattle.tpol_write.specs.Canonical.{policy_value}
use Rattle.tpol_write.specs.Elements.{elements_values}
use Rattle.tpol_write.specs.Levels.{levels_of_elements}
use Rattle.tpol_write.specs.Objects.{hex_text, list_of}
use Rattle.tpol_json.specs.Members.{unknown}

-- ---- an authorization

abbrev pub ApprovalBack : ApprovalWish → Type 0
ApprovalBack a = (place : Place) (walk : Walk) → approval_in (approval_value a) place walk ≡ Ok (a, walk)

key_type : (place : Place) → type_of_approval (string (codes "tpm")) place ≡ Ok types.Key
unfolding find_word
key_type place = refl

index_type : (place : Place) → type_of_approval (string (codes "nv")) place ≡ Ok types.Index
unfolding find_word
index_type place = refl

approval_of : (type : ApprovalType) (name : List ℕ) (a : ApprovalWish) (place : Place) (walk : Walk) → object_in (approval_value a) place ≡ Ok tt → get (codes "keyPEM") (approval_value a) ≡ None → get (codes "type") (approval_value a) ≡ Some (string name) → type_of_approval (string name) (at_member place (codes "type")) ≡ Ok type → approval_of_type type (approval_value a) place walk ≡ Ok (a, walk) → approval_in (approval_value a) place walk ≡ Ok (a, walk)
unfolding approval_in approval_type_in
approval_of type name a place walk is_object no_pem has is_type row =
    let d = approval_value a in
    bound (object_in d place) tt _ (Ok (a, walk)) is_object
    (bound (without_pem d place) tt _ (Ok (a, walk)) (pem-none d place no_pem)
    (bound (approval_type_in d place) type _ (Ok (a, walk))
    (needed-back type_of_approval (get (codes "type") d) (string name) type (at_member place (codes "type")) has is_type) row))

signature-fits : (d : Data) (place : Place) → AllFound FitsDigest (signature_member d place)
unfolding signature_member
signature-fits d place = needed-fits FitsDigest kinds.Missing digest_in (get (codes "signature") d) (at_member place (codes "signature")) digest-fits

signature-back : (signature : Digest32) (d : Data) (place : Place) → get (codes "signature") d ≡ Some (hex_text signature.bytes) → FitsDigest signature → signature_member d place ≡ Ok signature
unfolding signature_member
signature-back signature d place has fits =
    needed-back digest_in (get (codes "signature") d) (hex_text signature.bytes) signature (at_member place (codes "signature")) has (digest-back signature (at_member place (codes "signature")) fits)

key_members : List (List ℕ)
key_members = codes "type" ∷ codes "keyPath" ∷ codes "keyPublic" ∷ codes "key" ∷ codes "policyRef" ∷ codes "signature" ∷ []

by_key_has : (k : KeyWish) (policy_ref : List ℕ) (signature : Digest32) →
    let d = approval_value (ByKey k policy_ref signature) in
    (get (codes "type") d ≡ Some (string (codes "tpm"))) × (get (codes "keyPEM") d ≡ None) × HasKey (codes "key") k d × (get (codes "policyRef") d ≡ Some (hex_text policy_ref))
    × (get (codes "signature") d ≡ Some (hex_text signature.bytes)) × ((place : Place) → unknown key_members d place ≡ [])
unfolding key_members
by_key_has (key.Path path) policy_ref signature = (refl, refl, (refl, refl, refl), refl, refl, λ place. refl)
by_key_has (key.Public area) policy_ref signature = (refl, refl, (refl, refl, refl), refl, refl, λ place. refl)

by_key-back : (k : KeyWish) (policy_ref : List ℕ) (signature : Digest32) → FitsKey k → FitsRef policy_ref → FitsDigest signature → ApprovalBack (ByKey k policy_ref signature)
unfolding by_key key_members
by_key-back k policy_ref signature fits_key fits_ref fits_signature place walk =
    let a = ByKey k policy_ref signature in
    let d = approval_value a in
    let has = by_key_has k policy_ref signature in
    approval_of types.Key (codes "tpm") a place walk refl has.1 has.0 (key_type (at_member place (codes "type")))
    (bound (key_in (codes "key") d place walk) (k, walk) _ (Ok (a, walk)) (key-back (codes "key") k d place walk fits_key has.2)
    (bound (policy_ref_in d place) policy_ref _ (Ok (a, walk)) (policy_ref-back policy_ref d place has.3 fits_ref)
    (bound (signature_member d place) signature _ (Ok (a, walk)) (signature-back signature d place has.4 fits_signature)
    (ap (λ w. Ok (a, w)) (noted-none key_members d place walk (has.5 place))))))

index_members : List (List ℕ)
index_members = codes "type" ∷ codes "nvPath" ∷ codes "nvPublic" ∷ []

by_index_has : (i : IndexWish) →
    let d = approval_value (ByIndex i) in
    (get (codes "type") d ≡ Some (string (codes "nv"))) × (get (codes "keyPEM") d ≡ None) × HasIndex i d × ((place : Place) → unknown index_members d place ≡ [])
unfolding index_members
by_index_has (index.Path path) = (refl, refl, (refl, refl), λ place. refl)
by_index_has (index.Public area) = (refl, refl, (refl, refl), λ place. refl)

by_index-back : (i : IndexWish) → FitsIndex i → ApprovalBack (ByIndex i)
unfolding by_index index_members
by_index-back i fits place walk =
    let a = ByIndex i in
    let d = approval_value a in
    let has = by_index_has i in
    approval_of types.Index (codes "nv") a place walk refl has.1 has.0 (index_type (at_member place (codes "type")))
    (bound (index_in d place walk) (i, walk) _ (Ok (a, walk)) (index-back i d place walk fits has.2)
    (ap (λ w. Ok (a, w)) (noted-none index_members d place walk (has.3 place))))

of_type-all : (type : ApprovalType) (d : Data) (place : Place) (walk : Walk) → AllFound (Leaving ApprovalBack walk) (approval_of_type type d place walk)
unfolding by_key by_index noted
of_type-all types.Key d place walk =
    all_then (Leaving FitsKey walk) (Leaving ApprovalBack walk) (key_in (codes "key") d place walk) _ (key-fits (codes "key") d place walk)
    (λ k fits_key. all_then FitsRef (Leaving ApprovalBack walk) (policy_ref_in d place) _ (policy_ref-fits d place)
    (λ policy_ref fits_ref. all_then FitsDigest (Leaving ApprovalBack walk) (signature_member d place) _ (signature-fits d place)
    (λ signature fits_signature. (fits_key.0, by_key-back k.0 policy_ref signature fits_key.1 fits_ref fits_signature))))
of_type-all types.Index d place walk =
    all_then (Leaving FitsIndex walk) (Leaving ApprovalBack walk) (index_in d place walk) _ (index-fits d place walk)
    (λ i fits. (fits.0, by_index-back i.0 fits.1))
of_type-all types.Pem d place walk = tt {0}

approval-all : (d : Data) (place : Place) (walk : Walk) → AllFound (Leaving ApprovalBack walk) (approval_in d place walk)
unfolding approval_in
approval-all d place walk =
    all_after (Leaving ApprovalBack walk) (object_in d place) _
    (λ _. all_after (Leaving ApprovalBack walk) (without_pem d place) _
    (λ _. all_after (Leaving ApprovalBack walk) (approval_type_in d place) _
    (λ type. of_type-all type d place walk)))

-- ---- all authorizations

-- each reads back, and there are at most eight
abbrev ApprovalsBack : List ApprovalWish → Type 0
ApprovalsBack approvals = Each ApprovalBack approvals × (length approvals ≤ 8)

from-all : (before : List ApprovalWish) (i : ℕ) (ds : Items) (place : Place) (walk : Walk) → i ≡ length before → ApprovalsBack before → AllFound (Leaving ApprovalsBack walk) (approvals_from before i ds place walk)
unfolding approvals_from counted_approval
from-all before i no_items place walk at back = (refl, back)
from-all before i (item d ds) place walk at back =
    by_test (nat_lt i 8) refl (λ found is few.
    from-all (before ++ found.0 ∷ []) (suc i) ds place found.1 (omega (arith, longer i before found.0 at))
    (each_append ApprovalBack before (found.0 ∷ []) back.0 (is, tt), omega (arith, longer i before found.0 at, at, ltb-true i 8 few)))
  where
    longer : (n : ℕ) (xs : List ApprovalWish) (x : ApprovalWish) → n ≡ length xs → n + 1 ≡ length (xs ++ x ∷ [])
    longer n xs x e = omega (arith, e, length-append xs (x ∷ []))

    by_test : (test : Bool) → nat_lt i 8 ≡ test
        → ((found : ApprovalWish × Walk) → ApprovalBack found.0 → nat_lt i 8 ≡ true → AllFound (Leaving ApprovalsBack found.1) (approvals_from (before ++ found.0 ∷ []) (suc i) ds place found.1))
        → AllFound (Leaving ApprovalsBack walk) ((if test then approval_in d (at_item place i) walk else bad kinds.TooMany (at_item place i)) >>= λ found. approvals_from (before ++ found.0 ∷ []) (suc i) ds place found.1)
    by_test true few again =
        all_then (Leaving ApprovalBack walk) (Leaving ApprovalsBack walk) (approval_in d (at_item place i) walk) _ (approval-all d (at_item place i) walk)
        (λ found is. all_map (Leaving ApprovalsBack found.1) (Leaving ApprovalsBack walk) (approvals_from (before ++ found.0 ∷ []) (suc i) ds place found.1) (again found is.1 few)
        (λ all backs. (backs.0 ∙ is.0, backs.1)))
    by_test false many again = tt {0}

from-back : (approvals before : List ApprovalWish) (i : ℕ) (place : Place) (walk : Walk) → i + length approvals ≤ 8 → Each ApprovalBack approvals → approvals_from before i (items_of (map approval_value approvals)) place walk ≡ Ok (before ++ approvals, walk)
unfolding approvals_from counted_approval
from-back [] before i place walk few each = ap (λ all. Ok (all, walk)) (sym (append-nil before))
from-back (a ∷ approvals) before i place walk few each =
    let d = approval_value a in
    let at = at_item place i in
    bound (counted_approval i d at walk) (a, walk) (λ found. approvals_from (before ++ found.0 ∷ []) (suc i) (items_of (map approval_value approvals)) place found.1) (Ok (before ++ a ∷ approvals, walk))
    (cond-true (nat_lt i 8) (approval_in d at walk) (bad kinds.TooMany at) (lt-ltb i 8 (omega arith)) ∙ each.0 at walk)
    (from-back approvals (before ++ a ∷ []) (suc i) place walk (omega arith) each.1 ∙ ap (λ all. Ok (all, walk)) (append_assoc before (a ∷ []) approvals))

approvals-all : (d : Data) (place : Place) (walk : Walk) → AllFound (Leaving ApprovalsBack walk) (approvals_member d place walk)
unfolding approvals_member
approvals-all d place walk = by_member (get (codes "policyAuthorizations") d)
  where
    by_items : (items : Option Items) (at : Place) → AllFound (Leaving ApprovalsBack walk) (approvals_of items at walk)
    by_items None at = tt {0}
    by_items (Some ds) at = from-all [] 0 ds at walk refl (tt, omega arith)

    by_member : (member : Option Data) → AllFound (Leaving ApprovalsBack walk) (approvals_or_none member (at_member place (codes "policyAuthorizations")) walk)
    by_member None = (refl, (tt, omega arith))
    by_member (Some e) = by_items (as_array e) (at_member place (codes "policyAuthorizations"))

-- the member that canonical text writes of authorizations, where it writes one
approvals_of-has : List ApprovalWish → Option Data
approvals_of-has [] = None
approvals_of-has (a ∷ approvals) = Some (list_of (map approval_value (a ∷ approvals)))

approvals-back : (approvals : List ApprovalWish) (d : Data) (place : Place) (walk : Walk) → get (codes "policyAuthorizations") d ≡ approvals_of-has approvals → ApprovalsBack approvals → approvals_member d place walk ≡ Ok (approvals, walk)
unfolding approvals_member approvals_of-has
approvals-back [] d place walk has back = ap (λ m. approvals_or_none m (at_member place (codes "policyAuthorizations")) walk) has
approvals-back (a ∷ approvals) d place walk has back =
    let at = at_member place (codes "policyAuthorizations") in
    ap (λ m. approvals_or_none m at walk) has ∙ from-back (a ∷ approvals) [] 0 at walk (omega (arith, back.1)) back.0

-- ---- documents

document_members : List (List ℕ)
document_members = codes "description" ∷ codes "policy" ∷ codes "policyDigests" ∷ codes "policyAuthorizations" ∷ []

policy_has : (description : List ℕ) (es : Elements) (approvals : List ApprovalWish) →
    let d = policy_value (record { description = description; elements = es; approvals = approvals }) in
    (object_in d root ≡ Ok tt) × (get (codes "description") d ≡ Some (string description)) × (get (codes "policy") d ≡ Some (list_of (elements_values es))) × (get (codes "policyAuthorizations") d ≡ approvals_of-has approvals)
    × ((place : Place) → unknown document_members d place ≡ [])
unfolding policy_value approvals_of-has document_members
policy_has description es [] = (refl, refl, refl, refl, λ place. refl)
policy_has description es (a ∷ approvals) = (refl, refl, refl, refl, λ place. refl)

-- what is found in a document has at most sixteen levels of ORs, and its canonical value says it without a note
abbrev pub PolicyBack : Policy → Type 0
PolicyBack policy = (levels_of_elements policy.elements ≤ 16) × (policy_of (policy_value policy) ≡ Ok (policy, []))

policy-back : (policy : Policy) (count left : ℕ) → 1024 ≡ count + left → Takes (list_again (element_at max_levels) policy.elements) policy.elements count → ApprovalsBack policy.approvals → policy_of (policy_value policy) ≡ Ok (policy, [])
unfolding policy_of document_in document_members
policy-back policy count left all takes back =
    let d = policy_value policy in
    let has = policy_has policy.description policy.elements policy.approvals in
    let after : Walk = record { notes = []; left = left } in
    let read : document_in d root start ≡ Ok (policy, after) =
    bound (object_in d root) tt _ (Ok (policy, after)) has.0
    (bound (description_member d root) policy.description _ (Ok (policy, after)) (description-back policy.description d root has.1)
    (bound (policy_member (element_at max_levels) d root start) (policy.elements, after) _ (Ok (policy, after))
    (ap (λ n. policy_member (element_at max_levels) d root (record { notes = []; left = n })) all ∙ policy-takes (element_at max_levels) policy.elements count d has.2 takes root [] left)
    (bound (approvals_member d root after) (policy.approvals, after) _ (Ok (policy, after)) (approvals-back policy.approvals d root after has.3 back)
    (ap (λ w. Ok (policy, w)) (noted-none document_members d root after (has.4 root)))))) in
    bound (document_in d root start) (policy, after) (λ found. Ok (found.0, found.1.notes)) (Ok (policy, [])) read refl

document-all : (d : Data) → AllFound (λ found. PolicyBack found.0) (policy_of d)
unfolding policy_of document_in noted
document-all d =
    let P : Policy × Walk → Type 0 = λ found. PolicyBack found.0 in
    all_then P (λ found. PolicyBack found.0) (document_in d root start) _
    (all_after P (object_in d root) _
    (λ _. all_after P (description_member d root) _
    (λ description. all_then (ListBack (element_at max_levels) 16 start) P (policy_member (element_at max_levels) d root start) _ (policy-all (element_at max_levels) 16 (element_at-all 16) d root start)
    (λ es back. all_then (Leaving ApprovalsBack es.1) P (approvals_member d root es.1) _ (approvals-all d root es.1)
    (λ approvals backs. (back.2, policy-back (record { description = description; elements = es.0; approvals = approvals.0 }) back.0 es.1.left back.1 back.3 backs.1))))))
    (λ found back. back)

-- a policy that a document says is said by its canonical value, without a note
pub policy_back : (d : Data) (policy : Policy) (notes : List Place) → policy_of d ≡ Ok (policy, notes) → PolicyBack policy
policy_back d policy notes says = subst (AllFound (λ (found : Policy × List Place). PolicyBack found.0)) says (document-all d)

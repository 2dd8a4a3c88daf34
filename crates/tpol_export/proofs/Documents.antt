-- Authorizations and whole policies say in FAPI's spelling what they say.
use Rattle.std.proofs.Common.{◌≡◌, ℕ, suc, ◌++◌, nat_lt, Bool, true, false, List, [], ◌∷◌, map, Some, Ok, Err, codes, refl, sym, ap, ◌∙◌, subst, if◌then◌else◌}
use Rattle.serde_json.specs.Data.{Data, array, string, Items, item}
use Rattle.serde_json.specs.View.{items_of}
use Rattle.tpol_adopt.proofs.Keeping.{Follows, follows_then, follows_same}
use Rattle.tpol_adopt.specs.Dropped.{is_asymmetric, innermost, innermost_member}
use Rattle.tpol_adopt.specs.Normal.{normal, normal_as, normal_items, normal_members}
use Rattle.tpol_adopt.specs.Rules.{item_rule, member_rule, new_scheme}
use Rattle.tpol_adopt.specs.declared.rules.Part.TheVariants.{Approvals as AdoptedApprovals, KeyPublic as AdoptedKey}
use Rattle.tpol_base.specs.Answers.{◌>>=◌}
use Rattle.tpol_base.specs.declared.digest.Digest32.{Digest32}
use Rattle.tpol_elements.specs.Rows.{without_pem}
use Rattle.tpol_elements.specs.Wishes.{key_in, key_at}
use Rattle.tpol_export.proofs.Areas.{key-back}
use Rattle.tpol_export.proofs.Placed.{key-placed}
use Rattle.tpol_export.proofs.Tree.{again_elements, elements-say, policy-say}
use Rattle.tpol_export.specs.Named.{named, named_elements}
use Rattle.tpol_export.specs.Rules.{item_rule as spelling_item, member_rule as spelling_rule, more_entries, new_name}
use Rattle.tpol_export.specs.Spelling.{policy_spelling, spelled_as, spelled_items, spelled_members}
use Rattle.tpol_export.specs.Values.{edited}
use Rattle.tpol_export.specs.declared.rules.Part.TheVariants.{Approvals as SpelledApprovals, KeyPublic}
use Rattle.tpol_json.specs.Places.{at_item, at_member, root}
use Rattle.tpol_json.specs.Reading.{bad}
use Rattle.tpol_json.specs.Words.{find_word}
use Rattle.tpol_json.specs.declared.place.Place.{Place}
use Rattle.tpol_members.specs.Faults.{Found}
use Rattle.tpol_members.specs.Fields.{policy_ref_in}
use Rattle.tpol_members.specs.Members.{noted}
use Rattle.tpol_members.specs.declared.fault.PolicyKind.TheVariants as kinds
use Rattle.tpol_members.specs.declared.walk.Walk.{Walk}
use Rattle.tpol_read.specs.Approvals.{approval_in, approval_type_in, approvals_from, approvals_member, by_key, counted_approval, signature_member}
use Rattle.tpol_read.specs.Documents.{document_in, policy_of, start}
use Rattle.tpol_read.specs.Elements.{description_member, element_at, elements_in, elements_of, max_levels, policy_member}
use Rattle.tpol_tree.specs.Erased.{erased_policy}
use Rattle.tpol_tree.specs.declared.policy.Elements.{Elements}
use Rattle.tpol_tree.specs.declared.policy.Policy.{Policy}
use Rattle.tpol_tree.specs.declared.wishes.ApprovalWish.{ApprovalWish}
use Rattle.tpol_tree.specs.declared.wishes.ApprovalWish.TheVariants.{ByKey, ByIndex}
use Rattle.tpol_tree.specs.declared.wishes.IndexWish.TheVariants as index
use Rattle.tpol_tree.specs.declared.wishes.KeyWish.TheVariants as key
use Rattle.tpol_tree.specs.declared.wishes.NvPublicText.{NvPublicText}
use Rattle.tpol_tree.specs.declared.wishes.ObjectPublicText.{ObjectPublicText}
use Rattle.tpol_write.specs.Approvals.{approval_value}
use Rattle.tpol_write.specs.Canonical.{policy_value}
use Rattle.tpol_write.specs.Elements.{elements_values, typed}
use Rattle.tpol_write.specs.Objects.{hex_text, object_of}
use Rattle.tpol_write.specs.Wishes.{object_public_value}

-- ---- an authorization

key_approval : Data → List ℕ → Digest32 → Data
key_approval area policy_ref signature = typed (codes "tpm") ((codes "key", area) ∷ (codes "policyRef", hex_text policy_ref) ∷ (codes "signature", hex_text signature.bytes) ∷ [])

adopted_key : ObjectPublicText → Data
adopted_key area = normal_as AdoptedKey (spelled_as KeyPublic (object_public_value area))

abbrev again_approvals : List ApprovalWish → Items
again_approvals approvals = normal_items AdoptedApprovals (spelled_items SpelledApprovals (items_of (map approval_value approvals)))

path-again : (path policy_ref : List ℕ) (signature : Digest32) (rest : List ApprovalWish) → again_approvals (ByKey (key.Path path) policy_ref signature ∷ rest) ≡ item (approval_value (ByKey (key.Path path) policy_ref signature)) (again_approvals rest)
unfolding normal_items spelled_items item_rule spelling_item spelled_as spelled_members spelling_rule new_name more_entries edited normal_as normal_members member_rule new_scheme is_asymmetric innermost innermost_member
path-again path policy_ref signature rest = refl

key-again : (area : ObjectPublicText) (policy_ref : List ℕ) (signature : Digest32) (rest : List ApprovalWish) → again_approvals (ByKey (key.Public area) policy_ref signature ∷ rest) ≡ item (key_approval (adopted_key area) policy_ref signature) (again_approvals rest)
unfolding key_approval adopted_key normal_items spelled_items item_rule spelling_item spelled_as spelled_members spelling_rule new_name more_entries edited normal_as normal_members member_rule new_scheme is_asymmetric innermost innermost_member
key-again area policy_ref signature rest = refl

index_path-again : (path : List ℕ) (rest : List ApprovalWish) → again_approvals (ByIndex (index.Path path) ∷ rest) ≡ item (approval_value (ByIndex (index.Path path))) (again_approvals rest)
unfolding normal_items spelled_items item_rule spelling_item spelled_as spelled_members spelling_rule new_name more_entries edited normal_as normal_members member_rule new_scheme is_asymmetric innermost innermost_member
index_path-again path rest = refl

index-again : (area : NvPublicText) (rest : List ApprovalWish) → again_approvals (ByIndex (index.Public area) ∷ rest) ≡ item (approval_value (ByIndex (index.Public area))) (again_approvals rest)
unfolding normal_items spelled_items item_rule spelling_item spelled_as spelled_members spelling_rule new_name more_entries edited normal_as normal_members member_rule new_scheme is_asymmetric innermost innermost_member
index-again area rest = refl

key-read : (area : ObjectPublicText) (policy_ref : List ℕ) (signature : Digest32) (place : Place) (walk : Walk) → Follows (approval_in (approval_value (ByKey (key.Public area) policy_ref signature)) place walk) (approval_in (key_approval (object_public_value area) policy_ref signature) place walk)
unfolding key_approval approval_in without_pem approval_type_in by_key key_in key_at policy_ref_in signature_member noted find_word
key-read area policy_ref signature place walk =
    follows_then _ _ _ _ (follows_then _ _ _ _ (follows_then _ _ _ _ (key-placed area (at_member place (codes "keyPublic")) (at_member place (codes "key")) walk) (λ x _. refl)) (λ x _. refl))
    (λ x _. follows_same _ _ refl)

-- an authorization is spelled as a value that says what it says
abbrev Again : ApprovalWish → List ApprovalWish → Type 0
Again a rest = (d : Data) × (again_approvals (a ∷ rest) ≡ item d (again_approvals rest)) × ((place : Place) (walk : Walk) → Follows (approval_in (approval_value a) place walk) (approval_in d place walk))

approval-again : (a : ApprovalWish) (rest : List ApprovalWish) → Again a rest
unfolding adopted_key
approval-again (ByKey (key.Path path) policy_ref signature) rest =
    (approval_value (ByKey (key.Path path) policy_ref signature), path-again path policy_ref signature rest, λ place walk. follows_same _ _ refl)
approval-again (ByKey (key.Public area) policy_ref signature) rest = (
  key_approval (object_public_value area) policy_ref signature,
  key-again area policy_ref signature rest ∙ ap (λ v. item (key_approval v policy_ref signature) (again_approvals rest)) (key-back area),
  key-read area policy_ref signature,
)
approval-again (ByIndex (index.Path path)) rest = (approval_value (ByIndex (index.Path path)), index_path-again path rest, λ place walk. follows_same _ _ refl)
approval-again (ByIndex (index.Public area)) rest =
    (approval_value (ByIndex (index.Public area)), index-again area rest, λ place walk. follows_same _ _ refl)

counted-follows : (i : ℕ) (d d' : Data) (place : Place) (walk : Walk) → Follows (approval_in d place walk) (approval_in d' place walk) → Follows (counted_approval i d place walk) (counted_approval i d' place walk)
unfolding counted_approval
counted-follows i d d' place walk is = by_test (nat_lt i 8)
  where
    by_test : (test : Bool) → Follows (if test then approval_in d place walk else bad kinds.TooMany place) (if test then approval_in d' place walk else bad kinds.TooMany place)
    by_test true = is
    by_test false = tt {0}

from-follows : (approvals before : List ApprovalWish) (i : ℕ) (place : Place) (walk : Walk) → Follows (approvals_from before i (items_of (map approval_value approvals)) place walk) (approvals_from before i (again_approvals approvals) place walk)
unfolding approvals_from normal_items spelled_items
from-follows [] before i place walk = refl
from-follows (a ∷ rest) before i place walk =
    let one = approval-again a rest in
    subst (λ ds. Follows (approvals_from before i (items_of (map approval_value (a ∷ rest))) place walk) (approvals_from before i ds place walk)) (sym one.1)
    (follows_then (counted_approval i (approval_value a) (at_item place i) walk) (counted_approval i one.0 (at_item place i) walk) _ _ (counted-follows i (approval_value a) one.0 (at_item place i) walk (one.2 (at_item place i) walk))
    (λ found _. from-follows rest (before ++ found.0 ∷ []) (suc i) place found.1))

approvals_of_list : Items → List ApprovalWish → Walk → Found (List ApprovalWish × Walk)
approvals_of_list ds [] walk = Ok ([], walk)
approvals_of_list ds (a ∷ rest) walk = approvals_from [] 0 ds (at_member root (codes "policyAuthorizations")) walk

-- ---- policies

members_of : List ApprovalWish → List (List ℕ × Data)
members_of [] = []
members_of (a ∷ rest) = (codes "policyAuthorizations", array (again_approvals (a ∷ rest))) ∷ []

again_document : List ℕ → Items → List ApprovalWish → Data
again_document description ds approvals = object_of ((codes "description", string description) ∷ (codes "policy", array ds) ∷ members_of approvals)

document-again : (description : List ℕ) (es : Elements) (approvals : List ApprovalWish) →
    let p : Policy = record { description = description; elements = es; approvals = approvals } in
    normal (policy_spelling p) ≡ again_document description (again_elements es) approvals
unfolding again_document members_of policy_value spelled_as spelled_members spelling_rule new_name more_entries normal_as normal_members member_rule new_scheme
document-again description es [] = refl
document-again description es (a ∷ rest) = refl

-- ---- the law

-- a document's elements and authorizations were read
abbrev with_approvals : List ℕ → Elements → (Walk → Walk) → List ApprovalWish × Walk → Found (Policy × Walk)
with_approvals description es note a = Ok (record { description = description; elements = es; approvals = a.0 }, note a.1)

abbrev with_notes : Policy × Walk → Found (Policy × List Place)
with_notes found = Ok (found.0, found.1.notes)

abbrev after_elements : List ℕ → (Walk → Found (List ApprovalWish × Walk)) → (Walk → Walk) → Elements × Walk → Found (Policy × Walk)
after_elements description approvals note es = approvals es.1 >>= with_approvals description es.0 note

document_by : List ℕ → Found (Elements × Walk) → (Walk → Found (List ApprovalWish × Walk)) → (Walk → Walk) → Found (Policy × List Place)
document_by description es approvals note = es >>= after_elements description approvals note >>= with_notes

abbrev members : List (List ℕ)
members = codes "description" ∷ codes "policy" ∷ codes "policyDigests" ∷ codes "policyAuthorizations" ∷ []

document-read : (description : List ℕ) (es : Elements) (approvals : List ApprovalWish) →
    let p : Policy = record { description = description; elements = es; approvals = approvals } in
    policy_of (policy_value p) ≡ document_by description (elements_of (element_at max_levels) (Some (items_of (elements_values es))) (at_member root (codes "policy")) start)
    (λ walk. approvals_of_list (items_of (map approval_value approvals)) approvals walk) (noted members (policy_value p) root)
unfolding document_by approvals_of_list policy_value policy_of document_in description_member policy_member elements_in approvals_member
document-read description es [] = refl
document-read description es (a ∷ rest) = refl

again-read : (description : List ℕ) (ds : Items) (approvals : List ApprovalWish) (other : Elements) →
    policy_of (again_document description ds approvals) ≡ document_by description (elements_of (element_at max_levels) (Some ds) (at_member root (codes "policy")) start)
    (λ walk. approvals_of_list (again_approvals approvals) approvals walk) (noted members (policy_value (record { description = description; elements = other; approvals = approvals })) root)
unfolding again_document members_of document_by approvals_of_list policy_value policy_of document_in description_member policy_member elements_in approvals_member noted
again-read description ds [] other = refl
again-read description ds (a ∷ rest) other = refl

with_elements : Elements → Found (Policy × List Place) → Found (Policy × List Place)
with_elements es (Ok x) = Ok (record x.0 { elements = es }, x.1)
with_elements es (Err fault) = Err fault

-- the same of other elements, where the authorizations are read alike
by-follows : (description : List ℕ) (es other : Elements) (note : Walk → Walk) (found again : Found (List ApprovalWish × Walk)) → Follows found again → (p : Policy) (notes : List Place)
    → (found >>= with_approvals description es note >>= with_notes) ≡ Ok (p, notes) → (again >>= with_approvals description other note >>= with_notes) ≡ Ok (record p { elements = other }, notes)
unfolding with_elements
by-follows description es other note (Ok a) again follows p notes is =
    ap (λ r. r >>= with_approvals description other note >>= with_notes) follows ∙ ap (with_elements other) is
by-follows description es other note (Err fault) again follows p notes is = cc

elements_found : Policy × List Place → Found (Policy × List Place) → Elements
elements_found other (Ok x) = x.0.elements
elements_found other (Err fault) = other.0.elements

-- the elements that were found are those of the policy
elements-are : (description : List ℕ) (es : Elements) (note : Walk → Walk) (found : Found (List ApprovalWish × Walk)) (p : Policy) (notes : List Place) → (found >>= with_approvals description es note >>= with_notes) ≡ Ok (p, notes) → es ≡ p.elements
unfolding elements_found
elements-are description es note (Ok a) p notes is = ap (elements_found (p, notes)) is
elements-are description es note (Err fault) p notes is = cc

-- where the elements are read as others, and the authorizations alike
document-says : (description : List ℕ) (found again : Found (Elements × Walk)) (approvals approvals' : Walk → Found (List ApprovalWish × Walk)) (note : Walk → Walk) (p : Policy) (notes : List Place)
    → ((w : Walk) → found ≡ Ok (p.elements, w) → again ≡ Ok (named_elements p.elements, w)) → ((w : Walk) → Follows (approvals w) (approvals' w))
    → document_by description found approvals note ≡ Ok (p, notes) → document_by description again approvals' note ≡ Ok (named p, notes)
unfolding document_by
document-says description (Ok es) again approvals approvals' note p notes says follows is =
    let same : es.0 ≡ p.elements = elements-are description es.0 note (approvals es.1) p notes is in
    ap (λ r. r >>= after_elements description approvals' note >>= with_notes) (says es.1 (ap (λ x. Ok (x, es.1)) same))
    ∙ by-follows description es.0 (named_elements p.elements) note (approvals es.1) (approvals' es.1) (follows es.1) p notes is
document-says description (Err fault) again approvals approvals' note p notes says follows is = cc

lists-follow : (approvals : List ApprovalWish) (walk : Walk) → Follows (approvals_of_list (items_of (map approval_value approvals)) approvals walk) (approvals_of_list (again_approvals approvals) approvals walk)
unfolding approvals_of_list
lists-follow [] walk = refl
lists-follow (a ∷ rest) walk = from-follows (a ∷ rest) [] 0 (at_member root (codes "policyAuthorizations")) walk

-- what a policy's canonical value says is said by its spelling
pub spelling-says : (policy : Policy) → policy_of (policy_value (erased_policy policy)) ≡ Ok (erased_policy policy, []) → policy_of (normal (policy_spelling (erased_policy policy))) ≡ Ok (named (erased_policy policy), [])
spelling-says policy is =
    let p = erased_policy policy in
    let es = p.elements in
    let at = at_member root (codes "policy") in
    ap policy_of (document-again p.description es p.approvals)
    ∙ again-read p.description (again_elements es) p.approvals es
    ∙ document-says p.description (elements_of (element_at max_levels) (Some (items_of (elements_values es))) at start) (elements_of (element_at max_levels) (Some (again_elements es)) at start)
    (approvals_of_list (items_of (map approval_value p.approvals)) p.approvals) (approvals_of_list (again_approvals p.approvals) p.approvals) (noted members (policy_value p) root) p []
    (λ w found. policy-say es (elements-say policy.elements) max_levels at start w found) (lists-follow p.approvals)
    (sym (document-read p.description es p.approvals) ∙ is)

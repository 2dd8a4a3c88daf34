-- The tokens of branches, authorizations and documents, in the order in which they are written, and that they read back.
use Rattle.std.proofs.Common.{◌≡◌, ℕ, List, [], ◌∷◌, ◌++◌, map, codes, refl, sym, ap, ◌∙◌, append_assoc, append-nil}
use Rattle.json.specs.Token.{Token, begin_array, begin_object, end_array, end_object, key as name, string as word}
use Rattle.serde_json.specs.Data.{Data, string}
use Rattle.tpol_base.specs.declared.digest.Digest32.{Digest32}
use Rattle.tpol_tree.specs.declared.wishes.KeyWish.{KeyWish}
use Rattle.tpol_tree.specs.declared.wishes.KeyWish.TheVariants as key
use Rattle.tpol_tree.specs.declared.wishes.IndexWish.{IndexWish}
use Rattle.tpol_tree.specs.declared.wishes.IndexWish.TheVariants as index
use Rattle.tpol_tree.specs.declared.wishes.ApprovalWish.{ApprovalWish}
use Rattle.tpol_tree.specs.declared.wishes.ApprovalWish.TheVariants.{ByKey, ByIndex}
use Rattle.tpol_tree.specs.declared.policy.Branches.{Branches}
use Rattle.tpol_tree.specs.declared.policy.Element.TheVariants.{Or}
use Rattle.tpol_tree.specs.declared.policy.Policy.{Policy}
use Rattle.tpol_write.specs.Approvals.{approval_value, approvals_members}
use Rattle.tpol_write.specs.Canonical.{policy_value}
use Rattle.tpol_write.specs.Drafts.{AllMembersRead, AllRead, Reads, member_tokens, members_tokens, tokens_of, type_and_end, values_tokens}
use Rattle.tpol_write.specs.Elements.{branch_value, branches_values, element_value, elements_values}
use Rattle.tpol_write.specs.Objects.{hex_text, list_of, object_of}
use Rattle.tpol_write.specs.Wishes.{index_member, key_member}
use Rattle.tpol_write.proofs.Reading.{list_reads, list_tokens, object_reads}
use Rattle.tpol_write.proofs.RowTokens.{InOrder, typed_reads}

-- a list, and what comes behind it
listed : (ds : List Data) (rest : List Token) → begin_array ∷ (values_tokens ds ++ (end_array ∷ rest)) ≡ tokens_of (list_of ds) ++ rest
listed ds rest = sym (ap (λ ts. ts ++ rest) (list_tokens ds) ∙ ap (λ ts. begin_array ∷ ts) (append_assoc (values_tokens ds) (end_array ∷ []) rest))

-- ---- POLICYOR

pub or_tokens : (bs : Branches) → begin_object ∷ name (codes "branches") ∷ begin_array ∷ (values_tokens (branches_values bs) ++ (end_array ∷ type_and_end (codes "POLICYOR"))) ≡ tokens_of (element_value (Or bs))
or_tokens bs = ap (λ ts. begin_object ∷ name (codes "branches") ∷ ts) (listed (branches_values bs) (type_and_end (codes "POLICYOR")))

pub or_reads : (bs : Branches) → AllRead (branches_values bs) → Reads (element_value (Or bs))
or_reads bs each = typed_reads (codes "POLICYOR") ((codes "branches", list_of (branches_values bs)) ∷ []) (list_reads (branches_values bs) each, tt) refl

pub branch_tokens : (title description : List ℕ) (ds : List Data)
    → begin_object ∷ (member_tokens (codes "description", string description) ++ (member_tokens (codes "name", string title) ++ name (codes "policy") ∷ begin_array ∷ (values_tokens ds ++ (end_array ∷ end_object ∷ []))))
    ≡ tokens_of (branch_value title description ds)
branch_tokens title description ds =
    ap (λ ts. begin_object ∷ name (codes "description") ∷ word description ∷ name (codes "name") ∷ word title ∷ name (codes "policy") ∷ ts) (listed ds (end_object ∷ []))

pub branch_reads : (title description : List ℕ) (ds : List Data) → AllRead ds → Reads (branch_value title description ds)
branch_reads title description ds each =
    object_reads ((codes "name", string title) ∷ (codes "description", string description) ∷ (codes "policy", list_of ds) ∷ []) (refl, (refl, (list_reads ds each, tt))) refl

-- ---- authorizations

pub by_key_tokens : (k : KeyWish) (policy_ref : List ℕ) (signature : Digest32)
    → begin_object ∷ (member_tokens (key_member k) ++ (member_tokens (codes "policyRef", hex_text policy_ref) ++ (member_tokens (codes "signature", hex_text signature.bytes) ++ type_and_end (codes "tpm"))))
    ≡ tokens_of (approval_value (ByKey k policy_ref signature))
by_key_tokens (key.Path path) policy_ref signature = refl
by_key_tokens (key.Public area) policy_ref signature = refl

pub by_key_reads : (k : KeyWish) (policy_ref : List ℕ) (signature : Digest32) → Reads (key_member k).1 → Reads (approval_value (ByKey k policy_ref signature))
by_key_reads (key.Path path) policy_ref signature reads = refl
by_key_reads (key.Public area) policy_ref signature reads =
    typed_reads (codes "tpm") (key_member (key.Public area) ∷ (codes "policyRef", hex_text policy_ref) ∷ (codes "signature", hex_text signature.bytes) ∷ []) (reads, (refl, (refl, tt))) refl

pub by_index_tokens : (i : IndexWish) → begin_object ∷ (member_tokens (index_member i) ++ type_and_end (codes "nv")) ≡ tokens_of (approval_value (ByIndex i))
by_index_tokens (index.Path path) = refl
by_index_tokens (index.Public area) = refl

pub by_index_reads : (i : IndexWish) → Reads (index_member i).1 → Reads (approval_value (ByIndex i))
by_index_reads (index.Path path) reads = refl
by_index_reads (index.Public area) reads = typed_reads (codes "nv") (index_member (index.Public area) ∷ []) (reads, tt) refl

-- ---- documents

abbrev document_value : List ℕ → List Data → List ApprovalWish → Data
document_value description ds approvals =
    object_of ((codes "description", string description) ∷ (codes "policy", list_of ds) ∷ approvals_members approvals)

abbrev document_pieces : List ℕ → List Data → List ApprovalWish → List Token
document_pieces description ds approvals =
    begin_object ∷ (member_tokens (codes "description", string description) ++ name (codes "policy") ∷ begin_array
    ∷ (values_tokens ds ++ (end_array ∷ (members_tokens (approvals_members approvals) ++ end_object ∷ []))))

in_turn : (description : List ℕ) (ds : List Data) (approvals : List ApprovalWish) → document_pieces description ds approvals ≡ tokens_of (document_value description ds approvals)
in_turn description ds [] =
    ap (λ ts. begin_object ∷ name (codes "description") ∷ word description ∷ name (codes "policy") ∷ ts) (listed ds (end_object ∷ []))
in_turn description ds (a ∷ approvals) =
    let list = tokens_of (list_of (map approval_value (a ∷ approvals))) in
    ap (λ ts. begin_object ∷ name (codes "description") ∷ word description ∷ name (codes "policy") ∷ begin_array ∷ (values_tokens ds ++ (end_array ∷ name (codes "policyAuthorizations") ∷ (ts ++ end_object ∷ [])))) (append-nil list)
    ∙ ap (λ ts. begin_object ∷ name (codes "description") ∷ word description ∷ name (codes "policy") ∷ ts) (listed ds (name (codes "policyAuthorizations") ∷ (list ++ end_object ∷ [])))

pub document_tokens : (p : Policy) → document_pieces p.description (elements_values p.elements) p.approvals ≡ tokens_of (policy_value p)
unfolding policy_value
document_tokens p = in_turn p.description (elements_values p.elements) p.approvals

pub document_reads : (p : Policy) → AllRead (elements_values p.elements) → AllMembersRead (approvals_members p.approvals) → Reads (policy_value p)
unfolding policy_value
document_reads p each approvals =
    object_reads ((codes "description", string p.description) ∷ (codes "policy", list_of (elements_values p.elements)) ∷ approvals_members p.approvals)
    (refl, (list_reads (elements_values p.elements) each, approvals)) (in_order p.approvals)
  where
    in_order : (approvals : List ApprovalWish) → InOrder ((codes "description", string p.description) ∷ (codes "policy", list_of (elements_values p.elements)) ∷ approvals_members approvals)
    in_order [] = refl
    in_order (a ∷ approvals) = refl

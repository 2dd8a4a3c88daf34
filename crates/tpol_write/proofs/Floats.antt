-- Canonical values have no float, so their text is known.
use Rattle.std.proofs.Common.{◌≡◌, ℕ, ℤ, pos, negsuc, List, [], ◌∷◌, Bool, true, false, ◌||◌, map, Option, Some, None, Ordering, Less, Equal, Greater, refl, codes}
use Rattle.std.specs.Ordering.{nat_cmp, match_ordering}
use Rattle.std.specs.Cmp.Lexicographic.{slice_cmp}
use Rattle.serde_json.specs.Data.{Data, boolean, string, Members, no_members, member, put}
use Rattle.serde_json.specs.View.{items_of}
use Rattle.serde_json.specs.Written.{has_float, items_have_float, members_have_float}
use Rattle.tpol_base.specs.declared.digest.Digest32.{Digest32}
use Rattle.tpol_base.specs.Pcr.{pcrs_of_mask}
use Rattle.tpol_tree.specs.declared.wishes.KeyWish.{KeyWish}
use Rattle.tpol_tree.specs.declared.wishes.KeyWish.TheVariants as key
use Rattle.tpol_tree.specs.declared.wishes.IndexWish.{IndexWish}
use Rattle.tpol_tree.specs.declared.wishes.IndexWish.TheVariants as index
use Rattle.tpol_tree.specs.declared.wishes.EntityWish.{EntityWish}
use Rattle.tpol_tree.specs.declared.wishes.EntityWish.TheVariants as entity
use Rattle.tpol_tree.specs.declared.wishes.ParentWish.{ParentWish}
use Rattle.tpol_tree.specs.declared.wishes.ParentWish.TheVariants as parent
use Rattle.tpol_tree.specs.declared.wishes.NamesWish.{NamesWish}
use Rattle.tpol_tree.specs.declared.wishes.NamesWish.TheVariants as names
use Rattle.tpol_tree.specs.declared.wishes.PcrWish.{PcrWish}
use Rattle.tpol_tree.specs.declared.wishes.PcrWish.TheVariants.{Values, Current}
use Rattle.tpol_tree.specs.declared.wishes.ApprovalWish.{ApprovalWish}
use Rattle.tpol_tree.specs.declared.wishes.ApprovalWish.TheVariants.{ByKey, ByIndex}
use Rattle.tpol_tree.specs.declared.policy.Branches.{Branches}
use Rattle.tpol_tree.specs.declared.policy.Branches.TheVariants.{End as no_branches, More' as one_branch}
use Rattle.tpol_tree.specs.declared.policy.Element.{Element}
use Rattle.tpol_tree.specs.declared.policy.Element.TheVariants.{Or, Pcr, Nv, Secret, Signed, Authorize, AuthorizeNv, Locality, CommandCode, CpHash, NameHash, CounterTimer, Duplication, NvWritten, AuthValue, Password, PhysicalPresence}
use Rattle.tpol_tree.specs.declared.policy.Elements.{Elements}
use Rattle.tpol_tree.specs.declared.policy.Elements.TheVariants.{End as no_elements, More' as one_element}
use Rattle.tpol_tree.specs.declared.policy.Policy.{Policy}
use Rattle.tpol_write.specs.Approvals.{approval_value, approvals_members}
use Rattle.tpol_write.specs.Canonical.{policy_value}
use Rattle.tpol_write.specs.Elements.{element_value, elements_values, branches_values, branch_value, comparison_members, signing_members, typed}
use Rattle.tpol_write.specs.Objects.{Entry, with_members, object_of, hex_text, integer, list_of, natural}
use Rattle.tpol_write.specs.Wishes.{name_value, key_member, index_member, entity_member, parent_member, names_member, pcr_value, pcrs_member, cp_hash_members}

-- ---- objects and lists

pub no_float_or : (a b : Bool) → a ≡ false → b ≡ false → (a || b) ≡ false
no_float_or a b ea eb = rw (ea, eb)

first_none : (a b : Bool) → (a || b) ≡ false → a ≡ false
first_none false b none = refl
first_none true b none = none

second_none : (a b : Bool) → (a || b) ≡ false → b ≡ false
second_none false b none = none
second_none true b none = cc none

put_by : (o : Ordering) (k l : List ℕ) (d e : Data) (ms : Members) → has_float d ≡ false → has_float e ≡ false → members_have_float ms ≡ false
    → members_have_float (put k d ms) ≡ false
    → members_have_float (match_ordering o (member k d (member l e ms)) (member l d ms) (member l e (put k d ms))) ≡ false
put_by Less k l d e ms nd ne nms later = rw (nd, ne, nms)
put_by Equal k l d e ms nd ne nms later = rw (nd, nms)
put_by Greater k l d e ms nd ne nms later = rw (ne, later)

pub put_none : (k : List ℕ) (d : Data) (ms : Members) → has_float d ≡ false → members_have_float ms ≡ false → members_have_float (put k d ms) ≡ false
put_none k d no_members nd nms = rw nd
put_none k d (member l e ms) nd nms =
    let ne = first_none (has_float e) (members_have_float ms) nms in
    let rest = second_none (has_float e) (members_have_float ms) nms in
    put_by (slice_cmp nat_cmp k l) k l d e ms nd ne rest (put_none k d ms nd rest)

-- no entry has a float
abbrev pub NoFloats : List Entry → Type 0
NoFloats [] = Unit {0}
NoFloats (entry ∷ entries) = (has_float entry.1 ≡ false) × NoFloats entries

pub with_members_none : (entries : List Entry) (found : Members) → NoFloats entries → members_have_float found ≡ false → members_have_float (with_members entries found) ≡ false
with_members_none [] found none nfound = nfound
with_members_none (entry ∷ entries) found none nfound =
    with_members_none entries (put entry.0 entry.1 found) none.1 (put_none entry.0 entry.1 found none.0 nfound)

pub object_none : (entries : List Entry) → NoFloats entries → has_float (object_of entries) ≡ false
object_none entries none = with_members_none entries no_members none refl

pub list_none : {A : Type 0} (value : A → Data) (xs : List A) → ((x : A) → has_float (value x) ≡ false) → has_float (list_of (map value xs)) ≡ false
list_none value [] each = refl
list_none value (x ∷ xs) each = no_float_or _ _ (each x) (list_none value xs each)

integer_none : (z : ℤ) → has_float (integer z) ≡ false
integer_none (pos n) = refl
integer_none (negsuc n) = refl

-- ---- wishes

key_none : (k : KeyWish) → has_float (key_member k).1 ≡ false
key_none (key.Path path) = refl
key_none (key.Public area) = refl

index_none : (i : IndexWish) → has_float (index_member i).1 ≡ false
index_none (index.Path path) = refl
index_none (index.Public area) = refl

entity_none : (e : EntityWish) → has_float (entity_member e).1 ≡ false
entity_none (entity.Path path) = refl
entity_none (entity.Named name) = refl

parent_none : (p : ParentWish) → has_float (parent_member p).1 ≡ false
parent_none (parent.Path path) = refl
parent_none (parent.Public area) = refl
parent_none (parent.Named name) = refl

names_none : (n : NamesWish) → has_float (names_member n).1 ≡ false
names_none (names.Digest digest) = refl
names_none (names.Names list) = list_none name_value list (λ name. refl)
names_none (names.Paths paths) = list_none string paths (λ path. refl)

pcrs_none : (p : PcrWish) → has_float (pcrs_member p).1 ≡ false
pcrs_none (Values values) = list_none pcr_value values (λ value. refl)
pcrs_none (Current mask) = list_none natural (pcrs_of_mask mask) (λ pcr. refl)

cp_hash_none : (cp_hash : Option Digest32) → NoFloats (cp_hash_members cp_hash)
cp_hash_none None = tt
cp_hash_none (Some digest) = (refl, tt)

-- ---- elements

typed_none : (name : List ℕ) (entries : List Entry) → NoFloats entries → has_float (typed name entries) ≡ false
typed_none name entries none = object_none ((codes "type", string name) ∷ entries) (refl, none)

signing_none : (policy_ref : List ℕ) (cp_hash : Option Digest32) (expiration : ℤ) → NoFloats (signing_members policy_ref cp_hash expiration)
signing_none policy_ref cp_hash expiration = (refl, (integer_none expiration, cp_hash_none cp_hash))

branch_none : (name description : List ℕ) (policy : List Data) → items_have_float (items_of policy) ≡ false → has_float (branch_value name description policy) ≡ false
branch_none name description policy none = object_none (
    (codes "name", string name) ∷ (codes "description", string description) ∷ (codes "policy", list_of policy) ∷ []) (refl, (refl, (none, tt)))

mutual
  elements_none : (es : Elements) → items_have_float (items_of (elements_values es)) ≡ false
  elements_none no_elements = refl
  elements_none (one_element p element q rest) = no_float_or _ _ (element_none element) (elements_none rest)

  element_none : (e : Element) → has_float (element_value e) ≡ false
  element_none (Or branches) =
      typed_none (codes "POLICYOR") ((codes "branches", list_of (branches_values branches)) ∷ []) (branches_none branches, tt)
  element_none (Pcr pcrs) = typed_none (codes "POLICYPCR") (pcrs_member pcrs ∷ []) (pcrs_none pcrs, tt)
  element_none (Nv index operand offset operation) =
      typed_none (codes "POLICYNV") (index_member index ∷ comparison_members operand offset operation) (index_none index, (refl, (refl, (refl, tt))))
  element_none (Secret entity policy_ref cp_hash expiration) =
      typed_none (codes "POLICYSECRET") (entity_member entity ∷ signing_members policy_ref cp_hash expiration) (entity_none entity, signing_none policy_ref cp_hash expiration)
  element_none (Signed key policy_ref cp_hash expiration) =
      typed_none (codes "POLICYSIGNED") (key_member key ∷ signing_members policy_ref cp_hash expiration) (key_none key, signing_none policy_ref cp_hash expiration)
  element_none (Authorize key policy_ref) =
      typed_none (codes "POLICYAUTHORIZE") (key_member key ∷ (codes "policyRef", hex_text policy_ref) ∷ []) (key_none key, (refl, tt))
  element_none (AuthorizeNv index) = typed_none (codes "POLICYAUTHORIZENV") (index_member index ∷ []) (index_none index, tt)
  element_none (Locality localities) = refl
  element_none (CommandCode code) = refl
  element_none (CpHash digest) = refl
  element_none (NameHash names) = typed_none (codes "POLICYNAMEHASH") (names_member names ∷ []) (names_none names, tt)
  element_none (CounterTimer operand offset operation) = refl
  element_none (Duplication name parent include) = typed_none (codes "POLICYDUPLICATIONSELECT") (
      parent_member parent ∷ (codes "includeObject", boolean include) ∷ (codes "objectName", name_value name) ∷ []) (parent_none parent, (refl, (refl, tt)))
  element_none (NvWritten written) = refl
  element_none AuthValue = refl
  element_none Password = refl
  element_none PhysicalPresence = refl

  branches_none : (bs : Branches) → items_have_float (items_of (branches_values bs)) ≡ false
  branches_none no_branches = refl
  branches_none (one_branch p name description elements q rest) =
      no_float_or _ _ (branch_none name description (elements_values elements) (elements_none elements)) (branches_none rest)

-- ---- documents

approval_none : (a : ApprovalWish) → has_float (approval_value a) ≡ false
approval_none (ByKey key policy_ref signature) = typed_none (codes "tpm") (
    key_member key ∷ (codes "policyRef", hex_text policy_ref) ∷ (codes "signature", hex_text signature.bytes) ∷ []) (key_none key, (refl, (refl, tt)))
approval_none (ByIndex index) = typed_none (codes "nv") (index_member index ∷ []) (index_none index, tt)

approvals_none : (all : List ApprovalWish) → NoFloats (approvals_members all)
approvals_none [] = tt
approvals_none (a ∷ all) = (list_none approval_value (a ∷ all) approval_none, tt)

pub policy_none : (p : Policy) → has_float (policy_value p) ≡ false
unfolding policy_value
policy_none p = object_none (
    (codes "description", string p.description) ∷ (codes "policy", list_of (elements_values p.elements)) ∷ approvals_members p.approvals)
    (refl, (elements_none p.elements, approvals_none p.approvals))

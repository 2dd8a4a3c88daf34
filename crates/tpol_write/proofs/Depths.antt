-- How deep canonical values nest.
use Rattle.std.proofs.Common.{ℕ, ◌+◌, ◌*◌, ◌≤◌, ℤ, List, [], ◌∷◌, map, Option, Some, None, Ordering, Less, Equal, Greater, codes, arith}
use Rattle.std.specs.Ordering.{nat_cmp, match_ordering}
use Rattle.std.specs.Cmp.Lexicographic.{slice_cmp}
use Rattle.serde_json.specs.Data.{Data, depth, items_depth, members_depth, boolean, string, Members, no_members, member, put}
use Rattle.serde_json.specs.View.{items_of}
use Rattle.tpol_base.specs.declared.compare.Compare.{Compare}
use Rattle.tpol_base.specs.declared.digest.Digest32.{Digest32}
use Rattle.tpol_base.specs.Pcr.{pcrs_of_mask}
use Rattle.tpol_tree.specs.declared.wishes.KeyWish.{KeyWish}
use Rattle.tpol_tree.specs.declared.wishes.KeyWish.TheVariants as key
use Rattle.tpol_tree.specs.declared.wishes.IndexWish.{IndexWish}
use Rattle.tpol_tree.specs.declared.wishes.IndexWish.TheVariants as index
use Rattle.tpol_tree.specs.declared.wishes.EntityWish.{EntityWish}
use Rattle.tpol_tree.specs.declared.wishes.EntityWish.TheVariants as entity
use Rattle.tpol_tree.specs.declared.wishes.ParentWish.{ParentWish}
use Rattle.tpol_tree.specs.declared.wishes.ParentWish.TheVariants as parent
use Rattle.tpol_tree.specs.declared.wishes.NamesWish.{NamesWish}
use Rattle.tpol_tree.specs.declared.wishes.NamesWish.TheVariants as names
use Rattle.tpol_tree.specs.declared.wishes.PcrWish.{PcrWish}
use Rattle.tpol_tree.specs.declared.wishes.PcrWish.TheVariants.{Values, Current}
use Rattle.tpol_tree.specs.declared.wishes.ApprovalWish.{ApprovalWish}
use Rattle.tpol_tree.specs.declared.wishes.ApprovalWish.TheVariants.{ByKey, ByIndex}
use Rattle.tpol_tree.specs.declared.policy.Branches.{Branches}
use Rattle.tpol_tree.specs.declared.policy.Branches.TheVariants.{End as no_branches, More' as one_branch}
use Rattle.tpol_tree.specs.declared.policy.Element.{Element}
use Rattle.tpol_tree.specs.declared.policy.Element.TheVariants.{Or, Pcr, Nv, Secret, Signed, Authorize, AuthorizeNv, Locality, CommandCode, CpHash, NameHash, CounterTimer, Duplication, NvWritten, AuthValue, Password, PhysicalPresence}
use Rattle.tpol_tree.specs.declared.policy.Elements.{Elements}
use Rattle.tpol_tree.specs.declared.policy.Elements.TheVariants.{End as no_elements, More' as one_element}
use Rattle.tpol_tree.specs.declared.policy.Policy.{Policy}
use Rattle.tpol_write.specs.Approvals.{approval_value, approvals_members}
use Rattle.tpol_write.specs.Canonical.{policy_value}
use Rattle.tpol_write.specs.Elements.{element_value, elements_values, branches_values, branch_value, comparison_members, signing_members, typed}
use Rattle.tpol_write.specs.Names.{code_text}
use Rattle.tpol_write.specs.Objects.{Entry, with_members, object_of, hex_text, integer, list_of, natural}
use Rattle.tpol_write.specs.Wishes.{name_value, key_member, index_member, entity_member, parent_member, names_member, pcr_value, pcrs_member, cp_hash_members}
use Rattle.tpol_write.specs.Levels.{levels_of_elements, levels_of_element, levels_of_branches}

-- ---- objects and lists

put_by : (o : Ordering) (n : ℕ) (k l : List ℕ) (d e : Data) (ms : Members) → depth d ≤ n → depth e ≤ n → members_depth ms ≤ n
    → members_depth (put k d ms) ≤ n
    → members_depth (match_ordering o (member k d (member l e ms)) (member l d ms) (member l e (put k d ms))) ≤ n
put_by Less n k l d e ms hd he hms later = omega arith
put_by Equal n k l d e ms hd he hms later = omega arith
put_by Greater n k l d e ms hd he hms later = omega arith

put_depth : (n : ℕ) (k : List ℕ) (d : Data) (ms : Members) → depth d ≤ n → members_depth ms ≤ n → members_depth (put k d ms) ≤ n
put_depth n k d no_members hd hms = omega arith
put_depth n k d (member l e ms) hd hms =
    let he : depth e ≤ n = omega arith in
    let rest : members_depth ms ≤ n = omega arith in
    put_by (slice_cmp nat_cmp k l) n k l d e ms hd he rest (put_depth n k d ms hd rest)

-- each entry nests at most so deep
abbrev AreWithin : ℕ → List Entry → Type 0
AreWithin n [] = Unit {0}
AreWithin n (entry ∷ entries) = (depth entry.1 ≤ n) × AreWithin n entries

with_members_depth : (n : ℕ) (entries : List Entry) (found : Members) → AreWithin n entries → members_depth found ≤ n → members_depth (with_members entries found) ≤ n
with_members_depth n [] found each hfound = hfound
with_members_depth n (entry ∷ entries) found each hfound =
    with_members_depth n entries (put entry.0 entry.1 found) each.1 (put_depth n entry.0 entry.1 found each.0 hfound)

object_depth : (n : ℕ) (entries : List Entry) → AreWithin n entries → depth (object_of entries) ≤ n + 1
object_depth n entries each =
    let none : members_depth no_members ≤ n = omega arith in
    let all : members_depth (with_members entries no_members) ≤ n = with_members_depth n entries no_members each none in
    omega arith

typed_depth : (n : ℕ) (name : List ℕ) (entries : List Entry) → AreWithin n entries → depth (typed name entries) ≤ n + 1
typed_depth n name entries each =
    let text : depth (string name) ≤ n = omega arith in
    object_depth n ((codes "type", string name) ∷ entries) (text, each)

list_depth : {A : Type 0} (n : ℕ) (value : A → Data) (xs : List A) → ((x : A) → depth (value x) ≤ n) → items_depth (items_of (map value xs)) ≤ n
list_depth n value [] each = omega arith
list_depth n value (x ∷ xs) each =
    let here : depth (value x) ≤ n = each x in
    let rest : items_depth (items_of (map value xs)) ≤ n = list_depth n value xs each in
    omega arith

-- ---- wishes

key_depth : (k : KeyWish) → depth (key_member k).1 ≤ 2
key_depth (key.Path path) = omega arith
key_depth (key.Public area) = omega arith

index_depth : (i : IndexWish) → depth (index_member i).1 ≤ 2
index_depth (index.Path path) = omega arith
index_depth (index.Public area) = omega arith

entity_depth : (e : EntityWish) → depth (entity_member e).1 ≤ 2
entity_depth (entity.Path path) = omega arith
entity_depth (entity.Named name) = omega arith

parent_depth : (p : ParentWish) → depth (parent_member p).1 ≤ 2
parent_depth (parent.Path path) = omega arith
parent_depth (parent.Public area) = omega arith
parent_depth (parent.Named name) = omega arith

names_depth : (n : NamesWish) → depth (names_member n).1 ≤ 2
names_depth (names.Digest digest) = omega arith
names_depth (names.Names list) = omega (arith, list_depth 1 name_value list (λ name. omega arith))
names_depth (names.Paths paths) = omega (arith, list_depth 1 string paths (λ path. omega arith))

pcrs_depth : (p : PcrWish) → depth (pcrs_member p).1 ≤ 2
pcrs_depth (Values values) = omega (arith, list_depth 1 pcr_value values (λ value. omega arith))
pcrs_depth (Current mask) = omega (arith, list_depth 1 natural (pcrs_of_mask mask) (λ pcr. omega arith))

integer_depth : (z : ℤ) → depth (integer z) ≤ 2
integer_depth z = omega arith

cp_hash_depth : (cp_hash : Option Digest32) → AreWithin 2 (cp_hash_members cp_hash)
cp_hash_depth None = tt
cp_hash_depth (Some digest) = (omega arith, tt)

signing_depth : (policy_ref : List ℕ) (cp_hash : Option Digest32) (expiration : ℤ) → AreWithin 2 (signing_members policy_ref cp_hash expiration)
signing_depth policy_ref cp_hash expiration = (omega arith, (omega arith, cp_hash_depth cp_hash))

comparison_depth : (operand : List ℕ) (offset : ℕ) (operation : Compare) → AreWithin 2 (comparison_members operand offset operation)
comparison_depth operand offset operation = (omega arith, (omega arith, (omega arith, tt)))

-- ---- elements

branch_depth : (n : ℕ) (name description : List ℕ) (policy : List Data) → items_depth (items_of policy) ≤ n → depth (branch_value name description policy) ≤ n + 2
branch_depth n name description policy h =
    let list : depth (list_of policy) ≤ n + 1 = omega arith in
    let whole = object_depth (n + 1) ((codes "name", string name) ∷ (codes "description", string description) ∷ (codes "policy", list_of policy) ∷ [])
    (omega arith, (omega arith, (list, tt))) in
    omega (arith, whole)

mutual
  elements_depth : (es : Elements) → items_depth (items_of (elements_values es)) ≤ 4 * levels_of_elements es + 3
  elements_depth no_elements = omega arith
  elements_depth (one_element p element q rest) = omega (arith, element_depth element, elements_depth rest)

  element_depth : (e : Element) → depth (element_value e) ≤ 4 * levels_of_element e + 3
  element_depth (Or branches) = omega (
    arith,
    branches_depth branches,
    typed_depth (4 * levels_of_branches branches + 6) (codes "POLICYOR") ((codes "branches", list_of (branches_values branches)) ∷ []) (omega (arith, branches_depth branches), tt),
  )
  element_depth (Pcr pcrs) = typed_depth 2 (codes "POLICYPCR") (pcrs_member pcrs ∷ []) (pcrs_depth pcrs, tt)
  element_depth (Nv index operand offset operation) =
      typed_depth 2 (codes "POLICYNV") (index_member index ∷ comparison_members operand offset operation) (index_depth index, comparison_depth operand offset operation)
  element_depth (Secret entity policy_ref cp_hash expiration) =
      typed_depth 2 (codes "POLICYSECRET") (entity_member entity ∷ signing_members policy_ref cp_hash expiration) (entity_depth entity, signing_depth policy_ref cp_hash expiration)
  element_depth (Signed key policy_ref cp_hash expiration) =
      typed_depth 2 (codes "POLICYSIGNED") (key_member key ∷ signing_members policy_ref cp_hash expiration) (key_depth key, signing_depth policy_ref cp_hash expiration)
  element_depth (Authorize key policy_ref) =
      typed_depth 2 (codes "POLICYAUTHORIZE") (key_member key ∷ (codes "policyRef", hex_text policy_ref) ∷ []) (key_depth key, (omega arith, tt))
  element_depth (AuthorizeNv index) = typed_depth 2 (codes "POLICYAUTHORIZENV") (index_member index ∷ []) (index_depth index, tt)
  element_depth (Locality localities) = typed_depth 2 (codes "POLICYLOCALITY") ((codes "locality", natural localities) ∷ []) (omega arith, tt)
  element_depth (CommandCode code) = typed_depth 2 (codes "POLICYCOMMANDCODE") ((codes "code", string (code_text code)) ∷ []) (omega arith, tt)
  element_depth (CpHash digest) = typed_depth 2 (codes "POLICYCPHASH") ((codes "cpHash", hex_text digest.bytes) ∷ []) (omega arith, tt)
  element_depth (NameHash names) = typed_depth 2 (codes "POLICYNAMEHASH") (names_member names ∷ []) (names_depth names, tt)
  element_depth (CounterTimer operand offset operation) =
      typed_depth 2 (codes "POLICYCOUNTERTIMER") (comparison_members operand offset operation) (comparison_depth operand offset operation)
  element_depth (Duplication name parent include) = typed_depth 2 (codes "POLICYDUPLICATIONSELECT") (
      parent_member parent ∷ (codes "includeObject", boolean include) ∷ (codes "objectName", name_value name) ∷ []) (parent_depth parent, (omega arith, (omega arith, tt)))
  element_depth (NvWritten written) = typed_depth 2 (codes "POLICYNVWRITTEN") ((codes "writtenSet", boolean written) ∷ []) (omega arith, tt)
  element_depth AuthValue = typed_depth 2 (codes "POLICYAUTHVALUE") [] tt
  element_depth Password = typed_depth 2 (codes "POLICYPASSWORD") [] tt
  element_depth PhysicalPresence = typed_depth 2 (codes "POLICYPHYSICALPRESENCE") [] tt

  branches_depth : (bs : Branches) → items_depth (items_of (branches_values bs)) ≤ 4 * levels_of_branches bs + 5
  branches_depth no_branches = omega arith
  branches_depth (one_branch p name description elements q rest) = omega (
    arith,
    branch_depth (4 * levels_of_elements elements + 3) name description (elements_values elements) (elements_depth elements),
    branches_depth rest,
  )

-- ---- documents

approval_depth : (a : ApprovalWish) → depth (approval_value a) ≤ 3
approval_depth (ByKey key policy_ref signature) = typed_depth 2 (codes "tpm") (
    key_member key ∷ (codes "policyRef", hex_text policy_ref) ∷ (codes "signature", hex_text signature.bytes) ∷ []) (key_depth key, (omega arith, (omega arith, tt)))
approval_depth (ByIndex index) = typed_depth 2 (codes "nv") (index_member index ∷ []) (index_depth index, tt)

approvals_depth : (n : ℕ) (all : List ApprovalWish) → AreWithin (n + 4) (approvals_members all)
approvals_depth n [] = tt
approvals_depth n (a ∷ all) = (omega (arith, list_depth 3 approval_value (a ∷ all) approval_depth), tt)

-- sixteen ORs inside one another are far from the 127 levels that are read
pub policy_depth : (p : Policy) → levels_of_elements p.elements ≤ 16 → depth (policy_value p) ≤ 127
unfolding policy_value
policy_depth p few =
    let n = 4 * levels_of_elements p.elements in
    let list : depth (list_of (elements_values p.elements)) ≤ n + 4 = omega (arith, elements_depth p.elements) in
    let whole = object_depth (n + 4) ((codes "description", string p.description) ∷ (codes "policy", list_of (elements_values p.elements)) ∷ approvals_members p.approvals)
    (omega arith, (list, approvals_depth n p.approvals)) in
    omega (arith, whole)

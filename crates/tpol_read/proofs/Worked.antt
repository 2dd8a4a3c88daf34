-- Worked documents, computed from the definitions.
use Rattle.std.specs.Prelude.{◌≡◌, ℕ, List, [], ◌∷◌, codes, Ok, Err, refl, None, true, false, pos}
use Rattle.tpol_json.specs.Bytes.{bytes_from}
use Rattle.serde_json.specs.Data.{Data, null, boolean, string, number, unsigned, array, object, no_items, item, no_members, member}
use Rattle.tpol_json.specs.declared.place.Place.{Place}
use Rattle.tpol_json.specs.Places.{root, at_member, at_item}
use Rattle.tpol_members.specs.declared.fault.PolicyKind.TheVariants as kinds
use Rattle.tpol_members.specs.Faults.{Found}
use Rattle.tpol_members.specs.Members.{noted}
use Rattle.tpol_members.specs.Pcrs.{pcr_member, pcr_value_in, pcrs_at, pcrs_in}
use Rattle.tpol_base.specs.declared.compare.Compare.TheVariants.{Neq}
use Rattle.tpol_base.specs.declared.name.Name.TheVariants.{Handle}
use Rattle.tpol_members.specs.Fields.{policy_ref_in, cp_hash_in, expiration_in, operand_in, offset_in, operation_member_in}
use Rattle.tpol_elements.specs.Rows.{pcr_row, nv_row, secret_row, signed_row, authorize_row, authorize_nv_row, locality_member, locality_row, command_code_row, name_hash_row, counter_timer_row, duplication_row, include_member, included_object, object_member, nv_written_row, written_member, without_pem}
use Rattle.tpol_elements.specs.Wishes.{entity_at, entity_in, index_at, index_in, key_at, key_in, names_at, names_in, parent_at, parent_in}
use Rattle.tpol_elements.specs.Types.{type_in}
use Rattle.tpol_json.specs.Words.{find_word}
use Rattle.tpol_tree.specs.declared.policy.Element.{Element}
use Rattle.tpol_tree.specs.declared.policy.Element.TheVariants.{Nv, Secret, Signed, Authorize, AuthorizeNv, Locality, NameHash, CounterTimer, Duplication, NvWritten, AuthValue, CommandCode}
use Rattle.tpol_tree.specs.declared.wishes.EntityWish.TheVariants as entity
use Rattle.tpol_tree.specs.declared.wishes.IndexWish.TheVariants as index
use Rattle.tpol_tree.specs.declared.wishes.KeyWish.TheVariants as key
use Rattle.tpol_tree.specs.declared.wishes.NamesWish.TheVariants as names
use Rattle.tpol_tree.specs.declared.wishes.ParentWish.TheVariants as parent
use Rattle.tpol_read.specs.Approvals.{approval_in, approval_type_in, approvals_member, counted_approval}
use Rattle.tpol_read.specs.Documents.{approval_faults, start, document_in, element_count, element_faults, member_faults, policy_faults, policy_of}
use Rattle.tpol_read.specs.Elements.{branches_in, counted, description_member, element_by, element_of_type, element_type_in, element_at, elements_from, elements_in, leaf_element, or_at, or_by, policy_member}
use Rattle.tpol_tree.specs.Erased.{nowhere}
use Rattle.tpol_tree.specs.declared.policy.Elements.TheVariants.{More', End}
use Rattle.tpol_tree.specs.declared.policy.Policy.{Policy}

-- an object of one member, and of two
one : List ℕ → Data → Data
one name d = object (member name d no_members)

two : List ℕ → Data → List ℕ → Data → Data
two name d other e = object (member name d (member other e no_members))

-- a document of one element
only : Data → Data
only d = one (codes "policy") (array (item d no_items))

typed : List ℕ → Data
typed name = one (codes "type") (string name)

-- {"description":"","policy":[]}
empty_policy : policy_faults (two (codes "description") (string []) (codes "policy") (array no_items)) ≡ (kinds.EmptyPolicy, at_member root (codes "policy")) ∷ []
unfolding policy_faults member_faults two description_member element_faults
empty_policy = refl

-- {}
no_policy : policy_faults (object no_members) ≡ (kinds.Missing, at_member root (codes "policy")) ∷ []
unfolding policy_faults member_faults description_member element_faults
no_policy = refl

-- {"policy":[{"type":"OR"}]}
no_branches : policy_faults (only (typed (codes "OR"))) ≡ (kinds.Missing, at_member (at_item (at_member root (codes "policy")) 0) (codes "branches")) ∷ []
unfolding policy_faults member_faults only one typed description_member element_faults counted element_by element_type_in type_in find_word element_of_type or_at or_by element_count
no_branches = refl

-- {"policy":[{"branches":[{}],"type":"OR"}]}: one branch is too few
one_branch : policy_faults (only (two (codes "branches") (array (item (object no_members) no_items)) (codes "type") (string (codes "policyor")))) ≡ (kinds.BranchCount, at_member (at_item (at_member root (codes "policy")) 0) (codes "branches")) ∷ []
unfolding policy_faults member_faults only one two description_member element_faults counted element_by element_type_in type_in find_word element_of_type or_at or_by branches_in element_count
one_branch = refl

-- {"policy":[{"type":"XOR"},{}]}: each element contributes its first fault
two_faults : policy_faults (one (codes "policy") (array (item (typed (codes "XOR")) (item (object no_members) no_items)))) ≡ (kinds.UnknownType, at_member (at_item (at_member root (codes "policy")) 0) (codes "type")) ∷ (kinds.Missing, at_member (at_item (at_member root (codes "policy")) 1) (codes "type")) ∷ []
unfolding policy_faults member_faults one typed description_member element_faults counted element_by element_type_in type_in find_word element_count element_of_type
two_faults = refl

-- {"policy":[{"pcrs":[{"pcr":32}],"type":"POLICYPCR"}]}
pcr_past_31 : policy_faults (only (two (codes "pcrs") (array (item (one (codes "pcr") (number (unsigned 32))) no_items)) (codes "type") (string (codes "POLICYPCR")))) ≡ (kinds.BadNumber, at_member (at_item (at_member (at_item (at_member root (codes "policy")) 0) (codes "pcrs")) 0) (codes "pcr")) ∷ []
unfolding policy_faults member_faults only one two description_member element_faults counted element_by element_type_in type_in find_word element_of_type leaf_element pcr_row pcrs_in pcrs_at pcr_value_in pcr_member element_count
pcr_past_31 = refl

-- {"policy":[{"objectName":0,"objectPath":"a","type":"POLICYSECRET"}]}: the first of two members is read whole, and then the second comes twice
second_of_one : policy_faults (only (object (member (codes "objectName") (number (unsigned 0)) (member (codes "objectPath") (string (codes "a")) (member (codes "type") (string (codes "POLICYSECRET")) no_members))))) ≡ (kinds.Twice, at_member (at_item (at_member root (codes "policy")) 0) (codes "objectName")) ∷ []
unfolding policy_faults member_faults only one description_member element_faults counted element_by element_type_in type_in find_word element_of_type leaf_element secret_row entity_in entity_at element_count
second_of_one = refl

-- {"policy":[{"type":"authvalue","x":1}]}: the policy of AUTHVALUE, and a note at policy[0].x
noted_member : ◌≡◌ {A = Found (Policy × List Place)} (policy_of (only (two (codes "type") (string (codes "authvalue")) (codes "x") (number (unsigned 1)))))
    (Ok (
      record { description = []; elements = More' nowhere AuthValue nowhere End; approvals = [] },
      at_member (at_item (at_member root (codes "policy")) 0) (codes "x") ∷ [],
    ))
unfolding policy_of document_in only one two description_member policy_member elements_in elements_from counted element_by element_type_in type_in find_word element_of_type leaf_element noted approvals_member
noted_member = refl

-- {"a":0,"policy":[{"code":"unseal","type":"CommandCode"}],"z":0}: the code of TPM2_Unseal, and notes at a and z
command_code : ◌≡◌ {A = Found (Policy × List Place)} (policy_of (object (member (codes "a") (number (unsigned 0)) (member (codes "policy") (array (item (two (codes "code") (string (codes "unseal")) (codes "type") (string (codes "CommandCode"))) no_items)) (member (codes "z") (number (unsigned 0)) no_members)))))
    (Ok (
      record { description = []; elements = More' nowhere (CommandCode 0x15e) nowhere End; approvals = [] },
      at_member root (codes "a") ∷ at_member root (codes "z") ∷ [],
    ))
unfolding policy_of document_in two description_member policy_member elements_in elements_from counted element_by element_type_in type_in find_word element_of_type leaf_element command_code_row noted approvals_member
command_code = refl

-- the places of a document's elements
place : ℕ → Place
place index = at_item (at_member root (codes "policy")) index

-- [{"type":"AUTHVALUE"},{},{"type":"AUTHVALUE"}] where two may come: a faulty one counts, and the third is too many
third_of_two : element_faults 0 (item (typed (codes "AUTHVALUE")) (item (object no_members) (item (typed (codes "AUTHVALUE")) no_items))) (at_member root (codes "policy")) (record { notes = []; left = 2 })
    ≡ ((kinds.Missing, at_member (place 1) (codes "type")) ∷ (kinds.TooMany, place 2) ∷ [], record { notes = []; left = 0 })
unfolding element_faults element_count typed one place counted element_by element_type_in type_in find_word element_of_type leaf_element noted
third_of_two = refl

-- {"branches":[{"policy":[{},{}]},{"policy":[{}]}],"type":"OR"}: four elements
four : element_count 16 (two (codes "branches") (array (item (one (codes "policy") (array (item (object no_members) (item (object no_members) no_items)))) (item (one (codes "policy") (array (item (object no_members) no_items))) no_items))) (codes "type") (string (codes "OR"))) ≡ 4
unfolding element_count one two element_type_in type_in find_word
four = refl

-- {"type":"OR"} where no OR may come: its type is read, its branches are not
too_deep : element_at 0 (typed (codes "OR")) (place 0) start ≡ Err (kinds.TooDeep, place 0)
unfolding typed one element_by element_type_in type_in find_word element_of_type or_at
too_deep = refl

-- {"policy":[{"type":"AUTHVALUE"}],"policyAuthorizations":[{"type":"PEM"},{"keyPEM":0}]}
two_keys : policy_faults (two (codes "policy") (array (item (typed (codes "AUTHVALUE")) no_items)) (codes "policyAuthorizations") (array (item (typed (codes "PEM")) (item (one (codes "keyPEM") (number (unsigned 0))) no_items))))
    ≡ (kinds.AsymmetricKey, at_member (at_item (at_member root (codes "policyAuthorizations")) 0) (codes "type")) ∷ (kinds.AsymmetricKey, at_member (at_item (at_member root (codes "policyAuthorizations")) 1) (codes "keyPEM")) ∷ []
unfolding policy_faults member_faults two typed one description_member element_faults element_count counted element_by element_type_in type_in find_word element_of_type leaf_element noted approval_faults counted_approval approval_in approval_type_in without_pem
two_keys = refl

-- ---- a member that a row reads is one of its members: a document of such members has no note

abbrev SaysOnly : Data → Element → Type 0
SaysOnly d element = ◌≡◌ {A = Found (Policy × List Place)} (policy_of (only d)) (Ok (record { description = []; elements = More' nowhere element nowhere End; approvals = [] }, []))

nv : SaysOnly (object (member (codes "nvPath") (string (codes "a")) (member (codes "offset") (number (unsigned 1)) (member (codes "operandB") (array (item (number (unsigned 128)) no_items)) (member (codes "operation") (string (codes "NEQ")) (member (codes "type") (string (codes "NV")) no_members)))))) (Nv (index.Path (codes "a")) (128 ∷ []) 1 Neq)
unfolding policy_of document_in only one description_member policy_member elements_in elements_from counted element_by element_type_in type_in find_word element_of_type leaf_element noted approvals_member nv_row index_in index_at operand_in offset_in operation_member_in bytes_from
nv = refl

secret : SaysOnly (object (member (codes "expiration") (number (unsigned 1)) (member (codes "objectPath") (string (codes "a")) (member (codes "policyRef") (array (item (number (unsigned 128)) no_items)) (member (codes "type") (string (codes "SECRET")) no_members))))) (Secret (entity.Path (codes "a")) (128 ∷ []) None (pos 1))
unfolding policy_of document_in only one description_member policy_member elements_in elements_from counted element_by element_type_in type_in find_word element_of_type leaf_element noted approvals_member secret_row entity_in entity_at policy_ref_in cp_hash_in expiration_in bytes_from
secret = refl

signed : SaysOnly (object (member (codes "expiration") (number (unsigned 1)) (member (codes "keyPath") (string (codes "a")) (member (codes "policyRef") (array (item (number (unsigned 128)) no_items)) (member (codes "type") (string (codes "SIGNED")) no_members))))) (Signed (key.Path (codes "a")) (128 ∷ []) None (pos 1))
unfolding policy_of document_in only one description_member policy_member elements_in elements_from counted element_by element_type_in type_in find_word element_of_type leaf_element noted approvals_member signed_row without_pem key_in key_at policy_ref_in cp_hash_in expiration_in bytes_from
signed = refl

authorize : SaysOnly (object (member (codes "approvedPolicy") null (member (codes "keyPath") (string (codes "a")) (member (codes "policyRef") (array (item (number (unsigned 128)) no_items)) (member (codes "type") (string (codes "AUTHORIZE")) no_members))))) (Authorize (key.Path (codes "a")) (128 ∷ []))
unfolding policy_of document_in only one description_member policy_member elements_in elements_from counted element_by element_type_in type_in find_word element_of_type leaf_element noted approvals_member authorize_row without_pem key_in key_at policy_ref_in bytes_from
authorize = refl

authorize_nv : SaysOnly (object (member (codes "nvPath") (string (codes "a")) (member (codes "type") (string (codes "AUTHORIZENV")) no_members))) (AuthorizeNv (index.Path (codes "a")))
unfolding policy_of document_in only one description_member policy_member elements_in elements_from counted element_by element_type_in type_in find_word element_of_type leaf_element noted approvals_member authorize_nv_row index_in index_at
authorize_nv = refl

locality : SaysOnly (object (member (codes "locality") (number (unsigned 5)) (member (codes "type") (string (codes "LOCALITY")) no_members))) (Locality 5)
unfolding policy_of document_in only one description_member policy_member elements_in elements_from counted element_by element_type_in type_in find_word element_of_type leaf_element noted approvals_member locality_row locality_member
locality = refl

name_hash : SaysOnly (object (member (codes "namePaths") (array (item (string (codes "a")) no_items)) (member (codes "type") (string (codes "NAMEHASH")) no_members))) (NameHash (names.Paths (codes "a" ∷ [])))
unfolding policy_of document_in only one description_member policy_member elements_in elements_from counted element_by element_type_in type_in find_word element_of_type leaf_element noted approvals_member name_hash_row names_in names_at
name_hash = refl

counter_timer : SaysOnly (object (member (codes "offset") (number (unsigned 1)) (member (codes "operandB") (array (item (number (unsigned 128)) no_items)) (member (codes "operation") (string (codes "NEQ")) (member (codes "type") (string (codes "COUNTERTIMER")) no_members))))) (CounterTimer (128 ∷ []) 1 Neq)
unfolding policy_of document_in only one description_member policy_member elements_in elements_from counted element_by element_type_in type_in find_word element_of_type leaf_element noted approvals_member counter_timer_row operand_in offset_in operation_member_in bytes_from
counter_timer = refl

duplication : SaysOnly (object (member (codes "includeObject") (boolean true) (member (codes "newParentPath") (string (codes "a")) (member (codes "objectName") (array (item (number (unsigned 64)) (item (number (unsigned 0)) (item (number (unsigned 0)) (item (number (unsigned 1)) no_items))))) (member (codes "type") (string (codes "DUPLICATIONSELECT")) no_members))))) (Duplication (Handle 0x40000001) (parent.Path (codes "a")) true)
unfolding policy_of document_in only one description_member policy_member elements_in elements_from counted element_by element_type_in type_in find_word element_of_type leaf_element noted approvals_member duplication_row parent_in parent_at include_member included_object object_member bytes_from
duplication = refl

nv_written : SaysOnly (object (member (codes "type") (string (codes "NVWRITTEN")) (member (codes "writtenSet") (boolean false) no_members))) (NvWritten false)
unfolding policy_of document_in only one description_member policy_member elements_in elements_from counted element_by element_type_in type_in find_word element_of_type leaf_element noted approvals_member nv_written_row written_member
nv_written = refl

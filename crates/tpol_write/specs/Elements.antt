-- How canonical text writes the elements of a policy: the type in upper case with `POLICY`, and each member of
-- the type's row.
use Rattle.std.specs.Prelude.{ℕ, ℤ, List, [], ◌∷◌, codes, Option}
use Rattle.serde_json.specs.Data.{Data, boolean, string}
use Rattle.tpol_base.specs.declared.compare.Compare.{Compare}
use Rattle.tpol_base.specs.declared.digest.Digest32.{Digest32}
use Rattle.tpol_tree.specs.declared.policy.Branches.{Branches}
use Rattle.tpol_tree.specs.declared.policy.Branches.TheVariants.{End as no_branches, More' as one_branch}
use Rattle.tpol_tree.specs.declared.policy.Element.{Element}
use Rattle.tpol_tree.specs.declared.policy.Element.TheVariants.{Or, Pcr, Nv, Secret, Signed, Authorize, AuthorizeNv, Locality, CommandCode, CpHash, NameHash, CounterTimer, Duplication, NvWritten, AuthValue, Password, PhysicalPresence}
use Rattle.tpol_tree.specs.declared.policy.Elements.{Elements}
use Rattle.tpol_tree.specs.declared.policy.Elements.TheVariants.{End as no_elements, More' as one_element}
use Rattle.tpol_base.specs.Compare.{name_of_compare}
use Rattle.tpol_write.specs.Names.{code_text}
use Rattle.tpol_write.specs.Objects.{Entry, object_of, hex_text, natural, integer, list_of}
use Rattle.tpol_write.specs.Wishes.{name_value, key_member, index_member, entity_member, parent_member, names_member, pcrs_member, cp_hash_members}

-- an element of this type with these members
abbrev pub typed : List ℕ → List Entry → Data
typed name entries = object_of ((codes "type", string name) ∷ entries)

abbrev pub comparison_members : List ℕ → ℕ → Compare → List Entry
comparison_members operand offset operation =
    (codes "operandB", hex_text operand) ∷ (codes "offset", natural offset)
    ∷ (codes "operation", string (name_of_compare operation)) ∷ []

abbrev pub signing_members : List ℕ → Option Digest32 → ℤ → List Entry
signing_members policy_ref cp_hash expiration =
    (codes "policyRef", hex_text policy_ref) ∷ (codes "expiration", integer expiration) ∷ cp_hash_members cp_hash

-- a branch with the values of its elements
abbrev pub branch_value : List ℕ → List ℕ → List Data → Data
branch_value name description policy = object_of (
    (codes "name", string name) ∷ (codes "description", string description) ∷ (codes "policy", list_of policy) ∷ [])

abbrev mutual
  pub elements_values : Elements → List Data
  elements_values no_elements = []
  elements_values (one_element p element q rest) = element_value element ∷ elements_values rest

  pub element_value : Element → Data
  element_value (Or branches) = typed (codes "POLICYOR") ((codes "branches", list_of (branches_values branches)) ∷ [])
  element_value (Pcr pcrs) = typed (codes "POLICYPCR") (pcrs_member pcrs ∷ [])
  element_value (Nv index operand offset operation) =
      typed (codes "POLICYNV") (index_member index ∷ comparison_members operand offset operation)
  element_value (Secret entity policy_ref cp_hash expiration) =
      typed (codes "POLICYSECRET") (entity_member entity ∷ signing_members policy_ref cp_hash expiration)
  element_value (Signed key policy_ref cp_hash expiration) =
      typed (codes "POLICYSIGNED") (key_member key ∷ signing_members policy_ref cp_hash expiration)
  element_value (Authorize key policy_ref) =
      typed (codes "POLICYAUTHORIZE") (key_member key ∷ (codes "policyRef", hex_text policy_ref) ∷ [])
  element_value (AuthorizeNv index) = typed (codes "POLICYAUTHORIZENV") (index_member index ∷ [])
  element_value (Locality localities) = typed (codes "POLICYLOCALITY") ((codes "locality", natural localities) ∷ [])
  element_value (CommandCode code) = typed (codes "POLICYCOMMANDCODE") ((codes "code", string (code_text code)) ∷ [])
  element_value (CpHash digest) = typed (codes "POLICYCPHASH") ((codes "cpHash", hex_text digest.bytes) ∷ [])
  element_value (NameHash names) = typed (codes "POLICYNAMEHASH") (names_member names ∷ [])
  element_value (CounterTimer operand offset operation) =
      typed (codes "POLICYCOUNTERTIMER") (comparison_members operand offset operation)
  element_value (Duplication object parent include) = typed (codes "POLICYDUPLICATIONSELECT") (
      parent_member parent ∷ (codes "includeObject", boolean include) ∷ (codes "objectName", name_value object) ∷ [])
  element_value (NvWritten written) = typed (codes "POLICYNVWRITTEN") ((codes "writtenSet", boolean written) ∷ [])
  element_value AuthValue = typed (codes "POLICYAUTHVALUE") []
  element_value Password = typed (codes "POLICYPASSWORD") []
  element_value PhysicalPresence = typed (codes "POLICYPHYSICALPRESENCE") []

  pub branches_values : Branches → List Data
  branches_values no_branches = []
  branches_values (one_branch p name description elements q rest) =
      branch_value name description (elements_values elements) ∷ branches_values rest

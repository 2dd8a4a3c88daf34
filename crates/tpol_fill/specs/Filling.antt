-- What a policy is with every wish given, and each place that has no value.
use Rattle.std.specs.Prelude.{◌≡◌, ⊤, ℕ, ◌+◌, Bool, true, false, List, [], ◌∷◌, ◌++◌, Option, Some, None, Result, Ok, Err, codes, map, slice_get, if◌then◌else◌}
use Rattle.std.specs.List.{flat_map}
use Rattle.std.specs.Result.{result_unwrap_or}
use Rattle.tpol_base.specs.declared.digest.Digest32.{Digest32}
use Rattle.tpol_base.specs.declared.name.Name.{Name}
use Rattle.tpol_base.specs.Handle.{is_pcr}
use Rattle.tpol_base.specs.Name.{name_bytes}
use Rattle.tpol_base.specs.Pcr.{mask_of_pcrs, pcrs_of_mask}
use Rattle.tpol_digest.specs.Digest.{zero_digest}
use Rattle.tpol_digest.specs.Update.{joined}
use Rattle.tpol_fill.specs.declared.fault.FillKind.{FillKind}
use Rattle.tpol_fill.specs.declared.fault.FillKind.TheVariants.{NoSuchPcr, VoidPrefix}
use Rattle.tpol_hash.specs.Sha256.{sha256_digest}
use Rattle.tpol_json.specs.declared.place.Place.{Place}
use Rattle.tpol_json.specs.Places.{root, at_item, at_member}
use Rattle.tpol_name.specs.declared.sight.Sight.{Sight}
use Rattle.tpol_tree.specs.declared.closed.Assertion.{Assertion}
use Rattle.tpol_tree.specs.declared.closed.Assertion.TheVariants as closed
use Rattle.tpol_tree.specs.declared.closed.Closed.{Closed}
use Rattle.tpol_tree.specs.declared.closed.ClosedBranches.{ClosedBranches}
use Rattle.tpol_tree.specs.declared.closed.ClosedElement.{ClosedElement}
use Rattle.tpol_tree.specs.declared.closed.ClosedElement.TheVariants.{Assert, Or as ClosedOr, Authorize as ClosedAuthorize, AuthorizeNv as ClosedAuthorizeNv}
use Rattle.tpol_tree.specs.declared.closed.ClosedElements.{ClosedElements}
use Rattle.tpol_tree.specs.declared.closed.ClosedElements.TheVariants.{More' as MoreClosed', End as EndClosed}
use Rattle.tpol_tree.specs.declared.policy.Branches.{Branches}
use Rattle.tpol_tree.specs.declared.policy.Branches.TheVariants.{More' as MoreBranches', End as EndBranches}
use Rattle.tpol_tree.specs.declared.policy.Element.{Element}
use Rattle.tpol_tree.specs.declared.policy.Element.TheVariants.{Or, Pcr, Nv, Secret, Signed, Authorize, AuthorizeNv, Locality, CommandCode, CpHash, NameHash, CounterTimer, Duplication, NvWritten, AuthValue, Password, PhysicalPresence}
use Rattle.tpol_tree.specs.declared.policy.Elements.{Elements}
use Rattle.tpol_tree.specs.declared.policy.Elements.TheVariants.{More', End}
use Rattle.tpol_tree.specs.declared.policy.Policy.{Policy}
use Rattle.tpol_tree.specs.declared.wishes.IndexWish.{IndexWish}
use Rattle.tpol_tree.specs.declared.wishes.IndexWish.TheVariants.{Path as IndexPath, Public as IndexPublic}
use Rattle.tpol_tree.specs.declared.wishes.KeyWish.{KeyWish}
use Rattle.tpol_tree.specs.declared.wishes.KeyWish.TheVariants.{Path as KeyPath, Public as KeyPublic}
use Rattle.tpol_tree.specs.declared.wishes.NamesWish.{NamesWish}
use Rattle.tpol_tree.specs.declared.wishes.NamesWish.TheVariants.{Digest, Names, Paths}
use Rattle.tpol_tree.specs.declared.wishes.PcrWish.{PcrWish}
use Rattle.tpol_tree.specs.declared.wishes.PcrWish.TheVariants.{Values, Current}
use Rattle.tpol_fill.specs.Entities.{entity_name, key_name, name_of_index_wish, or_empty, parent_name, path_name}
use Rattle.tpol_tree.specs.ClosedErased.{erased_element, erased_elements}
use Rattle.tpol_tree.specs.Erased.{nowhere}
use Rattle.tpol_fill.specs.Groups.{NamedBranch, branches_in, branches_of, grouped}
use Rattle.tpol_fill.specs.declared.fault.FillFault.{FillFault}
use Rattle.tpol_fill.specs.Outcome.{Fault, Fills, each_fault, faults_of, first_of}

-- ---- PCRs

-- the values of the PCRs that are there
abbrev pub pcr_values_of : Option Sight → List Digest32
pcr_values_of None = []
pcr_values_of (Some sight) = sight.pcrs

abbrev pub found_value : Option Digest32 → Result Digest32 FillKind
found_value None = Err NoSuchPcr
found_value (Some value) = Ok value

-- the current value of a PCR, of which there are 24
abbrev pub current_value : Option Sight → ℕ → Result Digest32 FillKind
current_value sight pcr =
    if is_pcr pcr then found_value (slice_get (pcr_values_of sight) pcr) else Err NoSuchPcr

abbrev pub or_zero : Result Digest32 FillKind → Digest32
or_zero value = result_unwrap_or value zero_digest

-- the assertion of these PCRs with these values
abbrev pub pcr_assertion : ℕ → List Digest32 → Assertion
pcr_assertion mask values = closed.Pcr mask (sha256_digest (joined values)) values

-- the assertion of PCRs with the values as written, or the current ones
abbrev pub filled_pcrs : PcrWish → Option Sight → Assertion
filled_pcrs (Values values) sight = pcr_assertion (mask_of_pcrs (map (λ v. v.0) values)) (map (λ v. v.1) values)
filled_pcrs (Current mask) sight = pcr_assertion mask (map (λ pcr. or_zero (current_value sight pcr)) (pcrs_of_mask mask))

-- a written value has to be that of one of 24 PCRs
abbrev pub value_faults : Place → ℕ → ℕ × Digest32 → List Fault
value_faults list n value =
    if is_pcr value.0 then [] else (NoSuchPcr, at_member (at_item list n) (codes "pcr")) ∷ []

abbrev pub current_faults : Option Sight → Place → ℕ → ℕ → List Fault
current_faults sight list n pcr = faults_of (current_value sight pcr) (at_item list n)

abbrev pub pcr_faults : Option Sight → Place → PcrWish → List Fault
pcr_faults sight place (Values values) = each_fault (value_faults (at_member place (codes "pcrs"))) 0 values
pcr_faults sight place (Current mask) =
    each_fault (current_faults sight (at_member place (codes "currentPCRs"))) 0 (pcrs_of_mask mask)

-- ---- Names

-- the digest of Names joined
abbrev pub names_digest : List Name → Digest32
names_digest names = sha256_digest (flat_map name_bytes names)

abbrev pub filled_names : NamesWish → Option Sight → Digest32
filled_names (Digest digest) sight = digest
filled_names (Names names) sight = names_digest names
filled_names (Paths paths) sight = names_digest (map (λ path. or_empty (path_name path sight)) paths)

abbrev pub path_faults : Option Sight → Place → ℕ → List ℕ → List Fault
path_faults sight list n path = faults_of (path_name path sight) (at_item list n)

abbrev pub names_faults : Option Sight → Place → NamesWish → List Fault
names_faults sight place (Digest digest) = []
names_faults sight place (Names names) = []
names_faults sight place (Paths paths) = each_fault (path_faults sight (at_member place (codes "namePaths"))) 0 paths

-- the members that wishes are written as
abbrev pub key_member : KeyWish → List ℕ
key_member (KeyPath path) = codes "keyPath"
key_member (KeyPublic text) = codes "keyPublic"

abbrev pub index_member : IndexWish → List ℕ
index_member (IndexPath path) = codes "nvPath"
index_member (IndexPublic text) = codes "nvPublic"

abbrev pub key_faults : Option Sight → Place → KeyWish → List Fault
key_faults sight place wish = faults_of (key_name wish sight) (at_member place (key_member wish))

abbrev pub index_faults : Option Sight → Place → IndexWish → List Fault
index_faults sight place wish = faults_of (name_of_index_wish wish sight) (at_member place (index_member wish))

-- ---- policies

-- the same policy with every wish given, and each OR of more than eight branches as an OR of groups; what
-- has no value is empty or zero
abbrev mutual
  pub filled_elements : Option Sight → Elements → ClosedElements
  filled_elements sight End = EndClosed
  filled_elements sight (More' p element q rest) =
      MoreClosed' nowhere (filled_element sight element) nowhere (filled_elements sight rest)

  pub filled_element : Option Sight → Element → ClosedElement
  filled_element sight (Or branches) = ClosedOr (branches_of (grouped (filled_branches sight branches)))
  filled_element sight (Authorize key policy_ref) = ClosedAuthorize (or_empty (key_name key sight)) policy_ref
  filled_element sight (AuthorizeNv index) = ClosedAuthorizeNv (or_empty (name_of_index_wish index sight))
  filled_element sight (Pcr wish) = Assert (filled_pcrs wish sight)
  filled_element sight (Nv index operand offset operation) =
      Assert (closed.Nv (or_empty (name_of_index_wish index sight)) operand offset operation)
  filled_element sight (Secret entity policy_ref cp_hash expiration) =
      Assert (closed.Secret (or_empty (entity_name entity sight)) policy_ref cp_hash expiration)
  filled_element sight (Signed key policy_ref cp_hash expiration) =
      Assert (closed.Signed (or_empty (key_name key sight)) policy_ref cp_hash expiration)
  filled_element sight (Locality locality) = Assert (closed.Locality locality)
  filled_element sight (CommandCode code) = Assert (closed.CommandCode code)
  filled_element sight (CpHash digest) = Assert (closed.CpHash digest)
  filled_element sight (NameHash wish) = Assert (closed.NameHash (filled_names wish sight))
  filled_element sight (CounterTimer operand offset operation) =
      Assert (closed.CounterTimer operand offset operation)
  filled_element sight (Duplication object parent include) =
      Assert (closed.Duplication object (or_empty (parent_name parent sight)) include)
  filled_element sight (NvWritten written) = Assert (closed.NvWritten written)
  filled_element sight AuthValue = Assert closed.AuthValue
  filled_element sight Password = Assert closed.Password
  filled_element sight PhysicalPresence = Assert closed.PhysicalPresence

  pub filled_branches : Option Sight → Branches → List NamedBranch
  filled_branches sight EndBranches = []
  filled_branches sight (MoreBranches' p name description elements q rest) =
      (name, filled_elements sight elements) ∷ filled_branches sight rest

abbrev pub filled : Policy → Option Sight → Closed
filled policy sight = record { elements = filled_elements sight policy.elements }

-- an approval has no element before it in its list, nor before an OR that encloses it
abbrev pub void_prefix : Bool → Place → List Fault
void_prefix true place = []
void_prefix false place = (VoidPrefix, place) ∷ []

-- each place that has no value, in the order of the document: of a list of elements that stands at a place,
-- from the item n on. `leads` says whether no element stands before these, in the list or before an OR
-- that encloses it.
abbrev mutual
  pub elements_faults : Option Sight → Bool → Place → ℕ → Elements → List Fault
  elements_faults sight leads list n End = []
  elements_faults sight leads list n (More' p element q rest) =
      element_faults sight leads (at_item list n) element ++ elements_faults sight false list (n + 1) rest

  pub element_faults : Option Sight → Bool → Place → Element → List Fault
  element_faults sight leads place (Or branches) = branches_faults sight leads (at_member place (codes "branches")) 0 branches
  element_faults sight leads place (Authorize key policy_ref) = void_prefix leads place ++ key_faults sight place key
  element_faults sight leads place (AuthorizeNv index) = void_prefix leads place ++ index_faults sight place index
  element_faults sight leads place (Pcr wish) = pcr_faults sight place wish
  element_faults sight leads place (Nv index operand offset operation) = index_faults sight place index
  element_faults sight leads place (Secret entity policy_ref cp_hash expiration) =
      faults_of (entity_name entity sight) (at_member place (codes "objectPath"))
  element_faults sight leads place (Signed key policy_ref cp_hash expiration) = key_faults sight place key
  element_faults sight leads place (Locality locality) = []
  element_faults sight leads place (CommandCode code) = []
  element_faults sight leads place (CpHash digest) = []
  element_faults sight leads place (NameHash wish) = names_faults sight place wish
  element_faults sight leads place (CounterTimer operand offset operation) = []
  element_faults sight leads place (Duplication object parent include) =
      faults_of (parent_name parent sight) (at_member place (codes "newParentPath"))
  element_faults sight leads place (NvWritten written) = []
  element_faults sight leads place AuthValue = []
  element_faults sight leads place Password = []
  element_faults sight leads place PhysicalPresence = []

  pub branches_faults : Option Sight → Bool → Place → ℕ → Branches → List Fault
  branches_faults sight leads list n EndBranches = []
  branches_faults sight leads list n (MoreBranches' p name description elements q rest) =
      elements_faults sight leads (at_member (at_item list n) (codes "policy")) 0 elements
      ++ branches_faults sight leads list (n + 1) rest

-- an element that has no wish
abbrev pub IsWritten : Element → Type 0
IsWritten (Locality locality) = ⊤
IsWritten (CommandCode code) = ⊤
IsWritten (CpHash digest) = ⊤
IsWritten (CounterTimer operand offset operation) = ⊤
IsWritten (NvWritten written) = ⊤
IsWritten AuthValue = ⊤
IsWritten Password = ⊤
IsWritten PhysicalPresence = ⊤
IsWritten _ = ⊥

-- an element whose wish is the entity that it is about
abbrev pub NamesEntity : Element → Type 0
NamesEntity (Nv index operand offset operation) = ⊤
NamesEntity (Secret entity policy_ref cp_hash expiration) = ⊤
NamesEntity (Signed key policy_ref cp_hash expiration) = ⊤
NamesEntity _ = ⊥

-- the faults of a policy
abbrev pub fill_faults : Policy → Option Sight → List Fault
fill_faults policy sight = elements_faults sight true (at_member root (codes "policy")) 0 policy.elements

-- the first of them
abbrev pub first_fault : Policy → Option Sight → Option Fault
first_fault policy sight = first_of (fill_faults policy sight)

-- what a call that fills an element, elements or branches answers
abbrev pub FillsElement : Option Sight → Bool → Place → Element → Result ClosedElement FillFault → Type 0
FillsElement sight leads place element =
    Fills (element_faults sight leads place element)
    (λ closed. erased_element closed ≡ filled_element sight element)

abbrev pub FillsElements : Option Sight → Bool → Place → ℕ → Elements → Result ClosedElements FillFault → Type 0
FillsElements sight leads list n elements =
    Fills (elements_faults sight leads list n elements)
    (λ closed. erased_elements closed ≡ filled_elements sight elements)

abbrev pub FillsBranches : Option Sight → Bool → Place → ℕ → Branches → Result ClosedBranches FillFault → Type 0
FillsBranches sight leads list n branches =
    Fills (branches_faults sight leads list n branches)
    (λ closed. branches_in closed ≡ filled_branches sight branches)

-- A policy whichever memory it lies in: the same with boxes that lie nowhere.
use Rattle.std.specs.Prelude.{Box}
use Rattle.std.specs.Ptr.{null_ptr}
use Rattle.std.specs.declared.alloc.Global.{Global}
use Rattle.tpol_tree.specs.declared.policy.Branch.{Branch}
use Rattle.tpol_tree.specs.declared.policy.Branches.{Branches}
use Rattle.tpol_tree.specs.declared.policy.Branches.TheVariants.{More' as MoreBranches', End as EndBranches}
use Rattle.tpol_tree.specs.declared.policy.Element.{Element}
use Rattle.tpol_tree.specs.declared.policy.Element.TheVariants.{Or, Pcr, Nv, Secret, Signed, Authorize, AuthorizeNv, Locality, CommandCode, CpHash, NameHash, CounterTimer, Duplication, NvWritten, AuthValue, Password, PhysicalPresence}
use Rattle.tpol_tree.specs.declared.policy.Elements.{Elements}
use Rattle.tpol_tree.specs.declared.policy.Elements.TheVariants.{More', End}
use Rattle.tpol_tree.specs.declared.policy.Policy.{Policy}

-- a box that lies nowhere
abbrev pub nowhere : Box (Unit {0}) Global
nowhere = record { ptr = null_ptr; alloc = record { memory = record { seal = tt } }; value = tt }

abbrev mutual
  pub erased_elements : Elements → Elements
  erased_elements End = End
  erased_elements (More' p element q rest) = More' nowhere (erased_element element) nowhere (erased_elements rest)

  pub erased_element : Element → Element
  erased_element (Or branches) = Or (erased_branches branches)
  erased_element (Pcr wish) = Pcr wish
  erased_element (Nv index operand offset operation) = Nv index operand offset operation
  erased_element (Secret entity policy_ref cp_hash expiration) = Secret entity policy_ref cp_hash expiration
  erased_element (Signed key policy_ref cp_hash expiration) = Signed key policy_ref cp_hash expiration
  erased_element (Authorize key policy_ref) = Authorize key policy_ref
  erased_element (AuthorizeNv index) = AuthorizeNv index
  erased_element (Locality localities) = Locality localities
  erased_element (CommandCode code) = CommandCode code
  erased_element (CpHash digest) = CpHash digest
  erased_element (NameHash wish) = NameHash wish
  erased_element (CounterTimer operand offset operation) = CounterTimer operand offset operation
  erased_element (Duplication object parent include) = Duplication object parent include
  erased_element (NvWritten written) = NvWritten written
  erased_element AuthValue = AuthValue
  erased_element Password = Password
  erased_element PhysicalPresence = PhysicalPresence

  pub erased_branches : Branches → Branches
  erased_branches EndBranches = EndBranches
  erased_branches (MoreBranches' p name description elements q rest) =
      MoreBranches' nowhere name description (erased_elements elements) nowhere (erased_branches rest)

-- a branch and a policy without the places of their boxes
abbrev pub erased_branch : Branch → Branch
erased_branch branch = record branch { elements = erased_elements branch.elements }

abbrev pub erased_policy : Policy → Policy
erased_policy policy = record policy { elements = erased_elements policy.elements }

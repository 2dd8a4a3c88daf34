-- A policy in which hierarchies are named by their handles.
use Rattle.std.specs.Prelude.{ℕ, List, Option, Some, None}
use Rattle.tpol_base.specs.declared.name.Name.TheVariants.{Handle}
use Rattle.tpol_name.specs.Entities.{hierarchy_at}
use Rattle.tpol_tree.specs.declared.policy.Branches.{Branches}
use Rattle.tpol_tree.specs.declared.policy.Branches.TheVariants.{End as no_branches, More' as one_branch}
use Rattle.tpol_tree.specs.declared.policy.Element.{Element}
use Rattle.tpol_tree.specs.declared.policy.Element.TheVariants.{Or, Secret}
use Rattle.tpol_tree.specs.declared.policy.Elements.{Elements}
use Rattle.tpol_tree.specs.declared.policy.Elements.TheVariants.{End as no_elements, More' as one_element}
use Rattle.tpol_tree.specs.declared.policy.Policy.{Policy}
use Rattle.tpol_tree.specs.declared.wishes.EntityWish.{EntityWish}
use Rattle.tpol_tree.specs.declared.wishes.EntityWish.TheVariants.{Path, Named}

abbrev pub by_handle : Option ℕ → List ℕ → EntityWish
by_handle None path = Path path
by_handle (Some handle) path = Named (Handle handle)

-- the entity of a SECRET, where a path of a hierarchy is its handle
abbrev pub named_entity : EntityWish → EntityWish
named_entity (Path path) = by_handle (hierarchy_at path) path
named_entity (Named name) = Named name

abbrev mutual
  pub named_elements : Elements → Elements
  named_elements no_elements = no_elements
  named_elements (one_element p element q rest) = one_element p (named_element element) q (named_elements rest)

  pub named_element : Element → Element
  named_element (Or branches) = Or (named_branches branches)
  named_element (Secret entity policy_ref cp_hash expiration) = Secret (named_entity entity) policy_ref cp_hash expiration
  named_element element = element

  pub named_branches : Branches → Branches
  named_branches no_branches = no_branches
  named_branches (one_branch p name description elements q rest) =
      one_branch p name description (named_elements elements) q (named_branches rest)

abbrev pub named : Policy → Policy
named policy = record policy { elements = named_elements policy.elements }

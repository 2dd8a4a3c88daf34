-- How many ORs stand inside one another.
use Rattle.std.specs.Prelude.{ℕ, ◌+◌, max}
use Rattle.tpol_tree.specs.declared.policy.Branches.{Branches}
use Rattle.tpol_tree.specs.declared.policy.Branches.TheVariants.{End as no_branches, More' as one_branch}
use Rattle.tpol_tree.specs.declared.policy.Element.{Element}
use Rattle.tpol_tree.specs.declared.policy.Element.TheVariants.{Or}
use Rattle.tpol_tree.specs.declared.policy.Elements.{Elements}
use Rattle.tpol_tree.specs.declared.policy.Elements.TheVariants.{End as no_elements, More' as one_element}

abbrev mutual
  pub levels_of_elements : Elements → ℕ
  levels_of_elements no_elements = 0
  levels_of_elements (one_element p element q rest) = max (levels_of_element element) (levels_of_elements rest)

  pub levels_of_element : Element → ℕ
  levels_of_element (Or branches) = levels_of_branches branches + 1
  levels_of_element _ = 0

  pub levels_of_branches : Branches → ℕ
  levels_of_branches no_branches = 0
  levels_of_branches (one_branch p name description elements q rest) = max (levels_of_elements elements) (levels_of_branches rest)

-- Canonical values and levels do not depend on where a policy's boxes lie.
use Rattle.std.proofs.Common.{◌≡◌, max, ◌+◌, [], ◌∷◌, codes, refl, ap, ap₂}
use Rattle.serde_json.specs.Data.{string}
use Rattle.serde_json.specs.Written.{compact_text}
use Rattle.tpol_tree.specs.Erased.{erased_element, erased_elements, erased_branches, erased_policy}
use Rattle.tpol_tree.specs.declared.policy.Branches.{Branches}
use Rattle.tpol_tree.specs.declared.policy.Branches.TheVariants.{End as no_branches, More' as one_branch}
use Rattle.tpol_tree.specs.declared.policy.Element.{Element}
use Rattle.tpol_tree.specs.declared.policy.Element.TheVariants.{Or}
use Rattle.tpol_tree.specs.declared.policy.Elements.{Elements}
use Rattle.tpol_tree.specs.declared.policy.Elements.TheVariants.{End as no_elements, More' as one_element}
use Rattle.tpol_tree.specs.declared.policy.Policy.{Policy}
use Rattle.tpol_write.specs.Approvals.{approvals_members}
use Rattle.tpol_write.specs.Canonical.{canonical_text, policy_value}
use Rattle.tpol_write.specs.Elements.{element_value, elements_values, branches_values, branch_value, typed}
use Rattle.tpol_write.specs.Levels.{levels_of_elements, levels_of_element, levels_of_branches}
use Rattle.tpol_write.specs.Objects.{list_of, object_of}

-- what holds of an element as it is once its boxes are left out: its value and its levels are the same
abbrev SameElement : Element → Type 0
SameElement e = (element_value (erased_element e) ≡ element_value e) × (levels_of_element (erased_element e) ≡ levels_of_element e)

abbrev pub SameElements : Elements → Type 0
SameElements es = (elements_values (erased_elements es) ≡ elements_values es) × (levels_of_elements (erased_elements es) ≡ levels_of_elements es)

abbrev SameBranches : Branches → Type 0
SameBranches bs = (branches_values (erased_branches bs) ≡ branches_values bs) × (levels_of_branches (erased_branches bs) ≡ levels_of_branches bs)

mutual
  pub same_elements : (es : Elements) → SameElements es
  same_elements no_elements = (refl, refl)
  same_elements (one_element p e q rest) =
      let first = same_element e in
      let others = same_elements rest in
      (ap₂ (λ d ds. d ∷ ds) first.0 others.0, ap₂ max first.1 others.1)

  same_element : (e : Element) → SameElement e
  same_element (Or bs) =
      let same = same_branches bs in
      (ap (λ ds. typed (codes "POLICYOR") ((codes "branches", list_of ds) ∷ [])) same.0, ap (λ n. n + 1) same.1)
  same_element e = (refl, refl)

  same_branches : (bs : Branches) → SameBranches bs
  same_branches no_branches = (refl, refl)
  same_branches (one_branch p name description es q rest) =
      let first = same_elements es in
      let others = same_branches rest in
      (ap₂ (λ ds more. branch_value name description ds ∷ more) first.0 others.0, ap₂ max first.1 others.1)

pub same_policy : (policy : Policy) → policy_value (erased_policy policy) ≡ policy_value policy
unfolding policy_value
same_policy policy =
    ap (λ ds. object_of ((codes "description", string policy.description) ∷ (codes "policy", list_of ds) ∷ approvals_members policy.approvals)) (same_elements policy.elements).0

-- the text
pub canonical_text_erased : (policy : Policy) → canonical_text (erased_policy policy) ≡ canonical_text policy
canonical_text_erased policy = ap compact_text (same_policy policy)

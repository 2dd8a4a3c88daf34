-- What is filled without faults can be walked through, as it stands in the definition.
use Rattle.std.proofs.Common.{◌≡◌, ◌≤◌, ◌∙◌, ap, refl, subst, codes, length, List, [], ◌∷◌, Ok}
use Rattle.std.specs.Prelude.{ℕ, Option}
use Rattle.tpol_fill.proofs.BoundLemmas.{bounded-filled}
use Rattle.tpol_fill.proofs.GroupLemmas.{AllBranches, each_grouped}
use Rattle.tpol_fill.proofs.WellFormedLemmas.{form-filled}
use Rattle.tpol_fill.specs.Filling.{fill_faults, filled, filled_branches, filled_element, filled_elements}
use Rattle.tpol_fill.specs.Groups.{NamedBranch, branches_of, grouped, or_of}
use Rattle.tpol_fill.specs.Outcome.{Fault}
use Rattle.tpol_json.specs.Places.{at_member, root}
use Rattle.tpol_name.specs.declared.sight.Sight.{Sight}
use Rattle.tpol_prepare.proofs.Stored.{IsReadablePolicy}
use Rattle.tpol_steps.specs.Filled.{IsReady, filled_step, unless_fault}
use Rattle.tpol_tree.specs.ClosedErased.{erased_branches, erased_element, erased_elements}
use Rattle.tpol_tree.specs.Erased.{nowhere}
use Rattle.tpol_tree.specs.declared.closed.Closed.{Closed}
use Rattle.tpol_tree.specs.declared.closed.ClosedBranches.{ClosedBranches}
use Rattle.tpol_tree.specs.declared.closed.ClosedBranches.TheVariants.{More' as MoreClosedBranches'}
use Rattle.tpol_tree.specs.declared.closed.ClosedElement.{ClosedElement}
use Rattle.tpol_tree.specs.declared.closed.ClosedElement.TheVariants.{Or as ClosedOr}
use Rattle.tpol_tree.specs.declared.closed.ClosedElements.{ClosedElements}
use Rattle.tpol_tree.specs.declared.closed.ClosedElements.TheVariants.{More' as MoreClosed', End as EndClosed}
use Rattle.tpol_tree.specs.declared.policy.Branches.{Branches}
use Rattle.tpol_tree.specs.declared.policy.Branches.TheVariants.{More' as MoreBranches', End as EndBranches}
use Rattle.tpol_tree.specs.declared.policy.Element.{Element}
use Rattle.tpol_tree.specs.declared.policy.Element.TheVariants.{Or}
use Rattle.tpol_tree.specs.declared.policy.Elements.{Elements}
use Rattle.tpol_tree.specs.declared.policy.Elements.TheVariants.{More', End}
use Rattle.tpol_tree.specs.declared.policy.Policy.{Policy}

-- ---- what is filled lies nowhere

abbrev LieNowhere : ClosedElements → Type 0
LieNowhere elements = erased_elements elements ≡ elements

lying-branches : (branches : List NamedBranch) → AllBranches LieNowhere branches → erased_branches (branches_of branches) ≡ branches_of branches
lying-branches [] each = refl
lying-branches (branch ∷ rest) each =
    ap (λ elements. MoreClosedBranches' nowhere branch.0 elements nowhere (erased_branches (branches_of rest))) each.0
    ∙ ap (λ others. MoreClosedBranches' nowhere branch.0 branch.1 nowhere others) (lying-branches rest each.1)

lying-or : (branches : List NamedBranch) → 2 ≤ length branches → length branches ≤ 8 → AllBranches LieNowhere branches → LieNowhere (or_of branches)
lying-or branches two eight each = ap (λ (found : ClosedBranches). MoreClosed' nowhere (ClosedOr found) nowhere EndClosed) (lying-branches branches each)

lying-groups : (branches : List NamedBranch) → AllBranches LieNowhere branches → erased_branches (branches_of (grouped branches)) ≡ branches_of (grouped branches)
lying-groups branches each = lying-branches (grouped branches) (each_grouped LieNowhere lying-or branches each)

mutual
  pub filled-elements-lie : (sight : Option Sight) (elements : Elements) → LieNowhere (filled_elements sight elements)
  filled-elements-lie sight End = refl
  filled-elements-lie sight (More' p element q rest) =
      ap (λ (first : ClosedElement). MoreClosed' nowhere first nowhere (erased_elements (filled_elements sight rest))) (filled-element-lies sight element)
      ∙ ap (λ (others : ClosedElements). MoreClosed' nowhere (filled_element sight element) nowhere others) (filled-elements-lie sight rest)

  filled-element-lies : (sight : Option Sight) (element : Element) → erased_element (filled_element sight element) ≡ filled_element sight element
  filled-element-lies sight (Or branches) = ap ClosedOr (lying-groups (filled_branches sight branches) (filled-branches-lie sight branches))
  filled-element-lies sight element = refl

  filled-branches-lie : (sight : Option Sight) (branches : Branches) → AllBranches LieNowhere (filled_branches sight branches)
  filled-branches-lie sight EndBranches = tt
  filled-branches-lie sight (MoreBranches' p name description elements q rest) = (filled-elements-lie sight elements, filled-branches-lie sight rest)

-- ---- what is filled without faults

pub filled-ready : (policy : Policy) (sight : Option Sight) → IsReadablePolicy policy → fill_faults policy sight ≡ [] → IsReady (filled policy sight)
filled-ready policy sight readable none =
    let list = at_member root (codes "policy") in
    let lies = filled-elements-lie sight policy.elements in
    record {
      form = form-filled list policy.elements sight (filled policy sight) readable.0 none lies;
      bounded = bounded-filled list policy.elements sight (filled policy sight) readable.1 none lies;
    }

unless-ready : (document : Option (List ℕ)) (policy : Policy) (sight : Option Sight) (closed : Closed) → IsReadablePolicy policy → (faults : List Fault) → fill_faults policy sight ≡ faults
    → unless_fault document faults (filled policy sight) ≡ Ok closed → IsReady closed
unless-ready document policy sight closed readable [] none gives =
    let same : filled policy sight ≡ closed = cc in subst IsReady same (filled-ready policy sight readable none)
unless-ready document policy sight closed readable (fault ∷ rest) some gives = absurd cc

-- the step that fills gives such a policy
pub step-ready : (document : Option (List ℕ)) (policy : Policy) (sight : Option Sight) (closed : Closed) → IsReadablePolicy policy → filled_step document policy sight ≡ Ok closed → IsReady closed
unfolding filled_step
step-ready document policy sight closed readable gives = unless-ready document policy sight closed readable (fill_faults policy sight) refl gives

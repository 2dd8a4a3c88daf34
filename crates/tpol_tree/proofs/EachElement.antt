-- What holds of each element of a policy as it is written.
use Rattle.tpol_tree.specs.declared.policy.Branches.{Branches}
use Rattle.tpol_tree.specs.declared.policy.Branches.TheVariants.{More' as MoreBranches', End as EndBranches}
use Rattle.tpol_tree.specs.declared.policy.Element.{Element}
use Rattle.tpol_tree.specs.declared.policy.Element.TheVariants.{Or}
use Rattle.tpol_tree.specs.declared.policy.Elements.{Elements}
use Rattle.tpol_tree.specs.declared.policy.Elements.TheVariants.{More', End}
use Rattle.tpol_tree.specs.Elements.{EachElement, EachElementWithin, EachElementOfBranches}

-- what follows from a fact of each element
mutual
  pub EachElement-map : {P Q : Element → Type 0} → ((element : Element) → P element → Q element) → (elements : Elements) → EachElement P elements → EachElement Q elements
  EachElement-map f End h = tt
  EachElement-map f (More' p element q rest) h = (EachElementWithin-map f element h.0, EachElement-map f rest h.1)

  pub EachElementWithin-map : {P Q : Element → Type 0} → ((element : Element) → P element → Q element) → (element : Element) → EachElementWithin P element → EachElementWithin Q element
  EachElementWithin-map f (Or branches) h = (f (Or branches) h.0, EachElementOfBranches-map f branches h.1)
  EachElementWithin-map f element h = f element h

  pub EachElementOfBranches-map : {P Q : Element → Type 0} → ((element : Element) → P element → Q element) → (branches : Branches) → EachElementOfBranches P branches → EachElementOfBranches Q branches
  EachElementOfBranches-map f EndBranches h = tt
  EachElementOfBranches-map f (MoreBranches' p name description elements q rest) h =
      (EachElement-map f elements h.0, EachElementOfBranches-map f rest h.1)

-- two facts of each element are one
mutual
  pub EachElement-both : (P Q : Element → Type 0) (elements : Elements) → EachElement P elements → EachElement Q elements → EachElement (λ element. P element × Q element) elements
  EachElement-both P Q End h k = tt
  EachElement-both P Q (More' p element q rest) h k = (EachElementWithin-both P Q element h.0 k.0, EachElement-both P Q rest h.1 k.1)

  pub EachElementWithin-both : (P Q : Element → Type 0) (element : Element) → EachElementWithin P element → EachElementWithin Q element → EachElementWithin (λ element. P element × Q element) element
  EachElementWithin-both P Q (Or branches) h k = ((h.0, k.0), EachElementOfBranches-both P Q branches h.1 k.1)
  EachElementWithin-both P Q element h k = (h, k)

  pub EachElementOfBranches-both : (P Q : Element → Type 0) (branches : Branches) → EachElementOfBranches P branches → EachElementOfBranches Q branches → EachElementOfBranches (λ element. P element × Q element) branches
  EachElementOfBranches-both P Q EndBranches h k = tt
  EachElementOfBranches-both P Q (MoreBranches' p name description elements q rest) h k =
      (EachElement-both P Q elements h.0 k.0, EachElementOfBranches-both P Q rest h.1 k.1)

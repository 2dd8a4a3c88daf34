-- The branches of a filled OR, in groups or not.
use Rattle.std.proofs.Common.{◌≡◌, ◌≢◌, ◌+◌, ◌-◌, ◌++◌, ℕ, suc, List, [], ◌∷◌, map, length, take, drop, arith, refl, ap, sym, ◌∙◌}
use Rattle.std.proofs.lemmas.List.{append_assoc, length-drop, map-append, take-append-drop}
use Rattle.tpol_fill.proofs.GroupLemmas.{branches_of_branches_in, in_eights_more}
use Rattle.tpol_fill.specs.Groups.{NamedBranch, branches_in, branches_of, group, in_eights, numbered}
use Rattle.tpol_marks.proofs.Walked.{first_same}
use Rattle.tpol_tree.specs.ClosedErased.{erased_branches}
use Rattle.tpol_tree.specs.Erased.{nowhere}
use Rattle.tpol_tree.specs.declared.closed.ClosedBranches.{ClosedBranches}
use Rattle.tpol_tree.specs.declared.closed.ClosedBranches.TheVariants.{More' as MoreBranches', End as EndBranches}
use Rattle.tpol_tree.specs.declared.closed.ClosedElement.{ClosedElement}
use Rattle.tpol_tree.specs.declared.closed.ClosedElement.TheVariants.{Assert, Or, Authorize, AuthorizeNv}
use Rattle.tpol_tree.specs.declared.closed.ClosedElements.{ClosedElements}
use Rattle.tpol_tree.specs.declared.closed.ClosedElements.TheVariants.{More', End}

-- the names and elements of branches as they stand
abbrev listed : ClosedBranches → List NamedBranch
listed EndBranches = []
listed (MoreBranches' p name elements q rest) = (name, elements) ∷ listed rest

listed-of : (branches : List NamedBranch) → listed (branches_of branches) ≡ branches
listed-of [] = refl
listed-of (branch ∷ rest) = ap (λ others. branch ∷ others) (listed-of rest)

abbrev branches_or : ClosedBranches → ClosedElement → ClosedBranches
branches_or other (Assert assertion) = other
branches_or other (Or branches) = branches
branches_or other (Authorize key policy_ref) = other
branches_or other (AuthorizeNv index) = other

-- the branches of an OR of these are these
pub or_same : (branches : ClosedBranches) (all : List NamedBranch) → Or (erased_branches branches) ≡ Or (branches_of all) → branches_in branches ≡ all
or_same branches all h =
    sym (listed-of (branches_in branches))
    ∙ ap listed (branches_of_branches_in branches ∙ ap (branches_or (erased_branches branches)) h)
    ∙ listed-of all

-- a group of more than one is an OR of its branches
pub group_same : (number left : ℕ) (first : NamedBranch) (rest : List NamedBranch) (branches : ClosedBranches) (others : ClosedElements) → More' nowhere (Or (erased_branches branches)) nowhere others ≡ (group number (first ∷ take 7 rest)).1 → suc (length rest) ≡ left → left ≢ 1 → branches_in branches ≡ first ∷ take 7 rest
group_same number left first [] branches others h count more = absurd (more (sym count))
group_same number left first (second ∷ rest) branches others h count more =
    or_same branches (first ∷ second ∷ take 6 rest) (first_same (Or (erased_branches branches)) (Or (branches_of (first ∷ second ∷ take 6 rest))) others End h)

-- the first of groups, and those behind it
pub record IsFirstGroup (number left : ℕ) (all : List NamedBranch) (elements : ClosedElements) (others : List NamedBranch) : Type 0 where
  pub first : NamedBranch
  pub rest : List NamedBranch
  pub is : all ≡ first ∷ rest
  pub count : length (first ∷ rest) ≡ left
  pub group_is : elements ≡ (group number (first ∷ take 7 rest)).1
  pub others_are : others ≡ numbered (number + 1) (in_eights (drop 7 rest))
  pub fewer : length (drop 7 rest) ≡ left - 8

abbrev first_or : NamedBranch → List NamedBranch → NamedBranch
first_or other [] = other
first_or other (branch ∷ rest) = branch

abbrev behind : List NamedBranch → List NamedBranch
behind [] = []
behind (branch ∷ rest) = rest

pub first_group : (number left : ℕ) (all : List NamedBranch) (name : List ℕ) (elements : ClosedElements) (others : List NamedBranch) → (name, elements) ∷ others ≡ numbered number (in_eights all) → length all ≡ left → IsFirstGroup number left all elements others
first_group number left [] name elements others h count = absurd (cc h)
first_group number left (first ∷ rest) name elements others h count =
    let is = h ∙ ap (numbered number) (in_eights_more first rest) in
    record {
      first = first;
      rest = rest;
      is = refl;
      count = count;
      group_is = ap (λ (branch : NamedBranch). branch.1) (ap (first_or (name, elements)) is);
      others_are = ap behind is;
      fewer = omega (arith, length-drop 7 rest, count);
    }

-- the elements of branches, of the first eight and of those behind
abbrev pub elements_of : List NamedBranch → List ClosedElements
elements_of branches = map (λ branch. branch.1) branches

pub joined : (before : List ClosedElements) (first : NamedBranch) (rest : List NamedBranch) → (before ++ elements_of (first ∷ take 7 rest)) ++ elements_of (drop 7 rest) ≡ before ++ elements_of (first ∷ rest)
joined before first rest =
    append_assoc before (elements_of (first ∷ take 7 rest)) (elements_of (drop 7 rest))
    ∙ ap (λ behind. before ++ first.1 ∷ behind) (sym (map-append (λ (branch : NamedBranch). branch.1) (take 7 rest) (drop 7 rest)) ∙ ap elements_of (take-append-drop 7 rest))

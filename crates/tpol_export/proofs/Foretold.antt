-- Where FAPI's digest is another one: of lists one behind the other, and of a policy whichever memory it lies in.
use Rattle.std.proofs.Common.{◌≡◌, ◌+◌, ◌++◌, ◌∷◌, ◌||◌, ℕ, Bool, true, false, List, [], codes, refl, ap, ◌∙◌}
use Rattle.tpol_export.specs.Differences.{after, and_behind, at_start, branch_count, differences_in, differences_of, differences_of_branches, differences_within, is_any, or_cause, or_follows, own_cause, told_at, with_own}
use Rattle.tpol_export.specs.declared.differences.Before.{Before}
use Rattle.tpol_export.specs.declared.differences.Difference.{Difference}
use Rattle.tpol_json.specs.declared.place.Place.{Place}
use Rattle.tpol_json.specs.Places.{at_item, at_member, root}
use Rattle.tpol_tree.specs.Erased.{erased_branches, erased_element, erased_elements, erased_policy}
use Rattle.tpol_tree.specs.declared.policy.Branches.{Branches}
use Rattle.tpol_tree.specs.declared.policy.Branches.TheVariants.{More' as MoreBranches', End as EndBranches}
use Rattle.tpol_tree.specs.declared.policy.Element.{Element}
use Rattle.tpol_tree.specs.declared.policy.Element.TheVariants.{Or, Pcr, Nv, Secret, Signed, Authorize, AuthorizeNv, Locality, CommandCode, CpHash, NameHash, CounterTimer, Duplication, NvWritten, AuthValue, Password, PhysicalPresence}
use Rattle.tpol_tree.specs.declared.policy.Elements.{Elements}
use Rattle.tpol_tree.specs.declared.policy.Elements.TheVariants.{More', End}
use Rattle.tpol_tree.specs.declared.policy.Policy.{Policy}

-- whether there are any in two lists
pub any_left : (xs ys : List Difference) → is_any xs ≡ true → is_any (xs ++ ys) ≡ true
any_left [] ys h = absurd (cc h)
any_left (x ∷ xs) ys h = refl

pub any_right : (xs ys : List Difference) → is_any xs ≡ false → is_any (xs ++ ys) ≡ is_any ys
any_right [] ys h = refl
any_right (x ∷ xs) ys h = absurd (cc h)

-- ---- whichever memory

count-erased : (branches : Branches) → branch_count (erased_branches branches) ≡ branch_count branches
count-erased EndBranches = refl
count-erased (MoreBranches' p name description elements q rest) = ap (λ n. n + 1) (count-erased rest)

own-erased : (behind : Bool) (element : Element) → own_cause behind (erased_element element) ≡ own_cause behind element
own-erased behind (Or branches) = ap (or_cause behind) (count-erased branches)
own-erased behind (Pcr wish) = refl
own-erased behind (Nv index operand offset operation) = refl
own-erased behind (Secret entity policy_ref cp_hash expiration) = refl
own-erased behind (Signed key policy_ref cp_hash expiration) = refl
own-erased behind (Authorize key policy_ref) = refl
own-erased behind (AuthorizeNv index) = refl
own-erased behind (Locality localities) = refl
own-erased behind (CommandCode code) = refl
own-erased behind (CpHash digest) = refl
own-erased behind (NameHash wish) = refl
own-erased behind (CounterTimer operand offset operation) = refl
own-erased behind (Duplication object parent include) = refl
own-erased behind (NvWritten written) = refl
own-erased behind AuthValue = refl
own-erased behind Password = refl
own-erased behind PhysicalPresence = refl

with_own-erased : (place : Place) (element : Element) (before : Before) (within : List Difference) → with_own place (erased_element element) before within ≡ with_own place element before within
with_own-erased place element before within =
    ap (λ own. within ++ told_at place (or_follows (before.other || is_any within) own)) (own-erased before.behind element)

mutual
  elements-erased : (list : Place) (n : ℕ) (elements : Elements) (before : Before) → differences_in list n (erased_elements elements) before ≡ differences_in list n elements before
  elements-erased list n End before = refl
  elements-erased list n (More' p element q rest) before =
      let place = at_item list n in
      let here : List Difference = with_own place element before (differences_within place element before) in
      let same : with_own place (erased_element element) before (differences_within place (erased_element element) before) ≡ here =
      with_own-erased place element before (differences_within place (erased_element element) before)
      ∙ ap (with_own place element before) (within-erased place element before) in
      ap (λ here. and_behind before here (λ later. differences_in list (n + 1) (erased_elements rest) later)) same
      ∙ ap (λ l. here ++ l) (elements-erased list (n + 1) rest (after before (is_any here)))

  within-erased : (place : Place) (element : Element) (before : Before) → differences_within place (erased_element element) before ≡ differences_within place element before
  within-erased place (Or branches) before = branches-erased (at_member place (codes "branches")) 0 branches before
  within-erased place (Pcr wish) before = refl
  within-erased place (Nv index operand offset operation) before = refl
  within-erased place (Secret entity policy_ref cp_hash expiration) before = refl
  within-erased place (Signed key policy_ref cp_hash expiration) before = refl
  within-erased place (Authorize key policy_ref) before = refl
  within-erased place (AuthorizeNv index) before = refl
  within-erased place (Locality localities) before = refl
  within-erased place (CommandCode code) before = refl
  within-erased place (CpHash digest) before = refl
  within-erased place (NameHash wish) before = refl
  within-erased place (CounterTimer operand offset operation) before = refl
  within-erased place (Duplication object parent include) before = refl
  within-erased place (NvWritten written) before = refl
  within-erased place AuthValue before = refl
  within-erased place Password before = refl
  within-erased place PhysicalPresence before = refl

  branches-erased : (list : Place) (n : ℕ) (branches : Branches) (before : Before) → differences_of_branches list n (erased_branches branches) before ≡ differences_of_branches list n branches before
  branches-erased list n EndBranches before = refl
  branches-erased list n (MoreBranches' p name description elements q rest) before =
      ap (λ l. l ++ differences_of_branches list (n + 1) (erased_branches rest) before) (elements-erased (at_member (at_item list n) (codes "policy")) 0 elements before)
      ∙ ap (λ l. differences_in (at_member (at_item list n) (codes "policy")) 0 elements before ++ l) (branches-erased list (n + 1) rest before)

pub differences_erased : (policy : Policy) → differences_of (erased_policy policy) ≡ differences_of policy
unfolding differences_of
differences_erased policy = elements-erased (at_member root (codes "policy")) 0 policy.elements at_start

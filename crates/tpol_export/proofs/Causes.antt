-- The first difference is never one that only follows.
use Rattle.std.proofs.Common.{◌≡◌, ◌≢◌, ◌+◌, ◌++◌, ◌∷◌, ◌||◌, ℕ, Bool, true, false, if◌then◌else◌, nat_lt, List, [], codes, Some, None, refl}
use Rattle.std.specs.Prelude.{Option, ⊤, count_ones}
use Rattle.tpol_export.specs.Differences.{BeginsWithACause, NothingFollowsFirst, after, at_start, branch_count, cause_of, differences_in, differences_of, differences_of_branches, differences_within, is_any, names_cause, or_cause, or_follows, own_cause, pcr_cause, told_at, with_own}
use Rattle.tpol_export.specs.declared.differences.Before.{Before}
use Rattle.tpol_export.specs.declared.differences.Cause.{Cause}
use Rattle.tpol_export.specs.declared.differences.Cause.TheVariants.{Behind, ManyBranches, Object, ManyPcrs, Follows}
use Rattle.tpol_export.specs.declared.differences.Difference.{Difference}
use Rattle.tpol_json.specs.declared.place.Place.{Place}
use Rattle.tpol_json.specs.Places.{at_item, at_member, root}
use Rattle.tpol_tree.specs.declared.policy.Branches.{Branches}
use Rattle.tpol_tree.specs.declared.policy.Branches.TheVariants.{More' as MoreBranches', End as EndBranches}
use Rattle.tpol_tree.specs.declared.policy.Element.{Element}
use Rattle.tpol_tree.specs.declared.policy.Element.TheVariants.{Or, Pcr, Nv, Secret, Signed, Authorize, AuthorizeNv, Locality, CommandCode, CpHash, NameHash, CounterTimer, Duplication, NvWritten, AuthValue, Password, PhysicalPresence}
use Rattle.tpol_tree.specs.declared.policy.Elements.{Elements}
use Rattle.tpol_tree.specs.declared.policy.Elements.TheVariants.{More', End}
use Rattle.tpol_tree.specs.declared.wishes.NamesWish.{NamesWish}
use Rattle.tpol_tree.specs.declared.wishes.NamesWish.TheVariants.{Digest, Names, Paths}
use Rattle.tpol_tree.specs.declared.wishes.PcrWish.{PcrWish}
use Rattle.tpol_tree.specs.declared.wishes.PcrWish.TheVariants.{Values, Current}

-- none, or one that does not follow
abbrev IsOwn : Option Cause → Type 0
IsOwn None = ⊤
IsOwn (Some cause) = cause ≢ Follows

either-own : (b : Bool) (x y : Option Cause) → IsOwn x → IsOwn y → IsOwn (if b then x else y)
either-own true x y first second = first
either-own false x y first second = second

or-own : (behind : Bool) (branches : ℕ) → IsOwn (or_cause behind branches)
or-own behind branches =
    either-own behind (Some Behind) (if nat_lt 8 branches then Some ManyBranches else None) (λ e. cc e)
    (either-own (nat_lt 8 branches) (Some ManyBranches) None (λ e. cc e) tt)

pcr-own : (wish : PcrWish) → IsOwn (pcr_cause wish)
pcr-own (Values values) = tt
pcr-own (Current mask) = either-own (nat_lt 8 (count_ones mask)) (Some ManyPcrs) None (λ e. cc e) tt

names-own : (wish : NamesWish) → IsOwn (names_cause wish)
names-own (Digest digest) = λ e. cc e
names-own (Names names) = tt
names-own (Paths paths) = tt

element-own : (behind : Bool) (element : Element) → IsOwn (own_cause behind element)
element-own behind (Or branches) = or-own behind (branch_count branches)
element-own behind (Pcr wish) = pcr-own wish
element-own behind (Nv index operand offset operation) = tt
element-own behind (Secret entity policy_ref cp_hash expiration) = tt
element-own behind (Signed key policy_ref cp_hash expiration) = λ e. cc e
element-own behind (Authorize key policy_ref) = either-own behind (Some Behind) None (λ e. cc e) tt
element-own behind (AuthorizeNv index) = either-own behind (Some Behind) None (λ e. cc e) tt
element-own behind (Locality localities) = tt
element-own behind (CommandCode code) = tt
element-own behind (CpHash digest) = tt
element-own behind (NameHash wish) = names-own wish
element-own behind (CounterTimer operand offset operation) = tt
element-own behind (Duplication object parent include) = either-own include (Some Object) None (λ e. cc e) tt
element-own behind (NvWritten written) = tt
element-own behind AuthValue = tt
element-own behind Password = tt
element-own behind PhysicalPresence = tt

first-append : (xs ys : List Difference) → BeginsWithACause xs → (is_any xs ≡ false → BeginsWithACause ys) → BeginsWithACause (xs ++ ys)
first-append [] ys first later = later refl
first-append (x ∷ xs) ys first later = first

first-told : (place : Place) (other : Bool) (own : Option Cause) → other ≡ false → IsOwn own → BeginsWithACause (told_at place (or_follows other own))
first-told place true own none is = absurd (cc none)
first-told place false None none is = tt
first-told place false (Some cause) none is = is

-- neither of two
neither : (a b : Bool) → a ≡ false → b ≡ false → (a || b) ≡ false
neither true b none other = absurd (cc none)
neither false b none other = other

first-own : (place : Place) (element : Element) (before : Before) (within : List Difference) → before.other ≡ false → BeginsWithACause within → BeginsWithACause (with_own place element before within)
first-own place element before within none first =
    first-append within (told_at place (cause_of (is_any within) before element)) first
    (λ (clear : is_any within ≡ false). first-told place (before.other || is_any within) (own_cause before.behind element) (neither before.other (is_any within) none clear) (element-own before.behind element))

mutual
  first-elements : (list : Place) (n : ℕ) (elements : Elements) (before : Before) → before.other ≡ false → BeginsWithACause (differences_in list n elements before)
  first-elements list n End before none = tt
  first-elements list n (More' p element q rest) before none =
      let here : List Difference = with_own (at_item list n) element before (differences_within (at_item list n) element before) in
      first-append here (differences_in list (n + 1) rest (after before (is_any here)))
      (first-own (at_item list n) element before (differences_within (at_item list n) element before) none (first-within (at_item list n) element before none))
      (λ (clear : is_any here ≡ false). first-elements list (n + 1) rest (after before (is_any here)) (neither before.other (is_any here) none clear))

  first-within : (place : Place) (element : Element) (before : Before) → before.other ≡ false → BeginsWithACause (differences_within place element before)
  first-within place (Or branches) before none = first-branches (at_member place (codes "branches")) 0 branches before none
  first-within place element before none = tt

  first-branches : (list : Place) (n : ℕ) (branches : Branches) (before : Before) → before.other ≡ false → BeginsWithACause (differences_of_branches list n branches before)
  first-branches list n EndBranches before none = tt
  first-branches list n (MoreBranches' p name description elements q rest) before none =
      first-append (differences_in (at_member (at_item list n) (codes "policy")) 0 elements before) (differences_of_branches list (n + 1) rest before)
      (first-elements (at_member (at_item list n) (codes "policy")) 0 elements before none)
      (λ clear. first-branches list (n + 1) rest before none)

pub nothing_follows_first : NothingFollowsFirst
unfolding differences_of
nothing_follows_first policy = first-elements (at_member root (codes "policy")) 0 policy.elements at_start refl

-- The notes on what an object becomes are some of those on the object.
use Rattle.std.proofs.Common.{◌≡◌, ℕ, List, [], ◌∷◌, Bool, true, false, Option, Some, None, codes, refl, sym, ap, subst, if◌then◌else◌}
use Rattle.std.specs.Ordering.{nat_cmp, match_ordering}
use Rattle.std.specs.declared.cmp.Ordering.{Ordering}
use Rattle.std.specs.declared.cmp.Ordering.TheVariants.{Less, Equal, Greater}
use Rattle.std.specs.Cmp.Lexicographic.{slice_cmp}
use Rattle.serde_json.specs.Data.{Data, null, boolean, number, string, array, object, Members, no_members, member, put}
use Rattle.tpol_json.specs.Members.{is_among, unknown, unknown_of}
use Rattle.tpol_json.specs.Places.{at_member}
use Rattle.tpol_json.specs.declared.place.Place.{Place}
use Rattle.tpol_members.specs.Members.{noted}
use Rattle.tpol_members.specs.declared.walk.Walk.{Walk}
use Rattle.tpol_adopt.specs.Laws.{IsSublist}
use Rattle.tpol_adopt.specs.Normal.{member_before, normal_as, normal_members, with_scheme}
use Rattle.tpol_adopt.specs.Rules.{new_scheme}
use Rattle.tpol_adopt.specs.declared.rules.Part.{Part}
use Rattle.tpol_adopt.proofs.Keeping.{IsThinner}
use Rattle.tpol_adopt.proofs.Sublists.{all_kept, keep, skip, sublist-append}
use Rattle.tpol_adopt.proofs.Walks.{kept_member}

module _ (known : List (List ℕ)) (place : Place) where
  one_before : (is_known : Bool) (name : List ℕ) (fewer more : List Place) → IsSublist fewer more → IsSublist (if is_known then fewer else at_member place name ∷ fewer) (if is_known then more else at_member place name ∷ more)
  one_before true name fewer more is = is
  one_before false name fewer more is = keep (at_member place name) fewer more is

  none_before : (is_known : Bool) (name : List ℕ) (fewer more : List Place) → IsSublist fewer more → IsSublist fewer (if is_known then more else at_member place name ∷ more)
  none_before true name fewer more is = is
  none_before false name fewer more is = skip (at_member place name) fewer more is

  kept_before : (name : List ℕ) (kept : Option Data) (ms : Members) (more : List Place) → IsSublist (unknown_of known ms place) more → IsSublist (unknown_of known (member_before name kept ms) place) (if is_among name known then more else at_member place name ∷ more)
  kept_before name None ms more is = none_before (is_among name known) name _ more is
  kept_before name (Some d) ms more is = one_before (is_among name known) name _ more is

  unknown_of-normal : (part : Part) (whole : Data) (ms : Members) → IsSublist (unknown_of known (normal_members part whole ms) place) (unknown_of known ms place)
  unfolding normal_members
  unknown_of-normal part whole no_members = tt {0}
  unknown_of-normal part whole (member name d ms) =
      kept_before name (kept_member part whole name d) (normal_members part whole ms) (unknown_of known ms place) (unknown_of-normal part whole ms)

  -- a known member more makes no note
  known_first : (b : Bool) (name : List ℕ) (more : List Place) → b ≡ true → (if b then more else at_member place name ∷ more) ≡ more
  known_first true name more is = refl
  known_first false name more is = cc

  put_at : (order : Ordering) (k l : List ℕ) (d e : Data) (ms : Members) → slice_cmp nat_cmp k l ≡ order → is_among k known ≡ true → unknown_of known (put k d ms) place ≡ unknown_of known ms place
      → unknown_of known (match_ordering order (member k d (member l e ms)) (member l d ms) (member l e (put k d ms))) place ≡ unknown_of known (member l e ms) place
  put_at Less k l d e ms is among later = known_first (is_among k known) k _ among
  put_at Equal k l d e ms is among later = refl
  put_at Greater k l d e ms is among later = ap (λ more. if is_among l known then more else at_member place l ∷ more) later

  unknown_of-put : (k : List ℕ) (d : Data) (ms : Members) → is_among k known ≡ true → unknown_of known (put k d ms) place ≡ unknown_of known ms place
  unknown_of-put k d no_members among = known_first (is_among k known) k [] among
  unknown_of-put k d (member l e ms) among = put_at (slice_cmp nat_cmp k l) k l d e ms refl among (unknown_of-put k d ms among)

  unknown_of-scheme : (scheme : Option (List ℕ)) (ms : Members) → is_among (codes "scheme") known ≡ true → unknown_of known (with_scheme scheme ms) place ≡ unknown_of known ms place
  unknown_of-scheme None ms among = refl
  unknown_of-scheme (Some scheme) ms among = unknown_of-put (codes "scheme") (string scheme) ms among

  -- where `scheme` is known
  pub unknown-scheme : (part : Part) (d : Data) → is_among (codes "scheme") known ≡ true → IsSublist (unknown known (normal_as part d) place) (unknown known d place)
  unfolding normal_as
  unknown-scheme part null among = tt {0}
  unknown-scheme part (boolean b) among = tt {0}
  unknown-scheme part (number n) among = tt {0}
  unknown-scheme part (string s) among = tt {0}
  unknown-scheme part (array ds) among = tt {0}
  unknown-scheme part (object ms) among =
      subst (λ fewer. IsSublist fewer (unknown_of known ms place)) (sym (unknown_of-scheme (new_scheme part (object ms)) (normal_members part (object ms) ms) among))
      (unknown_of-normal part (object ms) ms)

  -- where none is new
  pub unknown-plain : (part : Part) (d : Data) → new_scheme part d ≡ None → IsSublist (unknown known (normal_as part d) place) (unknown known d place)
  unfolding normal_as
  unknown-plain part null plain = tt {0}
  unknown-plain part (boolean b) plain = tt {0}
  unknown-plain part (number n) plain = tt {0}
  unknown-plain part (string s) plain = tt {0}
  unknown-plain part (array ds) plain = tt {0}
  unknown-plain part (object ms) plain =
      subst (λ scheme. IsSublist (unknown_of known (with_scheme scheme (normal_members part (object ms) ms)) place) (unknown_of known ms place)) (sym plain)
      (unknown_of-normal part (object ms) ms)

-- walks with these notes
pub noted-thinner : (known : List (List ℕ)) (d d' : Data) (place : Place) (fewer walk : Walk) → IsThinner fewer walk → IsSublist (unknown known d' place) (unknown known d place) → IsThinner (noted known d' place fewer) (noted known d place walk)
unfolding noted
noted-thinner known d d' place fewer walk thinner is = record {
  left = thinner.left;
  notes = sublist-append fewer.notes walk.notes (unknown known d' place) (unknown known d place) thinner.notes is;
}

-- the same value
pub noted-same : (known : List (List ℕ)) (d : Data) (place : Place) (fewer walk : Walk) → IsThinner fewer walk → IsThinner (noted known d place fewer) (noted known d place walk)
noted-same known d place fewer walk thinner = noted-thinner known d d place fewer walk thinner (all_kept (unknown known d place))

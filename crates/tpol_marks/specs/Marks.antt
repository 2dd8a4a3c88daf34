-- The digest of a policy session after each element of a policy, with the element's place.
use Rattle.std.specs.Prelude.{ℕ, ◌+◌, List, [], ◌∷◌, ◌++◌, codes, Option}
use Rattle.tpol_base.specs.declared.digest.Digest32.{Digest32}
use Rattle.tpol_marks.specs.declared.marks.Mark.{Mark}
use Rattle.tpol_digest.specs.Digest.{digest_at_element, zero_digest}
use Rattle.tpol_fill.specs.Filling.{filled_element}
use Rattle.tpol_json.specs.declared.place.Place.{Place}
use Rattle.tpol_json.specs.Places.{root, at_item, at_member}
use Rattle.tpol_name.specs.declared.sight.Sight.{Sight}
use Rattle.tpol_tree.specs.declared.policy.Branches.{Branches}
use Rattle.tpol_tree.specs.declared.policy.Branches.TheVariants.{More' as MoreBranches', End as EndBranches}
use Rattle.tpol_tree.specs.declared.policy.Element.{Element}
use Rattle.tpol_tree.specs.declared.policy.Element.TheVariants.{Or}
use Rattle.tpol_tree.specs.declared.policy.Elements.{Elements}
use Rattle.tpol_tree.specs.declared.policy.Elements.TheVariants.{More', End}
use Rattle.tpol_tree.specs.declared.policy.Policy.{Policy}

-- an element at this place, where the digest before it is d
abbrev pub mark_of : Option Sight → Place → Element → Digest32 → Mark
mark_of sight place element d = record { place = place; digest = digest_at_element (filled_element sight element) d }

-- The marks of the elements of a list that stands at a place, from the item n on, where d is the digest before them:
-- those of an OR's branches, each from the digest before the OR, stand before that of the OR.
abbrev mutual
  pub marks_of_elements : Option Sight → Place → ℕ → Elements → Digest32 → List Mark
  marks_of_elements sight list n End d = []
  marks_of_elements sight list n (More' p element q rest) d =
      (marks_within sight (at_item list n) element d ++ mark_of sight (at_item list n) element d ∷ [])
      ++ marks_of_elements sight list (n + 1) rest (digest_at_element (filled_element sight element) d)

  -- those of the elements in an element
  pub marks_within : Option Sight → Place → Element → Digest32 → List Mark
  marks_within sight place (Or branches) d = marks_of_branches sight (at_member place (codes "branches")) 0 branches d
  marks_within sight place element d = []

  pub marks_of_branches : Option Sight → Place → ℕ → Branches → Digest32 → List Mark
  marks_of_branches sight list n EndBranches d = []
  marks_of_branches sight list n (MoreBranches' p name description elements q rest) d =
      marks_of_elements sight (at_member (at_item list n) (codes "policy")) 0 elements d
      ++ marks_of_branches sight list (n + 1) rest d

-- those of a policy, filled with what a machine shows
unfoldable pub marks_of : Option Sight → Policy → List Mark
marks_of sight policy = marks_of_elements sight (at_member root (codes "policy")) 0 policy.elements zero_digest

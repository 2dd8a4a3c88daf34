-- Filling keeps the bounds of the wire.
use Rattle.std.proofs.Common.{◌≡◌, ◌+◌, ◌<◌, ◌^◌, ℕ, Bool, true, false, List, [], ◌∷◌, codes, cond, subst, sym, arith}
use Rattle.std.specs.Prelude.{Option, None, Some}
use Rattle.tpol_base.specs.Handle.{rh_endorsement, rh_lockout, rh_owner}
use Rattle.tpol_fill.proofs.GroupLemmas.{AllBranches, each_grouped}
use Rattle.tpol_fill.proofs.MaskLemmas.{current_mask, written_mask}
use Rattle.tpol_fill.proofs.WellFormedLemmas.{no_first, no_second}
use Rattle.tpol_fill.specs.Entities.{Named, entity_name, found_hierarchy_name, found_index_name, found_key_name, found_object_name, indices_of, key_name, name_of_index_wish, object_area_of, objects_of, or_empty, parent_name, path_name, signing_key_name}
use Rattle.tpol_fill.specs.Filling.{branches_faults, element_faults, elements_faults, filled_branches, filled_element, filled_elements, filled_pcrs, pcr_faults}
use Rattle.tpol_fill.specs.Groups.{NamedBranch, branches_of, grouped}
use Rattle.tpol_json.specs.declared.place.Place.{Place}
use Rattle.tpol_json.specs.Places.{at_item, at_member}
use Rattle.tpol_name.specs.Areas.{is_signing_key}
use Rattle.tpol_name.specs.Entities.{hierarchy_at, index_at, object_at}
use Rattle.tpol_name.specs.Paths.{is_same_path}
use Rattle.tpol_name.specs.declared.areas.ObjectPublic.{ObjectPublic}
use Rattle.tpol_name.specs.declared.entries.IndexEntry.{IndexEntry}
use Rattle.tpol_name.specs.declared.entries.ObjectEntry.{ObjectEntry}
use Rattle.tpol_name.specs.declared.sight.Sight.{Sight}
use Rattle.tpol_tree.specs.declared.closed.Closed.{Closed}
use Rattle.tpol_tree.specs.declared.closed.ClosedBranches.{ClosedBranches}
use Rattle.tpol_tree.specs.declared.closed.ClosedBranches.TheVariants.{More' as MoreClosedBranches', End as EndClosedBranches}
use Rattle.tpol_tree.specs.declared.closed.ClosedElement.{ClosedElement}
use Rattle.tpol_tree.specs.declared.closed.ClosedElement.TheVariants.{Assert, Or as ClosedOr, Authorize as ClosedAuthorize, AuthorizeNv as ClosedAuthorizeNv}
use Rattle.tpol_tree.specs.declared.closed.ClosedElements.{ClosedElements}
use Rattle.tpol_tree.specs.declared.closed.ClosedElements.TheVariants.{More' as MoreClosed', End as EndClosed}
use Rattle.tpol_tree.specs.declared.policy.Branches.{Branches}
use Rattle.tpol_tree.specs.declared.policy.Branches.TheVariants.{More' as MoreBranches', End as EndBranches}
use Rattle.tpol_tree.specs.declared.policy.Element.{Element}
use Rattle.tpol_tree.specs.declared.policy.Element.TheVariants.{Or, Pcr, Nv, Secret, Signed, Authorize, AuthorizeNv, Locality, CommandCode, CpHash, NameHash, CounterTimer, Duplication, NvWritten, AuthValue, Password, PhysicalPresence}
use Rattle.tpol_tree.specs.declared.policy.Elements.{Elements}
use Rattle.tpol_tree.specs.declared.policy.Elements.TheVariants.{More', End}
use Rattle.tpol_tree.specs.declared.wishes.EntityWish.{EntityWish}
use Rattle.tpol_tree.specs.declared.wishes.EntityWish.TheVariants as entities
use Rattle.tpol_tree.specs.declared.wishes.IndexWish.{IndexWish}
use Rattle.tpol_tree.specs.declared.wishes.IndexWish.TheVariants as indices
use Rattle.tpol_tree.specs.declared.wishes.KeyWish.{KeyWish}
use Rattle.tpol_tree.specs.declared.wishes.KeyWish.TheVariants as keys
use Rattle.tpol_tree.specs.declared.wishes.ParentWish.{ParentWish}
use Rattle.tpol_tree.specs.declared.wishes.ParentWish.TheVariants as parents
use Rattle.tpol_tree.specs.declared.wishes.PcrWish.{PcrWish}
use Rattle.tpol_tree.specs.declared.wishes.PcrWish.TheVariants.{Values, Current}
use Rattle.tpol_tree.specs.Bounds.{AssertionHasBounds, ClosedElementHasBounds, ElementHasBounds, EntityHasBounds, HasClosedBounds, NameHasBounds, ParentHasBounds, PcrsHaveBounds}
use Rattle.tpol_tree.specs.Closed as closed
use Rattle.tpol_tree.specs.ClosedErased.{erased_branches, erased_element, erased_elements}
use Rattle.tpol_tree.specs.Elements.{EachElement, EachElementOfBranches, EachElementWithin}

-- ---- Names

either : {A : Type 0} (P : A → Type 0) (b : Bool) (x y : A) → P x → P y → P (cond b x y)
either P true x y h k = h
either P false x y h k = k

signing_key-bounded : (public : ObjectPublic) → NameHasBounds (or_empty (signing_key_name public))
signing_key-bounded public = either (λ named. NameHasBounds (or_empty named)) (is_signing_key public) _ _ tt tt

found_key-bounded : (found : Option ObjectEntry) → NameHasBounds (or_empty (found_key_name found))
found_key-bounded None = tt
found_key-bounded (Some object) = signing_key-bounded object.public

key-bounded : (wish : KeyWish) (sight : Option Sight) → NameHasBounds (or_empty (key_name wish sight))
key-bounded (keys.Path path) sight = found_key-bounded (object_at (objects_of sight) path)
key-bounded (keys.Public text) sight = signing_key-bounded (object_area_of text)

found_index-bounded : (found : Option IndexEntry) → NameHasBounds (or_empty (found_index_name found))
found_index-bounded None = tt
found_index-bounded (Some index) = tt

index-bounded : (wish : IndexWish) (sight : Option Sight) → NameHasBounds (or_empty (name_of_index_wish wish sight))
index-bounded (indices.Path path) sight = found_index-bounded (index_at (indices_of sight) path)
index-bounded (indices.Public text) sight = tt

found_object-bounded : (found : Option ObjectEntry) (other : Named) → NameHasBounds (or_empty other) → NameHasBounds (or_empty (found_object_name found other))
found_object-bounded None other h = h
found_object-bounded (Some object) other h = tt

hierarchy-bounded : (path : List ℕ) (other : Named) → NameHasBounds (or_empty other) → NameHasBounds (or_empty (found_hierarchy_name (hierarchy_at path) other))
hierarchy-bounded path other h =
    let P = λ (found : Option ℕ). NameHasBounds (or_empty (found_hierarchy_name found other)) in
    let owner : rh_owner < 2 ^ 32 = omega arith in
    let endorsement : rh_endorsement < 2 ^ 32 = omega arith in
    let lockout : rh_lockout < 2 ^ 32 = omega arith in
    let at_lockout : Option ℕ = cond (is_same_path (codes "LOCKOUT") path) (Some rh_lockout) None in
    let at_endorsement : Option ℕ = cond (is_same_path (codes "HE") path) (Some rh_endorsement) at_lockout in
    either P (is_same_path (codes "HS") path) (Some rh_owner) at_endorsement owner
    (either P (is_same_path (codes "HE") path) (Some rh_endorsement) at_lockout endorsement
    (either P (is_same_path (codes "LOCKOUT") path) (Some rh_lockout) None lockout h))

path-bounded : (path : List ℕ) (sight : Option Sight) → NameHasBounds (or_empty (path_name path sight))
path-bounded path sight =
    hierarchy-bounded path _ (found_object-bounded (object_at (objects_of sight) path) _ (found_index-bounded (index_at (indices_of sight) path)))

entity-bounded : (wish : EntityWish) (sight : Option Sight) → EntityHasBounds wish → NameHasBounds (or_empty (entity_name wish sight))
entity-bounded (entities.Path path) sight h = path-bounded path sight
entity-bounded (entities.Named name) sight h = h

parent-bounded : (wish : ParentWish) (sight : Option Sight) → ParentHasBounds wish → NameHasBounds (or_empty (parent_name wish sight))
parent-bounded (parents.Path path) sight h = found_object-bounded (object_at (objects_of sight) path) _ tt
parent-bounded (parents.Public text) sight h = tt
parent-bounded (parents.Named name) sight h = h

-- ---- elements

pcrs-bounded : (sight : Option Sight) (place : Place) (wish : PcrWish) → pcr_faults sight place wish ≡ [] → PcrsHaveBounds wish → AssertionHasBounds (filled_pcrs wish sight)
pcrs-bounded sight place (Values values) clear h = written_mask (at_member place (codes "pcrs")) values clear
pcrs-bounded sight place (Current mask) clear h = current_mask sight (at_member place (codes "currentPCRs")) mask clear h

bounds_of : (branches : List NamedBranch) → AllBranches (closed.EachElement ClosedElementHasBounds) branches → closed.EachElementOfBranches ClosedElementHasBounds (branches_of branches)
bounds_of [] h = tt
bounds_of (branch ∷ rest) h = (h.0, bounds_of rest h.1)

bounds_grouped : (branches : List NamedBranch) → AllBranches (closed.EachElement ClosedElementHasBounds) branches → closed.EachElementOfBranches ClosedElementHasBounds (branches_of (grouped branches))
bounds_grouped branches h =
    bounds_of (grouped branches) (each_grouped (closed.EachElement ClosedElementHasBounds) (λ group two eight each. ((tt, bounds_of group each), tt)) branches h)

mutual
  elements-bounded : (sight : Option Sight) (leads : Bool) (list : Place) (n : ℕ) (elements : Elements) → elements_faults sight leads list n elements ≡ [] → EachElement ElementHasBounds elements → closed.EachElement ClosedElementHasBounds (filled_elements sight elements)
  elements-bounded sight leads list n End clear h = tt
  elements-bounded sight leads list n (More' p element q rest) clear h =
      (element-bounded sight leads (at_item list n) element (no_first _ _ clear) h.0, elements-bounded sight false list (n + 1) rest (no_second _ _ clear) h.1)

  element-bounded : (sight : Option Sight) (leads : Bool) (place : Place) (element : Element) → element_faults sight leads place element ≡ [] → EachElementWithin ElementHasBounds element → closed.EachElementWithin ClosedElementHasBounds (filled_element sight element)
  element-bounded sight leads place (Or branches) clear h =
      (tt, bounds_grouped _ (branches-bounded sight leads (at_member place (codes "branches")) 0 branches clear h.1))
  element-bounded sight leads place (Authorize key policy_ref) clear h = (key-bounded key sight, h)
  element-bounded sight leads place (AuthorizeNv index) clear h = index-bounded index sight
  element-bounded sight leads place (Pcr wish) clear h = pcrs-bounded sight place wish clear h
  element-bounded sight leads place (Nv index operand offset operation) clear h = (index-bounded index sight, h.0, h.1)
  element-bounded sight leads place (Secret entity policy_ref cp_hash expiration) clear h = (entity-bounded entity sight h.0, h.1, h.2)
  element-bounded sight leads place (Signed key policy_ref cp_hash expiration) clear h = (key-bounded key sight, h.0, h.1)
  element-bounded sight leads place (Locality localities) clear h = h
  element-bounded sight leads place (CommandCode code) clear h = h
  element-bounded sight leads place (CpHash digest) clear h = tt
  element-bounded sight leads place (NameHash wish) clear h = tt
  element-bounded sight leads place (CounterTimer operand offset operation) clear h = h
  element-bounded sight leads place (Duplication object parent include) clear h = (h.0, parent-bounded parent sight h.1)
  element-bounded sight leads place (NvWritten written) clear h = tt
  element-bounded sight leads place AuthValue clear h = tt
  element-bounded sight leads place Password clear h = tt
  element-bounded sight leads place PhysicalPresence clear h = tt

  branches-bounded : (sight : Option Sight) (leads : Bool) (list : Place) (n : ℕ) (branches : Branches) → branches_faults sight leads list n branches ≡ [] → EachElementOfBranches ElementHasBounds branches → AllBranches (closed.EachElement ClosedElementHasBounds) (filled_branches sight branches)
  branches-bounded sight leads list n EndBranches clear h = tt
  branches-bounded sight leads list n (MoreBranches' p name description elements q rest) clear h =
      (elements-bounded sight leads (at_member (at_item list n) (codes "policy")) 0 elements (no_first _ _ clear) h.0, branches-bounded sight leads list (n + 1) rest (no_second _ _ clear) h.1)

-- ---- whichever memory they lie in

mutual
  bounds-erased : (elements : ClosedElements) → closed.EachElement ClosedElementHasBounds (erased_elements elements) → closed.EachElement ClosedElementHasBounds elements
  bounds-erased EndClosed h = h
  bounds-erased (MoreClosed' p element q rest) h = (element_bounds-erased element h.0, bounds-erased rest h.1)

  element_bounds-erased : (element : ClosedElement) → closed.EachElementWithin ClosedElementHasBounds (erased_element element) → closed.EachElementWithin ClosedElementHasBounds element
  element_bounds-erased (Assert assertion) h = h
  element_bounds-erased (ClosedOr branches) h = (tt, branches_bounds-erased branches h.1)
  element_bounds-erased (ClosedAuthorize key policy_ref) h = h
  element_bounds-erased (ClosedAuthorizeNv index) h = h

  branches_bounds-erased : (branches : ClosedBranches) → closed.EachElementOfBranches ClosedElementHasBounds (erased_branches branches) → closed.EachElementOfBranches ClosedElementHasBounds branches
  branches_bounds-erased EndClosedBranches h = h
  branches_bounds-erased (MoreClosedBranches' p name elements q rest) h = (bounds-erased elements h.0, branches_bounds-erased rest h.1)

-- what is filled without faults is within the bounds, if the policy as it is written is
pub bounded-filled : (list : Place) (elements : Elements) (sight : Option Sight) (policy : Closed) → EachElement ElementHasBounds elements → elements_faults sight true list 0 elements ≡ [] → erased_elements policy.elements ≡ filled_elements sight elements → HasClosedBounds policy
bounded-filled list elements sight policy bounds clear same =
    bounds-erased policy.elements (subst (closed.EachElement ClosedElementHasBounds) (sym same) (elements-bounded sight true list 0 elements clear bounds))

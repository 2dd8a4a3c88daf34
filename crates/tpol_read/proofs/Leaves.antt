-- An element that holds no other elements has no box and no branches, its PCR values are rising and its fields are
-- within their bounds.
use Rattle.std.proofs.Common.{◌≡◌, codes, Ok, refl, subst}
use Rattle.std.specs.Int.{w32}
use Rattle.std.specs.Prelude.{FitsSigned}
use Rattle.serde_json.specs.Data.{Data}
use Rattle.serde_json.specs.Find.{get}
use Rattle.tpol_json.specs.Places.{at_member}
use Rattle.tpol_json.specs.declared.place.Place.{Place}
use Rattle.tpol_json.proofs.AllFound.{AllFound, all_after, all_then, needed-fits}
use Rattle.tpol_elements.proofs.Limits.{entity-bounded, object-bounded, parent-bounded}
use Rattle.tpol_members.proofs.Limits.{Is32, all_still, code-fits, expiration-bounded, localities-fits, offset-bounded, operand-bounded, policy_ref-bounded}
use Rattle.tpol_members.specs.declared.fault.PolicyKind.TheVariants.{Missing}
use Rattle.tpol_elements.specs.declared.types.LeafType.{LeafType}
use Rattle.tpol_elements.specs.declared.types.LeafType.TheVariants as types
use Rattle.tpol_members.specs.declared.walk.Walk.{Walk}
use Rattle.tpol_members.specs.Fields.{policy_ref_in, cp_hash_in, expiration_in, operand_in, offset_in, operation_member_in}
use Rattle.tpol_members.specs.Localities.{locality_in}
use Rattle.tpol_members.specs.Members.{needed}
use Rattle.tpol_members.specs.Operations.{code_in}
use Rattle.tpol_members.specs.Pcrs.{pcrs_in}
use Rattle.tpol_elements.specs.Rows.{leaf_row, pcr_row, nv_row, secret_row, signed_row, authorize_row, authorize_nv_row, locality_member, locality_row, command_code_row, cp_hash_row, name_hash_row, counter_timer_row, duplication_row, nv_written_row, without_pem, include_member, included_object, written_member}
use Rattle.tpol_members.specs.Values.{digest_in}
use Rattle.tpol_elements.specs.Wishes.{key_in, index_in, entity_in, parent_in, names_in}
use Rattle.tpol_read.proofs.PcrOrder.{WishRises, pcrs-rise}
use Rattle.tpol_read.specs.RisingPcrs.{ElementIsRising}
use Rattle.tpol_tree.specs.Bounds.{ElementHasBounds, EntityHasBounds, LocalityHasBounds, NameHasBounds, OffsetHasBounds, ParentHasBounds, ReferenceHasBounds}
use Rattle.tpol_tree.specs.Elements.{EachElementWithin, HasBranchCount}
use Rattle.tpol_tree.specs.Erased.{erased_element}
use Rattle.tpol_tree.specs.declared.policy.Element.{Element}
use Rattle.tpol_tree.specs.declared.wishes.ParentWish.{ParentWish}

-- what each element of a policy that is read is
abbrev pub IsSound : Element → Type 0
IsSound element = HasBranchCount element × ElementIsRising element × ElementHasBounds element

abbrev pub IsLeaf : Element → Type 0
IsLeaf element = (erased_element element ≡ element) × EachElementWithin IsSound element

-- the same of an element with a walk
abbrev pub LeavesLeaf : Element × Walk → Type 0
LeavesLeaf found = IsLeaf found.0

abbrev LeavesParent : ParentWish × Walk → Type 0
LeavesParent found = ParentHasBounds found.0

pub leaf_row-leaf : (leaf : LeafType) (d : Data) (place : Place) (walk : Walk) → AllFound LeavesLeaf (leaf_row leaf d place walk)
unfolding pcr_row nv_row secret_row signed_row authorize_row authorize_nv_row locality_member locality_row command_code_row cp_hash_row name_hash_row counter_timer_row duplication_row nv_written_row
leaf_row-leaf types.Pcr d place walk =
    all_then WishRises LeavesLeaf (pcrs_in d place walk) _ (pcrs-rise d place walk) (λ found is. (refl, (tt {0}, is.0, is.1)))
leaf_row-leaf types.Nv d place walk =
    all_after LeavesLeaf (index_in d place walk) _
    (λ _. all_then ReferenceHasBounds LeavesLeaf (operand_in d place) _ (operand-bounded d place)
    (λ operand short. all_then OffsetHasBounds LeavesLeaf (offset_in d place) _ (offset-bounded d place)
    (λ offset low. all_after LeavesLeaf (operation_member_in d place) _ (λ _. (refl, (tt {0}, tt {0}, (short, low)))))))
leaf_row-leaf types.Secret d place walk =
    all_still IsLeaf (secret_row d place) walk
    (all_then EntityHasBounds IsLeaf (entity_in d place) _ (entity-bounded d place)
    (λ entity named. all_then ReferenceHasBounds IsLeaf (policy_ref_in d place) _ (policy_ref-bounded d place)
    (λ policy_ref short. all_after IsLeaf (cp_hash_in d place) _
    (λ _. all_then (FitsSigned w32) IsLeaf (expiration_in d place) _ (expiration-bounded d place)
    (λ expiration fits. (refl, (tt {0}, tt {0}, (named, short, fits))))))))
leaf_row-leaf types.Signed d place walk =
    all_after LeavesLeaf (without_pem d place) _
    (λ _. all_after LeavesLeaf (key_in (codes "publicKey") d place walk) _
    (λ _. all_then ReferenceHasBounds LeavesLeaf (policy_ref_in d place) _ (policy_ref-bounded d place)
    (λ policy_ref short. all_after LeavesLeaf (cp_hash_in d place) _
    (λ _. all_then (FitsSigned w32) LeavesLeaf (expiration_in d place) _ (expiration-bounded d place)
    (λ expiration fits. (refl, (tt {0}, tt {0}, (short, fits))))))))
leaf_row-leaf types.Authorize d place walk =
    all_after LeavesLeaf (without_pem d place) _
    (λ _. all_after LeavesLeaf (key_in (codes "publicKey") d place walk) _
    (λ _. all_then ReferenceHasBounds LeavesLeaf (policy_ref_in d place) _ (policy_ref-bounded d place)
    (λ policy_ref short. (refl, (tt {0}, tt {0}, short)))))
leaf_row-leaf types.AuthorizeNv d place walk =
    all_after LeavesLeaf (index_in d place walk) _ (λ _. (refl, (tt {0}, tt {0}, tt {0})))
leaf_row-leaf types.Locality d place walk =
    all_still IsLeaf (locality_row d place) walk
    (all_then LocalityHasBounds IsLeaf (needed locality_in (codes "locality") d place) _
    (needed-fits LocalityHasBounds Missing locality_in (get (codes "locality") d) (at_member place (codes "locality")) localities-fits)
    (λ localities has. (refl, (tt {0}, tt {0}, has))))
leaf_row-leaf types.CommandCode d place walk =
    all_still IsLeaf (command_code_row d place) walk
    (all_then Is32 IsLeaf (needed code_in (codes "code") d place) _
    (needed-fits Is32 Missing code_in (get (codes "code") d) (at_member place (codes "code")) code-fits)
    (λ code small. (refl, (tt {0}, tt {0}, small))))
leaf_row-leaf types.CpHash d place walk =
    all_still IsLeaf (cp_hash_row d place) walk (all_after IsLeaf (needed digest_in (codes "cpHash") d place) _ (λ _. (refl, (tt {0}, tt {0}, tt {0}))))
leaf_row-leaf types.NameHash d place walk =
    all_still IsLeaf (name_hash_row d place) walk (all_after IsLeaf (names_in d place) _ (λ _. (refl, (tt {0}, tt {0}, tt {0}))))
leaf_row-leaf types.CounterTimer d place walk =
    all_still IsLeaf (counter_timer_row d place) walk
    (all_then ReferenceHasBounds IsLeaf (operand_in d place) _ (operand-bounded d place)
    (λ operand short. all_then OffsetHasBounds IsLeaf (offset_in d place) _ (offset-bounded d place)
    (λ offset low. all_after IsLeaf (operation_member_in d place) _ (λ _. (refl, (tt {0}, tt {0}, (short, low)))))))
leaf_row-leaf types.DuplicationSelect d place walk =
    all_then LeavesParent LeavesLeaf (parent_in d place walk) _ (parent-bounded d place walk)
    (λ parent named. all_after LeavesLeaf (include_member d place) _
    (λ include. all_then NameHasBounds LeavesLeaf (included_object include d place) _ (object-bounded include d place)
    (λ object has. (refl, (tt {0}, tt {0}, (has, named))))))
leaf_row-leaf types.NvWritten d place walk =
    all_still IsLeaf (nv_written_row d place) walk (all_after IsLeaf (written_member d place) _ (λ _. (refl, (tt {0}, tt {0}, tt {0}))))
leaf_row-leaf types.AuthValue d place walk = (refl, (tt {0}, tt {0}, tt {0}))
leaf_row-leaf types.Password d place walk = (refl, (tt {0}, tt {0}, tt {0}))
leaf_row-leaf types.PhysicalPresence d place walk = (refl, (tt {0}, tt {0}, tt {0}))

-- the element that a row gives is the same wherever it lies
pub leaf_row-erased : (leaf : LeafType) (d : Data) (place : Place) (walk : Walk) (element : Element) (after : Walk) → leaf_row leaf d place walk ≡ Ok (element, after) → erased_element element ≡ element
leaf_row-erased leaf d place walk element after is = (subst (AllFound LeavesLeaf) is (leaf_row-leaf leaf d place walk)).0

pub ruleset leaves = (leaf_row-erased)

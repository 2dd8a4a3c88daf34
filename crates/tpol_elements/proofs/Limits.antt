-- What rows find of entities, parents and objects lies within the bounds of the wire.
use Rattle.std.proofs.Common.{zero, suc, [], ◌∷◌, codes, Ok, ◌&&◌, Bool, ℕ}
use Rattle.serde_json.specs.Data.{Data}
use Rattle.serde_json.specs.Find.{get}
use Rattle.tpol_base.specs.declared.name.Name.TheVariants as names
use Rattle.tpol_base.specs.Answers.{◌>>=◌}
use Rattle.tpol_json.proofs.AllFound.{AllFound, all_after, all_then, all_if, optional-fits}
use Rattle.tpol_json.specs.Places.{at_member}
use Rattle.tpol_json.specs.declared.place.Place.{Place}
use Rattle.tpol_members.proofs.Limits.{all_still, full_name-bounded, name-bounded}
use Rattle.tpol_members.proofs.OneOf.{all_of}
use Rattle.tpol_json.specs.Reading.{bad}
use Rattle.tpol_members.specs.Values.{text_in, full_name_in, is_empty_name, name_in}
use Rattle.tpol_members.specs.declared.fault.PolicyKind.TheVariants.{Missing}
use Rattle.tpol_members.specs.declared.walk.Walk.{Walk}
use Rattle.tpol_elements.specs.Publics.{object_public_in}
use Rattle.tpol_elements.specs.Rows.{object_member, included_object}
use Rattle.tpol_elements.specs.Wishes.{entity_at, entity_in, parent_at, parent_in}
use Rattle.tpol_tree.specs.Bounds.{NameHasBounds, EntityHasBounds, ParentHasBounds}
use Rattle.tpol_tree.specs.declared.wishes.ParentWish.{ParentWish}
use Rattle.tpol_tree.specs.declared.wishes.ParentWish.TheVariants as parent

entity_at-bounded : (position : ℕ) (d : Data) (place : Place) → AllFound EntityHasBounds (entity_at position d place)
unfolding entity_at
entity_at-bounded zero d place = all_after EntityHasBounds (text_in d place) _ (λ path. tt {0})
entity_at-bounded (suc position) d place = all_then NameHasBounds EntityHasBounds (full_name_in d place) _ (full_name-bounded d place) (λ name has. has)

pub entity-bounded : (d : Data) (place : Place) → AllFound EntityHasBounds (entity_in d place)
unfolding entity_in
entity-bounded d place =
    all_of EntityHasBounds (codes "objectPath" ∷ codes "objectName" ∷ []) entity_at d place entity_at-bounded

abbrev LeavesBounded : ParentWish × Walk → Type 0
LeavesBounded found = ParentHasBounds found.0

parent_at-bounded : (walk : Walk) (position : ℕ) (d : Data) (place : Place) → AllFound LeavesBounded (parent_at walk position d place)
unfolding parent_at
parent_at-bounded walk zero d place =
    all_still ParentHasBounds (text_in d place >>= λ path. Ok (parent.Path path)) walk (all_after ParentHasBounds (text_in d place) _ (λ path. tt {0}))
parent_at-bounded walk (suc zero) d place = all_after LeavesBounded (object_public_in d place walk) _ (λ area. tt {0})
parent_at-bounded walk (suc (suc position)) d place =
    all_still ParentHasBounds (name_in d place >>= λ name. Ok (parent.Named name)) walk
    (all_then NameHasBounds ParentHasBounds (name_in d place) _ (name-bounded d place) (λ name has. has))

pub parent-bounded : (d : Data) (place : Place) (walk : Walk) → AllFound LeavesBounded (parent_in d place walk)
unfolding parent_in
parent-bounded d place walk =
    all_of LeavesBounded (codes "newParentPath" ∷ codes "newParentPublic" ∷ codes "newParentName" ∷ []) (parent_at walk) d place (parent_at-bounded walk)

object_member-bounded : (d : Data) (place : Place) → AllFound NameHasBounds (object_member d place)
unfolding object_member
object_member-bounded d place =
    optional-fits NameHasBounds name_in names.Empty (get (codes "objectName") d) (at_member place (codes "objectName")) (tt {0}) name-bounded

pub object-bounded : (include : Bool) (d : Data) (place : Place) → AllFound NameHasBounds (included_object include d place)
unfolding included_object
object-bounded include d place =
    all_then NameHasBounds NameHasBounds (object_member d place) _ (object_member-bounded d place)
    (λ object has. all_if NameHasBounds (is_empty_name object && include) (bad Missing (at_member place (codes "objectName"))) (Ok object) (λ _. tt {0}) has)

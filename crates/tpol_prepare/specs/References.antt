-- The policies that a scene names.
use Rattle.std.specs.Prelude.{ℕ, List, [], ◌∷◌, Bool, codes, find, map, Option, Some, None, Ok, Err}
use Rattle.std.specs.List.{flat_map}
use Rattle.std.specs.Option.{option_map}
use Rattle.std.specs.Str.{bytes_eq}
use Rattle.tpol_json.specs.declared.place.Place.{Place}
use Rattle.tpol_entities.specs.declared.entities.EntityPolicy.{EntityPolicy}
use Rattle.tpol_scene.specs.declared.scene.Scene.{Scene}
use Rattle.tpol_scene.specs.declared.script.ScriptEvent.{ScriptEvent}
use Rattle.tpol_scene.specs.declared.script.ScriptEvent.TheVariants.{Begin}
use Rattle.tpol_store.specs.Stores.{NamedPolicy}
use Rattle.tpol_prepare.specs.declared.references.Reference.{Reference}
use Rattle.tpol_steps.specs.Refusals.{bad_scene}
use Rattle.tpol_steps.specs.Steps.{Step, ◌>>=◌}
use Rattle.tpol_tree.specs.declared.policy.Policy.{Policy}

-- ---- which policies a scene names, and where

abbrev pub entity_reference : EntityPolicy → Reference
entity_reference policy = record { name = policy.name; place = policy.place }

-- those of its entities, in order
abbrev pub entity_references : Scene → List Reference
entity_references scene = map entity_reference scene.policies

-- that which an event begins
abbrev pub event_references : ScriptEvent → List Reference
event_references (Begin run client locality policy place goal) = record { name = policy; place = place } ∷ []
event_references _ = []

-- those that its script begins, in order
abbrev pub script_references : Scene → List Reference
script_references scene = flat_map event_references scene.script

-- ---- in a store

abbrev pub is_called : List ℕ → NamedPolicy → Bool
is_called name document = bytes_eq document.0 name

-- the policy of this name
abbrev pub policy_called : List ℕ → List NamedPolicy → Option Policy
policy_called name store = option_map (λ document. document.1) (find (is_called name) store)

-- the policy that is named, unless there is none
abbrev pub unless_none : Place → Option Policy → Step Policy
unless_none place None = Err (bad_scene (codes "NoSuchPolicy") place)
unless_none place (Some policy) = Ok policy

-- the policy of this name, which a scene names at this place
unfoldable pub policy_at : List NamedPolicy → List ℕ → Place → Step Policy
policy_at store name place = unless_none place (policy_called name store)

-- each policy that is named is there
unfoldable pub references_step : List NamedPolicy → List Reference → Step (Unit {0})
references_step store [] = Ok tt
references_step store (reference ∷ rest) =
    policy_at store reference.name reference.place >>= λ policy. references_step store rest

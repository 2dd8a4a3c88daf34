-- Clients and grants are read, and then looked up among those that there are.
use Rattle.std.proofs.Common.{◌≡◌, Ok}
use Rattle.std.specs.Prelude.{codes, if◌then◌else◌}
use Rattle.serde_json.specs.Data.{Data}
use Rattle.tpol_base.specs.Answers.{◌>>=◌}
use Rattle.tpol_json.specs.Places.{at_member}
use Rattle.tpol_json.specs.declared.place.Place.{Place}
use Rattle.tpol_json.specs.Reading.{bad}
use Rattle.tpol_entities.specs.Members.{needed}
use Rattle.tpol_entities.specs.Targets.{target_in}
use Rattle.tpol_entities.specs.Values.{u32_in}
use Rattle.tpol_entities.specs.declared.entities.Entities.{Entities}
use Rattle.tpol_entities.specs.declared.fault.SceneKind.TheVariants.{NoSuchClient, Twice}
use Rattle.tpol_entities.specs.declared.targets.Target.{Target}
use Rattle.tpol_entities.proofs.BindLemmas.{needed_then}
use Rattle.tpol_scene.specs.Clients.{ClientList, Values, has_value, is_client, listed_client_in, new_client_in, new_target_in}

-- the number of a client is read, and then looked up in the list
pub new_client : (clients : ClientList) (d : Data) (place : Place) → needed (new_client_in clients) (codes "client") d place
    ≡ (needed u32_in (codes "client") d place >>= λ client. if is_client clients client then bad Twice (at_member place (codes "client")) else Ok client)
new_client clients d place = needed_then u32_in (λ client at. if is_client clients client then bad Twice at else Ok client) (codes "client") d place

pub listed_client : (clients : ClientList) (d : Data) (place : Place) → needed (listed_client_in clients) (codes "client") d place
    ≡ (needed u32_in (codes "client") d place >>= λ client. if is_client clients client then Ok client else bad NoSuchClient (at_member place (codes "client")))
listed_client clients d place = needed_then u32_in (λ client at. if is_client clients client then Ok client else bad NoSuchClient at) (codes "client") d place

-- the handle that a path names is found, and then looked up among the values
pub new_target : (entities : Entities) (target : Target) (values : Values) (d : Data) (place : Place) → needed (new_target_in entities target values) (codes "path") d place
    ≡ (needed (target_in entities target) (codes "path") d place >>= λ handle. if has_value values handle then bad Twice (at_member place (codes "path")) else Ok handle)
new_target entities target values d place =
    needed_then (target_in entities target) (λ handle at. if has_value values handle then bad Twice at else Ok handle) (codes "path") d place

-- The clients of a scene, and what each may use.
use Rattle.std.specs.Prelude.{◌==◌, ℕ, Bool, List, [], ◌∷◌, ◌++◌, codes, Ok, if◌then◌else◌}
use Rattle.std.specs.List.{list_any}
use Rattle.serde_json.specs.Data.{Data}
use Rattle.tpol_base.specs.Answers.{◌>>=◌}
use Rattle.tpol_goal.specs.declared.grants.Grants.{Grants}
use Rattle.tpol_json.specs.Values.{is_within_limit}
use Rattle.tpol_json.specs.declared.place.Place.{Place}
use Rattle.tpol_entities.specs.declared.entities.Entities.{Entities}
use Rattle.tpol_entities.specs.declared.targets.Target.{Target}
use Rattle.tpol_entities.specs.declared.targets.Target.TheVariants.{Entity, Object}
use Rattle.tpol_entities.specs.declared.fault.SceneKind.TheVariants.{NoSuchClient, Twice}
use Rattle.tpol_entities.specs.Faults.{Found, read_as}
use Rattle.tpol_json.specs.Reading.{bad}
use Rattle.tpol_entities.specs.Lists.{ItemReading, list_in}
use Rattle.tpol_json.specs.Members.{optional}
use Rattle.tpol_entities.specs.Members.{needed}
use Rattle.tpol_entities.specs.Targets.{target_in}
use Rattle.tpol_entities.specs.Values.{object_in, u32_in, bytes_up_to, auth_in}
use Rattle.tpol_scene.specs.declared.grants.GrantKind.{GrantKind}
use Rattle.tpol_scene.specs.declared.grants.GrantKind.TheVariants.{Secret, Key}

-- values by the handle of the entity that they are for
abbrev pub Values : Type 0
Values = List (ℕ × List ℕ)

abbrev pub has_value : Values → ℕ → Bool
has_value values handle = list_any (λ value. value.0 == handle) values

-- the path of an entity for which no value was granted before
abbrev pub new_target_in : Entities → Target → Values → Data → Place → Found ℕ
new_target_in entities target values d place = do
  handle ← target_in entities target d place
  if has_value values handle then bad Twice place else Ok handle

-- what a grant of each kind is for
abbrev pub grant_target : GrantKind → Target
grant_target Secret = Entity
grant_target Key = Object

-- its value: an authorization value, or an HMAC key
abbrev pub grant_value_in : GrantKind → Data → Place → Found (List ℕ)
grant_value_in Secret d place = optional auth_in [] (codes "auth") d place
grant_value_in Key d place = needed (bytes_up_to 128) (codes "key") d place

-- an item of `secrets` or of `keys`
unfoldable pub grant_in : Entities → GrantKind → ItemReading Values
grant_in entities kind values index d place = do
  is_object ← object_in d place
  handle ← needed (new_target_in entities (grant_target kind) values) (codes "path") d place
  value ← grant_value_in kind d place
  Ok (values ++ (handle, value) ∷ [])

abbrev pub grants_in : Entities → GrantKind → Data → Place → Found Values
grants_in entities kind = list_in (grant_in entities kind) []

-- the clients by their numbers
abbrev pub ClientList : Type 0
ClientList = List (ℕ × Grants)

abbrev pub is_client : ClientList → ℕ → Bool
is_client clients client = list_any (λ listed. listed.0 == client) clients

-- the number of a client that was not listed before
abbrev pub new_client_in : ClientList → Data → Place → Found ℕ
new_client_in clients d place = do
  client ← u32_in d place
  if is_client clients client then bad Twice place else Ok client

-- the number of a client that is listed
abbrev pub listed_client_in : ClientList → Data → Place → Found ℕ
listed_client_in clients d place = do
  client ← u32_in d place
  if is_client clients client then Ok client else bad NoSuchClient place

-- an item of `clients`; one past the 64th is not read
unfoldable pub client_in : Entities → ItemReading ClientList
client_in entities clients index d place = do
  is_within ← read_as (is_within_limit 64 index place)
  is_object ← object_in d place
  client ← needed (new_client_in clients) (codes "client") d place
  secrets ← optional (grants_in entities Secret) [] (codes "secrets") d place
  keys ← optional (grants_in entities Key) [] (codes "keys") d place
  Ok (clients ++ (client, record { secrets = secrets; keys = keys }) ∷ [])

-- a list of clients
abbrev pub clients_in : Entities → Data → Place → Found ClientList
clients_in entities = list_in (client_in entities) []

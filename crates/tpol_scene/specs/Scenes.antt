-- Scenes.
use Rattle.std.specs.Prelude.{◌≡◌, ℕ, ◌^◌, List, [], ◌++◌, codes, true, false, Some, None, Result, Ok, ⊤}
use Rattle.serde_json.specs.Data.{Data}
use Rattle.tpol_base.specs.Answers.{◌>>=◌}
use Rattle.tpol_base.specs.Digest.{zero_digest}
use Rattle.tpol_json.specs.Document.{document_of}
use Rattle.tpol_json.specs.Places.{root}
use Rattle.tpol_json.specs.declared.place.Place.{Place}
use Rattle.tpol_name.specs.declared.entries.IndexEntry.{IndexEntry}
use Rattle.tpol_name.specs.declared.entries.ObjectEntry.{ObjectEntry}
use Rattle.tpol_name.specs.declared.setup.Setup.{Setup}
use Rattle.tpol_entities.specs.declared.entities.Entities.{Entities}
use Rattle.tpol_entities.specs.declared.fault.SceneKind.{SceneKind}
use Rattle.tpol_json.specs.declared.fault.Fault as declared
use Rattle.tpol_entities.specs.Entities.{entity_in, entities_in, no_entities}
use Rattle.tpol_entities.specs.Faults.{Fault, Found, GivesBy, first_of}
use Rattle.tpol_entities.specs.Lists.{faults_of, list_faults, optional_faults, optional_kept}
use Rattle.tpol_json.specs.Members.{optional}
use Rattle.tpol_entities.specs.Pcrs.{pcr_in, pcrs_in, zero_bank}
use Rattle.tpol_entities.specs.Values.{object_in, unsigned_in, u32_in, truth_in, digest_in, auth_in}
use Rattle.tpol_scene.specs.declared.cast.Cast.{Cast}
use Rattle.tpol_scene.specs.declared.fault.SceneFault.{SceneFault}
use Rattle.tpol_scene.specs.declared.fault.SceneFault.TheVariants.{NotJson, Bad, NoMemory}
use Rattle.tpol_scene.specs.declared.start.Authorities.{Authorities}
use Rattle.tpol_scene.specs.declared.start.Start.{Start}
use Rattle.tpol_scene.specs.declared.start.StartRest.{StartRest}
use Rattle.tpol_scene.specs.declared.start.Times.{Times}
use Rattle.tpol_scene.specs.declared.scene.Scene.{Scene}
use Rattle.tpol_scene.specs.declared.script.ScriptEvent.{ScriptEvent}
use Rattle.tpol_scene.specs.Clients.{ClientList, client_in, clients_in}
use Rattle.tpol_scene.specs.Scripts.{event_in, no_events, script_in}

-- the seed of the nonces and the authorization values of the hierarchies
unfoldable pub authorities_in : Data → Place → Found Authorities
authorities_in d place = do
  seed ← optional digest_in zero_digest (codes "seed") d place
  owner ← optional auth_in [] (codes "owner") d place
  endorsement ← optional auth_in [] (codes "endorsement") d place
  lockout ← optional auth_in [] (codes "lockout") d place
  Ok (record { seed = seed; owner = owner; endorsement = endorsement; lockout = lockout })

-- the time in milliseconds
abbrev pub time_in : Data → Place → Found ℕ
time_in = unsigned_in 0 (2 ^ 62)

-- the time, the counts with the `safe` flag, and whether somebody is at the machine
unfoldable pub times_in : Data → Place → Found Times
times_in d place = do
  time ← optional time_in 0 (codes "time") d place
  reset_count ← optional u32_in 0 (codes "resetCount") d place
  restart_count ← optional u32_in 0 (codes "restartCount") d place
  safe ← optional truth_in true (codes "safe") d place
  presence ← optional truth_in false (codes "presence") d place
  Ok (record { time = time; reset_count = reset_count; restart_count = restart_count; safe = safe; presence = presence })

-- the authorities, and what stands behind them
abbrev pub start_with : Authorities → StartRest → Start
start_with authorities rest = record {
  authorities = authorities;
  pcrs = rest.pcrs;
  pcr_counter = rest.pcr_counter;
  times = rest.times;
}

-- what stands behind these authorities
abbrev pub start_behind : Authorities → Data → Place → Found Start
start_behind authorities d place = do
  bank ← optional pcrs_in zero_bank (codes "pcrs") d place
  pcr_counter ← optional u32_in 0 (codes "pcrCounter") d place
  times ← times_in d place
  Ok (start_with authorities (record { pcrs = bank.values; pcr_counter = pcr_counter; times = times }))

-- a call gives what stands behind the authorities, whatever they are
abbrev pub GivesStartRest : Result StartRest (declared.Fault SceneKind) → Data → Place → Type 0
GivesStartRest result d place = (authorities : Authorities) → GivesBy (start_with authorities) result (start_behind authorities d place)

-- what a machine starts from but for its entities
unfoldable pub start_in : Data → Place → Found Start
start_in d place = do
  authorities ← authorities_in d place
  start_behind authorities d place

-- the entities and the clients
unfoldable pub cast_in : Data → Place → Found Cast
cast_in d place = do
  entities ← optional entities_in no_entities (codes "entities") d place
  clients ← optional (clients_in entities) [] (codes "clients") d place
  Ok (record { entities = entities; clients = clients })

-- what a machine starts from
abbrev pub setup_with : Start → List ObjectEntry → List IndexEntry → Setup
setup_with start objects indices = record {
  seed = start.authorities.seed;
  owner = start.authorities.owner;
  endorsement = start.authorities.endorsement;
  lockout = start.authorities.lockout;
  pcrs = start.pcrs;
  pcr_counter = start.pcr_counter;
  objects = objects;
  indices = indices;
  time = start.times.time;
  reset_count = start.times.reset_count;
  restart_count = start.times.restart_count;
  safe = start.times.safe;
  presence = start.times.presence;
}

-- the scene of these parts
abbrev pub scene_with : Start → Cast → List ScriptEvent → Scene
scene_with start cast script = record {
  setup = setup_with start cast.entities.objects cast.entities.indices;
  policies = cast.entities.policies;
  clients = cast.clients;
  script = script;
}

-- the scene that a value stands for, or its first fault; what the policies of entities and runs are called
-- does not matter here
unfoldable pub scene_in : Data → Place → Found Scene
scene_in d place = do
  is_object ← object_in d place
  start ← start_in d place
  cast ← cast_in d place
  front ← optional (script_in cast) no_events (codes "script") d place
  Ok (scene_with start cast front.events)

-- ---- all faults

-- the faults of the members, in reading order
abbrev pub authorities_faults : Data → Place → List Fault
authorities_faults d place =
    faults_of (optional digest_in zero_digest (codes "seed") d place)
    ++ (faults_of (optional auth_in [] (codes "owner") d place)
    ++ (faults_of (optional auth_in [] (codes "endorsement") d place)
    ++ faults_of (optional auth_in [] (codes "lockout") d place)))

abbrev pub times_faults : Data → Place → List Fault
times_faults d place =
    faults_of (optional time_in 0 (codes "time") d place)
    ++ (faults_of (optional u32_in 0 (codes "resetCount") d place)
    ++ (faults_of (optional u32_in 0 (codes "restartCount") d place)
    ++ (faults_of (optional truth_in true (codes "safe") d place)
    ++ faults_of (optional truth_in false (codes "presence") d place))))

abbrev pub start_faults : Data → Place → List Fault
start_faults d place =
    authorities_faults d place
    ++ (optional_faults (list_faults pcr_in zero_bank) (codes "pcrs") d place
    ++ (faults_of (optional u32_in 0 (codes "pcrCounter") d place)
    ++ times_faults d place))

-- the entities and the clients that have no fault, beside which the clients and the events are read
abbrev pub entities_kept : Data → Place → Entities
entities_kept d place = optional_kept entity_in no_entities (codes "entities") d place

abbrev pub clients_kept : Data → Place → ClientList
clients_kept d place = optional_kept (client_in (entities_kept d place)) [] (codes "clients") d place

abbrev pub cast_kept : Data → Place → Cast
cast_kept d place = record { entities = entities_kept d place; clients = clients_kept d place }

abbrev pub cast_faults : Data → Place → List Fault
cast_faults d place =
    optional_faults (list_faults entity_in no_entities) (codes "entities") d place
    ++ optional_faults (list_faults (client_in (entities_kept d place)) []) (codes "clients") d place

abbrev pub script_faults : Data → Place → List Fault
script_faults d place = optional_faults (list_faults (event_in (cast_kept d place)) no_events) (codes "script") d place

-- the faults of a scene in reading order: of each member, or of each item where it is a list, the first
unfoldable pub scene_faults : Data → List Fault
scene_faults d =
    faults_of (object_in d root) ++ (start_faults d root ++ (cast_faults d root ++ script_faults d root))

-- the value has no fault and is read as this scene
pub record StandsForScene (d : Data) (scene : Scene) : Type 0 where
  pub no_fault : scene_faults d ≡ []
  pub value : scene_in d root ≡ Ok scene

-- the document that the bytes write stands for this scene
abbrev pub IsDocumentOf : List ℕ → Scene → Type 0
IsDocumentOf bytes scene = (d : Data) × (document_of bytes ≡ Some d) × StandsForScene d scene

-- the bytes are refused with this fault: they are no JSON text, or it is the first fault of their document
abbrev pub IsFaultOf : List ℕ → SceneFault → Type 0
IsFaultOf bytes NotJson = document_of bytes ≡ None
IsFaultOf bytes (Bad kind place) = (d : Data) × (document_of bytes ≡ Some d) × (first_of (scene_faults d) ≡ Some (kind, place))
IsFaultOf bytes NoMemory = ⊤

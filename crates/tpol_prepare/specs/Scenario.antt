-- Scenes that can be carried out: their policies are filled, and the paths of each policy are within the limits.
use Rattle.std.specs.Prelude.{◌≡◌, ℕ, ◌==◌, ◌≤◌, ⊤, List, [], All, IfSome, IsOk, find, length, map, reverse, Bool, Option, Some, None, Ok}
use Rattle.std.specs.Option.{option_map, unwrap_or}
use Rattle.std.specs.Str.{bytes_eq}
use Rattle.tpm_nv.specs.Indices.{index_of}
use Rattle.tpm_world.specs.Objects.{object_of}
use Rattle.tpol_base.specs.declared.digest.Digest32.{Digest32}
use Rattle.tpol_base.specs.declared.document.Document.{Document}
use Rattle.tpol_digest.specs.Digest.{policy_digest}
use Rattle.tpol_digest.specs.Limits.{AreWithinLimits}
use Rattle.tpol_digest.specs.Paths.{paths_of}
use Rattle.tpol_digest.specs.WellFormed.{HaveBranchCounts, IsWellFormed}
use Rattle.tpol_goal.specs.declared.grants.Grants.{Grants}
use Rattle.tpol_name.specs.declared.setup.Setup.{Setup}
use Rattle.tpol_name.specs.Directories.{directory_of}
use Rattle.tpol_scene.specs.declared.scene.Scene.{Scene}
use Rattle.tpol_scene.specs.declared.script.ScriptEvent.{ScriptEvent}
use Rattle.tpol_scene.specs.declared.script.ScriptEvent.TheVariants.{Command, Begin, Turn, Time, Presence, Reset}
use Rattle.tpol_store.specs.Approvals.{approved_documents}
use Rattle.tpol_store.specs.Stores.{NamedPolicy}
use Rattle.tpol_prepare.specs.declared.entities.CompiledEntity.{CompiledEntity}
use Rattle.tpol_prepare.specs.declared.manner.Manner.{Manner}
use Rattle.tpol_prepare.specs.declared.manner.Way.{Way}
use Rattle.tpol_prepare.specs.declared.manner.Way.TheVariants.{Blind, Sighted, WithTickets}
use Rattle.tpol_prepare.specs.declared.prepared.PreparedScene.{PreparedScene}
use Rattle.tpol_prepare.specs.declared.scenario.Scenario.{Scenario}
use Rattle.tpol_prepare.specs.declared.scenario.StagedScene.{StagedScene}
use Rattle.tpol_prepare.specs.Begins.{begins_step}
use Rattle.tpol_prepare.specs.Entities.{erased_entity}
use Rattle.tpol_prepare.specs.Manner.{way_of}
use Rattle.tpol_prepare.specs.Prepared.{prepared_step}
use Rattle.tpol_steps.specs.declared.filled.FilledDocument.{FilledDocument}
use Rattle.tpol_steps.specs.Filled.{erased_filled}
use Rattle.tpol_steps.specs.Limits.{limits_step, tried_limits_step}
use Rattle.tpol_steps.specs.SceneStep.{scene_of_bytes}
use Rattle.tpol_steps.specs.Steps.{Step, ◌>>=◌}
use Rattle.tpol_steps.specs.StoreStep.{store_step}
use Rattle.tpol_tree.specs.ClosedErased.{erased_document}
use Rattle.tpol_tree.specs.declared.closed.Closed.{Closed}
use Rattle.tpol_tree.specs.declared.path.ApprovedDoc.{ApprovedDoc}
use Rattle.tpol_tree.specs.declared.path.Path.{Path}

-- ---- what a scenario has

abbrev pub is_document : List ℕ → FilledDocument → Bool
is_document name document = bytes_eq document.name name

abbrev pub paths_in : List ApprovedDoc → Option FilledDocument → List Path
paths_in approvals None = []
paths_in approvals (Some document) = paths_of document.closed approvals

-- the paths of the policy of this name, which the script begins
unfoldable pub paths_named : Scenario → List ℕ → List Path
paths_named scenario name = paths_in scenario.approvals (find (is_document name) scenario.begun)

-- the policy of the entity of a handle, where the scene names it; no two entities have one handle
abbrev pub is_entity : ℕ → CompiledEntity → Bool
is_entity handle entity = entity.handle == handle

abbrev pub policy_of_entity : List CompiledEntity → ℕ → Option Closed
policy_of_entity entities handle = option_map (λ entity. entity.document.closed) (find (is_entity handle) (reverse entities))

-- what a client may use; nothing where it is not listed
abbrev pub no_grants : Grants
no_grants = record { secrets = []; keys = [] }

abbrev pub is_client : ℕ → ℕ × Grants → Bool
is_client number client = client.0 == number

abbrev pub grants_of : List (ℕ × Grants) → ℕ → Grants
grants_of clients number = unwrap_or (option_map (λ client. client.1) (find (is_client number) clients)) no_grants

-- ---- the steps to it

abbrev pub entity_document : CompiledEntity → FilledDocument
entity_document entity = entity.document

abbrev pub scenario_with : Manner → Scene → PreparedScene → List ApprovedDoc → StagedScene
scenario_with manner scene prepared approvals = record {
  setup = prepared.setup;
  scenario = record {
    manner = manner;
    seed = prepared.setup.seed;
    directory = directory_of prepared.setup;
    entities = prepared.entities;
    begun = prepared.begun;
    approvals = approvals;
    clients = scene.clients;
  };
  script = scene.script;
}

-- the paths of policies that a script begins are within the limits, by how its runs are driven
abbrev pub begun_limits : Way → List ApprovedDoc → List FilledDocument → Step (Unit {0})
begun_limits Sighted approvals begun = limits_step approvals begun
begun_limits Blind approvals begun = tried_limits_step approvals begun
begun_limits WithTickets approvals begun = limits_step approvals begun

-- the paths of the policies of its entities, and then of those that its script begins, are within the limits
unfoldable pub limited_step : Way → PreparedScene → List ApprovedDoc → Step (Unit {0})
limited_step way prepared approvals =
    limits_step approvals (map entity_document prepared.entities) >>= λ entities_are. begun_limits way approvals prepared.begun

unfoldable pub staged_by : Manner → Scene → PreparedScene → List ApprovedDoc → Step StagedScene
staged_by manner scene prepared approvals =
    limited_step (way_of manner) prepared approvals >>= λ within. Ok (scenario_with manner scene prepared approvals)

-- the scene with the policies of a store
unfoldable pub staged_with : Manner → Scene → List NamedPolicy → Step StagedScene
staged_with manner scene store =
    prepared_step store scene >>= λ prepared.
    staged_by manner scene prepared (approved_documents store (Some prepared.sight))

-- the scene with the policies of the shelf
abbrev pub staged_from : Manner → Scene → List Document → Step StagedScene
staged_from manner scene all = store_step all >>= λ store. staged_with manner scene store

-- the bytes are the document of a scene, whose script begins no more runs than may be driven so
abbrev pub IsSceneFor : Manner → List ℕ → Type 0
IsSceneFor manner input = IsOk (scene_of_bytes input >>= λ scene. begins_step (way_of manner) scene.script)

-- the scene that the bytes are the document of, with the policies of the shelf
unfoldable pub staged_step : Manner → List ℕ → List Document → Step StagedScene
staged_step manner input all = do
  scene ← scene_of_bytes input
  few ← begins_step (way_of manner) scene.script
  store ← store_step all
  staged_with manner scene store

-- ---- what holds of it

-- the paths of a policy can be walked
pub record IsWalkable (approvals : List ApprovedDoc) (closed : Closed) : Type 0 where
  pub branches : HaveBranchCounts closed approvals
  pub well_formed : IsWellFormed closed approvals
  pub within : AreWithinLimits (paths_of closed approvals)

-- it has at most 64 paths
abbrev pub HasFewPaths : List ApprovedDoc → FilledDocument → Type 0
HasFewPaths approvals document = length (paths_of document.closed approvals) ≤ 64

-- the entity of a handle, if there is one, has this digest as its authPolicy
abbrev pub HasPolicyAt : Setup → ℕ → Digest32 → Type 0
HasPolicyAt setup handle digest =
    IfSome (object_of handle setup.objects) (λ object. object.public.auth_policy ≡ digest.bytes)
    × IfSome (index_of handle setup.indices) (λ index. index.public.auth_policy ≡ digest.bytes)

-- the entities whose policies are named have the digests of these as their authPolicies
abbrev pub HavePolicies : Setup → List CompiledEntity → Type 0
HavePolicies setup entities =
    (handle : ℕ) → IfSome (policy_of_entity entities handle) (λ closed. HasPolicyAt setup handle (policy_digest closed))

-- a scenario of a machine that starts from this setup: the paths of all its policies can be walked, those that blind
-- runs try are at most 64, and entities have the digests of their policies
pub record IsScenarioOf (setup : Setup) (scenario : Scenario) : Type 0 where
  pub entities : All (λ entity. IsWalkable scenario.approvals entity.document.closed) scenario.entities
  pub begun : All (λ document. IsWalkable scenario.approvals document.closed) scenario.begun
  pub few : way_of scenario.manner ≡ Blind → All (HasFewPaths scenario.approvals) scenario.begun
  pub policies : HavePolicies setup scenario.entities

-- an event that can happen: its locality is one of five, and its turns are at most 2,000
abbrev pub CanHappen : ScriptEvent → Type 0
CanHappen (Command client locality buffer) = locality ≤ 4
CanHappen (Begin run client locality policy place goal) = locality ≤ 4
CanHappen (Turn run times) = IfSome times (λ n. n ≤ 2000)
CanHappen (Time ms) = ⊤
CanHappen (Presence on) = ⊤
CanHappen Reset = ⊤

-- ---- whichever memory the policies lie in

abbrev pub erased_scenario : Scenario → Scenario
erased_scenario scenario = record scenario {
  entities = map erased_entity scenario.entities;
  begun = map erased_filled scenario.begun;
  approvals = map erased_document scenario.approvals;
}

abbrev pub erased_staged : StagedScene → StagedScene
erased_staged staged = record staged { scenario = erased_scenario staged.scenario }

-- what is staged of a scene with its policies, filled, and what is approved, beside something else
abbrev pub staged_of : {A : Type 0} → Manner → Scene → PreparedScene × (List ApprovedDoc × A) → StagedScene
staged_of manner scene policies = erased_staged (scenario_with manner scene policies.0 policies.1.0)

-- What holds of each scene that is read.
use Rattle.std.specs.Prelude.{⊤, ℕ, ◌+◌, ◌^◌, ◌≤◌, ◌<◌, nat_eq, List, [], ◌∷◌, ◌++◌, length, map, All, Contains, IfSome}
use Rattle.std.specs.List.{IsDistinct}
use Rattle.tpol_goal.specs.declared.goal.Goal.{Goal}
use Rattle.tpol_goal.specs.Goals.{HasShortOffset, IsGoal, IsGoalAmong}
use Rattle.tpol_goal.specs.Grants.{IsGrants}
use Rattle.tpol_entities.specs.Places.{StandsBehind}
use Rattle.tpol_scene.specs.declared.scene.Scene.{Scene}
use Rattle.tpol_scene.specs.declared.script.ScriptEvent.{ScriptEvent}
use Rattle.tpol_scene.specs.declared.script.ScriptEvent.TheVariants.{Command, Begin, Turn, Time, Presence, Reset}
use Rattle.tpol_scene.specs.Clients.{ClientList}
use Rattle.tpol_scene.specs.Scripts.{begun_run, begun_runs}

-- ---- where the entities stand whose policy is named

abbrev pub HasPlaces : Scene → Type 0
HasPlaces scene = All (StandsBehind scene.setup.objects scene.setup.indices) scene.policies

-- ---- limits

-- at most 256 entities, 64 clients, 4,096 events and 256 runs
pub record HasLimits (scene : Scene) : Type 0 where
  pub entities : length scene.setup.objects + length scene.setup.indices ≤ 256
  pub clients : length scene.clients ≤ 64
  pub events : length scene.script ≤ 4096
  pub runs : length (begun_runs scene.script) ≤ 256

-- ---- clients

-- no client is listed twice, and each has grants whose values fit into commands
pub record AreClients (clients : ClientList) : Type 0 where
  pub numbers : IsDistinct nat_eq (map (λ client. client.0) clients)
  pub grants : All (λ client. IsGrants client.1) clients

abbrev pub HasClients : Scene → Type 0
HasClients scene = AreClients scene.clients

-- ---- events

-- a run that begins behind these runs: its number is new, its client is one of these clients, and its goal fits
-- into a command on one of these objects or indices
pub record BeginsRun (objects indices clients runs : List ℕ) (run client locality : ℕ) (goal : Goal) : Type 0 where
  pub number : 1 ≤ run
  pub greatest : run < 2 ^ 16
  pub is_new : Contains runs run → ⊥
  pub listed : Contains clients client
  pub four_localities : locality ≤ 4
  pub fits : IsGoal goal
  pub offset : HasShortOffset goal
  pub among : IsGoalAmong objects indices goal

-- an event that stands behind those that begin these runs
abbrev pub IsEventBehind : List ℕ → List ℕ → List ℕ → List ℕ → ScriptEvent → Type 0
IsEventBehind objects indices clients runs (Command client locality buffer) = locality ≤ 4
IsEventBehind objects indices clients runs (Begin run client locality policy place goal) =
    BeginsRun objects indices clients runs run client locality goal
IsEventBehind objects indices clients runs (Turn run times) =
    Contains runs run × IfSome times (λ n. (1 ≤ n) × (n ≤ 2000))
IsEventBehind objects indices clients runs (Time ms) = ms < 2 ^ 32
IsEventBehind objects indices clients runs (Presence on) = ⊤
IsEventBehind objects indices clients runs Reset = ⊤

-- each event behind these runs and those that the events before it begin
unfoldable pub AreEventsBehind : List ℕ → List ℕ → List ℕ → List ℕ → List ScriptEvent → Type 0
AreEventsBehind objects indices clients runs [] = ⊤
AreEventsBehind objects indices clients runs (event ∷ events) =
    IsEventBehind objects indices clients runs event
    × AreEventsBehind objects indices clients (runs ++ begun_run event) events

-- the script of a scene: runs are begun once, by clients that are listed, for goals on the scene's entities, and
-- have their turns behind that
abbrev pub HasScript : Scene → Type 0
HasScript scene =
    AreEventsBehind (map (λ o. o.handle) scene.setup.objects) (map (λ i. i.public.index) scene.setup.indices)
    (map (λ client. client.0) scene.clients) [] scene.script

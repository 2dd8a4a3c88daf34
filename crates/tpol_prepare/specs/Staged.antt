-- What holds of each scene that is staged.
use Rattle.std.specs.Prelude.{◌≡◌, ℕ, List, [], All, map}
use Rattle.tpol_goal.specs.declared.grants.Grants.{Grants}
use Rattle.tpol_goal.specs.Grants.{IsGrants}
use Rattle.tpol_name.specs.declared.setup.Setup.{Setup}
use Rattle.tpol_name.specs.Directories.{directory_of}
use Rattle.tpol_name.specs.Setups.{IsSetup}
use Rattle.tpol_scene.specs.Conditions.{AreEventsBehind}
use Rattle.tpol_scene.specs.declared.script.ScriptEvent.{ScriptEvent}
use Rattle.tpol_prepare.specs.declared.scenario.StagedScene.{StagedScene}
use Rattle.tpol_prepare.specs.Scenario.{IsScenarioOf}
use Rattle.tpol_tree.specs.Bounds.{HasClosedBounds}

-- a script over the entities of this setup, whose runs these clients begin
abbrev pub IsScriptOf : Setup → List (ℕ × Grants) → List ScriptEvent → Type 0
IsScriptOf setup clients script =
    AreEventsBehind (map (λ o. o.handle) setup.objects) (map (λ i. i.public.index) setup.indices)
    (map (λ client. client.0) clients) [] script

-- A scene that can be carried out: its machine starts from the setup of a scene, the scenario is one of this setup
-- and has its directory, the policies of its entities, those that its script begins and the approvals are within the
-- bounds of the wire, each client has grants whose values fit into commands, and the script begins each run once, for a
-- goal on the scene's entities.
pub record IsStaged (staged : StagedScene) : Type 0 where
  pub setup : IsSetup staged.setup
  pub scenario : IsScenarioOf staged.setup staged.scenario
  pub directory : staged.scenario.directory ≡ directory_of staged.setup
  pub entities : All (λ entity. HasClosedBounds entity.document.closed) staged.scenario.entities
  pub begun : All (λ document. HasClosedBounds document.closed) staged.scenario.begun
  pub approvals : All (λ document. HasClosedBounds document.closed) staged.scenario.approvals
  pub grants : All (λ client. IsGrants client.1) staged.scenario.clients
  pub script : IsScriptOf staged.setup staged.scenario.clients staged.script

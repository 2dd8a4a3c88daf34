-- What a scene meets that is read.
use Rattle.std.proofs.Common.{ℕ, List, [], length, ap, arith}
use Rattle.std.specs.Prelude.{⊤, codes}
use Rattle.serde_json.specs.Data.{Data}
use Rattle.tpol_json.proofs.AllFound.{AllFound, all_then}
use Rattle.tpol_json.specs.declared.place.Place.{Place}
use Rattle.tpol_name.specs.Setups.{IsSetup}
use Rattle.tpol_entities.specs.Entities.{entities_in, no_entities}
use Rattle.tpol_json.specs.Members.{optional}
use Rattle.tpol_entities.specs.Values.{object_in}
use Rattle.tpol_entities.specs.declared.entities.Entities.{Entities}
use Rattle.tpol_entities.proofs.EntryLemmas.{Entered}
use Rattle.tpol_entities.proofs.PlaceLemmas.{IsCounted, entities_counted}
use Rattle.tpol_entities.proofs.EntityLemmas.{entities_ok}
use Rattle.tpol_entities.proofs.ValueLemmas.{any_ok, both_ok}
use Rattle.tpol_scene.specs.Clients.{clients_in}
use Rattle.tpol_scene.specs.Conditions.{HasClients, HasLimits, HasPlaces, HasScript}
use Rattle.tpol_scene.specs.Scenes.{cast_in, scene_in, scene_with, start_in}
use Rattle.tpol_scene.specs.Scripts.{no_events, script_in}
use Rattle.tpol_scene.specs.declared.cast.Cast.{Cast}
use Rattle.tpol_scene.specs.declared.scene.Scene.{Scene}
use Rattle.tpol_scene.specs.declared.script.ScriptFront.{ScriptFront}
use Rattle.tpol_scene.specs.declared.start.Start.{Start}
use Rattle.tpol_scene.proofs.ClientLemmas.{AreFewClients, clients_ok}
use Rattle.tpol_scene.proofs.ScriptLemmas.{IsScriptOf, script_ok}
use Rattle.tpol_scene.proofs.SetupLemmas.{StartFits, start_ok}

-- the entities meet what the machine asks, stand in their places and are few
abbrev EntitiesFit : Entities → Type 0
EntitiesFit entities = Entered entities × IsCounted entities

record CastFits (cast : Cast) : Type 0 where
  pub entities : EntitiesFit cast.entities
  pub clients : AreFewClients cast.clients

cast_ok : (d : Data) (place : Place) → AllFound CastFits (cast_in d place)
unfolding cast_in
cast_ok d place =
    all_then EntitiesFit CastFits (optional entities_in no_entities (codes "entities") d place) _
    (both_ok Entered IsCounted (optional entities_in no_entities (codes "entities") d place) (entities_ok d place) (entities_counted d place)) (λ entities fit.
    all_then AreFewClients CastFits (optional (clients_in entities) [] (codes "clients") d place) _ (clients_ok entities d place) (λ clients few.
    record { entities = fit; clients = few }))

pub record SceneFits (scene : Scene) : Type 0 where
  pub setup : IsSetup scene.setup
  pub places : HasPlaces scene
  pub limits : HasLimits scene
  pub clients : HasClients scene
  pub script : HasScript scene

parts_fit : (start : Start) (cast : Cast) (front : ScriptFront) → StartFits start → CastFits cast → IsScriptOf cast front
    → SceneFits (scene_with start cast front.events)
parts_fit start cast front of_start of_cast of_script =
    let counted = of_cast.entities.1.1 in
    let few = of_cast.clients.1 in
    let script = of_script.1 in
    record {
      setup = record {
        owner = of_start.owner;
        endorsement = of_start.endorsement;
        lockout = of_start.lockout;
        pcrs = of_start.whole;
        time = of_start.early;
        entities = of_cast.entities.0;
      };
      places = counted.placed;
      limits = record {
        entities = omega (arith, counted.count, counted.few);
        clients = omega (arith, few.count, few.few);
        events = omega (arith, script.count, script.few);
        runs = omega (arith, ap (λ (runs : List ℕ). length runs) script.runs, script.few_runs);
      };
      clients = few.fit;
      script = script.stand;
    }

pub scene_ok : (d : Data) (place : Place) → AllFound SceneFits (scene_in d place)
unfolding scene_in
scene_ok d place =
    all_then (λ _. ⊤) SceneFits (object_in d place) _ (any_ok _) (λ is_object _.
    all_then StartFits SceneFits (start_in d place) _ (start_ok d place) (λ start of_start.
    all_then CastFits SceneFits (cast_in d place) _ (cast_ok d place) (λ cast of_cast.
    all_then (IsScriptOf cast) SceneFits (optional (script_in cast) no_events (codes "script") d place) _ (script_ok cast d place) (λ front of_script.
    parts_fit start cast front of_start of_cast of_script))))

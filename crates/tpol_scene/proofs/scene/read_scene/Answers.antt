use Rattle.serde_json.specs.View.{view}
use Rattle.tpol_scene.proofs.ReadLemmas.{fits, is_fault, stands}
use Rattle.tpol_scene.proofs.scene.read_scene.Goals as goal

pub returns-in-Ok-scene_of-clause-scene : goal.returns-in-Ok-scene_of-clause-scene
returns-in-Ok-scene_of-clause-scene c =
    stands c.args.bytes.now (view c.in-Ok.value) _ c.in-Ok.ensures.value (rw (c.at.ensures, c.root-root.ensures) at c.in-Ok-scene_of.ensures)

pub returns-in-Ok-scene_of-clause-setup : goal.returns-in-Ok-scene_of-clause-setup
returns-in-Ok-scene_of-clause-setup c =
    (fits (view c.in-Ok.value) _ (rw (c.at.ensures, c.root-root.ensures) at c.in-Ok-scene_of.ensures)).setup

pub returns-in-Ok-scene_of-clause-places : goal.returns-in-Ok-scene_of-clause-places
returns-in-Ok-scene_of-clause-places c =
    (fits (view c.in-Ok.value) _ (rw (c.at.ensures, c.root-root.ensures) at c.in-Ok-scene_of.ensures)).places

pub returns-in-Ok-scene_of-clause-limits : goal.returns-in-Ok-scene_of-clause-limits
returns-in-Ok-scene_of-clause-limits c =
    (fits (view c.in-Ok.value) _ (rw (c.at.ensures, c.root-root.ensures) at c.in-Ok-scene_of.ensures)).limits

pub returns-in-Ok-scene_of-clause-clients : goal.returns-in-Ok-scene_of-clause-clients
returns-in-Ok-scene_of-clause-clients c =
    (fits (view c.in-Ok.value) _ (rw (c.at.ensures, c.root-root.ensures) at c.in-Ok-scene_of.ensures)).clients

pub returns-in-Ok-scene_of-clause-script : goal.returns-in-Ok-scene_of-clause-script
returns-in-Ok-scene_of-clause-script c =
    (fits (view c.in-Ok.value) _ (rw (c.at.ensures, c.root-root.ensures) at c.in-Ok-scene_of.ensures)).script

pub returns-in-Err-Bad-clause-refused : goal.returns-in-Err-Bad-clause-refused
returns-in-Err-Bad-clause-refused c =
    is_fault c.args.bytes.now (view c.in-Ok.value) _ _ c.in-Ok.ensures.value (rw (c.at.ensures, c.root-root.ensures, c.in-Err-Bad.field-0-is) at c.in-Err-Bad.ensures)

-- Reading the members of an object, with the faults of a scene.
use Rattle.std.specs.Prelude.{ℕ, List, Option}
use Rattle.serde_json.specs.Data.{Data}
use Rattle.tpol_json.specs.Members as json
use Rattle.tpol_json.specs.declared.place.Place.{Place}
use Rattle.tpol_entities.specs.Faults.{Found}
use Rattle.tpol_entities.specs.declared.fault.SceneKind.TheVariants.{Missing}

module _ {A : Type 0} where
  abbrev pub read_needed : (Data → Place → Found A) → Option Data → Place → Found A
  read_needed = json.read_needed Missing

  -- a member that has to be there
  abbrev pub needed : (Data → Place → Found A) → List ℕ → Data → Place → Found A
  needed = json.needed Missing

-- Places in a document, as lists of steps from its root.
use Rattle.std.specs.Prelude.{ℕ, List, [], ◌∷◌, ◌++◌}
use Rattle.tpol_json.specs.declared.place.Place.{Place}
use Rattle.tpol_json.specs.declared.place.PlaceStep.{PlaceStep}
use Rattle.tpol_json.specs.declared.place.PlaceStep.TheVariants.{Member, Item}

-- the document itself
abbrev pub root : Place
root = record { steps = [] }

-- one step further
abbrev pub at_step : Place → PlaceStep → Place
at_step place step = record { steps = place.steps ++ step ∷ [] }

-- the member of that name of what stands at the place
abbrev pub at_member : Place → List ℕ → Place
at_member place name = at_step place (Member name)

-- the item of that position, counted from 0, of the list that stands at the place
abbrev pub at_item : Place → ℕ → Place
at_item place index = at_step place (Item index)

-- How many runs a script begins. A blind run has many commands, so where runs are blind the script begins at most eight.
use Rattle.std.specs.Prelude.{ℕ, ◌+◌, List, [], ◌∷◌, codes, slice_get, Bool, true, false, Option, Some, None, Ok, Err, if◌then◌else◌}
use Rattle.tpol_json.specs.declared.place.Place.{Place}
use Rattle.tpol_json.specs.Places.{at_item, at_member, root}
use Rattle.tpol_prepare.specs.declared.manner.Way.{Way}
use Rattle.tpol_prepare.specs.declared.manner.Way.TheVariants.{Blind, Sighted, WithTickets}
use Rattle.tpol_scene.specs.declared.script.ScriptEvent.{ScriptEvent}
use Rattle.tpol_scene.specs.declared.script.ScriptEvent.TheVariants.{Begin}
use Rattle.tpol_steps.specs.Refusals.{bad_scene}
use Rattle.tpol_steps.specs.Steps.{Step}

abbrev pub is_begin : ScriptEvent → Bool
is_begin (Begin run client locality policy place goal) = true
is_begin _ = false

-- the indices of the events that begin runs, in a script whose first event has this index
abbrev pub begins_from : ℕ → List ScriptEvent → List ℕ
begins_from index [] = []
begins_from index (event ∷ rest) =
    if is_begin event then index ∷ begins_from (index + 1) rest else begins_from (index + 1) rest

-- the index of the ninth of them, counted from 0
abbrev pub ninth_begin : List ScriptEvent → Option ℕ
ninth_begin script = slice_get (begins_from 0 script) 8

-- where the event of an index stands in the scene
abbrev pub event_place : ℕ → Place
event_place index = at_item (at_member root (codes "script")) index

abbrev pub unless_ninth : Option ℕ → Step (Unit {0})
unless_ninth None = Ok tt
unless_ninth (Some index) = Err (bad_scene (codes "TooMany") (event_place index))

-- the script begins no more runs than may be driven so
abbrev pub begins_step : Way → List ScriptEvent → Step (Unit {0})
begins_step Sighted script = Ok tt
begins_step Blind script = unless_ninth (ninth_begin script)
begins_step WithTickets script = Ok tt

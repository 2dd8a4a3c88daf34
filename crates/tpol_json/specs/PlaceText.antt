-- How a place is written: `policy[0].branches[1].policy[2].code`.
use Rattle.std.specs.Prelude.{ℕ, List, [], ◌∷◌, ◌++◌, codes, decimal, Bool, true, false, ◌&&◌, ◌||◌, ◌==◌, nat_lt, length, if◌then◌else◌}
use Rattle.std.specs.Char.{is_ascii_alphanumeric}
use Rattle.std.specs.List.{list_all}
use Rattle.json.specs.Print.{quoted}
use Rattle.tpol_json.specs.declared.place.Place.{Place}
use Rattle.tpol_json.specs.declared.place.PlaceStep.{PlaceStep}
use Rattle.tpol_json.specs.declared.place.PlaceStep.TheVariants.{Member, Item}

-- `A-Z a-z 0-9 _ -`
abbrev pub is_plain : ℕ → Bool
is_plain c = is_ascii_alphanumeric c || (c == 95 || c == 45)

-- a name of plain characters, one at least, is written as it is, and any other as a JSON text
abbrev pub name_text : List ℕ → List ℕ
name_text name = if nat_lt 0 (length name) && list_all is_plain name then name else quoted name

-- a name that stands later than first has a point in front; items count from 0
abbrev pub step_text : Bool → PlaceStep → List ℕ
step_text later (Member name) = (if later then codes "." else []) ++ name_text name
step_text later (Item index) = codes "[" ++ decimal index ++ codes "]"

unfoldable pub steps_text : Bool → List PlaceStep → List ℕ
steps_text later [] = []
steps_text later (step ∷ steps) = step_text later step ++ steps_text true steps

-- the document itself is `$`
abbrev pub text_of_steps : List PlaceStep → List ℕ
text_of_steps [] = codes "$"
text_of_steps (step ∷ steps) = steps_text false (step ∷ steps)

abbrev pub text_of_place : Place → List ℕ
text_of_place place = text_of_steps place.steps

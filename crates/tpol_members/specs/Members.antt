-- Reading the members of an object, with the faults of a policy.
use Rattle.std.specs.Prelude.{ℕ, suc, List, [], ◌∷◌, ◌++◌, drop, get_or, Option, Some, None, Ok, Err, ⊤}
use Rattle.serde_json.specs.Data.{Data}
use Rattle.serde_json.specs.Find.{get}
use Rattle.tpol_base.specs.Answers.{◌>>=◌}
use Rattle.tpol_json.specs.declared.place.Place.{Place}
use Rattle.tpol_json.specs.Places.{at_member}
use Rattle.tpol_json.specs.Members as json
use Rattle.tpol_json.specs.Values as values
use Rattle.tpol_members.specs.declared.fault.PolicyKind.TheVariants.{Missing, Twice}
use Rattle.tpol_members.specs.declared.walk.Walk.{Walk}
use Rattle.tpol_members.specs.Faults.{Fault, Found, read_as}

-- an object is wanted
abbrev pub object_in : Data → Place → Found ⊤
object_in d place = read_as (values.object_in d place)

module _ {A : Type 0} where
  abbrev pub read_needed : (Data → Place → Found A) → Option Data → Place → Found A
  read_needed = json.read_needed Missing

  -- a member that has to be there
  abbrev pub needed : (Data → Place → Found A) → List ℕ → Data → Place → Found A
  needed = json.needed Missing

-- none of these members may be there: the first that is comes a second time
abbrev pub without : List (List ℕ) → Data → Place → Found ⊤
without = json.without Twice

-- where none of several members is there, the first one is Missing
abbrev pub none_of : List (List ℕ) → Place → Fault
none_of names place = (Missing, at_member place (get_or names 0 []))

abbrev pub there_or : Option Data → ℕ → List ℕ → Found (ℕ × Data × List ℕ) → Found (ℕ × Data × List ℕ)
there_or None position name later = later
there_or (Some d) position name later = Ok (position, d, name)

-- the first of these members that is there: its position, counted from this one on, what it says, and its name
abbrev pub first_from : ℕ → List (List ℕ) → Fault → Data → Found (ℕ × Data × List ℕ)
first_from position [] missing d = Err missing
first_from position (name ∷ names) missing d = there_or (get name d) position name (first_from (suc position) names missing d)

-- the same among all of them
abbrev pub first_of : List (List ℕ) → Data → Place → Found (ℕ × Data × List ℕ)
first_of names d place = first_from 0 names (none_of names place) d

-- One of several members, each read by its position among them, counted from 0: the first that is there, read
-- whole, and then none of the later ones, of which the first that is there is Twice at its own place.
abbrev pub one_of : {A : Type 0} → List (List ℕ) → (ℕ → Data → Place → Found A) → Data → Place → Found A
one_of names read d place = do
  first ← first_of names d place
  x ← read first.0 first.1 (at_member place first.2)
  alone ← without (drop (suc first.0) names) d place
  Ok x

-- the walk with the unknown members noted
unfoldable pub noted : List (List ℕ) → Data → Place → Walk → Walk
noted known d place walk = record walk { notes = walk.notes ++ json.unknown known d place }

-- What a call that fills answers: the value where no place is at fault, else the first fault.
use Rattle.std.specs.Prelude.{◌≡◌, ℕ, ◌+◌, List, [], ◌∷◌, ◌++◌, Option, Some, None, Result, Ok, Err, slice_get}
use Rattle.tpol_base.specs.Answers.{IsRefusal}
use Rattle.tpol_fill.specs.declared.fault.FillFault.{FillFault}
use Rattle.tpol_fill.specs.declared.fault.FillFault.TheVariants.{Bad, NoMemory}
use Rattle.tpol_fill.specs.declared.fault.FillKind.{FillKind}
use Rattle.tpol_json.specs.declared.place.Place.{Place}

-- what is wrong, and at which place
abbrev pub Fault : Type 0
Fault = FillKind × Place

-- the fault that a call tells; none where memory ran out
abbrev pub cause : FillFault → Option Fault
cause (Bad kind place) = Some (kind, place)
cause NoMemory = None

-- the first of these faults
abbrev pub first_of : List Fault → Option Fault
first_of faults = slice_get faults 0

-- a fault that a call answers is the first of these, unless memory ran out
abbrev pub IsFirst : List Fault → FillFault → Type 0
IsFirst faults fault = IsRefusal (cause fault) (first_of faults)

-- the call answers a value with this property where there is no fault, else the first fault
abbrev pub Fills : {A : Type 0} → List Fault → (A → Type 0) → Result A FillFault → Type 0
Fills faults P (Ok value) = (faults ≡ []) × P value
Fills faults P (Err fault) = IsFirst faults fault

-- no fault where there is a value, else this one
abbrev pub faults_of : {A : Type 0} → Result A FillKind → Place → List Fault
faults_of (Ok value) place = []
faults_of (Err kind) place = (kind, place) ∷ []

-- the faults of the items of a list, in order, from the item n on
abbrev pub each_fault : {A : Type 0} → (ℕ → A → List Fault) → ℕ → List A → List Fault
each_fault faults n [] = []
each_fault faults n (item ∷ rest) = faults n item ++ each_fault faults (n + 1) rest

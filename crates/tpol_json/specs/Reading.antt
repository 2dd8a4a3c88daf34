-- What a part of a document says: a thing, or what is wrong with it and where.
use Rattle.std.specs.Prelude.{Option, Some, None, Result, Ok, Err}
use Rattle.tpol_base.specs.Answers as answers
use Rattle.tpol_json.specs.declared.fault.Fault.{Fault}
use Rattle.tpol_json.specs.declared.fault.Fault.TheVariants.{Bad, NoMemory}
use Rattle.tpol_json.specs.declared.place.Place.{Place}

-- a thing, or a kind of fault with its place
abbrev pub ReadAs : Type 0 → Type 0 → Type 0
ReadAs Kind A = Result A (Kind × Place)

abbrev pub bad : {Kind A : Type 0} → Kind → Place → ReadAs Kind A
bad kind place = Err (kind, place)

-- what was read, with its fault of another kind
abbrev pub read_as : {Kind Other A : Type 0} → (Kind → Other) → ReadAs Kind A → ReadAs Other A
read_as kind_of (Ok x) = Ok x
read_as kind_of (Err fault) = Err (kind_of fault.0, fault.1)

-- a call's fault, of another kind
abbrev pub fault_of : {Kind Other : Type 0} → (Kind → Other) → Fault Kind → Fault Other
fault_of kind_of (Bad kind place) = Bad (kind_of kind) place
fault_of kind_of NoMemory = NoMemory

-- the fault that a call tells, none for memory
abbrev pub cause : {Kind : Type 0} → Fault Kind → Option (Kind × Place)
cause (Bad kind place) = Some (kind, place)
cause NoMemory = None

-- a call gives what the reading is, unless memory runs out
abbrev pub Gives : {Kind A : Type 0} → Result A (Fault Kind) → ReadAs Kind A → Type 0
Gives = answers.Gives (λ x. x) cause

-- What a part of a scene says, or what is wrong in it first and where.
use Rattle.std.specs.Prelude.{Option, List, Result, slice_get}
use Rattle.tpol_base.specs.Answers as answers
use Rattle.tpol_json.specs.declared.fault.Fault as declared
use Rattle.tpol_json.specs.declared.fault.MemberKind.{MemberKind}
use Rattle.tpol_json.specs.declared.fault.MemberKind.TheVariants as kinds
use Rattle.tpol_json.specs.declared.place.Place.{Place}
use Rattle.tpol_json.specs.Reading as json
use Rattle.tpol_entities.specs.declared.fault.SceneKind.{SceneKind}
use Rattle.tpol_entities.specs.declared.fault.SceneKind.TheVariants.{Missing, WrongKind, BadHex, BadNumber, Twice, TooMany}

-- what is wrong, and where
abbrev pub Fault : Type 0
Fault = SceneKind × Place

abbrev pub Found : Type 0 → Type 0
Found A = json.ReadAs SceneKind A

abbrev pub kind_of : MemberKind → SceneKind
kind_of kinds.Missing = Missing
kind_of kinds.WrongKind = WrongKind
kind_of kinds.BadHex = BadHex
kind_of kinds.BadNumber = BadNumber
kind_of kinds.Twice = Twice
kind_of kinds.TooMany = TooMany

-- what a member says, with its faults as those of a scene
abbrev pub read_as : {A : Type 0} → json.ReadAs MemberKind A → Found A
read_as = json.read_as kind_of

-- a call gives what the reading is, where its value stands for what is read
abbrev pub GivesBy : {X A : Type 0} → (X → A) → Result X (declared.Fault SceneKind) → Found A → Type 0
GivesBy view = answers.Gives view json.cause

-- the same of a call that leaves what is read in one of its arguments
abbrev pub Leaves : {A U : Type 0} → Result U (declared.Fault SceneKind) → A → Found A → Type 0
Leaves result left = answers.Gives (λ _. left) json.cause result

-- the first of these faults
abbrev pub first_of : List Fault → Option Fault
first_of faults = slice_get faults 0

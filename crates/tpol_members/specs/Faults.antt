-- What a part of a policy document says, or what is wrong in it first and where.
use Rattle.tpol_json.specs.declared.fault.MemberKind.{MemberKind}
use Rattle.tpol_json.specs.declared.fault.MemberKind.TheVariants as kinds
use Rattle.tpol_json.specs.declared.place.Place.{Place}
use Rattle.tpol_json.specs.Reading as json
use Rattle.tpol_members.specs.declared.fault.PolicyKind.{PolicyKind}
use Rattle.tpol_members.specs.declared.fault.PolicyKind.TheVariants.{Missing, WrongKind, BadHex, BadNumber, Twice, TooMany}

-- what is wrong, and where
abbrev pub Fault : Type 0
Fault = PolicyKind × Place

abbrev pub Found : Type 0 → Type 0
Found A = json.ReadAs PolicyKind A

abbrev pub kind_of : MemberKind → PolicyKind
kind_of kinds.Missing = Missing
kind_of kinds.WrongKind = WrongKind
kind_of kinds.BadHex = BadHex
kind_of kinds.BadNumber = BadNumber
kind_of kinds.Twice = Twice
kind_of kinds.TooMany = TooMany

-- what a member says, with its faults as those of a policy
abbrev pub read_as : {A : Type 0} → json.ReadAs MemberKind A → Found A
read_as = json.read_as kind_of

-- What a value says, what a member says, and a value's fault as one of a member.
use Rattle.tpol_json.specs.declared.fault.JsonKind.{JsonKind}
use Rattle.tpol_json.specs.declared.fault.JsonKind.TheVariants as kinds
use Rattle.tpol_json.specs.declared.fault.MemberKind.{MemberKind}
use Rattle.tpol_json.specs.declared.fault.MemberKind.TheVariants.{WrongKind, BadHex, BadNumber}
use Rattle.tpol_json.specs.Reading.{ReadAs}

abbrev pub FoundValue : Type 0 → Type 0
FoundValue A = ReadAs JsonKind A

abbrev pub Found : Type 0 → Type 0
Found A = ReadAs MemberKind A

abbrev pub kind_of : JsonKind → MemberKind
kind_of kinds.WrongKind = WrongKind
kind_of kinds.BadHex = BadHex
kind_of kinds.BadNumber = BadNumber

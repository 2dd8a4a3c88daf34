-- The status of each verdict, the numbers of statuses, and which of them say that the whole report was written.
use Rattle.std.specs.Prelude.{◌≡◌, ◌⊎◌, ℕ, ⊤, Result, Ok, Err}
use Rattle.tpol_steps.specs.declared.answer.Verdict.{Verdict}
use Rattle.tpol_steps.specs.declared.answer.Verdict.TheVariants as V
use Rattle.tpol_steps.specs.declared.halt.Halt.{Halt}
use Rattle.tpol_steps.specs.declared.halt.Halt.TheVariants.{Refused, ReadFailed, ShelfFailed}
use Rattle.tpol_steps.specs.declared.halt.Halt.TheVariants as halts
use Rattle.tpol_front.specs.declared.status.Status.{Status}
use Rattle.tpol_front.specs.declared.status.Status.TheVariants.{Done, Usage, ReadFault, WriteFault, ShelfFault, TooLarge, BadPolicy, BadScene, NoMemory, PathLimit, BadCert}

-- the status of a verdict
abbrev pub status_of : Verdict → Status
status_of V.Done = Done
status_of V.Usage = Usage
status_of V.TooLarge = TooLarge
status_of V.BadPolicy = BadPolicy
status_of V.BadScene = BadScene
status_of V.PathLimit = PathLimit
status_of V.BadCert = BadCert

abbrev pub number_of_status : Status → ℕ
number_of_status Done = 0
number_of_status Usage = 1
number_of_status ReadFault = 2
number_of_status WriteFault = 3
number_of_status ShelfFault = 4
number_of_status TooLarge = 5
number_of_status BadPolicy = 6
number_of_status BadScene = 7
number_of_status NoMemory = 8
number_of_status PathLimit = 9
number_of_status BadCert = 10

-- the run came to its end: neither the outside nor memory failed
abbrev pub IsWhole : Status → Type 0
IsWhole ReadFault = ⊥
IsWhole WriteFault = ⊥
IsWhole ShelfFault = ⊥
IsWhole NoMemory = ⊥
IsWhole _ = ⊤

-- the run came to its end, or memory ran out
abbrev pub IsWholeUnlessNoMemory : Status → Type 0
IsWholeUnlessNoMemory status = (status ≡ NoMemory) ⊎ IsWhole status

-- the source or the shelf failed, or memory ran out, before anything was printed
abbrev pub IsSilent : Status → Type 0
IsSilent ReadFault = ⊤
IsSilent ShelfFault = ⊤
IsSilent NoMemory = ⊤
IsSilent _ = ⊥

-- such a status comes only where the source was read to its end, or to byte `most_read`, if the command reads it
abbrev pub IsPastReading : Status → Type 0
IsPastReading ReadFault = ⊥
IsPastReading NoMemory = ⊥
IsPastReading _ = ⊤

-- the same of a run's answer, or of why it has none
abbrev pub IsPastReadingResult : {T : Type 0} → Result T Halt → Type 0
IsPastReadingResult (Ok answer) = ⊤
IsPastReadingResult (Err (Refused answer)) = ⊤
IsPastReadingResult (Err ReadFailed) = ⊥
IsPastReadingResult (Err ShelfFailed) = ⊤
IsPastReadingResult (Err halts.NoMemory) = ⊥

-- When a call of the outside may answer that it failed, and what a call of a sink leaves.
use Rattle.std.specs.Prelude.{◌≡◌, ℕ, ◌+◌, ◌-◌, ◌^◌, ◌≤◌, List, min, take, Option, Result, OnOk, OnErr, IsErrOf}
use Rattle.std.specs.Io.KnownBytes.{Appends}
use Rattle.tpol_base.specs.declared.outside.Lapse.{Lapse}
use Rattle.tpol_base.specs.declared.outside.Lapse.TheVariants.{Failed, NoMemory}

-- a count of faults rose, or stands at the last value of a 64-bit counter
abbrev pub Rose : ℕ → ℕ → Type 0
Rose before now = min (before + 1) (2 ^ 64 - 1) ≤ now

-- the count did not fall, and the call answered an error only where it rose, or stands at its last value
pub record HasCause {T E : Type 0} (before now : ℕ) (result : Result T E) : Type 0 where
  pub later : before ≤ now
  pub failed : OnErr result (Rose before now)

-- the same of a call that may also find no memory
pub record HasLapse {T : Type 0} (before now : ℕ) (result : Result T Lapse) : Type 0 where
  pub later : before ≤ now
  pub failed : IsErrOf result Failed → Rose before now

-- the count stays where such a call did not fail
pub record IsQuiet {T : Type 0} (before now : ℕ) (result : Result T Lapse) : Type 0 where
  pub ok : OnOk result (now ≡ before)
  pub memory : IsErrOf result NoMemory → now ≡ before

-- where it was told before, it is told afterwards, and is what was told before and then these bytes
abbrev pub Grows : Option (List ℕ) → Option (List ℕ) → List ℕ → Type 0
Grows old new bytes = Appends old new bytes

-- the same with a first part of the bytes
abbrev pub GrowsInPart : Option (List ℕ) → Option (List ℕ) → List ℕ → Type 0
GrowsInPart old new bytes = (n : ℕ) × Grows old new (take n bytes)

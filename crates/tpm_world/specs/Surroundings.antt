-- Changes of a machine's surroundings: time, physical presence, and a TPM Reset (TPM 2.0 Part 1, "TPM
-- Reset"). After a Reset time begins at 0, the PCRs are zero and so is their counter, resetCount rises by one
-- below its last value, and restartCount is 0; `safe` and physical presence stay.
use Rattle.std.specs.Prelude.{ℕ, ◌+◌, ◌-◌, ◌^◌, Bool, nat_lt, if◌then◌else◌}
use Rattle.tpm_pcr.specs.Pcrs.{cleared}
use Rattle.tpm_world.specs.World.{WorldState}

-- so many milliseconds have passed
abbrev pub passed : ℕ → WorldState → WorldState
passed ms world = record world { time = world.time + ms }

-- physical presence is on or off
abbrev pub with_presence : Bool → WorldState → WorldState
with_presence on world = record world { presence = on }

-- a count that stays at the greatest number of 32 bits
abbrev pub counted_on : ℕ → ℕ
counted_on count = if nat_lt count (2 ^ 32 - 1) then count + 1 else count

-- after a TPM Reset
abbrev pub reset : WorldState → WorldState
reset world = record world {
  pcrs = cleared;
  time = 0;
  reset_count = counted_on world.reset_count;
  restart_count = 0;
}

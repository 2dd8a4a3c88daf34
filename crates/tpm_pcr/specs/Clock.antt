-- The bytes of the clock (TPM 2.0 Part 2, TPMS_TIME_INFO).
use Rattle.std.specs.Prelude.{ℕ, List, [], ◌∷◌, ◌++◌}
use Rattle.std.specs.Int.{to_be_bytes, w32, w64}
use Rattle.tpol_base.specs.Flag.{yes_no}
use Rattle.tpm_pcr.specs.declared.clock.Clock.{Clock}

-- time, clock, resetCount, restartCount and safe: 25 bytes; the clock is the time
abbrev pub clock_info : Clock → List ℕ
clock_info clock =
    to_be_bytes w64 clock.time ++ to_be_bytes w64 clock.time
    ++ to_be_bytes w32 clock.reset_count ++ to_be_bytes w32 clock.restart_count
    ++ yes_no clock.safe ∷ []

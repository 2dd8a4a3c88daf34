-- PCR_Extend (TPM 2.0 Part 3, TPM2_PCR_Extend).
--   1  the handle is no PCR, which the wire refuses too                 TPM_RC_VALUE, handle 1
--   2  the PCR update counter stands at its last value                  TPM_RC_PCR
use Rattle.std.specs.Prelude.{ℕ, ◌+◌, ◌-◌, ◌^◌, ◌==◌, not, Option}
use Rattle.tpol_base.specs.declared.digest.Digest32.{Digest32}
use Rattle.tpol_base.specs.Handle.{is_pcr}
use Rattle.tpol_base.specs.ResponseCode.{of_handle, rc_pcr, rc_value}
use Rattle.tpm_pcr.specs.Pcrs.{extended}
use Rattle.tpm_rules.specs.Rule.{or_else, unless}
use Rattle.tpm_world.specs.World.{WorldState}

abbrev pub rule : WorldState → ℕ → Option ℕ
rule world pcr =
    or_else (unless (is_pcr pcr) (rc_value + of_handle 1))
    (unless (not (world.pcrs.counter == 2 ^ 32 - 1)) rc_pcr)

-- the PCR's value is the hash of the old one and the digest, and the counter is one more
abbrev pub after : ℕ → Digest32 → WorldState → WorldState
after pcr digest world = record world { pcrs = extended world.pcrs pcr digest }

-- NV_Increment (TPM 2.0 Part 3, TPM2_NV_Increment): that the authorized handle may write the index, and the
-- rules of counting; the count is one more, and the index is written.
use Rattle.std.specs.Prelude.{ℕ, Option}
use Rattle.tpol_base.specs.declared.command_code.CommandCode.TheVariants as codes
use Rattle.tpol_base.specs.CommandCode.{number_of_code}
use Rattle.tpm_nv.specs.Indices.{counter_rule, incremented_at}
use Rattle.tpm_rules.specs.NvAuthority.{nv_authority_rule}
use Rattle.tpm_rules.specs.Rule.{or_else}
use Rattle.tpm_world.specs.Missing.{rule_of_index}
use Rattle.tpm_world.specs.World.{WorldState}

abbrev pub rule : WorldState → ℕ → ℕ → Option ℕ
rule world authority index =
    rule_of_index world index (λ entry. or_else
    (nv_authority_rule authority entry.public (number_of_code codes.NvIncrement))
    (counter_rule world.indices entry))

abbrev pub after : ℕ → WorldState → WorldState
after index world = record world { indices = incremented_at index world.indices }

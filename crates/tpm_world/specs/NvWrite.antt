-- NV_Write (TPM 2.0 Part 3, TPM2_NV_Write): that the authorized handle may write the index, and the rules of
-- writing; the bytes stand from the offset on, and the index is written.
use Rattle.std.specs.Prelude.{ℕ, List, Option, length}
use Rattle.tpol_base.specs.declared.command_code.CommandCode.TheVariants as codes
use Rattle.tpol_base.specs.CommandCode.{number_of_code}
use Rattle.tpm_nv.specs.Indices.{written_at}
use Rattle.tpm_nv.specs.Rules.{write_rule}
use Rattle.tpm_rules.specs.NvAuthority.{nv_authority_rule}
use Rattle.tpm_rules.specs.Rule.{or_else}
use Rattle.tpm_world.specs.Missing.{rule_of_index}
use Rattle.tpm_world.specs.World.{WorldState}

abbrev pub rule : WorldState → ℕ → ℕ → List ℕ → ℕ → Option ℕ
rule world authority index bytes offset =
    rule_of_index world index (λ entry. or_else
    (nv_authority_rule authority entry.public (number_of_code codes.NvWrite))
    (write_rule entry offset (length bytes)))

abbrev pub after : ℕ → ℕ → List ℕ → WorldState → WorldState
after index offset bytes world = record world { indices = written_at index offset bytes world.indices }

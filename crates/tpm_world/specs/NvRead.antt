-- NV_Read (TPM 2.0 Part 3, TPM2_NV_Read): that the authorized handle may read the index, and the rules of
-- reading; so many bytes from the offset on.
use Rattle.std.specs.Prelude.{ℕ, Option, drop, take}
use Rattle.tpol_base.specs.declared.command_code.CommandCode.TheVariants as codes
use Rattle.tpol_base.specs.CommandCode.{number_of_code}
use Rattle.tpol_wire.specs.declared.reply.Reply.{Reply}
use Rattle.tpol_wire.specs.declared.reply.Reply.TheVariants.{NvRead}
use Rattle.tpm_nv.specs.Rules.{read_rule}
use Rattle.tpm_rules.specs.NvAuthority.{nv_authority_rule}
use Rattle.tpm_rules.specs.Rule.{or_else}
use Rattle.tpm_world.specs.Missing.{reply_of_index, rule_of_index}
use Rattle.tpm_world.specs.World.{WorldState}

abbrev pub rule : WorldState → ℕ → ℕ → ℕ → ℕ → Option ℕ
rule world authority index size offset =
    rule_of_index world index (λ entry. or_else
    (nv_authority_rule authority entry.public (number_of_code codes.NvRead))
    (read_rule entry offset size))

abbrev pub reply : WorldState → ℕ → ℕ → ℕ → Reply
reply world index size offset = reply_of_index world index (λ entry. NvRead (take size (drop offset entry.content)))

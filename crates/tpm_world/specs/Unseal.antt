-- Unseal (TPM 2.0 Part 3, TPM2_Unseal): the secret of a sealed object.
use Rattle.std.specs.Prelude.{ℕ, Option}
use Rattle.tpol_wire.specs.declared.reply.Reply.{Reply}
use Rattle.tpol_wire.specs.declared.reply.Reply.TheVariants.{Unseal}
use Rattle.tpm_rules.specs.Objects.{unseal_rule}
use Rattle.tpm_world.specs.Missing.{reply_of_object, rule_of_object}
use Rattle.tpm_world.specs.World.{WorldState}

abbrev pub rule : WorldState → ℕ → Option ℕ
rule world handle = rule_of_object world handle (λ object. unseal_rule object.public)

abbrev pub reply : WorldState → ℕ → Reply
reply world handle = reply_of_object world handle (λ object. Unseal object.secret)

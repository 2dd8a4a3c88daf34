-- HMAC (TPM 2.0 Part 3, TPM2_HMAC): the HMAC of bytes by a key. The null algorithm stands for the key's,
-- which is SHA-256 too.
use Rattle.std.specs.Prelude.{ℕ, List, Option}
use Rattle.tpol_hash.specs.Hmac.{hmac_sha256}
use Rattle.tpol_wire.specs.declared.reply.Reply.{Reply}
use Rattle.tpol_wire.specs.declared.reply.Reply.TheVariants.{Hmac}
use Rattle.tpm_rules.specs.Objects.{hmac_rule}
use Rattle.tpm_world.specs.Missing.{reply_of_object, rule_of_object}
use Rattle.tpm_world.specs.World.{WorldState}

abbrev pub rule : WorldState → ℕ → Option ℕ
rule world key = rule_of_object world key (λ object. hmac_rule object.public)

abbrev pub reply : WorldState → ℕ → List ℕ → Reply
reply world key buffer = reply_of_object world key (λ object. Hmac (hmac_sha256 object.secret buffer))

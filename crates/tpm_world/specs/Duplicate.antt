-- Duplicate (TPM 2.0 Part 3, TPM2_Duplicate): the sensitive area of an object, neither encrypted nor wrapped
-- (TPM 2.0 Part 2, TPMT_SENSITIVE and TPM2B_SENSITIVE): its type, its authorization value, an empty seed, and
-- its secret.
use Rattle.std.specs.Prelude.{ℕ, List, [], ◌++◌, Option}
use Rattle.std.specs.Int.{to_be_bytes, w16}
use Rattle.tpol_base.specs.Constants.{alg_keyedhash}
use Rattle.tpol_base.specs.Sized.{sized}
use Rattle.tpol_name.specs.declared.entries.ObjectEntry.{ObjectEntry}
use Rattle.tpol_wire.specs.declared.reply.Reply.{Reply}
use Rattle.tpol_wire.specs.declared.reply.Reply.TheVariants.{Duplicate}
use Rattle.tpm_rules.specs.Objects.{duplicate_rule}
use Rattle.tpm_world.specs.Missing.{reply_of_object, rule_of_object}
use Rattle.tpm_world.specs.World.{WorldState}

abbrev pub rule : WorldState → ℕ → Option ℕ
rule world handle = rule_of_object world handle (λ object. duplicate_rule object.public)

abbrev pub sensitive_of : ObjectEntry → List ℕ
sensitive_of object = to_be_bytes w16 alg_keyedhash ++ sized object.auth ++ sized [] ++ sized object.secret

abbrev pub reply : WorldState → ℕ → Reply
reply world handle = reply_of_object world handle (λ object. Duplicate (sized (sensitive_of object)))

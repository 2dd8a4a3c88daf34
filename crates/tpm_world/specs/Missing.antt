-- What a rule or a reply says of the entity with a handle. Of a handle that no entity has, the rule and the
-- reply are the refusal that it is missing: TPM_RC_REFERENCE_H0 of an object, which is the first handle of
-- its commands, TPM_RC_HANDLE, handle 2, of an index.
use Rattle.std.specs.Prelude.{ℕ, ◌+◌, Option, Some}
use Rattle.std.specs.Option.{option_map_or}
use Rattle.tpol_base.specs.ResponseCode.{of_handle, rc_handle, reference_of_handle}
use Rattle.tpol_name.specs.declared.entries.IndexEntry.{IndexEntry}
use Rattle.tpol_name.specs.declared.entries.ObjectEntry.{ObjectEntry}
use Rattle.tpol_wire.specs.declared.reply.Reply.{Reply}
use Rattle.tpol_wire.specs.declared.reply.Reply.TheVariants.{Refused}
use Rattle.tpm_nv.specs.Indices.{index_of}
use Rattle.tpm_world.specs.Objects.{object_of}
use Rattle.tpm_world.specs.World.{WorldState}

abbrev pub missing_object : ℕ
missing_object = reference_of_handle 1

abbrev pub missing_index : ℕ
missing_index = rc_handle + of_handle 2

abbrev pub rule_of_object : WorldState → ℕ → (ObjectEntry → Option ℕ) → Option ℕ
rule_of_object world handle rule = option_map_or rule (object_of handle world.objects) (Some missing_object)

abbrev pub reply_of_object : WorldState → ℕ → (ObjectEntry → Reply) → Reply
reply_of_object world handle reply = option_map_or reply (object_of handle world.objects) (Refused (record { code = missing_object }))

abbrev pub rule_of_index : WorldState → ℕ → (IndexEntry → Option ℕ) → Option ℕ
rule_of_index world handle rule = option_map_or rule (index_of handle world.indices) (Some missing_index)

abbrev pub reply_of_index : WorldState → ℕ → (IndexEntry → Reply) → Reply
reply_of_index world handle reply = option_map_or reply (index_of handle world.indices) (Refused (record { code = missing_index }))

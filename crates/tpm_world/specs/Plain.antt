-- The commands on entities and PCRs: what each asks behind its authorization, what it answers where it is
-- carried out, and what it leaves of the world. Those on policy sessions are none of the world's:
-- TPM_RC_COMMAND_CODE.
use Rattle.std.specs.Prelude.{ℕ, Option, Some, None}
use Rattle.tpol_base.specs.ResponseCode.{rc_command_code}
use Rattle.tpol_wire.specs.declared.command.Command.{Command}
use Rattle.tpol_wire.specs.declared.command.Command.TheVariants as commands
use Rattle.tpol_wire.specs.declared.reply.Reply.{Reply}
use Rattle.tpol_wire.specs.declared.reply.Reply.TheVariants as replies
use Rattle.tpm_world.specs.Duplicate as duplicate
use Rattle.tpm_world.specs.Hmac as hmac
use Rattle.tpm_world.specs.NvIncrement as nv_increment
use Rattle.tpm_world.specs.NvRead as nv_read
use Rattle.tpm_world.specs.NvWrite as nv_write
use Rattle.tpm_world.specs.PcrExtend as pcr_extend
use Rattle.tpm_world.specs.PcrRead as pcr_read
use Rattle.tpm_world.specs.Unseal as unseal
use Rattle.tpm_world.specs.VerifySignature as verify_signature
use Rattle.tpm_world.specs.World.{WorldState}

-- the code of the first rule that is broken
abbrev pub plain_rule : WorldState → Command → Option ℕ
plain_rule world (commands.PcrExtend pcr auth digest) = pcr_extend.rule world pcr
plain_rule world (commands.PcrRead mask) = None
plain_rule world (commands.VerifySignature key digest signature) = verify_signature.rule world key digest signature
plain_rule world (commands.Unseal object auth) = unseal.rule world object
plain_rule world (commands.Hmac key auth buffer hash) = hmac.rule world key
plain_rule world (commands.NvRead authority index auth size offset) = nv_read.rule world authority index size offset
plain_rule world (commands.NvWrite authority index auth bytes offset) = nv_write.rule world authority index bytes offset
plain_rule world (commands.NvIncrement authority index auth) = nv_increment.rule world authority index
plain_rule world (commands.Duplicate object parent auth) = duplicate.rule world object
plain_rule world _ = Some rc_command_code

-- the reply, from the world before the command
abbrev pub plain_reply : WorldState → Command → Reply
plain_reply world (commands.PcrExtend pcr auth digest) = replies.PcrExtend
plain_reply world (commands.PcrRead mask) = pcr_read.reply world mask
plain_reply world (commands.VerifySignature key digest signature) = verify_signature.reply world key digest
plain_reply world (commands.Unseal object auth) = unseal.reply world object
plain_reply world (commands.Hmac key auth buffer hash) = hmac.reply world key buffer
plain_reply world (commands.NvRead authority index auth size offset) = nv_read.reply world index size offset
plain_reply world (commands.NvWrite authority index auth bytes offset) = replies.NvWrite
plain_reply world (commands.NvIncrement authority index auth) = replies.NvIncrement
plain_reply world (commands.Duplicate object parent auth) = duplicate.reply world object
plain_reply world _ = replies.Refused (record { code = rc_command_code })

-- the world after the command
abbrev pub world_after : WorldState → Command → WorldState
world_after world (commands.PcrExtend pcr auth digest) = pcr_extend.after pcr digest world
world_after world (commands.NvWrite authority index auth bytes offset) = nv_write.after index offset bytes world
world_after world (commands.NvIncrement authority index auth) = nv_increment.after index world
world_after world _ = world

-- The hashes of commands and replies that authorizations are over (TPM 2.0 Part 1, "cpHash", "nameHash" and
-- "rpHash"). A naming says which Name an entity has by its handle: to a machine, to a client, in a directory.
use Rattle.std.specs.Prelude.{ℕ, List, ◌++◌}
use Rattle.std.specs.Int.{to_be_bytes, w32}
use Rattle.std.specs.List.{flat_map}
use Rattle.tpol_base.specs.declared.digest.Digest32.{Digest32}
use Rattle.tpol_base.specs.declared.name.Name.{Name}
use Rattle.tpol_base.specs.CommandCode.{number_of_code}
use Rattle.tpol_base.specs.Name.{name_bytes}
use Rattle.tpol_hash.specs.Sha256.{sha256_digest}
use Rattle.tpol_wire.specs.declared.command.Command.{Command}
use Rattle.tpol_wire.specs.declared.reply.Reply.{Reply}
use Rattle.tpol_wire.specs.Commands.{code_of_command, spell_parameters}
use Rattle.tpol_wire.specs.Handles.{handles_of}
use Rattle.tpol_wire.specs.Replies.{reply_fields_of}

-- the Names of these handles, joined
unfoldable pub joined_names : (ℕ → Name) → List ℕ → List ℕ
joined_names naming handles = flat_map (λ handle. name_bytes (naming handle)) handles

-- cpHash: H(code || Names of the handles || parameters)
unfoldable pub cp_hash : (ℕ → Name) → Command → Digest32
cp_hash naming command =
    sha256_digest (to_be_bytes w32 (number_of_code (code_of_command command)) ++ joined_names naming (handles_of command) ++ spell_parameters command)

-- nameHash: H(Names of the handles)
unfoldable pub name_hash : (ℕ → Name) → Command → Digest32
name_hash naming command = sha256_digest (joined_names naming (handles_of command))

-- rpHash: H(TPM_RC_SUCCESS || code || fields of the reply), the codes in four bytes each
unfoldable pub rp_hash : ℕ → Reply → Digest32
rp_hash code reply = sha256_digest (to_be_bytes w32 0 ++ to_be_bytes w32 code ++ reply_fields_of reply)

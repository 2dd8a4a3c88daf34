-- Hashes that a machine makes: of commands, whose handles have the Names that the machine's entities have now
-- (TPM 2.0 Part 1, "cpHash", "nameHash"), and its nonces, its proof and the HMACs of saved sessions, which here
-- are functions of the seed.
use Rattle.std.specs.Prelude.{ℕ, List, [], ◌∷◌, ◌++◌}
use Rattle.std.specs.Int.{to_be_bytes, w32, w64}
use Rattle.tpol_base.specs.declared.digest.Digest32.{Digest32}
use Rattle.tpol_hash.specs.Hmac.{hmac_sha256}
use Rattle.tpol_hash.specs.Sha256.{sha256_digest}
use Rattle.tpol_wire.specs.declared.command.Command.{Command}
use Rattle.tpol_wire.specs.Hashes as wire
use Rattle.tpm_world.specs.Entities.{name_at}
use Rattle.tpm_world.specs.World.{WorldState}

-- the Names of these handles, joined
abbrev pub joined_names : WorldState → List ℕ → List ℕ
joined_names world handles = wire.joined_names (name_at world) handles

-- cpHash
abbrev pub cp_hash : WorldState → Command → Digest32
cp_hash world command = wire.cp_hash (name_at world) command

-- nameHash
abbrev pub name_hash : WorldState → Command → Digest32
name_hash world command = wire.name_hash (name_at world) command

-- the nonce that a session gets of an event: H(seed || "NONC" || event)
unfoldable pub nonce_of_event : Digest32 → ℕ → Digest32
nonce_of_event seed event = sha256_digest (seed.bytes ++ 0x4e ∷ 0x4f ∷ 0x4e ∷ 0x43 ∷ to_be_bytes w32 event)

-- the proof, which is the key of all tickets: H(seed || "PROF")
unfoldable pub proof_of : Digest32 → Digest32
proof_of seed = sha256_digest (seed.bytes ++ 0x50 ∷ 0x52 ∷ 0x4f ∷ 0x46 ∷ [])

-- the HMAC of a saved session: HMAC(proof, "CTXS" || sequence || handle)
unfoldable pub context_mac : Digest32 → ℕ → ℕ → Digest32
context_mac proof sequence handle =
    hmac_sha256 proof.bytes (0x43 ∷ 0x54 ∷ 0x58 ∷ 0x53 ∷ to_be_bytes w64 sequence ++ to_be_bytes w32 handle)

-- Worked values of the definitions, by other programs (Python's `hashlib` and `hmac`) and by hand, so that a
-- wrong byte in them does not check.
use Rattle.std.proofs.Common.{◌≡◌, ℕ, List, [], ◌∷◌, replicate, true, refl}
use Rattle.sha2.specs.Sha256.{compress, digest_bytes, first_words, hash_after, rounds, schedule, sha256}
use Rattle.tpol_base.specs.Digest.{zero_digest}
use Rattle.tpol_name.specs.declared.areas.Scheme.TheVariants.{Sealed}
use Rattle.tpol_name.specs.declared.entries.ObjectEntry.{ObjectEntry}
use Rattle.tpol_wire.specs.declared.auth_area.AuthArea.{AuthArea}
use Rattle.tpol_wire.specs.declared.command.Command.TheVariants.{Unseal as UnsealCommand}
use Rattle.tpol_wire.specs.declared.reply.Reply.TheVariants.{Unseal as UnsealReply}
use Rattle.tpol_wire.specs.Commands.{spell_values}
use Rattle.tpol_fields.specs.Kinds.{spell}
use Rattle.tpm_world.specs.Duplicate.{sensitive_of}
use Rattle.tpol_wire.specs.Hashes.{cp_hash, joined_names, name_hash, rp_hash}
use Rattle.tpm_world.specs.Entities.{name_at}
use Rattle.tpm_world.specs.Hashes.{context_mac, nonce_of_event, proof_of}
use Rattle.tpol_base.specs.Pcr.{mask_of_pcrs}
use Rattle.tpm_world.specs.PcrRead.{read_pcrs, selected_pcrs}
use Rattle.tpm_world.specs.Surroundings.{counted_on}
use Rattle.tpm_world.specs.World.{WorldState}

-- ---- of a machine whose seed is 32 zero bytes

proof_bytes : List ℕ
proof_bytes =
    0x16 ∷ 0xc5 ∷ 0x66 ∷ 0x01 ∷ 0x11 ∷ 0xc5 ∷ 0x14 ∷ 0x55 ∷ 0xc6 ∷ 0x4e ∷ 0x18 ∷ 0x06 ∷ 0xa8 ∷ 0x9f ∷ 0xcb ∷ 0x9e ∷
    0xa4 ∷ 0x30 ∷ 0x4b ∷ 0x7f ∷ 0x5a ∷ 0xfb ∷ 0xd3 ∷ 0xf3 ∷ 0xd0 ∷ 0xb2 ∷ 0xbd ∷ 0x9a ∷ 0x56 ∷ 0xec ∷ 0x83 ∷ 0x23 ∷ []

the_proof : (proof_of zero_digest).bytes ≡ proof_bytes
unfolding proof_bytes proof_of first_words schedule rounds compress hash_after digest_bytes sha256
the_proof = refl

the_nonce_of_its_first_event : (nonce_of_event zero_digest 1).bytes ≡
    0x6c ∷ 0x61 ∷ 0x82 ∷ 0x7e ∷ 0x1e ∷ 0x31 ∷ 0xe4 ∷ 0x67 ∷ 0xf7 ∷ 0xf1 ∷ 0xb9 ∷ 0xa2 ∷ 0xac ∷ 0x88 ∷ 0x71 ∷ 0x17 ∷
    0x89 ∷ 0x03 ∷ 0xd6 ∷ 0xd7 ∷ 0xc8 ∷ 0x07 ∷ 0x6f ∷ 0x46 ∷ 0x39 ∷ 0x6f ∷ 0x8f ∷ 0xb7 ∷ 0x0a ∷ 0x05 ∷ 0x3c ∷ 0x9f ∷ []
unfolding nonce_of_event first_words schedule rounds compress hash_after digest_bytes sha256
the_nonce_of_its_first_event = refl

-- the context of its first session, saved at the third event
the_context : (context_mac (proof_of zero_digest) 3 0x03000000).bytes ≡
    0x8a ∷ 0x75 ∷ 0xbc ∷ 0xc8 ∷ 0xbc ∷ 0xd9 ∷ 0xec ∷ 0xb2 ∷ 0xac ∷ 0x47 ∷ 0xab ∷ 0x80 ∷ 0x32 ∷ 0xb6 ∷ 0xed ∷ 0xb2 ∷
    0x4f ∷ 0xcd ∷ 0xec ∷ 0xfb ∷ 0x4e ∷ 0x88 ∷ 0x6a ∷ 0x79 ∷ 0xaf ∷ 0x7a ∷ 0x3b ∷ 0xb9 ∷ 0x97 ∷ 0xa0 ∷ 0xde ∷ 0x52 ∷ []
unfolding context_mac proof_of first_words schedule rounds compress hash_after digest_bytes sha256
the_context = refl

-- ---- of an Unseal of an object that keeps `key` under the value `pin`

sealed : ObjectEntry
sealed = record {
  path = [];
  handle = 0x80000000;
  public = record { attributes = 0x40; auth_policy = []; scheme = Sealed; unique = [] };
  auth = 0x70 ∷ 0x69 ∷ 0x6e ∷ [];
  secret = 0x6b ∷ 0x65 ∷ 0x79 ∷ [];
}

world : WorldState
world = record {
  seed = zero_digest;
  owner = [];
  endorsement = [];
  lockout = [];
  objects = sealed ∷ [];
  indices = [];
  pcrs = record { values = replicate 24 zero_digest; counter = 0 };
  time = 0;
  reset_count = 0;
  restart_count = 0;
  safe = true;
  presence = true;
}

password : AuthArea
password = record { session = 0x40000009; nonce = []; attributes = 0; hmac = [] }

its_cp_hash : (cp_hash (name_at world) (UnsealCommand 0x80000000 password)).bytes ≡
    0xb0 ∷ 0xc7 ∷ 0x72 ∷ 0xcd ∷ 0x5c ∷ 0x8f ∷ 0xda ∷ 0x57 ∷ 0x32 ∷ 0xa1 ∷ 0x8f ∷ 0x5e ∷ 0x30 ∷ 0x86 ∷ 0xb1 ∷ 0x48 ∷
    0xec ∷ 0x71 ∷ 0x64 ∷ 0xe5 ∷ 0x4d ∷ 0x32 ∷ 0xd2 ∷ 0x5e ∷ 0x9c ∷ 0x63 ∷ 0x56 ∷ 0x95 ∷ 0x40 ∷ 0xaa ∷ 0x7a ∷ 0x7a ∷ []
unfolding sealed world cp_hash joined_names spell_values spell first_words schedule rounds compress hash_after digest_bytes sha256
its_cp_hash = refl

its_name_hash : (name_hash (name_at world) (UnsealCommand 0x80000000 password)).bytes ≡
    0xf1 ∷ 0xa5 ∷ 0xa4 ∷ 0x37 ∷ 0x2d ∷ 0x10 ∷ 0x88 ∷ 0x2d ∷ 0x1d ∷ 0x55 ∷ 0x3b ∷ 0x90 ∷ 0x9e ∷ 0x8a ∷ 0x89 ∷ 0x84 ∷
    0x3d ∷ 0x5a ∷ 0xbe ∷ 0xe1 ∷ 0xca ∷ 0x0c ∷ 0xb2 ∷ 0x53 ∷ 0x3b ∷ 0x3f ∷ 0x08 ∷ 0x22 ∷ 0xc3 ∷ 0xdf ∷ 0xd6 ∷ 0x61 ∷ []
unfolding sealed world name_hash joined_names first_words schedule rounds compress hash_after digest_bytes sha256
its_name_hash = refl

its_rp_hash : (rp_hash 0x15e (UnsealReply (0x6b ∷ 0x65 ∷ 0x79 ∷ []))).bytes ≡
    0x39 ∷ 0x29 ∷ 0x8b ∷ 0xc2 ∷ 0x96 ∷ 0x9f ∷ 0x9b ∷ 0x4d ∷ 0x22 ∷ 0x26 ∷ 0x50 ∷ 0x1d ∷ 0xa8 ∷ 0x23 ∷ 0xfe ∷ 0x37 ∷
    0xad ∷ 0xb9 ∷ 0xbd ∷ 0x7c ∷ 0x99 ∷ 0xf6 ∷ 0xfc ∷ 0x72 ∷ 0x33 ∷ 0x70 ∷ 0x5f ∷ 0x8e ∷ 0x66 ∷ 0x09 ∷ 0x86 ∷ 0x85 ∷ []
unfolding rp_hash spell_values spell first_words schedule rounds compress hash_after digest_bytes sha256
its_rp_hash = refl

-- its type, its value, an empty seed and its secret
its_sensitive_area : sensitive_of sealed ≡
    0x00 ∷ 0x08 ∷ 0x00 ∷ 0x03 ∷ 0x70 ∷ 0x69 ∷ 0x6e ∷ 0x00 ∷ 0x00 ∷ 0x00 ∷ 0x03 ∷ 0x6b ∷ 0x65 ∷ 0x79 ∷ []
unfolding sealed
its_sensitive_area = refl

-- ---- PCR_Read and the count of resets

-- of ten PCRs the first eight are read, and of those past the last none
the_first_eight : read_pcrs 0xff003ff ≡ 0 ∷ 1 ∷ 2 ∷ 3 ∷ 4 ∷ 5 ∷ 6 ∷ 7 ∷ []
unfolding read_pcrs selected_pcrs
the_first_eight = refl

no_pcr_past_the_last : read_pcrs 0xff000000 ≡ []
unfolding read_pcrs selected_pcrs
no_pcr_past_the_last = refl

their_set : mask_of_pcrs (0 ∷ 2 ∷ 23 ∷ []) ≡ 0x800005
their_set = refl

the_last_count_stays : counted_on 0xffffffff ≡ 0xffffffff
the_last_count_stays = refl

another_count_rises : counted_on 7 ≡ 8
another_count_rises = refl

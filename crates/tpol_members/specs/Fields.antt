-- The members that several rows have.
use Rattle.std.specs.Prelude.{ℕ, ℤ, pos, List, [], codes, Option, Some, None, Ok}
use Rattle.serde_json.specs.Data.{Data}
use Rattle.tpol_base.specs.declared.digest.Digest32.{Digest32}
use Rattle.tpol_base.specs.declared.compare.Compare.{Compare}
use Rattle.tpol_base.specs.declared.compare.Compare.TheVariants.{Eq}
use Rattle.tpol_json.specs.declared.place.Place.{Place}
use Rattle.tpol_members.specs.Values.{bytes_up_to, digest_in, signed_in, unsigned_in}
use Rattle.tpol_base.specs.Answers.{◌>>=◌}
use Rattle.tpol_members.specs.Faults.{Found}
use Rattle.tpol_json.specs.Members.{optional}
use Rattle.tpol_members.specs.Members.{needed}
use Rattle.tpol_members.specs.Operations.{operation_in}

-- `policyRef`: at most 64 bytes, without it none
unfoldable pub policy_ref_in : Data → Place → Found (List ℕ)
policy_ref_in = optional (bytes_up_to 64) [] (codes "policyRef")

abbrev pub some_digest_in : Data → Place → Found (Option Digest32)
some_digest_in d place = digest_in d place >>= λ digest. Ok (Some digest)

-- `cpHashA`: 32 bytes, or left out
unfoldable pub cp_hash_in : Data → Place → Found (Option Digest32)
cp_hash_in = optional some_digest_in None (codes "cpHashA")

-- `expiration`: a number of 32 bits with a sign, without it 0
unfoldable pub expiration_in : Data → Place → Found ℤ
expiration_in = optional signed_in (pos 0) (codes "expiration")

-- `operandB`: at most 64 bytes
unfoldable pub operand_in : Data → Place → Found (List ℕ)
operand_in = needed (bytes_up_to 64) (codes "operandB")

-- `offset`: 0 to 65,535, without it 0
unfoldable pub offset_in : Data → Place → Found ℕ
offset_in = optional (unsigned_in 0 65535) 0 (codes "offset")

-- `operation`: a comparison, without it EQ
unfoldable pub operation_member_in : Data → Place → Found Compare
operation_member_in = optional operation_in Eq (codes "operation")

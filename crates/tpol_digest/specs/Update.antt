-- What each move of a policy hashes (TPM 2.0 Part 3, the policy commands), once, as data.
use Rattle.std.specs.Prelude.{ℕ, Bool, true, false, List, [], ◌∷◌, ◌++◌, Option, Some, None}
use Rattle.std.specs.Int.{to_be_bytes, w16, w32}
use Rattle.std.specs.List.{flat_map}
use Rattle.tpol_base.specs.declared.digest.Digest32.{Digest32}
use Rattle.tpol_base.specs.declared.name.Name.{Name}
use Rattle.tpol_base.specs.declared.compare.Compare.{Compare}
use Rattle.tpol_base.specs.declared.command_code.CommandCode.TheVariants as commands
use Rattle.tpol_base.specs.CommandCode.{number_of_code}
use Rattle.tpol_base.specs.Flag.{yes_no}
use Rattle.tpol_base.specs.Name.{name_bytes}
use Rattle.tpol_base.specs.Compare.{number_of_compare}
pub use Rattle.tpol_base.specs.Pcr.{pcr_selection}
use Rattle.tpol_tree.specs.declared.closed.Assertion.{Assertion}
use Rattle.tpol_tree.specs.declared.closed.Assertion.TheVariants.{Pcr, Nv, Secret, Signed, CounterTimer, CommandCode, Locality, CpHash, NameHash, NvWritten, AuthValue, Password, PhysicalPresence, Duplication}
use Rattle.tpol_tree.specs.declared.path.Move.{Move}
use Rattle.tpol_tree.specs.declared.path.Move.TheVariants.{Assert, Or, Approve, ApproveNv}

-- The new digest is H(H(start || code || H(inner) || rest) || policy_ref). The parts that are None, with
-- the hash that they stand in, are left out.
pub record Update : Type 0 where
  -- whether the start is 32 zero bytes, in place of the digest before
  pub fresh : Bool
  -- the command code
  pub code : ℕ
  -- a string whose digest stands in front of the rest
  pub inner : Option (List ℕ)
  pub rest : List ℕ
  -- the bytes behind the first digest, where there is a second one
  pub policy_ref : Option (List ℕ)

-- one hash of the digest before, the code and these bytes
abbrev pub one_hash : ℕ → List ℕ → Update
one_hash code rest = record { fresh = false; code = code; inner = None; rest = rest; policy_ref = None }

-- the same with the digest of a string in front of the bytes
abbrev pub hash_of_inner : ℕ → List ℕ → List ℕ → Update
hash_of_inner code inner rest = record { fresh = false; code = code; inner = Some inner; rest = rest; policy_ref = None }

-- two hashes, the second with a policyRef, also where that is empty
abbrev pub two_hashes : ℕ → List ℕ → List ℕ → Update
two_hashes code rest policy_ref = record { fresh = false; code = code; inner = None; rest = rest; policy_ref = Some policy_ref }

-- the same from 32 zero bytes
abbrev pub from_zero : Update → Update
from_zero s = record s { fresh = true }

-- what PolicyNV and PolicyCounterTimer compare with, and how
abbrev pub comparison : List ℕ → ℕ → Compare → List ℕ
comparison operand offset operation =
    operand ++ to_be_bytes w16 offset ++ to_be_bytes w16 (number_of_compare operation)

-- the Names that PolicyDuplicationSelect hashes, and whether the object's is among them
abbrev pub duplication : Bool → List ℕ → List ℕ → List ℕ
duplication true object parent = object ++ parent ++ yes_no true ∷ []
duplication false object parent = parent ++ yes_no false ∷ []

-- one line for each assertion; PolicyPassword has the digest of PolicyAuthValue
abbrev pub update_of_assertion : Assertion → Update
update_of_assertion (Pcr mask digest values) = one_hash (number_of_code commands.PolicyPcr) (pcr_selection mask ++ digest.bytes)
update_of_assertion (Nv index operand offset operation) = hash_of_inner (number_of_code commands.PolicyNv) (comparison operand offset operation) (name_bytes index)
update_of_assertion (CounterTimer operand offset operation) = hash_of_inner (number_of_code commands.PolicyCounterTimer) (comparison operand offset operation) []
update_of_assertion (Secret entity policy_ref cp_hash expiration) = two_hashes (number_of_code commands.PolicySecret) (name_bytes entity) policy_ref
update_of_assertion (Signed key policy_ref cp_hash expiration) = two_hashes (number_of_code commands.PolicySigned) (name_bytes key) policy_ref
update_of_assertion (CommandCode code) = one_hash (number_of_code commands.PolicyCommandCode) (to_be_bytes w32 code)
update_of_assertion (Locality locality) = one_hash (number_of_code commands.PolicyLocality) (locality ∷ [])
update_of_assertion (CpHash digest) = one_hash (number_of_code commands.PolicyCpHash) digest.bytes
update_of_assertion (NameHash digest) = one_hash (number_of_code commands.PolicyNameHash) digest.bytes
update_of_assertion (NvWritten written) = one_hash (number_of_code commands.PolicyNvWritten) (yes_no written ∷ [])
update_of_assertion AuthValue = one_hash (number_of_code commands.PolicyAuthValue) []
update_of_assertion Password = one_hash (number_of_code commands.PolicyAuthValue) []
update_of_assertion PhysicalPresence = one_hash (number_of_code commands.PolicyPhysicalPresence) []
update_of_assertion (Duplication object parent include) = one_hash (number_of_code commands.PolicyDuplicationSelect) (duplication include (name_bytes object) (name_bytes parent))

-- the bytes of digests, joined
abbrev pub joined : List Digest32 → List ℕ
joined digests = flat_map (λ d. d.bytes) digests

-- PolicyOR, PolicyAuthorize and PolicyAuthorizeNV, which start from zero
abbrev pub update_of_or : List Digest32 → Update
update_of_or digests = from_zero (one_hash (number_of_code commands.PolicyOr) (joined digests))

abbrev pub update_of_approve : Name → List ℕ → Update
update_of_approve key policy_ref = from_zero (two_hashes (number_of_code commands.PolicyAuthorize) (name_bytes key) policy_ref)

abbrev pub update_of_approve_nv : Name → Update
update_of_approve_nv index = from_zero (one_hash (number_of_code commands.PolicyAuthorizeNv) (name_bytes index))

-- one line for each kind of move
abbrev pub update_of : Move → Update
update_of (Assert assertion) = update_of_assertion assertion
update_of (Or digests) = update_of_or digests
update_of (Approve key policy_ref approved signature) = update_of_approve key policy_ref
update_of (ApproveNv index approved) = update_of_approve_nv index

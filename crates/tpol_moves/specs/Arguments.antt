-- The arguments of the policy commands of a path, word by word.
use Rattle.std.specs.Prelude.{ℕ, ℤ, Bool, true, false, List, [], ◌∷◌, codes, decimal, map, Option, if◌then◌else◌}
use Rattle.std.specs.Fmt.{signed_decimal}
use Rattle.hex.specs.Hex.{encode_lower}
use Rattle.tpol_base.specs.Digest.{is_same_digest, optional_bytes, zero_digest}
use Rattle.tpol_base.specs.Name.{name_bytes}
use Rattle.tpol_base.specs.Pcr.{pcrs_of_mask}
use Rattle.tpol_base.specs.declared.compare.Compare.{Compare}
use Rattle.tpol_base.specs.declared.compare.Compare.TheVariants.{Eq, Neq, SignedGt, UnsignedGt, SignedLt, UnsignedLt, SignedGe, UnsignedGe, SignedLe, UnsignedLe, BitSet, BitClear}
use Rattle.tpol_base.specs.declared.digest.Digest32.{Digest32}
use Rattle.tpol_base.specs.declared.name.Name.{Name}
use Rattle.tpol_lines.specs.Hex.{bytes_text, code_text}
use Rattle.tpol_lines.specs.PathLine.{separated}
use Rattle.tpol_tree.specs.declared.closed.Assertion.{Assertion}
use Rattle.tpol_tree.specs.declared.closed.Assertion.TheVariants.{Pcr, Nv, Secret, Signed, CounterTimer, CommandCode, Locality, CpHash, NameHash, NvWritten, AuthValue, Password, PhysicalPresence, Duplication}
use Rattle.tpol_tree.specs.declared.path.Move.{Move}
use Rattle.tpol_tree.specs.declared.path.Move.TheVariants.{Assert, Or, Approve, ApproveNv}
use Rattle.tpm_rules.specs.PolicyAuthorize.{approval_hash}

-- ---- values as text; `-` stands for no bytes and for no PCRs

abbrev pub digest_text : Digest32 → List ℕ
digest_text digest = encode_lower digest.bytes

abbrev pub name_text : Name → List ℕ
name_text name = bytes_text (name_bytes name)

-- PCRs in rising order, with `,` between
abbrev pub pcrs_text : List ℕ → List ℕ
pcrs_text [] = codes "-"
pcrs_text (pcr ∷ rest) = separated 44 (map decimal (pcr ∷ rest))

-- digests, with `,` between
abbrev pub digests_text : List Digest32 → List ℕ
digests_text digests = separated 44 (map digest_text digests)

abbrev pub yes_no_text : Bool → List ℕ
yes_no_text true = codes "yes"
yes_no_text false = codes "no"

-- a comparison, as tpm2-tools spell it
abbrev pub operation_word : Compare → List ℕ
operation_word Eq = codes "eq"
operation_word Neq = codes "neq"
operation_word SignedGt = codes "sgt"
operation_word UnsignedGt = codes "ugt"
operation_word SignedLt = codes "slt"
operation_word UnsignedLt = codes "ult"
operation_word SignedGe = codes "sge"
operation_word UnsignedGe = codes "uge"
operation_word SignedLe = codes "sle"
operation_word UnsignedLe = codes "ule"
operation_word BitSet = codes "bs"
operation_word BitClear = codes "bc"

-- ---- the words of a policy command behind its kind

abbrev pub comparison_words : List ℕ → ℕ → Compare → List (List ℕ)
comparison_words operand offset operation =
    codes "operand" ∷ bytes_text operand ∷ codes "offset" ∷ decimal offset ∷ codes "operation" ∷ operation_word operation ∷ []

abbrev pub authorization_words : List ℕ → Option Digest32 → ℤ → List (List ℕ)
authorization_words policy_ref cp_hash expiration =
    codes "ref" ∷ bytes_text policy_ref ∷ codes "cphash" ∷ bytes_text (optional_bytes cp_hash)
    ∷ codes "expiration" ∷ signed_decimal expiration ∷ []

abbrev pub assertion_words : Assertion → List (List ℕ)
assertion_words (Pcr mask digest values) = pcrs_text (pcrs_of_mask mask) ∷ digest_text digest ∷ []
assertion_words (Nv index operand offset operation) =
    codes "index" ∷ name_text index ∷ comparison_words operand offset operation
assertion_words (Secret entity policy_ref cp_hash expiration) =
    codes "entity" ∷ name_text entity ∷ authorization_words policy_ref cp_hash expiration
assertion_words (Signed key policy_ref cp_hash expiration) =
    codes "key" ∷ name_text key ∷ authorization_words policy_ref cp_hash expiration
assertion_words (CounterTimer operand offset operation) = comparison_words operand offset operation
assertion_words (CommandCode code) = code_text code ∷ []
assertion_words (Locality localities) = decimal localities ∷ []
assertion_words (CpHash digest) = digest_text digest ∷ []
assertion_words (NameHash digest) = digest_text digest ∷ []
assertion_words (NvWritten written) = yes_no_text written ∷ []
assertion_words AuthValue = []
assertion_words Password = []
assertion_words PhysicalPresence = []
assertion_words (Duplication object parent include) =
    codes "parent" ∷ name_text parent ∷ codes "object" ∷ name_text object ∷ codes "include" ∷ yes_no_text include ∷ []

-- what belongs to an approved policy, and `-` on an outside path, whose approval is of no policy that is listed
abbrev pub if_listed : Digest32 → List ℕ → List ℕ
if_listed approved text = if is_same_digest approved zero_digest then codes "-" else text

abbrev pub move_words : Move → List (List ℕ)
move_words (Assert assertion) = assertion_words assertion
move_words (Or digests) = digests_text digests ∷ []
move_words (Approve key policy_ref approved signature) =
    codes "key" ∷ name_text key ∷ codes "ref" ∷ bytes_text policy_ref
    ∷ codes "approved" ∷ if_listed approved (digest_text approved)
    ∷ codes "ahash" ∷ if_listed approved (digest_text (approval_hash approved policy_ref))
    ∷ codes "signature" ∷ if_listed approved (digest_text signature) ∷ []
move_words (ApproveNv index approved) =
    codes "index" ∷ name_text index ∷ codes "approved" ∷ if_listed approved (digest_text approved) ∷ []

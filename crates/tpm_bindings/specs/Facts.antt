-- What the facts of a policy session bind a later use to, each as one list or one word over the facts
-- (TPM 2.0 Part 1, "Policy Session"; Part 3, the policy commands). No word looks at a fact's event.
use Rattle.std.specs.Prelude.{ℕ, ◌/◌, ◌%◌, ◌^◌, ◌==◌, ◌&&◌, ◌||◌, Bool, true, false, List, ◌++◌, fold, bit_and, nat_eq, nat_le, nat_lt, Option, Some, None}
use Rattle.std.specs.List.{list_all, list_any}
use Rattle.std.specs.Bool.{beq}
use Rattle.tpol_base.specs.declared.command_code.CommandCode.TheVariants.{Duplicate}
use Rattle.tpol_base.specs.CommandCode.{number_of_code}
use Rattle.tpol_base.specs.declared.digest.Digest32.{Digest32}
use Rattle.tpol_base.specs.Digest.{is_same_digest}
use Rattle.tpol_base.specs.declared.name.Name.{Name}
use Rattle.tpol_base.specs.Name.{name_bytes}
use Rattle.tpol_hash.specs.Sha256.{sha256_digest}
use Rattle.tpol_tree.specs.declared.closed.Assertion.{Assertion}
use Rattle.tpol_tree.specs.declared.closed.Assertion.TheVariants.{Pcr, CommandCode, Locality, CpHash, NameHash, NvWritten, AuthValue, Password, PhysicalPresence, Duplication}
use Rattle.tpol_tree.specs.declared.path.Move.{Move}
use Rattle.tpol_tree.specs.declared.path.Move.TheVariants.{Assert, Or, Approve, ApproveNv}
use Rattle.tpol_tree.specs.declared.facts.Fact.{Fact}
pub use Rattle.tpol_tree.specs.Facts.{moves_of}
use Rattle.tpm_bindings.specs.Held.{all_are, any_of, each_of}
use Rattle.tpm_bindings.specs.declared.last_auth.LastAuth.{LastAuth}
use Rattle.tpm_bindings.specs.declared.last_auth.LastAuth.TheVariants.{Neither, AuthValue as LastAuthValue, Password as LastPassword}

-- what f gives of a move that is an assertion
abbrev pub in_assertion : {A : Type 0} → (Assertion → Option A) → Move → Option A
in_assertion f (Assert assertion) = f assertion
in_assertion f (Or digests) = None
in_assertion f (Approve key policy_ref approved signature) = None
in_assertion f (ApproveNv index approved) = None

-- the nameHash of the two Names of a PolicyDuplicationSelect
abbrev pub hash_of_names : Name → Name → Digest32
hash_of_names object parent = sha256_digest (name_bytes object ++ name_bytes parent)

-- the command code that an assertion asks for: PolicyCommandCode's, and Duplicate's after PolicyDuplicationSelect
abbrev pub code_in : Assertion → Option ℕ
code_in (CommandCode code) = Some code
code_in (Duplication object parent include) = Some (number_of_code Duplicate)
code_in _ = None

-- the set of localities of a PolicyLocality, bit n for locality n
abbrev pub locality_in : Assertion → Option ℕ
locality_in (Locality localities) = Some localities
locality_in _ = None

-- the digest of a PolicyCpHash
abbrev pub cp_hash_in : Assertion → Option Digest32
cp_hash_in (CpHash digest) = Some digest
cp_hash_in _ = None

-- the digest of a PolicyNameHash, and of a PolicyDuplicationSelect that includes the object
abbrev pub name_hash_in : Assertion → Option Digest32
name_hash_in (NameHash digest) = Some digest
name_hash_in (Duplication object parent true) = Some (hash_of_names object parent)
name_hash_in _ = None

-- the digest of a PolicyDuplicationSelect whose policy digest leaves out the object's Name
abbrev pub parent_hash_in : Assertion → Option Digest32
parent_hash_in (Duplication object parent false) = Some (hash_of_names object parent)
parent_hash_in _ = None

-- the state of a PolicyNvWritten
abbrev pub written_in : Assertion → Option Bool
written_in (NvWritten written) = Some written
written_in _ = None

-- what PolicyAuthValue and PolicyPassword ask for
abbrev pub auth_in : Assertion → Option LastAuth
auth_in AuthValue = Some LastAuthValue
auth_in Password = Some LastPassword
auth_in _ = None

abbrev pub is_pcr : Move → Bool
is_pcr (Assert (Pcr mask digest values)) = true
is_pcr _ = false

abbrev pub is_presence : Move → Bool
is_presence (Assert PhysicalPresence) = true
is_presence _ = false

-- all of them in order
abbrev pub codes_of : List Move → List ℕ
codes_of moves = each_of (in_assertion code_in) moves

abbrev pub localities_of : List Move → List ℕ
localities_of moves = each_of (in_assertion locality_in) moves

abbrev pub cp_hashes_of : List Move → List Digest32
cp_hashes_of moves = each_of (in_assertion cp_hash_in) moves

abbrev pub name_hashes_of : List Move → List Digest32
name_hashes_of moves = each_of (in_assertion name_hash_in) moves

abbrev pub parent_hashes_of : List Move → List Digest32
parent_hashes_of moves = each_of (in_assertion parent_hash_in) moves

abbrev pub written_of : List Move → List Bool
written_of moves = each_of (in_assertion written_in) moves

abbrev pub auths_of : List Move → List LastAuth
auths_of moves = each_of (in_assertion auth_in) moves

-- the localities that every PolicyLocality allows, of 0 to 7
abbrev pub common_localities : List Move → ℕ
common_localities moves = fold bit_and 0xff (localities_of moves)

-- whether a set of localities, bit n for locality n, has this one; the set of all eight excludes none
abbrev pub has_locality : ℕ → ℕ → Bool
has_locality localities locality = localities == 0xff || (nat_lt locality 8 && localities / 2 ^ locality % 2 == 1)

-- the cpHashA of the facts that have one, and the deadlines
abbrev pub limits_of : List Fact → List Digest32
limits_of facts = each_of (λ fact. fact.cp_hash) facts

abbrev pub deadlines_of : List Fact → List ℕ
deadlines_of facts = each_of (λ fact. fact.deadline) facts

-- Words over facts, of which rules are made.

-- whether a command code is set
abbrev pub sets_code : List Fact → Bool
sets_code facts = any_of (codes_of (moves_of facts))

-- whether each code that is set is this one
abbrev pub every_code : List Fact → ℕ → Bool
every_code facts code = all_are nat_eq code (codes_of (moves_of facts))

-- whether a cpHash is set, by PolicyCpHash or by a cpHashA
abbrev pub sets_cp_hash : List Fact → Bool
sets_cp_hash facts = any_of (cp_hashes_of (moves_of facts)) || any_of (limits_of facts)

-- whether each cpHash that is set is this one
abbrev pub every_cp_hash : List Fact → Digest32 → Bool
every_cp_hash facts digest =
    all_are is_same_digest digest (cp_hashes_of (moves_of facts)) && all_are is_same_digest digest (limits_of facts)

-- whether a nameHash is set, by PolicyNameHash or by PolicyDuplicationSelect
abbrev pub sets_name_hash : List Fact → Bool
sets_name_hash facts = any_of (name_hashes_of (moves_of facts)) || any_of (parent_hashes_of (moves_of facts))

-- whether each nameHash that is set is this one
abbrev pub every_name_hash : List Fact → Digest32 → Bool
every_name_hash facts digest =
    all_are is_same_digest digest (name_hashes_of (moves_of facts)) && all_are is_same_digest digest (parent_hashes_of (moves_of facts))

-- whether an index's state is asked for
abbrev pub sets_written : List Fact → Bool
sets_written facts = any_of (written_of (moves_of facts))

-- whether each state that is asked for is this one
abbrev pub every_written : List Fact → Bool → Bool
every_written facts written = all_are beq written (written_of (moves_of facts))

-- whether every PolicyLocality allows the locality
abbrev pub allows_locality : List Fact → ℕ → Bool
allows_locality facts locality = has_locality (common_localities (moves_of facts)) locality

-- whether the time is at most the deadline, if there is one
abbrev pub is_before : ℕ → Option ℕ → Bool
is_before time None = true
is_before time (Some deadline) = nat_le time deadline

-- whether the time is at most every deadline
abbrev pub is_in_time : List Fact → ℕ → Bool
is_in_time facts time = list_all (nat_le time) (deadlines_of facts)

-- whether physical presence is asked for
abbrev pub asks_presence : List Fact → Bool
asks_presence facts = list_any is_presence (moves_of facts)

-- the last of what PolicyAuthValue and PolicyPassword ask for
abbrev pub last_auth : List Fact → LastAuth
last_auth facts = fold (λ before auth. auth) Neither (auths_of (moves_of facts))

-- whether there is a PolicyPCR
abbrev pub has_pcr : List Fact → Bool
has_pcr facts = list_any is_pcr (moves_of facts)

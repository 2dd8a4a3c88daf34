-- The command code says how a move is hashed.
use Rattle.std.proofs.Common.{◌≡◌, ℕ, ◌<◌, ◌^◌, Bool, false, Option, Some, None, refl, sym, ap, ◌∙◌, arith}
use Rattle.std.specs.Prelude.{◌||◌, nat_eq, is_some}
use Rattle.tpol_base.specs.declared.digest.Digest32.{Digest32}
use Rattle.tpol_tree.specs.declared.closed.Assertion.{Assertion}
use Rattle.tpol_tree.specs.declared.closed.Assertion.TheVariants.{Pcr, Nv, Secret, Signed, CounterTimer, CommandCode, Locality, CpHash, NameHash, NvWritten, AuthValue, Password, PhysicalPresence, Duplication}
use Rattle.tpol_tree.specs.declared.path.Move.{Move}
use Rattle.tpol_tree.specs.declared.path.Move.TheVariants.{Assert, Or, Approve, ApproveNv}
use Rattle.tpol_digest.specs.Update.{Update, update_of, update_of_assertion}
use Rattle.tpol_trace.specs.Same.{approved_of}

-- whether the command starts from zero, hashes the digest of another string, hashes twice, approves
abbrev pub starts_fresh : ℕ → Bool
starts_fresh code = nat_eq code 0x171 || (nat_eq code 0x16a || nat_eq code 0x192)

abbrev pub hashes_inner : ℕ → Bool
hashes_inner code = nat_eq code 0x149 || nat_eq code 0x16d

abbrev pub hashes_twice : ℕ → Bool
hashes_twice code = nat_eq code 0x151 || (nat_eq code 0x160 || nat_eq code 0x16a)

abbrev pub approves : ℕ → Bool
approves code = nat_eq code 0x16a || nat_eq code 0x192

-- an update as its code says
pub record IsRegular (u : Update) : Type 0 where
  pub fresh : u.fresh ≡ starts_fresh u.code
  pub inner : is_some u.inner ≡ hashes_inner u.code
  pub second : is_some u.policy_ref ≡ hashes_twice u.code
  pub bound : u.code < 2 ^ 32

pub regular_assertion : (assertion : Assertion) → IsRegular (update_of_assertion assertion)
regular_assertion (Pcr mask digest values) = record { fresh = refl; inner = refl; second = refl; bound = omega arith }
regular_assertion (Nv index operand offset operation) = record { fresh = refl; inner = refl; second = refl; bound = omega arith }
regular_assertion (CounterTimer operand offset operation) = record { fresh = refl; inner = refl; second = refl; bound = omega arith }
regular_assertion (Secret entity policy_ref cp_hash expiration) = record { fresh = refl; inner = refl; second = refl; bound = omega arith }
regular_assertion (Signed key policy_ref cp_hash expiration) = record { fresh = refl; inner = refl; second = refl; bound = omega arith }
regular_assertion (CommandCode code) = record { fresh = refl; inner = refl; second = refl; bound = omega arith }
regular_assertion (Locality locality) = record { fresh = refl; inner = refl; second = refl; bound = omega arith }
regular_assertion (CpHash digest) = record { fresh = refl; inner = refl; second = refl; bound = omega arith }
regular_assertion (NameHash digest) = record { fresh = refl; inner = refl; second = refl; bound = omega arith }
regular_assertion (NvWritten written) = record { fresh = refl; inner = refl; second = refl; bound = omega arith }
regular_assertion AuthValue = record { fresh = refl; inner = refl; second = refl; bound = omega arith }
regular_assertion Password = record { fresh = refl; inner = refl; second = refl; bound = omega arith }
regular_assertion PhysicalPresence = record { fresh = refl; inner = refl; second = refl; bound = omega arith }
regular_assertion (Duplication object parent include) = record { fresh = refl; inner = refl; second = refl; bound = omega arith }

pub regular : (act : Move) → IsRegular (update_of act)
regular (Assert assertion) = regular_assertion assertion
regular (Or digests) = record { fresh = refl; inner = refl; second = refl; bound = omega arith }
regular (Approve key policy_ref approved signature) = record { fresh = refl; inner = refl; second = refl; bound = omega arith }
regular (ApproveNv index approved) = record { fresh = refl; inner = refl; second = refl; bound = omega arith }

-- an assertion goes on from the digest before, and approves nothing
pub assertion_goes_on : (assertion : Assertion) → (update_of_assertion assertion).fresh ≡ false
assertion_goes_on (Pcr mask digest values) = refl
assertion_goes_on (Nv index operand offset operation) = refl
assertion_goes_on (CounterTimer operand offset operation) = refl
assertion_goes_on (Secret entity policy_ref cp_hash expiration) = refl
assertion_goes_on (Signed key policy_ref cp_hash expiration) = refl
assertion_goes_on (CommandCode code) = refl
assertion_goes_on (Locality locality) = refl
assertion_goes_on (CpHash digest) = refl
assertion_goes_on (NameHash digest) = refl
assertion_goes_on (NvWritten written) = refl
assertion_goes_on AuthValue = refl
assertion_goes_on Password = refl
assertion_goes_on PhysicalPresence = refl
assertion_goes_on (Duplication object parent include) = refl

assertion_approves : (assertion : Assertion) → false ≡ approves (update_of_assertion assertion).code
assertion_approves (Pcr mask digest values) = refl
assertion_approves (Nv index operand offset operation) = refl
assertion_approves (CounterTimer operand offset operation) = refl
assertion_approves (Secret entity policy_ref cp_hash expiration) = refl
assertion_approves (Signed key policy_ref cp_hash expiration) = refl
assertion_approves (CommandCode code) = refl
assertion_approves (Locality locality) = refl
assertion_approves (CpHash digest) = refl
assertion_approves (NameHash digest) = refl
assertion_approves (NvWritten written) = refl
assertion_approves AuthValue = refl
assertion_approves Password = refl
assertion_approves PhysicalPresence = refl
assertion_approves (Duplication object parent include) = refl

-- whether there is an approved digest
pub approves_by_code : (act : Move) → is_some (approved_of act) ≡ approves (update_of act).code
approves_by_code (Assert assertion) = assertion_approves assertion
approves_by_code (Or digests) = refl
approves_by_code (Approve key policy_ref approved signature) = refl
approves_by_code (ApproveNv index approved) = refl

-- a command that hashes the same as an assertion does approves nothing
none_of : (o : Option Digest32) → is_some o ≡ false → o ≡ None
none_of None e = refl
none_of (Some d) e = cc e

pub same_hash_approves : (act fact : Move) → update_of act ≡ update_of fact → approved_of act ≡ None → approved_of act ≡ approved_of fact
same_hash_approves act fact hashed none =
    none
    ∙ sym (none_of (approved_of fact) (approves_by_code fact ∙ ap (λ (u : Update). approves u.code) (sym hashed) ∙ sym (approves_by_code act) ∙ ap is_some none))

-- updates of the same parts
pub same_parts : (a b : Update) → a.fresh ≡ b.fresh → a.code ≡ b.code → a.inner ≡ b.inner → a.rest ≡ b.rest → a.policy_ref ≡ b.policy_ref → a ≡ b
same_parts a b fresh code inner rest second =
    λ i. record { fresh = fresh i; code = code i; inner = inner i; rest = rest i; policy_ref = second i }

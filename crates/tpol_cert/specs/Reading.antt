-- The certificate that bytes spell, read from left to right.
use Rattle.std.specs.Prelude.{◌≡◌, ℕ, zero, suc, ⊤, List, [], ◌∷◌, length, take, drop, Option, Some, None, Result, Ok, Err, nat_lt, ◌==◌, if◌then◌else◌}
use Rattle.std.specs.Int.{Width, w16, w32, byte_len, from_be_bytes}
use Rattle.std.specs.Option.{option_and_then, option_map}
use Rattle.std.specs.Str.{bytes_eq}
use Rattle.tpol_base.specs.declared.digest.Digest32.{Digest32}
use Rattle.tpol_base.specs.Digest.{digest_of_bytes}
use Rattle.tpol_cert.specs.declared.certificate.Certificate.{Certificate}
use Rattle.tpol_cert.specs.declared.choice.Choice.{Choice}
use Rattle.tpol_cert.specs.declared.choice.Choice.TheVariants.{Branch, Document, Outside}
use Rattle.tpol_cert.specs.declared.fault.CertFault.{CertFault}
use Rattle.tpol_cert.specs.declared.fault.CertFault.TheVariants as faults
use Rattle.tpol_cert.specs.Spelling.{magic}

-- what is read from the front of bytes, and the bytes behind it
abbrev pub Reader : Type 0 → Type 0
Reader A = List ℕ → Option (A × List ℕ)

abbrev pub number_in : Width → Reader ℕ
number_in w bytes =
    if nat_lt (length bytes) (byte_len w) then None else Some (from_be_bytes w (take (byte_len w) bytes), drop (byte_len w) bytes)

unfoldable pub choice_in : Reader Choice
choice_in [] = None
choice_in (zero ∷ rest) = None
choice_in (suc zero ∷ rest) = option_map (λ n. (Branch n.0, n.1)) (number_in w32 rest)
choice_in (suc (suc zero) ∷ rest) = option_map (λ n. (Document n.0, n.1)) (number_in w32 rest)
choice_in (suc (suc (suc zero)) ∷ rest) = Some (Outside, rest)
choice_in (suc (suc (suc (suc kind))) ∷ rest) = None

abbrev pub digest_in : Reader Digest32
digest_in bytes = if nat_lt (length bytes) 32 then None else Some (digest_of_bytes (take 32 bytes), drop 32 bytes)

-- so many, one after the other
unfoldable pub many_in : {A : Type 0} → Reader A → ℕ → Reader (List A)
many_in read zero bytes = Some ([], bytes)
many_in read (suc n) bytes =
    option_and_then (λ first. option_map (λ others. (first.0 ∷ others.0, others.1)) (many_in read n first.1)) (read bytes)

-- behind their number
unfoldable pub list_in : {A : Type 0} → Reader A → Reader (List A)
list_in read bytes = option_and_then (λ n. many_in read n.0 n.1) (number_in w16 bytes)

-- all of the bytes
unfoldable pub certificate_in : List ℕ → Option Certificate
certificate_in bytes =
    if bytes_eq (take 4 bytes) magic then
    option_and_then (λ steps. option_and_then (λ digests. if length digests.1 == 0 then Some (record { steps = steps.0; digests = digests.0 }) else None) (list_in digest_in steps.1)) (list_in choice_in (drop 4 bytes))
    else None

-- ---- what a function answers that reads

-- from the front: what is read, and the bytes that are left behind it; none where nothing is read
abbrev pub Reads : {A : Type 0} → Option A → List ℕ → Option (A × List ℕ) → Type 0
Reads (Some x) left read = read ≡ Some (x, left)
Reads None left read = read ≡ None

-- the same where memory may run out
abbrev pub Gives : {A : Type 0} → Result A CertFault → List ℕ → Option (A × List ℕ) → Type 0
Gives (Ok x) left read = read ≡ Some (x, left)
Gives (Err faults.NoMemory) left read = ⊤
Gives (Err faults.Malformed) left read = read ≡ None
Gives (Err (faults.NoStep number)) left read = ⊥
Gives (Err (faults.Differs number)) left read = ⊥

-- of all bytes
abbrev pub GivesWhole : {A : Type 0} → Result A CertFault → Option A → Type 0
GivesWhole (Ok x) read = read ≡ Some x
GivesWhole (Err faults.NoMemory) read = ⊤
GivesWhole (Err faults.Malformed) read = read ≡ None
GivesWhole (Err (faults.NoStep number)) read = ⊥
GivesWhole (Err (faults.Differs number)) read = ⊥

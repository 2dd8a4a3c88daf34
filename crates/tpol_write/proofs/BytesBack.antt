-- What canonical text writes of bytes, digests, texts and numbers reads back, wherever it stands.
use Rattle.std.proofs.Common.{◌≡◌, ℕ, ◌≤◌, ◌^◌, ◌-◌, ◌==◌, Bool, leb, ℤ, pos, negsuc, unsigned_abs, ◌≤ℤ◌, List, length, Ok, ap, ◌∙◌, arith, le-leb, if◌then◌else◌}
use Rattle.std.proofs.lemmas.Bool.{leb-true, cond-true}
use Rattle.std.proofs.lemmas.Float.{T_from_true}
use Rattle.hex.specs.Hex.{IsBytes}
use Rattle.tpol_base.proofs.Digests.{digest_again}
use Rattle.tpol_base.specs.Answers.{◌>>=◌}
use Rattle.tpol_base.specs.Digest.{digest_of_bytes}
use Rattle.tpol_base.specs.declared.digest.Digest32.{Digest32}
use Rattle.tpol_json.proofs.Limits.{FitsBytes, FitsDigest, IsSigned32, is_empty_or_32, is_up_to, passed}
use Rattle.tpol_json.specs.Bytes.{bytes_in}
use Rattle.tpol_json.specs.Faults as members
use Rattle.tpol_json.specs.Reading as reading
use Rattle.tpol_json.specs.Reading.{ReadAs, bad}
use Rattle.tpol_json.specs.declared.fault.MemberKind.TheVariants.{BadHex}
use Rattle.tpol_json.specs.declared.place.Place.{Place}
use Rattle.tpol_members.specs.Faults.{read_as}
use Rattle.tpol_members.specs.Values.{bytes_up_to, empty_or_32, digest_in, unsigned_in, signed_in}
use Rattle.tpol_write.proofs.ReadBack.{bytes_back, numbers_back}
use Rattle.tpol_write.specs.Objects.{hex_text, natural, integer}

-- ---- readings one after another

-- a reading goes on from what was found
pub bound : {K A B : Type 0} (found : ReadAs K A) (x : A) (next : A → ReadAs K B) (y : ReadAs K B) → found ≡ Ok x → next x ≡ y → (found >>= next) ≡ y
bound found x next y e f = ap (λ r. r >>= next) e ∙ f

-- a JSON value with the faults of a member
abbrev pub as_member : {A : Type 0} → members.FoundValue A → members.Found A
as_member = reading.read_as members.kind_of

-- ---- numbers

pos_le : (m n : ℕ) → m ≤ n → pos m ≤ℤ pos n
pos_le m n h = record { le = T_from_true (leb m n) (le-leb m n h) }

pub unsigned-back : (least greatest n : ℕ) (place : Place) → least ≤ n → n ≤ greatest → n ≤ 2 ^ 63 - 1 → unsigned_in least greatest (natural n) place ≡ Ok n
unsigned-back least greatest n place low high small =
    ap (λ r. read_as (as_member r >>= λ z. Ok (unsigned_abs z))) (numbers_back (pos least) (pos greatest) (pos n) place (pos_le least n low) (pos_le n greatest high) (pos_le n (2 ^ 63 - 1) small))

below_63 : (z : ℤ) → z ≤ℤ pos (2 ^ 31 - 1) → z ≤ℤ pos (2 ^ 63 - 1)
below_63 (pos n) h = pos_le n (2 ^ 63 - 1) (omega (arith, leb-true n (2 ^ 31 - 1) (passed (leb n (2 ^ 31 - 1)) h.le)))
below_63 (negsuc n) h = record { le = tt }

pub signed-back : (z : ℤ) (place : Place) → IsSigned32 z → signed_in (integer z) place ≡ Ok z
signed-back z place fits =
    ap (λ r. read_as (as_member r)) (numbers_back (negsuc (2 ^ 31 - 1)) (pos (2 ^ 31 - 1)) z place fits.0 fits.1 (below_63 z fits.1))

-- ---- bytes

pub read_bytes-back : (bytes : List ℕ) (place : Place) → IsBytes bytes → as_member (bytes_in (hex_text bytes) place) ≡ Ok bytes
read_bytes-back bytes place are = ap as_member (bytes_back bytes place are)

bytes_by-back : (test : List ℕ → Bool) (bytes : List ℕ) (place : Place) → FitsBytes test bytes → read_as (as_member (bytes_in (hex_text bytes) place) >>= λ bs. if test bs then Ok bs else bad BadHex place) ≡ Ok bytes
bytes_by-back test bytes place fits =
    ap read_as
    (bound (as_member (bytes_in (hex_text bytes) place)) bytes (λ bs. if test bs then Ok bs else bad BadHex place) (Ok bytes) (read_bytes-back bytes place fits.0)
    (cond-true (test bytes) (Ok bytes) (bad BadHex place) fits.1))

pub up_to-back : (limit : ℕ) (bytes : List ℕ) (place : Place) → FitsBytes (is_up_to limit) bytes → bytes_up_to limit (hex_text bytes) place ≡ Ok bytes
up_to-back limit bytes place fits = bytes_by-back (is_up_to limit) bytes place fits

pub empty_or_32-back : (bytes : List ℕ) (place : Place) → FitsBytes is_empty_or_32 bytes → empty_or_32 (hex_text bytes) place ≡ Ok bytes
empty_or_32-back bytes place fits = bytes_by-back is_empty_or_32 bytes place fits

-- ---- digests

pub digest-back : (digest : Digest32) (place : Place) → FitsDigest digest → digest_in (hex_text digest.bytes) place ≡ Ok digest
digest-back digest place fits =
    ap read_as
    (bound (as_member (bytes_in (hex_text digest.bytes) place)) digest.bytes (λ bytes. if length bytes == 32 then Ok (digest_of_bytes bytes) else bad BadHex place) (Ok digest)
    (read_bytes-back digest.bytes place fits)
    (ap (λ n. if n == 32 then Ok (digest_of_bytes digest.bytes) else bad BadHex place) digest.whole ∙ ap Ok (digest_again digest)))

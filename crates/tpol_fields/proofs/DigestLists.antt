-- Reading digests one after the other, as a loop does.
use Rattle.std.proofs.Common.{◌≡◌, ℕ, suc, ◌-◌, ◌+◌, ◌≤◌, ◌<◌, List, [], ◌∷◌, ◌++◌, Result, Ok, Err, refl, sym, ap, ◌∙◌, append_assoc, arith}
use Rattle.std.proofs.lemmas.List.{append-nil}
use Rattle.tpol_base.specs.declared.digest.Digest32.{Digest32}
use Rattle.tpol_base.specs.Answers.{◌>>=◌}
use Rattle.tpol_fields.specs.Kinds.{listed_digest, digests_at}

-- what was read before, and what is still read
abbrev pub with_front : List Digest32 → Result (List Digest32 × List ℕ) ℕ → Result (List Digest32 × List ℕ) ℕ
with_front front reading = reading >>= λ x. Ok (front ++ x.0, x.1)

regroup : (front : List Digest32) (d : Digest32) (reading : Result (List Digest32 × List ℕ) ℕ) → with_front front (reading >>= λ x. Ok (d ∷ x.0, x.1)) ≡ with_front (front ++ d ∷ []) reading
regroup front d (Ok x) = ap (λ (ds : List Digest32). Ok (ds, x.1)) (simp append_assoc)
regroup front d (Err code) = refl

pub goes_on : (position : ℕ) (front : List Digest32) (count i : ℕ) (bytes : List ℕ) (d : Digest32) (after : List ℕ) (total : Result (List Digest32 × List ℕ) ℕ) → i < count → listed_digest position bytes ≡ Ok (d, after)
    → with_front front (digests_at position (count - i) bytes) ≡ total → with_front (front ++ d ∷ []) (digests_at position (count - (i + 1)) after) ≡ total
unfolding digests_at
goes_on position front count i bytes d after total lt h so_far =
    let k : count - i ≡ suc (count - (i + 1)) = omega arith in
    let one : with_front front (digests_at position (count - i) bytes) ≡ with_front (front ++ d ∷ []) (digests_at position (count - (i + 1)) after) = rw (k, h) (regroup front d (digests_at position (count - (i + 1)) after)) in
    sym one ∙ so_far

pub stops : (code position : ℕ) (front : List Digest32) (count i : ℕ) (bytes : List ℕ) (total : Result (List Digest32 × List ℕ) ℕ) → i < count → listed_digest position bytes ≡ Err code
    → with_front front (digests_at position (count - i) bytes) ≡ total → total ≡ Err code
unfolding digests_at
stops code position front count i bytes total lt h so_far =
    let k : count - i ≡ suc (count - (i + 1)) = omega arith in
    let one : with_front front (digests_at position (count - i) bytes) ≡ Err code = rw (k, h) refl in
    sym so_far ∙ one

pub is_done : (position : ℕ) (front : List Digest32) (count i : ℕ) (bytes : List ℕ) (total : Result (List Digest32 × List ℕ) ℕ) → count ≤ i → with_front front (digests_at position (count - i) bytes) ≡ total → total ≡ Ok (front, bytes)
unfolding digests_at
is_done position front count i bytes total le so_far =
    let k : count - i ≡ 0 = omega arith in
    let one : with_front front (digests_at position (count - i) bytes) ≡ Ok (front, bytes) = rw k (ap (λ (ds : List Digest32). Ok (ds, bytes)) (append-nil front)) in
    sym so_far ∙ one

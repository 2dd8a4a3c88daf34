-- The values of a set of PCRs, one PCR further.
use Rattle.std.proofs.Common.{◌≡◌, ℕ, ◌+◌, Bool, true, false, cond, List, [], ◌∷◌, ◌++◌, length, map, filter, refl, sym, ap, ◌∙◌, append_assoc, append-nil, ◌<◌, get_or, take, arith}
use Rattle.std.proofs.lemmas.List.{length-take, take_more}
use Rattle.std.specs.List.{enumerate_from, flat_map}
use Rattle.tpol_base.specs.declared.digest.Digest32.{Digest32}
use Rattle.tpol_base.specs.Pcr.{is_in_mask}

-- the bytes of values that stand with their PCRs
abbrev joined : List (ℕ × Digest32) → List ℕ
joined pairs = flat_map (λ value. value.bytes) (map (λ p. p.1) pairs)

-- the selected values joined, the first of all values being that of PCR n
abbrev pub message_from : ℕ → ℕ → List Digest32 → List ℕ
message_from mask n values = joined (filter (λ p. is_in_mask mask p.0) (enumerate_from n values))

one_value : (b : Bool) (n : ℕ) (value : Digest32) → joined (cond b ((n, value) ∷ []) []) ≡ cond b value.bytes []
one_value true n value = append-nil value.bytes
one_value false n value = refl

value_before : (b : Bool) (n : ℕ) (value : Digest32) (xs ys : List (ℕ × Digest32)) (tail : List ℕ) → joined xs ≡ joined ys ++ tail
    → joined (cond b ((n, value) ∷ xs) xs) ≡ joined (cond b ((n, value) ∷ ys) ys) ++ tail
value_before true n value xs ys tail same = ap (λ bytes. value.bytes ++ bytes) same ∙ sym (append_assoc value.bytes (joined ys) tail)
value_before false n value xs ys tail same = same

pub message_more : (mask n m : ℕ) (values : List Digest32) (value : Digest32) → n + length values ≡ m
    → message_from mask n (values ++ value ∷ []) ≡ message_from mask n values ++ cond (is_in_mask mask m) value.bytes []
message_more mask n m [] value place =
    let same : n ≡ m = omega arith in
    one_value (is_in_mask mask n) n value ∙ ap (λ k. cond (is_in_mask mask k) value.bytes []) same
message_more mask n m (first ∷ values) value place =
    value_before (is_in_mask mask n) n first
    (filter (λ p. is_in_mask mask p.0) (enumerate_from (n + 1) (values ++ value ∷ [])))
    (filter (λ p. is_in_mask mask p.0) (enumerate_from (n + 1) values))
    (cond (is_in_mask mask m) value.bytes [])
    (message_more mask (n + 1) m values value (omega arith))

-- the value behind the first ones is added where its PCR is in the set
pub message_next : (mask i : ℕ) (values : List Digest32) (value : Digest32) → i < length values → value ≡ get_or values i value
    → message_from mask 0 (take (i + 1) values) ≡ message_from mask 0 (take i values) ++ cond (is_in_mask mask i) value.bytes []
message_next mask i values value within is =
    let more : take (i + 1) values ≡ take i values ++ value ∷ [] = take_more values i value within ∙ ap (λ v. take i values ++ v ∷ []) (sym is) in
    ap (message_from mask 0) more ∙ message_more mask 0 i (take i values) value (omega (arith, length-take i values))

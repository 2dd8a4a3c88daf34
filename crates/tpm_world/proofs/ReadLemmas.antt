-- The first selected PCRs, one PCR further.
use Rattle.std.proofs.Common.{◌≡◌, ◌≤◌, ◌<◌, ◌+◌, ◌^◌, ℕ, zero, suc, true, false, cond, List, [], ◌∷◌, ◌++◌, length, map, take, refl, sym, ap, subst, ◌∙◌, arith}
use Rattle.std.specs.Prelude.{bit_or, filter}
use Rattle.std.specs.List.{range_with_len}
use Rattle.std.proofs.lemmas.List.{append-nil, length-map, map-append, map-id}
use Rattle.std.proofs.lemmas.List.Elements.{filter-append}
use Rattle.std.proofs.lemmas.List.FromFn.{map-range_with_len_more}
use Rattle.std.proofs.lemmas.List.Sums.{fold_push}
use Rattle.tpol_base.specs.declared.digest.Digest32.{Digest32}
use Rattle.tpol_base.specs.Pcr.{is_in_mask, mask_of_pcrs}
use Rattle.tpm_pcr.specs.Pcrs.{value_of}
use Rattle.tpm_world.specs.PcrRead.{read_pcrs, selected_pcrs}

-- the first eight of the selected PCRs below this one
abbrev pub first_read : ℕ → ℕ → List ℕ
first_read mask n = take 8 (filter (is_in_mask mask) (range_with_len 0 n))

range_more : (n : ℕ) → range_with_len 0 (n + 1) ≡ range_with_len 0 n ++ n ∷ []
range_more n =
    sym (map-id (range_with_len 0 (n + 1)))
    ∙ map-range_with_len_more (λ k. k) 0 n n (omega arith)
    ∙ ap (λ list. list ++ n ∷ []) (map-id (range_with_len 0 n))

selected_more : (mask n : ℕ) → filter (is_in_mask mask) (range_with_len 0 (n + 1)) ≡ filter (is_in_mask mask) (range_with_len 0 n) ++ cond (is_in_mask mask n) (n ∷ []) []
selected_more mask n = ap (filter (is_in_mask mask)) (range_more n) ∙ filter-append (is_in_mask mask) (range_with_len 0 n) (n ∷ [])

-- as long as there is room for one more, it is taken
take_push : (n : ℕ) (xs : List ℕ) (x : ℕ) → length (take n xs) < n → take n (xs ++ x ∷ []) ≡ take n xs ++ x ∷ []
take_push zero xs x room = absurd (omega arith)
take_push (suc zero) [] x room = refl
take_push (suc (suc n)) [] x room = refl
take_push (suc n) (y ∷ ys) x room = ap (λ rest. y ∷ rest) (take_push n ys x (omega arith))

-- without room it is not
take_full : (n : ℕ) (xs more : List ℕ) → n ≤ length (take n xs) → take n (xs ++ more) ≡ take n xs
take_full zero xs more full = refl
take_full (suc n) [] more full = absurd (omega arith)
take_full (suc n) (y ∷ ys) more full = ap (λ rest. y ∷ rest) (take_full n ys more (omega arith))

pub read_one : (mask n : ℕ) → length (first_read mask n) < 8 → is_in_mask mask n ≡ true → first_read mask (n + 1) ≡ first_read mask n ++ n ∷ []
read_one mask n room is =
    ap (take 8) (selected_more mask n ∙ ap (λ b. filter (is_in_mask mask) (range_with_len 0 n) ++ cond b (n ∷ []) []) is)
    ∙ take_push 8 (filter (is_in_mask mask) (range_with_len 0 n)) n room

pub read_none : (mask n : ℕ) → is_in_mask mask n ≡ false → first_read mask (n + 1) ≡ first_read mask n
read_none mask n is =
    ap (take 8) (selected_more mask n ∙ ap (λ b. filter (is_in_mask mask) (range_with_len 0 n) ++ cond b (n ∷ []) []) is ∙ append-nil (filter (is_in_mask mask) (range_with_len 0 n)))

pub read_full : (mask n : ℕ) → 8 ≤ length (first_read mask n) → first_read mask (n + 1) ≡ first_read mask n
read_full mask n full =
    ap (take 8) (selected_more mask n)
    ∙ take_full 8 (filter (is_in_mask mask) (range_with_len 0 n)) (cond (is_in_mask mask n) (n ∷ []) []) full

pub mask_of_pcrs-push : (pcrs : List ℕ) (pcr : ℕ) → mask_of_pcrs (pcrs ++ pcr ∷ []) ≡ bit_or (mask_of_pcrs pcrs) (2 ^ pcr)
mask_of_pcrs-push pcrs pcr = fold_push (λ mask pcr. bit_or mask (2 ^ pcr)) 0 pcrs pcr

-- one turn of the reading: what is read below a PCR, with the PCR
pub read_with : (values : List Digest32) (mask n : ℕ) (digests digests' : List Digest32) (read read' : ℕ)
    → digests ≡ map (value_of values) (first_read mask n) → read ≡ mask_of_pcrs (first_read mask n) → length digests < 8 → is_in_mask mask n ≡ true
    → digests' ≡ digests ++ value_of values n ∷ [] → read' ≡ bit_or read (2 ^ n)
    → (digests' ≡ map (value_of values) (first_read mask (n + 1))) × (read' ≡ mask_of_pcrs (first_read mask (n + 1)))
read_with values mask n digests digests' read read' are is room selected longer more =
    let size : length digests ≡ length (first_read mask n) = ap length are ∙ length-map (first_read mask n) (value_of values) in
    let next = read_one mask n (subst (λ count. count < 8) size room) selected in (
      longer ∙ ap (λ list. list ++ value_of values n ∷ []) are ∙ sym (map-append (value_of values) (first_read mask n) (n ∷ [])) ∙ ap (map (value_of values)) (sym next),
      more ∙ ap (λ mask. bit_or mask (2 ^ n)) is ∙ sym (mask_of_pcrs-push (first_read mask n) n) ∙ ap mask_of_pcrs (sym next),
    )

-- and without it
pub read_without : (values : List Digest32) (mask n : ℕ) (digests : List Digest32) (read : ℕ)
    → digests ≡ map (value_of values) (first_read mask n) → read ≡ mask_of_pcrs (first_read mask n) → first_read mask (n + 1) ≡ first_read mask n
    → (digests ≡ map (value_of values) (first_read mask (n + 1))) × (read ≡ mask_of_pcrs (first_read mask (n + 1)))
read_without values mask n digests read are is same = (are ∙ ap (map (value_of values)) (sym same), is ∙ ap mask_of_pcrs (sym same))

-- a PCR past the eighth that is selected
pub read_past : (values : List Digest32) (mask n : ℕ) (digests : List Digest32) → digests ≡ map (value_of values) (first_read mask n) → 8 ≤ length digests → first_read mask (n + 1) ≡ first_read mask n
read_past values mask n digests are full =
    read_full mask n (subst (λ count. 8 ≤ count) (ap length are ∙ length-map (first_read mask n) (value_of values)) full)

-- all 24 are read from
pub read_all : (mask n : ℕ) → n ≡ 24 → first_read mask n ≡ read_pcrs mask
unfolding read_pcrs selected_pcrs
read_all mask n all = ap (first_read mask) all

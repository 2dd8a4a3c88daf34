-- The header that a reader finds from the front is the one that stands at its places.
use Rattle.std.proofs.Common.{◌≡◌, ℕ, ◌≤◌, Bool, true, false, eqb, ltb, List, length, take, drop, refl, sym, ap, ◌∙◌, arith, eq-eqb}
use Rattle.std.specs.Prelude.{Some}
use Rattle.tpol_base.specs.Cursor.{NumberTaken}
use Rattle.std.proofs.lemmas.List.{length-drop}
use Rattle.std.specs.Int.{w16, w32, from_be_bytes}
use Rattle.std.proofs.lemmas.Bool.{le-ltb}
use Rattle.std.proofs.lemmas.List.{drop-drop}
use Rattle.tpol_base.specs.CommandCode.{code_of_number}
use Rattle.tpol_wire.specs.Commands.{tag}
use Rattle.tpol_wire.specs.Reading.{header_of, known}

header_is : (announced : Bool) (bytes : List ℕ) (n : ℕ) → 10 ≤ length bytes → length bytes ≤ 4096 → from_be_bytes w32 (take 4 (drop 2 bytes)) ≡ length bytes
    → from_be_bytes w16 (take 2 bytes) ≡ tag announced → n ≡ from_be_bytes w32 (take 4 (drop 4 (drop 2 bytes))) → header_of bytes ≡ known (code_of_number n) announced
unfolding header_of
header_is false bytes n long short size tag-is code-is =
    let a : ltb (length bytes) 10 ≡ false = le-ltb (length bytes) 10 long in
    let b : ltb 4096 (length bytes) ≡ false = le-ltb 4096 (length bytes) short in
    let d : eqb (from_be_bytes w32 (take 4 (drop 2 bytes))) (length bytes) ≡ true = eq-eqb _ _ size in
    let t : from_be_bytes w16 (take 2 bytes) ≡ tag false = tag-is in
    let p : n ≡ from_be_bytes w32 (take 4 (drop 6 bytes)) = code-is ∙ ap (λ (l : List ℕ). from_be_bytes w32 (take 4 l)) (drop-drop 4 2 bytes) in
    rw (a, b, d, t, ← p) refl
header_is true bytes n long short size tag-is code-is =
    let a : ltb (length bytes) 10 ≡ false = le-ltb (length bytes) 10 long in
    let b : ltb 4096 (length bytes) ≡ false = le-ltb 4096 (length bytes) short in
    let d : eqb (from_be_bytes w32 (take 4 (drop 2 bytes))) (length bytes) ≡ true = eq-eqb _ _ size in
    let t : from_be_bytes w16 (take 2 bytes) ≡ tag true = tag-is in
    let p : n ≡ from_be_bytes w32 (take 4 (drop 6 bytes)) = code-is ∙ ap (λ (l : List ℕ). from_be_bytes w32 (take 4 l)) (drop-drop 4 2 bytes) in
    rw (a, b, d, t, ← p) refl

-- the same from the three numbers that a cursor took
pub header_taken : (announced : Bool) (bytes first second third : List ℕ) (t s n : ℕ) → NumberTaken w16 bytes first (Some t) → NumberTaken w32 first second (Some s) → NumberTaken w32 second third (Some n)
    → length bytes ≤ 4096 → s ≡ length bytes → t ≡ tag announced → header_of bytes ≡ known (code_of_number n) announced
header_taken announced bytes first second third t s n one two three short size tag-is =
    let e1 : first ≡ drop 2 bytes = one.2 in
    let e2 : second ≡ drop 4 (drop 2 bytes) = two.2 ∙ ap (λ (l : List ℕ). drop 4 l) e1 in
    let l1 : length first ≡ length (drop 2 bytes) = ap length e1 in
    let l2 : length second ≡ length (drop 4 first) = ap length two.2 in
    let d1 = length-drop 2 bytes in
    let d2 = length-drop 4 first in
    let two-long : 2 ≤ length bytes = one.0 in
    let four-long : 4 ≤ length first = two.0 in
    let last-long : 4 ≤ length second = three.0 in
    let long : 10 ≤ length bytes = omega arith in
    header_is announced bytes n long short
    (sym (two.1 ∙ ap (λ (l : List ℕ). from_be_bytes w32 (take 4 l)) e1) ∙ size)
    (sym one.1 ∙ tag-is)
    (three.1 ∙ ap (λ (l : List ℕ). from_be_bytes w32 (take 4 l)) e2)

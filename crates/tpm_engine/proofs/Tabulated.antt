-- Tables as lists f 0, f 1, ..: what a write at a handle makes of them.
use Rattle.std.proofs.Common.{◌≡◌, ℕ, zero, suc, ◌-◌, ◌≤◌, Bool, true, false, ◌∷◌, set, replicate, Option, None, nat_eq, nat_le, if◌then◌else◌, refl, ap, ◌∙◌, arith}
use Rattle.std.proofs.lemmas.Bool.Decides.{nat_tests}
use Rattle.tpm_session.specs.Slots.{content_at, first_handle, handle_of_slot, in_slot, slot_count, with_content}
use Rattle.tpm_engine.specs.Views.{table}

pub table-same : {A : Type 0} (n : ℕ) (f g : ℕ → A) → ((k : ℕ) → f k ≡ g k) → table n f ≡ table n g
unfolding table
table-same zero f g same = refl
table-same (suc n) f g same =
    ap (λ x. x ∷ table n (λ k. f (suc k))) (same 0)
    ∙ ap (λ rest. g 0 ∷ rest) (table-same n (λ k. f (suc k)) (λ k. g (suc k)) (λ k. same (suc k)))

-- a table with one value throughout
pub table-replicate : {A : Type 0} (n : ℕ) (x : A) → replicate n x ≡ table n (λ k. x)
unfolding table
table-replicate zero x = refl
table-replicate (suc n) x = ap (λ rest. x ∷ rest) (table-replicate n x)

-- a write into a slot, of what is made of the contents that two tables have there
write-table : {X Y : Type 0} (n slot : ℕ) (f : ℕ → Option X) (g : ℕ → Option Y) (change : Option X → Option Y → Option X)
    → set (table n f) slot (change (in_slot (table n f) slot) (in_slot (table n g) slot)) ≡ table n (λ k. if nat_eq slot k then change (f k) (g k) else f k)
unfolding table
write-table zero slot f g change = refl
write-table (suc n) zero f g change =
    ap (λ rest. change (f 0) (g 0) ∷ rest)
    (table-same n (λ k. f (suc k)) (λ k. if nat_eq 0 (suc k) then change (f (suc k)) (g (suc k)) else f (suc k))
    (λ k. let apart : nat_eq 0 (suc k) ≡ false = grind (arith, nat_tests) in rw apart refl))
write-table (suc n) (suc slot) f g change =
    let apart : nat_eq (suc slot) 0 ≡ false = grind (arith, nat_tests) in
    rw apart
    (ap (λ rest. f 0 ∷ rest)
    (write-table n slot (λ k. f (suc k)) (λ k. g (suc k)) change
    ∙ table-same n (λ k. if nat_eq slot k then change (f (suc k)) (g (suc k)) else f (suc k))
    (λ k. if nat_eq (suc slot) (suc k) then change (f (suc k)) (g (suc k)) else f (suc k))
    (λ k. let same : nat_eq (suc slot) (suc k) ≡ nat_eq slot k = grind (arith, nat_tests) in rw same refl)))

-- the same at a handle
pub written : {X Y : Type 0} (handle : ℕ) (f : ℕ → Option X) (g : ℕ → Option Y) (change : Option X → Option Y → Option X)
    → with_content (table slot_count (λ k. f (handle_of_slot k))) handle
    (change (content_at (table slot_count (λ k. f (handle_of_slot k))) handle) (content_at (table slot_count (λ k. g (handle_of_slot k))) handle))
    ≡ table slot_count (λ k. if nat_eq handle (handle_of_slot k) then change (f (handle_of_slot k)) (g (handle_of_slot k)) else f (handle_of_slot k))
written {X} {Y} handle f g change = at (nat_le first_handle handle) refl
  where
    at : (b : Bool) → nat_le first_handle handle ≡ b
        → (if b then set (table slot_count (λ k. f (handle_of_slot k))) (handle - first_handle)
        (change (if b then in_slot (table slot_count (λ k. f (handle_of_slot k))) (handle - first_handle) else None)
        (if b then in_slot (table slot_count (λ k. g (handle_of_slot k))) (handle - first_handle) else None))
        else table slot_count (λ k. f (handle_of_slot k)))
        ≡ table slot_count (λ k. if nat_eq handle (handle_of_slot k) then change (f (handle_of_slot k)) (g (handle_of_slot k)) else f (handle_of_slot k))
    at true e =
        write-table slot_count (handle - first_handle) (λ k. f (handle_of_slot k)) (λ k. g (handle_of_slot k)) change
        ∙ table-same slot_count _ _ (λ k.
        let low : first_handle ≤ handle = grind (arith, nat_tests) in
        let same : nat_eq (handle - first_handle) k ≡ nat_eq handle (handle_of_slot k) = grind (arith, nat_tests) in
        rw same refl)
    at false e =
        table-same slot_count _ _ (λ k.
        let apart : nat_eq handle (handle_of_slot k) ≡ false = grind (arith, nat_tests) in
        rw apart refl)

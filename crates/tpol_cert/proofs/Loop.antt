-- Reading one after the other, as a loop does.
use Rattle.std.proofs.Common.{◌≡◌, ℕ, suc, ◌-◌, ◌+◌, ◌≤◌, ◌<◌, false, ltb, length, List, [], ◌∷◌, ◌++◌, Option, Some, None, refl, sym, ap, ◌∙◌, append_assoc, arith}
use Rattle.std.specs.Int.{w16}
use Rattle.std.specs.Option.{option_map}
use Rattle.std.proofs.lemmas.List.{append-nil}
use Rattle.std.proofs.lemmas.Bool.{le-ltb}
use Rattle.tpol_base.specs.Cursor.{NumberTaken}
use Rattle.tpol_cert.specs.Reading.{Reader, list_in, many_in}

-- what was read before, and what is still read
abbrev pub with_front : {A : Type 0} → List A → Option (List A × List ℕ) → Option (List A × List ℕ)
with_front front read = option_map (λ x. (front ++ x.0, x.1)) read

module _ {A : Type 0} (read : Reader A) where
  regroup : (front : List A) (x : A) (others : Option (List A × List ℕ)) → with_front front (option_map (λ y. (x ∷ y.0, y.1)) others) ≡ with_front (front ++ x ∷ []) others
  regroup front x (Some y) = ap (λ (l : List A). Some (l, y.1)) (sym (append_assoc front (x ∷ []) y.0))
  regroup front x None = refl

  pub goes_on : (front longer : List A) (count i : ℕ) (bytes after : List ℕ) (x : A) (total : Option (List A × List ℕ)) → i < count → read bytes ≡ Some (x, after) → longer ≡ front ++ x ∷ []
      → with_front front (many_in read (count - i) bytes) ≡ total → with_front longer (many_in read (count - (i + 1)) after) ≡ total
  unfolding many_in
  goes_on front longer count i bytes after x total lt h e so_far =
      let k : count - i ≡ suc (count - (i + 1)) = omega arith in
      let one : with_front front (many_in read (count - i) bytes) ≡ with_front (front ++ x ∷ []) (many_in read (count - (i + 1)) after) = rw (k, h) (regroup front x (many_in read (count - (i + 1)) after)) in
      ap (λ l. with_front l (many_in read (count - (i + 1)) after)) e ∙ sym one ∙ so_far

  pub ends : (front : List A) (count i : ℕ) (bytes : List ℕ) (total : Option (List A × List ℕ)) → i < count → read bytes ≡ None → with_front front (many_in read (count - i) bytes) ≡ total → total ≡ None
  unfolding many_in
  ends front count i bytes total lt h so_far =
      let k : count - i ≡ suc (count - (i + 1)) = omega arith in
      let one : with_front front (many_in read (count - i) bytes) ≡ None = rw (k, h) refl in
      sym so_far ∙ one

  pub starts : (count : ℕ) (bytes : List ℕ) → with_front [] (many_in read count bytes) ≡ many_in read count bytes
  starts count bytes = by (many_in read count bytes)
    where
      by : (others : Option (List A × List ℕ)) → with_front [] others ≡ others
      by (Some y) = refl
      by None = refl

  pub is_done : (front : List A) (count i : ℕ) (bytes : List ℕ) (total : Option (List A × List ℕ)) → count ≤ i → with_front front (many_in read (count - i) bytes) ≡ total → total ≡ Some (front, bytes)
  unfolding many_in
  is_done front count i bytes total le so_far =
      let k : count - i ≡ 0 = omega arith in
      let one : with_front front (many_in read (count - i) bytes) ≡ Some (front, bytes) = rw k (ap (λ (l : List A). Some (l, bytes)) (append-nil front)) in
      sym so_far ∙ one

  -- what a loop reads behind a number that was taken
  pub counted : (old new : List ℕ) (n : ℕ) → NumberTaken w16 old new (Some n) → many_in read n new ≡ list_in read old
  unfolding list_in
  counted old new n h =
      let long : ltb (length old) 2 ≡ false = le-ltb _ _ h.0 in
      rw (long, h.1, h.2) refl

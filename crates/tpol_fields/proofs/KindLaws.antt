-- Each kind of field: what is read is what is spelled and fits, and what fits is read again from its spelling.
use Rattle.std.proofs.Common.{◌≡◌, ◌⊎◌, ℕ, ℤ, zero, suc, ◌+◌, ◌*◌, ◌^◌, ◌%◌, ◌/◌, ◌<◌, ◌≤◌, Bool, true, false, cond, eqb, ltb, leb, ◌&&◌, ◌||◌, List, [], ◌∷◌, ◌++◌, length, drop, Option, Some, None, Ok, Err, refl, sym, ap, subst, ◌∙◌, append_assoc, arith, inl, inr, eq-eqb}
use Rattle.std.specs.Prelude.{find, slice_index, FitsSigned, IsTrue}
use Rattle.std.specs.Int.{Width, w8, w16, w32, w64, byte_len, from_be_bytes, to_be_bytes, bytes_low_first, cast_signed, cast_unsigned}
use Rattle.std.specs.List.{flat_map}
use Rattle.std.proofs.lemmas.Bool.{eqb-true, ltb-true, leb-true, le-leb}
use Rattle.std.proofs.Math.Facts.{sfits_to_z, Fits-of_z, Fits-of_lt, Fits-lt-pow}
use Rattle.std.proofs.lemmas.Int.{to_z-of_z, of_z-to_z}
use Rattle.std.proofs.lemmas.List.{length-append, length-drop, nil_from_length}
use Rattle.std.proofs.lemmas.List.Concat.{flat_map-cons}
use Rattle.tpol_base.specs.declared.compare.Compare.{Compare}
use Rattle.tpol_base.specs.declared.compare.Compare.TheVariants.{Eq}
use Rattle.tpol_base.specs.declared.digest.Digest32.{Digest32}
use Rattle.tpol_base.specs.declared.name.Name.{Name}
use Rattle.tpol_base.specs.declared.name.Name.TheVariants as names
use Rattle.tpol_base.specs.Compare.{number_of_compare, comparisons, compare_of_number}
use Rattle.tpol_base.specs.Digest.{digest_of_bytes}
use Rattle.tpol_base.specs.Flag.{yes_no}
use Rattle.tpol_base.specs.Name.{name_bytes, name_of_bytes}
use Rattle.tpol_base.proofs.Digests.{digest_of_whole, digest_again}
use Rattle.tpol_fields.specs.declared.ticket.Ticket.{Ticket}
use Rattle.tpol_base.specs.Answers.{◌>>=◌}
use Rattle.tpol_base.specs.ResponseCode.{rc_size, rc_value}
use Rattle.tpol_fields.specs.Kinds.{Kind, Nothing, Number, Signed, Truth, Operation, Digest, Mask, Sized, Optional, Named, Ticketed, TimedTicket, Digests, Behind, Together, ValueOf, sized, optional_bytes, optional_of_bytes, timeout_bytes, timeout_of_bytes, ticket_bytes, goes_with, TimeoutFits, mask_of_bytes, or_refused, spell, NameFits, TicketFits, Fits, limit, number_at, bytes_at, sized_at, is_any_length, is_digest_length, is_optional_length, is_timeout_length, listed_digest, digests_at, ticket_at, timeout_at, read}
use Rattle.tpol_fields.proofs.Takes.{IsBytes, bind_ok, chosen_ok, ok_is, Takes, Takes-then, is_narrow, wide, wide8, wide16, wide32, wide64, number_takes, number_again, bytes_take, bytes_again, sized_takes, sized_again}

-- ---- look-ups

find_found : {A : Type 0} (p : A → Bool) (y : A) (ys : List A) (x : A) (b : Bool) → p y ≡ b → cond b (Some y) (find p ys) ≡ Some x → (find p ys ≡ Some x → p x ≡ true) → p x ≡ true
find_found p y ys x true h e later = let same : y ≡ x = cc in ap p (sym same) ∙ h
find_found p y ys x false h e later = later e

pub find_passes : {A : Type 0} (p : A → Bool) (xs : List A) (x : A) → find p xs ≡ Some x → p x ≡ true
find_passes p [] x e = absurd cc
find_passes p (y ∷ ys) x e = find_found p y ys x (p y) refl e (find_passes p ys x)

chosen : {A : Type 0} (b : Bool) (x : A) (r : Option A) (y : A) → cond b (Some x) r ≡ Some y → ((b ≡ true) × (x ≡ y)) ⊎ ((b ≡ false) × (r ≡ Some y))
chosen true x r y e = inl (refl, cc)
chosen false x r y e = inr (refl, e)

refused_ok : {A : Type 0} (o : Option A) (code : ℕ) (rest : List ℕ) (x : A × List ℕ) → or_refused o code rest ≡ Ok x → (o ≡ Some x.0) × (rest ≡ x.1)
refused_ok None code rest x e = absurd cc
refused_ok (Some y) code rest x e = let p : (y, rest) ≡ x = ok_is (y, rest) x e in (ap (λ (z : _ × List ℕ). Some z.0) p, ap (λ (z : _ × List ℕ). z.1) p)

pub both : (a b : Bool) → (a && b) ≡ true → (a ≡ true) × (b ≡ true)
both true true e = (refl, refl)
both true false e = absurd cc
both false b e = absurd cc

pub either : (a b : Bool) → (a || b) ≡ true → (a ≡ true) ⊎ ((a ≡ false) × (b ≡ true))
either true b e = inl refl
either false b e = inr (refl, e)

-- ---- comparisons and Names

compare_found : (n : ℕ) (c : Compare) → compare_of_number n ≡ Some c → number_of_compare c ≡ n
unfolding compare_of_number
compare_found n c e = eqb-true _ _ (find_passes (λ c. eqb (number_of_compare c) n) comparisons c e)

compare_again : (c : Compare) → compare_of_number (number_of_compare c) ≡ Some c
unfolding compare_of_number
compare_again Eq = refl
compare_again comparison = refl

compare_below : (c : Compare) → number_of_compare c < 2 ^ 16
compare_below Eq = omega arith
compare_below comparison = omega arith

two_in_front : (bytes : List ℕ) → 2 ≤ length bytes → slice_index bytes 0 ∷ slice_index bytes 1 ∷ drop 2 bytes ≡ bytes
two_in_front [] h = absurd (omega arith)
two_in_front (a ∷ []) h = absurd (omega arith)
two_in_front (a ∷ b ∷ rest) h = refl

abbrev IsNameOf : List ℕ → Name → Type 0
IsNameOf bytes name = (name_bytes name ≡ bytes) × NameFits name

hash_found : (bytes : List ℕ) → length bytes ≡ 34 → slice_index bytes 0 ≡ 0 → slice_index bytes 1 ≡ 11 → 0 ∷ 11 ∷ (digest_of_bytes (drop 2 bytes)).bytes ≡ bytes
hash_found bytes len first second =
    let whole : (digest_of_bytes (drop 2 bytes)).bytes ≡ drop 2 bytes = digest_of_whole (drop 2 bytes) (omega (arith, length-drop 2 bytes)) in
    let front = two_in_front bytes (omega arith) in
    rw whole (subst (λ (a : ℕ). a ∷ 11 ∷ drop 2 bytes ≡ bytes) first (subst (λ (b : ℕ). slice_index bytes 0 ∷ b ∷ drop 2 bytes ≡ bytes) second front))

name_found : (bytes : List ℕ) (name : Name) → IsBytes bytes → name_of_bytes bytes ≡ Some name → IsNameOf bytes name
name_found bytes name fits e =
    let is-hash = eqb (length bytes) 34 && (eqb (slice_index bytes 0) 0 && eqb (slice_index bytes 1) 11) in
    let hash-name : Name = names.Hash (digest_of_bytes (drop 2 bytes)) in
    let handle-name : Name = names.Handle (from_be_bytes w32 bytes) in
    let last : Option Name = cond is-hash (Some hash-name) None in
    elim (chosen (eqb (length bytes) 0) names.Empty (cond (eqb (length bytes) 4) (Some handle-name) last) name e) [
      | inl p ↦ subst (IsNameOf bytes) p.1 (sym (nil_from_length bytes (eqb-true _ _ p.0)), tt)
      | inr q ↦ elim (chosen (eqb (length bytes) 4) handle-name last name q.1) [
        | inl p ↦ subst (IsNameOf bytes) p.1 (wide32.back bytes (eqb-true _ _ p.0) fits, wide32.below bytes fits)
        | inr r ↦ elim (chosen is-hash hash-name None name r.1) [
          | inl p ↦
              let t = both (eqb (length bytes) 34) (eqb (slice_index bytes 0) 0 && eqb (slice_index bytes 1) 11) p.0 in
              let u = both (eqb (slice_index bytes 0) 0) (eqb (slice_index bytes 1) 11) t.1 in
              subst (IsNameOf bytes) p.1 (hash_found bytes (eqb-true _ _ t.0) (eqb-true _ _ u.0) (eqb-true _ _ u.1), tt)
          | inr s ↦ absurd (let impossible = s.1 in cc)
        ]
      ]
    ]

name_again : (name : Name) → NameFits name → name_of_bytes (name_bytes name) ≡ Some name
name_again names.Empty fits = refl
name_again (names.Handle handle) fits = ap (λ (n : ℕ). Some (names.Handle n)) (wide32.again handle fits)
name_again (names.Hash digest) fits =
    let len : length (0 ∷ 11 ∷ digest.bytes) ≡ 34 = omega (arith, digest.whole) in
    rw (len, digest_again digest) refl

name_length : (name : Name) → length (name_bytes name) ≤ 34
name_length names.Empty = omega arith
name_length (names.Handle handle) = omega arith
name_length (names.Hash digest) = omega (arith, digest.whole)

-- ---- each kind

-- what a reading of this kind found
abbrev Found : (kind : Kind) → List ℕ → ValueOf kind × List ℕ → Type 0
Found kind bytes x = Takes bytes (spell kind x.0) x.1 × Fits kind x.0

number_found : (position : ℕ) (w : Width) (test : ℕ → Bool) (code : ℕ) (bytes : List ℕ) (x : ℕ × List ℕ) → is_narrow w ≡ true → IsBytes bytes → read position (Number w test code) bytes ≡ Ok x → Found (Number w test code) bytes x
unfolding read spell Fits
number_found position w test code bytes x narrow fits e =
    let b = bind_ok (number_at position w bytes) (λ n. cond (test n.0) (Ok n) (Err (code + position))) x e in
    let g = chosen_ok (test b.0.0) (code + position) (Ok b.0) x b.2 in
    let t = number_takes position w (wide w narrow) bytes b.0.0 b.0.1 fits b.1 in
    subst (λ (y : ℕ × List ℕ). Takes bytes (to_be_bytes w y.0) y.1 × ((y.0 < limit w) × (test y.0 ≡ true))) (ok_is b.0 x g.1) (t.0, (t.1, g.0))

signed_found : (position : ℕ) (bytes : List ℕ) (x : ℤ × List ℕ) → IsBytes bytes → read position Signed bytes ≡ Ok x → Found Signed bytes x
unfolding read spell Fits
signed_found position bytes x fits e =
    let b = bind_ok (number_at position w32 bytes) (λ n. Ok (cast_signed w32 n.0, n.1)) x e in
    let t = number_takes position w32 wide32 bytes b.0.0 b.0.1 fits b.1 in
    let back : cast_unsigned w32 (cast_signed w32 b.0.0) ≡ b.0.0 = of_z-to_z w32 b.0.0 t.1 in
    subst (λ (y : ℤ × List ℕ). Takes bytes (to_be_bytes w32 (cast_unsigned w32 y.0)) y.1 × FitsSigned w32 y.0) (ok_is (cast_signed w32 b.0.0, b.0.1) x b.2)
    (subst (λ (n : ℕ). Takes bytes (to_be_bytes w32 n) b.0.1) (sym back) t.0, sfits_to_z {w = w32} (Fits-of_lt {w = w32} t.1))

truth_back : (n : ℕ) → n < 2 → yes_no (eqb n 1) ∷ [] ≡ to_be_bytes w8 n
truth_back zero lt = refl
truth_back (suc zero) lt = refl
truth_back (suc (suc n)) lt = absurd (omega arith)

truth_found : (position : ℕ) (bytes : List ℕ) (x : Bool × List ℕ) → IsBytes bytes → read position Truth bytes ≡ Ok x → Found Truth bytes x
unfolding read spell Fits
truth_found position bytes x fits e =
    let b = bind_ok (number_at position w8 bytes) (λ n. cond (ltb n.0 2) (Ok (eqb n.0 1, n.1)) (Err (rc_value + position))) x e in
    let g = chosen_ok (ltb b.0.0 2) (rc_value + position) (Ok (eqb b.0.0 1, b.0.1)) x b.2 in
    let t = number_takes position w8 wide8 bytes b.0.0 b.0.1 fits b.1 in
    subst (λ (y : Bool × List ℕ). Takes bytes (yes_no y.0 ∷ []) y.1 × Unit {0}) (ok_is (eqb b.0.0 1, b.0.1) x g.1)
    (subst (λ (text : List ℕ). Takes bytes text b.0.1) (sym (truth_back b.0.0 (ltb-true _ _ g.0))) t.0, tt)

operation_found : (position : ℕ) (bytes : List ℕ) (x : Compare × List ℕ) → IsBytes bytes → read position Operation bytes ≡ Ok x → Found Operation bytes x
unfolding read spell Fits
operation_found position bytes x fits e =
    let b = bind_ok (number_at position w16 bytes) (λ n. or_refused (compare_of_number n.0) (rc_value + position) n.1) x e in
    let r = refused_ok (compare_of_number b.0.0) (rc_value + position) b.0.1 x b.2 in
    let t = number_takes position w16 wide16 bytes b.0.0 b.0.1 fits b.1 in
    (subst (λ (rest : List ℕ). Takes bytes (to_be_bytes w16 (number_of_compare x.0)) rest) r.1 (subst (λ (n : ℕ). Takes bytes (to_be_bytes w16 n) b.0.1) (sym (compare_found b.0.0 x.0 r.0)) t.0), tt)

digest_found : (position : ℕ) (bytes : List ℕ) (x : Digest32 × List ℕ) → IsBytes bytes → read position Digest bytes ≡ Ok x → Found Digest bytes x
unfolding read spell Fits
digest_found position bytes x fits e =
    let b = bind_ok (bytes_at position 32 bytes) (λ taken. Ok (digest_of_bytes taken.0, taken.1)) x e in
    let t = bytes_take position 32 bytes b.0.0 b.0.1 fits b.1 in
    subst (λ (y : Digest32 × List ℕ). Takes bytes y.0.bytes y.1 × Unit {0}) (ok_is (digest_of_bytes b.0.0, b.0.1) x b.2)
    (subst (λ (text : List ℕ). Takes bytes text b.0.1) (sym (digest_of_whole b.0.0 t.1)) t.0, tt)

mask_back : (bytes : List ℕ) → length bytes ≡ 3 → IsBytes bytes → (bytes_low_first 0 3 (mask_of_bytes bytes) ≡ bytes) × (mask_of_bytes bytes < 2 ^ 24)
mask_back [] len fits = absurd (omega arith)
mask_back (a ∷ []) len fits = absurd (omega arith)
mask_back (a ∷ b ∷ []) len fits = absurd (omega arith)
mask_back (a ∷ b ∷ c ∷ []) len fits =
    let fa : a < 256 = fits 0 in
    let fb : b < 256 = fits 1 in
    let fc : c < 256 = fits 2 in
    let ea : (a + 256 * b + 65536 * c) % 256 ≡ a = omega arith in
    let eb : (a + 256 * b + 65536 * c) / 256 % 256 ≡ b = omega arith in
    let ec : (a + 256 * b + 65536 * c) / 65536 % 256 ≡ c = omega arith in
    (rw (ea, eb, ec) refl, omega arith)
mask_back (a ∷ b ∷ c ∷ d ∷ bytes) len fits = absurd (omega arith)

mask_found : (position : ℕ) (bytes : List ℕ) (x : ℕ × List ℕ) → IsBytes bytes → read position Mask bytes ≡ Ok x → Found Mask bytes x
unfolding read spell Fits
mask_found position bytes x fits e =
    let b = bind_ok (bytes_at position 3 bytes) (λ taken. Ok (mask_of_bytes taken.0, taken.1)) x e in
    let t = bytes_take position 3 bytes b.0.0 b.0.1 fits b.1 in
    let m = mask_back b.0.0 t.1 t.2 in
    subst (λ (y : ℕ × List ℕ). Takes bytes (bytes_low_first 0 3 y.0) y.1 × (y.0 < 2 ^ 24)) (ok_is (mask_of_bytes b.0.0, b.0.1) x b.2)
    (subst (λ (text : List ℕ). Takes bytes text b.0.1) (sym m.0) t.0, m.1)

sized_found : (position most : ℕ) (bytes : List ℕ) (x : List ℕ × List ℕ) → IsBytes bytes → read position (Sized most) bytes ≡ Ok x → Found (Sized most) bytes x
unfolding read spell Fits
sized_found position most bytes x fits e =
    let t = sized_takes position (λ n. leb n most) bytes x.0 x.1 fits e in
    (t.0, leb-true _ _ t.1)

optional_back : (bytes : List ℕ) → is_optional_length (length bytes) ≡ true → optional_bytes (optional_of_bytes bytes) ≡ bytes
optional_back bytes ok =
    elim (either (eqb (length bytes) 0) (eqb (length bytes) 32) ok) [
      | inl p ↦ rw p (sym (nil_from_length bytes (eqb-true _ _ p)))
      | inr q ↦ rw q.0 (digest_of_whole bytes (eqb-true _ _ q.1))
    ]

optional_found : (position : ℕ) (bytes : List ℕ) (x : Option Digest32 × List ℕ) → IsBytes bytes → read position Optional bytes ≡ Ok x → Found Optional bytes x
unfolding read spell Fits
optional_found position bytes x fits e =
    let b = bind_ok (sized_at position is_optional_length bytes) (λ taken. Ok (optional_of_bytes taken.0, taken.1)) x e in
    let t = sized_takes position is_optional_length bytes b.0.0 b.0.1 fits b.1 in
    subst (λ (y : Option Digest32 × List ℕ). Takes bytes (sized (optional_bytes y.0)) y.1 × Unit {0}) (ok_is (optional_of_bytes b.0.0, b.0.1) x b.2)
    (subst (λ (text : List ℕ). Takes bytes (sized text) b.0.1) (sym (optional_back b.0.0 t.1)) t.0, tt)

named_found : (position : ℕ) (bytes : List ℕ) (x : Name × List ℕ) → IsBytes bytes → read position Named bytes ≡ Ok x → Found Named bytes x
unfolding read spell Fits
named_found position bytes x fits e =
    let b = bind_ok (sized_at position is_any_length bytes) (λ taken. or_refused (name_of_bytes taken.0) (rc_size + position) taken.1) x e in
    let t = sized_takes position is_any_length bytes b.0.0 b.0.1 fits b.1 in
    let r = refused_ok (name_of_bytes b.0.0) (rc_size + position) b.0.1 x b.2 in
    let n = name_found b.0.0 x.0 t.2 r.0 in
    (subst (λ (rest : List ℕ). Takes bytes (sized (name_bytes x.0)) rest) r.1 (subst (λ (text : List ℕ). Takes bytes (sized text) b.0.1) (sym n.0) t.0), n.1)

ticket_found : (position : ℕ) (bytes : List ℕ) (x : Ticket × List ℕ) → IsBytes bytes → ticket_at position bytes ≡ Ok x → Takes bytes (ticket_bytes x.0) x.1 × TicketFits x.0
unfolding ticket_at
ticket_found position bytes x fits e =
    let a = bind_ok (number_at position w16 bytes) (λ tag. number_at position w32 tag.1 >>= λ hierarchy. sized_at position (λ n. leb n 64) hierarchy.1 >>= λ digest. Ok (record { tag = tag.0; hierarchy = hierarchy.0; digest = digest.0 }, digest.1)) x e in
    let b = bind_ok (number_at position w32 a.0.1) (λ hierarchy. sized_at position (λ n. leb n 64) hierarchy.1 >>= λ digest. Ok (record { tag = a.0.0; hierarchy = hierarchy.0; digest = digest.0 }, digest.1)) x a.2 in
    let c = bind_ok (sized_at position (λ n. leb n 64) b.0.1) (λ digest. Ok (record { tag = a.0.0; hierarchy = b.0.0; digest = digest.0 }, digest.1)) x b.2 in
    let t0 = number_takes position w16 wide16 bytes a.0.0 a.0.1 fits a.1 in
    let t1 = number_takes position w32 wide32 a.0.1 b.0.0 b.0.1 t0.0.rest_fits b.1 in
    let t2 = sized_takes position (λ n. leb n 64) b.0.1 c.0.0 c.0.1 t1.0.rest_fits c.1 in
    let e01 = Takes-then bytes (to_be_bytes w16 a.0.0) a.0.1 (to_be_bytes w32 b.0.0) b.0.1 t0.0 t1.0 in
    let e02 = Takes-then bytes (to_be_bytes w16 a.0.0 ++ to_be_bytes w32 b.0.0) b.0.1 (sized c.0.0) c.0.1 e01 t2.0 in
    let made : Ticket × List ℕ = (record { tag = a.0.0; hierarchy = b.0.0; digest = c.0.0 }, c.0.1) in
    subst (λ (y : Ticket × List ℕ). Takes bytes (ticket_bytes y.0) y.1 × TicketFits y.0) (ok_is made x c.2) (e02, record { tag = t0.1; hierarchy = t1.1; digest = leb-true _ _ t2.1 })

ticket_again : (position : ℕ) (ticket : Ticket) (rest : List ℕ) → TicketFits ticket → ticket_at position (ticket_bytes ticket ++ rest) ≡ Ok (ticket, rest)
unfolding ticket_at
ticket_again position v rest fits =
    let regrouped : ticket_bytes v ++ rest ≡ to_be_bytes w16 v.tag ++ (to_be_bytes w32 v.hierarchy ++ (sized v.digest ++ rest)) = simp append_assoc in
    let short = fits.digest in
    let one = number_again position w16 wide16 v.tag (to_be_bytes w32 v.hierarchy ++ (sized v.digest ++ rest)) fits.tag in
    let two = number_again position w32 wide32 v.hierarchy (sized v.digest ++ rest) fits.hierarchy in
    let three = sized_again position (λ n. leb n 64) v.digest rest (omega arith) (le-leb _ _ fits.digest) in
    ap (ticket_at position) regrouped ∙ rw (one, two, three) refl

-- ---- tickets with a deadline

timeout_back : (bytes : List ℕ) → IsBytes bytes → is_timeout_length (length bytes) ≡ true → (timeout_bytes (timeout_of_bytes bytes) ≡ bytes) × TimeoutFits (timeout_of_bytes bytes)
timeout_back bytes fits ok =
    elim (either (eqb (length bytes) 0) (eqb (length bytes) 8) ok) [
      | inl p ↦ rw p (sym (nil_from_length bytes (eqb-true _ _ p)), tt)
      | inr q ↦ rw q.0 (wide64.back bytes (eqb-true _ _ q.1) fits, wide64.below bytes fits)
    ]

timeout_found : (position : ℕ) (bytes : List ℕ) (x : Option ℕ × List ℕ) → IsBytes bytes → timeout_at position bytes ≡ Ok x → Takes bytes (sized (timeout_bytes x.0)) x.1 × TimeoutFits x.0
unfolding timeout_at
timeout_found position bytes x fits e =
    let b = bind_ok (sized_at position is_timeout_length bytes) (λ taken. Ok (timeout_of_bytes taken.0, taken.1)) x e in
    let t = sized_takes position is_timeout_length bytes b.0.0 b.0.1 fits b.1 in
    let back = timeout_back b.0.0 t.2 t.1 in
    subst (λ (y : Option ℕ × List ℕ). Takes bytes (sized (timeout_bytes y.0)) y.1 × TimeoutFits y.0) (ok_is (timeout_of_bytes b.0.0, b.0.1) x b.2)
    (subst (λ (text : List ℕ). Takes bytes (sized text) b.0.1) (sym back.0) t.0, back.1)

timeout_again : (position : ℕ) (timeout : Option ℕ) (rest : List ℕ) → TimeoutFits timeout → timeout_at position (sized (timeout_bytes timeout) ++ rest) ≡ Ok (timeout, rest)
unfolding timeout_at
timeout_again position None rest fits =
    let taken : sized_at position is_timeout_length (sized [] ++ rest) ≡ Ok ([], rest) = sized_again position is_timeout_length [] rest (omega arith) refl in
    rw taken refl
timeout_again position (Some deadline) rest fits =
    let taken : sized_at position is_timeout_length (sized (to_be_bytes w64 deadline) ++ rest) ≡ Ok (to_be_bytes w64 deadline, rest) = sized_again position is_timeout_length (to_be_bytes w64 deadline) rest (omega arith) refl in
    rw (taken, wide64.again deadline fits) refl

abbrev Timed : Type 0
Timed = (Option ℕ × Ticket) × List ℕ

timed_ticket_found : (position tag : ℕ) (bytes : List ℕ) (x : Timed) → IsBytes bytes → read position (TimedTicket tag) bytes ≡ Ok x → Found (TimedTicket tag) bytes x
unfolding read spell Fits
timed_ticket_found position tag bytes x fits e =
    let a = bind_ok (timeout_at position bytes) (λ timeout. ticket_at position timeout.1 >>= λ ticket. cond (eqb ticket.0.tag tag && goes_with timeout.0 ticket.0) (Ok ((timeout.0, ticket.0), ticket.1)) (Err (rc_value + position))) x e in
    let b = bind_ok (ticket_at position a.0.1) (λ ticket. cond (eqb ticket.0.tag tag && goes_with a.0.0 ticket.0) (Ok ((a.0.0, ticket.0), ticket.1)) (Err (rc_value + position))) x a.2 in
    let made : Timed = ((a.0.0, b.0.0), b.0.1) in
    let g = chosen_ok (eqb b.0.0.tag tag && goes_with a.0.0 b.0.0) (rc_value + position) (Ok made) x b.2 in
    let t0 = timeout_found position bytes a.0 fits a.1 in
    let t1 = ticket_found position a.0.1 b.0 t0.0.rest_fits b.1 in
    let joined = Takes-then bytes (sized (timeout_bytes a.0.0)) a.0.1 (ticket_bytes b.0.0) b.0.1 t0.0 t1.0 in
    subst (λ (y : Timed). Takes bytes (sized (timeout_bytes y.0.0) ++ ticket_bytes y.0.1) y.1 × (TimeoutFits y.0.0 × TicketFits y.0.1 × IsTrue (eqb y.0.1.tag tag && goes_with y.0.0 y.0.1))) (ok_is made x g.1) (joined, (t0.1, t1.1, g.0))

timed_ticket_again : (position tag : ℕ) (v : Option ℕ × Ticket) (rest : List ℕ) → Fits (TimedTicket tag) v → read position (TimedTicket tag) (spell (TimedTicket tag) v ++ rest) ≡ Ok (v, rest)
unfolding read spell Fits
timed_ticket_again position tag v rest fits =
    let regrouped : (sized (timeout_bytes v.0) ++ ticket_bytes v.1) ++ rest ≡ sized (timeout_bytes v.0) ++ (ticket_bytes v.1 ++ rest) = append_assoc (sized (timeout_bytes v.0)) (ticket_bytes v.1) rest in
    let one = timeout_again position v.0 (ticket_bytes v.1 ++ rest) fits.0 in
    let two = ticket_again position v.1 rest fits.1 in
    ap (read position (TimedTicket tag)) regrouped ∙ rw (one, two, fits.2) refl

timeout_length : (timeout : Option ℕ) → length (timeout_bytes timeout) ≤ 8
timeout_length None = omega arith
timeout_length (Some deadline) = omega arith

-- ---- lists of digests

listed_found : (position : ℕ) (bytes : List ℕ) (x : Digest32 × List ℕ) → IsBytes bytes → listed_digest position bytes ≡ Ok x → Takes bytes (sized x.0.bytes) x.1
unfolding listed_digest
listed_found position bytes x fits e =
    let b = bind_ok (sized_at position is_digest_length bytes) (λ taken. Ok (digest_of_bytes taken.0, taken.1)) x e in
    let t = sized_takes position is_digest_length bytes b.0.0 b.0.1 fits b.1 in
    subst (λ (y : Digest32 × List ℕ). Takes bytes (sized y.0.bytes) y.1) (ok_is (digest_of_bytes b.0.0, b.0.1) x b.2)
    (subst (λ (text : List ℕ). Takes bytes (sized text) b.0.1) (sym (digest_of_whole b.0.0 (eqb-true _ _ t.1))) t.0)

listed_again : (position : ℕ) (digest : Digest32) (rest : List ℕ) → listed_digest position (sized digest.bytes ++ rest) ≡ Ok (digest, rest)
unfolding listed_digest
listed_again position digest rest =
    let len : length digest.bytes ≡ 32 = digest.whole in
    let one = sized_again position is_digest_length digest.bytes rest (omega arith) (eq-eqb _ _ len) in
    rw (one, digest_again digest) refl

abbrev listed : Digest32 → List ℕ
listed digest = sized digest.bytes

digests_found : (position n : ℕ) (bytes : List ℕ) (x : List Digest32 × List ℕ) → IsBytes bytes → digests_at position n bytes ≡ Ok x → Takes bytes (flat_map listed x.0) x.1 × (length x.0 ≡ n)
unfolding digests_at
digests_found position zero bytes x fits e =
    subst (λ (y : List Digest32 × List ℕ). Takes bytes (flat_map listed y.0) y.1 × (length y.0 ≡ 0)) (ok_is ([], bytes) x e) (record { parts = refl; rest_fits = fits }, refl)
digests_found position (suc n) bytes x fits e =
    let a = bind_ok (listed_digest position bytes) (λ first. digests_at position n first.1 >>= λ others. Ok (first.0 ∷ others.0, others.1)) x e in
    let b = bind_ok (digests_at position n a.0.1) (λ others. Ok (a.0.0 ∷ others.0, others.1)) x a.2 in
    let first = listed_found position bytes a.0 fits a.1 in
    let second = digests_found position n a.0.1 b.0 first.rest_fits b.1 in
    let joined = Takes-then bytes (listed a.0.0) a.0.1 (flat_map listed b.0.0) b.0.1 first second.0 in
    let made : List Digest32 × List ℕ = (a.0.0 ∷ b.0.0, b.0.1) in
    subst (λ (y : List Digest32 × List ℕ). Takes bytes (flat_map listed y.0) y.1 × (length y.0 ≡ suc n)) (ok_is made x b.2) (rw flat_map-cons joined, ap suc second.1)

digests_again : (position : ℕ) (digests : List Digest32) (rest : List ℕ) → digests_at position (length digests) (flat_map listed digests ++ rest) ≡ Ok (digests, rest)
unfolding digests_at
digests_again position [] rest = refl
digests_again position (d ∷ digests) rest =
    let regrouped : flat_map listed (d ∷ digests) ++ rest ≡ listed d ++ (flat_map listed digests ++ rest) = ap (λ (x : List ℕ). x ++ rest) (flat_map-cons listed d digests) ∙ append_assoc (listed d) (flat_map listed digests) rest in
    ap (digests_at position (suc (length digests))) regrouped ∙ rw (listed_again position d (flat_map listed digests ++ rest), digests_again position digests rest) refl

list_found : (position least most : ℕ) (bytes : List ℕ) (x : List Digest32 × List ℕ) → IsBytes bytes → read position (Digests least most) bytes ≡ Ok x → Found (Digests least most) bytes x
unfolding read spell Fits
list_found position least most bytes x fits e =
    let b = bind_ok (number_at position w32 bytes) (λ n. cond (leb least n.0 && leb n.0 most) (digests_at position n.0 n.1) (Err (rc_size + position))) x e in
    let g = chosen_ok (leb least b.0.0 && leb b.0.0 most) (rc_size + position) (digests_at position b.0.0 b.0.1) x b.2 in
    let bounds = both (leb least b.0.0) (leb b.0.0 most) g.0 in
    let t = number_takes position w32 wide32 bytes b.0.0 b.0.1 fits b.1 in
    let l = digests_found position b.0.0 b.0.1 x t.0.rest_fits g.1 in
    let joined = Takes-then bytes (to_be_bytes w32 b.0.0) b.0.1 (flat_map listed x.0) x.1 t.0 l.0 in
    let len : length x.0 ≡ b.0.0 = l.1 in
    let low : least ≤ b.0.0 = leb-true _ _ bounds.0 in
    let high : b.0.0 ≤ most = leb-true _ _ bounds.1 in
    (subst (λ (n : ℕ). Takes bytes (to_be_bytes w32 n ++ flat_map listed x.0) x.1) (sym len) joined, (omega arith, omega arith))

-- ---- all kinds

-- a kind whose numbers fit their widths
abbrev pub is_sound : Kind → Bool
is_sound Nothing = true
is_sound (Number w test code) = is_narrow w
is_sound Signed = true
is_sound Truth = true
is_sound Operation = true
is_sound Digest = true
is_sound Mask = true
is_sound (Sized most) = ltb most (2 ^ 16)
is_sound Optional = true
is_sound Named = true
is_sound Ticketed = true
is_sound (TimedTicket tag) = true
is_sound (Digests least most) = ltb most (2 ^ 32)
is_sound (Behind w n code kind) = is_narrow w && (ltb n (limit w) && is_sound kind)
is_sound (Together first second) = is_sound first && is_sound second

pub kind_found : (kind : Kind) (position : ℕ) (bytes : List ℕ) (x : ValueOf kind × List ℕ) → is_sound kind ≡ true → IsBytes bytes → read position kind bytes ≡ Ok x → Takes bytes (spell kind x.0) x.1 × Fits kind x.0
unfolding read spell Fits
kind_found Nothing position bytes x sound fits e =
    subst (λ (y : Unit {0} × List ℕ). Takes bytes [] y.1 × Unit {0}) (ok_is (tt, bytes) x e) (record { parts = refl; rest_fits = fits }, tt)
kind_found (Number w test code) position bytes x sound fits e = number_found position w test code bytes x sound fits e
kind_found Signed position bytes x sound fits e = signed_found position bytes x fits e
kind_found Truth position bytes x sound fits e = truth_found position bytes x fits e
kind_found Operation position bytes x sound fits e = operation_found position bytes x fits e
kind_found Digest position bytes x sound fits e = digest_found position bytes x fits e
kind_found Mask position bytes x sound fits e = mask_found position bytes x fits e
kind_found (Sized most) position bytes x sound fits e = sized_found position most bytes x fits e
kind_found Optional position bytes x sound fits e = optional_found position bytes x fits e
kind_found Named position bytes x sound fits e = named_found position bytes x fits e
kind_found Ticketed position bytes x sound fits e = ticket_found position bytes x fits e
kind_found (TimedTicket tag) position bytes x sound fits e = timed_ticket_found position tag bytes x fits e
kind_found (Digests least most) position bytes x sound fits e = list_found position least most bytes x fits e
kind_found (Behind w n code kind) position bytes x sound fits e =
    let s = both (is_narrow w) (ltb n (limit w) && is_sound kind) sound in
    let inner-sound = (both (ltb n (limit w)) (is_sound kind) s.1).1 in
    let b = bind_ok (number_at position w bytes) (λ found. cond (eqb found.0 n) (read position kind found.1) (Err (code + position))) x e in
    let g = chosen_ok (eqb b.0.0 n) (code + position) (read position kind b.0.1) x b.2 in
    let t = number_takes position w (wide w s.0) bytes b.0.0 b.0.1 fits b.1 in
    let inner = kind_found kind position b.0.1 x inner-sound t.0.rest_fits g.1 in
    let joined = Takes-then bytes (to_be_bytes w b.0.0) b.0.1 (spell kind x.0) x.1 t.0 inner.0 in
    (subst (λ (k : ℕ). Takes bytes (to_be_bytes w k ++ spell kind x.0) x.1) (eqb-true _ _ g.0) joined, inner.1)
kind_found (Together first second) position bytes x sound fits e =
    let s = both (is_sound first) (is_sound second) sound in
    let a = bind_ok (read position first bytes) (λ a. read position second a.1 >>= λ b. Ok ((a.0, b.0), b.1)) x e in
    let b = bind_ok (read position second a.0.1) (λ b. Ok ((a.0.0, b.0), b.1)) x a.2 in
    let one = kind_found first position bytes a.0 s.0 fits a.1 in
    let two = kind_found second position a.0.1 b.0 s.1 one.0.rest_fits b.1 in
    let joined = Takes-then bytes (spell first a.0.0) a.0.1 (spell second b.0.0) b.0.1 one.0 two.0 in
    let made : (ValueOf first × ValueOf second) × List ℕ = ((a.0.0, b.0.0), b.0.1) in
    subst (λ (y : (ValueOf first × ValueOf second) × List ℕ). Takes bytes (spell first y.0.0 ++ spell second y.0.1) y.1 × (Fits first y.0.0 × Fits second y.0.1)) (ok_is made x b.2) (joined, (one.1, two.1))

pub kind_again : (kind : Kind) (position : ℕ) (v : ValueOf kind) (rest : List ℕ) → is_sound kind ≡ true → Fits kind v → read position kind (spell kind v ++ rest) ≡ Ok (v, rest)
unfolding read spell Fits
kind_again Nothing position v rest sound fits = refl
kind_again (Number w test code) position v rest sound fits = rw (number_again position w (wide w sound) v rest fits.0, fits.1) refl
kind_again Signed position v rest sound fits =
    rw (number_again position w32 wide32 (cast_unsigned w32 v) rest (Fits-lt-pow {w = w32} (Fits-of_z {w = w32} fits)), to_z-of_z w32 v fits) refl
kind_again Truth position true rest sound fits =
    let one : number_at position w8 (1 ∷ rest) ≡ Ok (1, rest) = number_again position w8 wide8 1 rest (omega arith) in
    rw one refl
kind_again Truth position false rest sound fits =
    let one : number_at position w8 (0 ∷ rest) ≡ Ok (0, rest) = number_again position w8 wide8 0 rest (omega arith) in
    rw one refl
kind_again Operation position v rest sound fits =
    rw (number_again position w16 wide16 (number_of_compare v) rest (compare_below v), compare_again v) refl
kind_again Digest position v rest sound fits = rw (bytes_again position 32 v.bytes rest v.whole, digest_again v) refl
kind_again Mask position v rest sound fits =
    let taken : bytes_at position 3 (bytes_low_first 0 3 v ++ rest) ≡ Ok (bytes_low_first 0 3 v, rest) = bytes_again position 3 (bytes_low_first 0 3 v) rest refl in
    let back : mask_of_bytes (bytes_low_first 0 3 v) ≡ v = omega arith in
    rw (taken, back) refl
kind_again (Sized most) position v rest sound fits =
    let room : most < 2 ^ 16 = ltb-true _ _ sound in
    sized_again position (λ n. leb n most) v rest (omega arith) (le-leb _ _ fits)
kind_again Optional position None rest sound fits =
    let taken : sized_at position is_optional_length (sized [] ++ rest) ≡ Ok ([], rest) = sized_again position is_optional_length [] rest (omega arith) refl in
    rw taken refl
kind_again Optional position (Some d) rest sound fits =
    let len : length d.bytes ≡ 32 = d.whole in
    let taken = sized_again position is_optional_length d.bytes rest (omega arith) (rw len refl) in
    rw (taken, len, digest_again d) refl
kind_again Named position v rest sound fits =
    let taken = sized_again position is_any_length (name_bytes v) rest (omega (arith, name_length v)) refl in
    rw (taken, name_again v fits) refl
kind_again Ticketed position v rest sound fits = ticket_again position v rest fits
kind_again (TimedTicket tag) position v rest sound fits = timed_ticket_again position tag v rest fits
kind_again (Digests least most) position v rest sound fits =
    let room : most < 2 ^ 32 = ltb-true _ _ sound in
    let low : leb least (length v) ≡ true = le-leb _ _ fits.0 in
    let high : leb (length v) most ≡ true = le-leb _ _ fits.1 in
    let bound = fits.1 in
    let regrouped : (to_be_bytes w32 (length v) ++ flat_map listed v) ++ rest ≡ to_be_bytes w32 (length v) ++ (flat_map listed v ++ rest) = append_assoc (to_be_bytes w32 (length v)) (flat_map listed v) rest in
    let one = number_again position w32 wide32 (length v) (flat_map listed v ++ rest) (omega arith) in
    ap (read position (Digests least most)) regrouped ∙ rw (one, low, high, digests_again position v rest) refl
kind_again (Behind w n code kind) position v rest sound fits =
    let s = both (is_narrow w) (ltb n (limit w) && is_sound kind) sound in
    let t = both (ltb n (limit w)) (is_sound kind) s.1 in
    let regrouped : (to_be_bytes w n ++ spell kind v) ++ rest ≡ to_be_bytes w n ++ (spell kind v ++ rest) = append_assoc (to_be_bytes w n) (spell kind v) rest in
    let one = number_again position w (wide w s.0) n (spell kind v ++ rest) (ltb-true _ _ t.0) in
    let same : eqb n n ≡ true = eq-eqb n n refl in
    ap (read position (Behind w n code kind)) regrouped ∙ rw (one, same, kind_again kind position v rest t.1 fits) refl
kind_again (Together first second) position v rest sound fits =
    let s = both (is_sound first) (is_sound second) sound in
    let regrouped : (spell first v.0 ++ spell second v.1) ++ rest ≡ spell first v.0 ++ (spell second v.1 ++ rest) = append_assoc (spell first v.0) (spell second v.1) rest in
    let one = kind_again first position v.0 (spell second v.1 ++ rest) s.0 fits.0 in
    let two = kind_again second position v.1 rest s.1 fits.1 in
    ap (read position (Together first second)) regrouped ∙ rw (one, two) refl

-- ---- lengths

-- the greatest length of a spelling
abbrev pub greatest_length : Kind → ℕ
greatest_length Nothing = 0
greatest_length (Number w test code) = byte_len w
greatest_length Signed = 4
greatest_length Truth = 1
greatest_length Operation = 2
greatest_length Digest = 32
greatest_length Mask = 3
greatest_length (Sized most) = 2 + most
greatest_length Optional = 34
greatest_length Named = 36
greatest_length Ticketed = 72
greatest_length (TimedTicket tag) = 82
greatest_length (Digests least most) = 4 + 34 * most
greatest_length (Behind w n code kind) = byte_len w + greatest_length kind
greatest_length (Together first second) = greatest_length first + greatest_length second

length-listed : (digests : List Digest32) → length (flat_map listed digests) ≡ 34 * length digests
length-listed [] = refl
length-listed (d ∷ digests) =
    let e = ap length (flat_map-cons listed d digests) in
    let l = length-append (listed d) (flat_map listed digests) in
    let own : length (listed d) ≡ 34 = omega (arith, d.whole) in
    let others = length-listed digests in
    omega arith

pub kind_length : (kind : Kind) (v : ValueOf kind) → is_sound kind ≡ true → Fits kind v → length (spell kind v) ≤ greatest_length kind
unfolding spell Fits
kind_length Nothing v sound fits = omega arith
kind_length (Number w test code) v sound fits = let len = (wide w sound).len v in omega arith
kind_length Signed v sound fits = omega arith
kind_length Truth v sound fits = omega arith
kind_length Operation v sound fits = omega arith
kind_length Digest v sound fits = omega (arith, v.whole)
kind_length Mask v sound fits = omega arith
kind_length (Sized most) v sound fits = omega arith
kind_length Optional None sound fits = omega arith
kind_length Optional (Some d) sound fits = omega (arith, d.whole)
kind_length Named v sound fits = omega (arith, name_length v)
kind_length Ticketed v sound fits = let short = fits.digest in omega arith
kind_length (TimedTicket tag) v sound fits =
    let short = fits.1.digest in
    let time = timeout_length v.0 in
    let l = length-append (sized (timeout_bytes v.0)) (ticket_bytes v.1) in
    omega arith
kind_length (Digests least most) v sound fits =
    let bound = fits.1 in
    let len = length-listed v in
    omega arith
kind_length (Behind w n code kind) v sound fits =
    let s = both (is_narrow w) (ltb n (limit w) && is_sound kind) sound in
    let t = both (ltb n (limit w)) (is_sound kind) s.1 in
    let len = (wide w s.0).len n in
    let inner = kind_length kind v t.1 fits in
    let l = length-append (to_be_bytes w n) (spell kind v) in
    omega arith
kind_length (Together first second) v sound fits =
    let s = both (is_sound first) (is_sound second) sound in
    let one = kind_length first v.0 s.0 fits.0 in
    let two = kind_length second v.1 s.1 fits.1 in
    let l = length-append (spell first v.0) (spell second v.1) in
    omega arith

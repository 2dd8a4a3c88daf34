-- A table by handle, read and written by key, against the list of its indices.
use Rattle.std.proofs.Common.{◌≡◌, ℕ, zero, suc, ◌+◌, ◌/◌, ◌%◌, ◌^◌, ◌≤◌, nat_eq, Bool, true, false, cond, List, [], ◌∷◌, ◌++◌, length, take, drop, Option, Some, None, IsSome, refl, sym, ap, subst, ◌∙◌, arith}
use Rattle.std.specs.Option.{option_copied}
use Rattle.std.specs.Prelude.{All, bit_or}
use Rattle.std.specs.List.{AllByRecursion, IsDistinct}
use Rattle.std.specs.Map.{keys_of, values_of, lookup, set_value}
use Rattle.std.proofs.lemmas.Bool.{eqb-true}
use Rattle.std.proofs.lemmas.List.{length-append, length-drop, length-take-le}
use Rattle.std.proofs.lemmas.Nat.{or_mod, or_shr}
use Rattle.std.specs.Borrow.{Bor}
use Rattle.std.specs.Int.Bits.{or_zero_r}
use Rattle.tpol_base.specs.Attributes.{index_type, nv_written}
use Rattle.tpol_name.specs.declared.entries.IndexEntry.{IndexEntry}
use Rattle.tpm_nv.specs.Contents.{HasContent, spliced, written_entry}
use Rattle.tpm_nv.specs.Indices.{changed_at, index_of}
use Rattle.tpm_nv.specs.Tables.{IsByHandle, IsUnderHandle}

-- what holds of each of a list holds of its first, and of each of the rest
pub first_of : {X : Type 0} (P : X → Type 0) (x : X) (xs : List X) → All P (x ∷ xs) → P x
first_of P x xs all = all 0 x (omega arith)

pub rest_of : {X : Type 0} (P : X → Type 0) (x : X) (xs : List X) → All P (x ∷ xs) → All P xs
rest_of P x xs all k d within = all (suc k) d (omega arith)

pub all_of : {X : Type 0} (P : X → Type 0) (x : X) (xs : List X) → P x → All P xs → All P (x ∷ xs)
all_of P x xs here rest zero d within = here
all_of P x xs here rest (suc k) d within = rest k d (omega arith)

-- by key is by handle
pub lookup_index : (index : ℕ) (entries : List (ℕ × IndexEntry)) → IsByHandle entries → lookup (nat_eq index) entries ≡ index_of index (values_of entries)
lookup_index index [] all = refl
lookup_index index (e ∷ es) all =
    let here = (first_of IsUnderHandle e es all).handle in
    let rest = lookup_index index es (rest_of IsUnderHandle e es all) in
    λ i. cond (nat_eq index (here i)) (Some e.1) (rest i)

-- what is found has that handle and the content of its size
pub found_under : (index : ℕ) (entries : List (ℕ × IndexEntry)) (entry : IndexEntry) → IsByHandle entries → lookup (nat_eq index) entries ≡ Some entry → IsUnderHandle (index, entry)
found_under index [] entry all found = absurd (let no : ◌≡◌ {A = Option IndexEntry} None (Some entry) = found in cc)
found_under index (e ∷ es) entry all found = by (nat_eq index e.0) refl found (found_under index es entry (rest_of IsUnderHandle e es all))
  where
    by : (b : Bool) → nat_eq index e.0 ≡ b → cond b (Some e.1) (lookup (nat_eq index) es) ≡ Some entry
        → (lookup (nat_eq index) es ≡ Some entry → IsUnderHandle (index, entry)) → IsUnderHandle (index, entry)
    by true test same rest =
        let is : e.1 ≡ entry = cc in
        let here = first_of IsUnderHandle e es all in
        record { handle = eqb-true index e.0 test ∙ here.handle ∙ ap (λ found. found.public.index) is; content = subst HasContent is here.content }
    by false test same rest = rest same

-- no other index has the handle of the first
untouched : (index : ℕ) (change : IndexEntry → IndexEntry) (entries : List (ℕ × IndexEntry)) → IsByHandle entries
    → AllByRecursion (λ key. nat_eq index key ≡ false) (keys_of entries) → values_of entries ≡ changed_at index change (values_of entries)
untouched index change [] all others = refl
untouched index change (e ∷ es) all others =
    let here = (first_of IsUnderHandle e es all).handle in
    let other : nat_eq index e.1.public.index ≡ false = subst (λ k. nat_eq index k ≡ false) here others.0 in
    let rest = untouched index change es (rest_of IsUnderHandle e es all) others.1 in
    λ i. cond (sym other i) (change e.1) e.1 ∷ rest i

-- a value set by key changes the index with that handle alone
pub set_index : (index : ℕ) (change : IndexEntry → IndexEntry) (entries : List (ℕ × IndexEntry)) (entry w : IndexEntry) → IsByHandle entries
    → IsDistinct nat_eq (keys_of entries) → lookup (nat_eq index) entries ≡ Some entry → w ≡ change entry
    → values_of (set_value (nat_eq index) entries w) ≡ changed_at index change (values_of entries)
unfolding IsDistinct
set_index index change [] entry w all unique found is = refl
set_index index change (e ∷ es) entry w all unique found is =
    by (nat_eq index e.0) refl found (λ same. set_index index change es entry w (rest_of IsUnderHandle e es all) unique.1 same is)
  where
    here : e.0 ≡ e.1.public.index
    here = (first_of IsUnderHandle e es all).handle

    by : (b : Bool) → nat_eq index e.0 ≡ b → cond b (Some e.1) (lookup (nat_eq index) es) ≡ Some entry
        → (lookup (nat_eq index) es ≡ Some entry → values_of (set_value (nat_eq index) es w) ≡ changed_at index change (values_of es))
        → values_of (cond b ((e.0, w) ∷ es) (e ∷ set_value (nat_eq index) es w)) ≡ changed_at index change (values_of (e ∷ es))
    by true test same rest =
        let found_here : e.1 ≡ entry = cc in
        let key : index ≡ e.0 = eqb-true index e.0 test in
        let tested : nat_eq index e.1.public.index ≡ true = subst (λ k. nat_eq index k ≡ true) here test in
        let others = untouched index change es (rest_of IsUnderHandle e es all) (subst (λ k. AllByRecursion (λ other. nat_eq k other ≡ false) (keys_of es)) (sym key) unique.0) in
        let changed : w ≡ change e.1 = is ∙ ap change (sym found_here) in
        (λ i. changed i ∷ others i) ∙ (λ i. cond (sym tested i) (change e.1) e.1 ∷ changed_at index change (values_of es))
    by false test same rest =
        let tested : nat_eq index e.1.public.index ≡ false = subst (λ k. nat_eq index k ≡ false) here test in
        (λ i. cond (sym tested i) (change e.1) e.1 ∷ rest same i)

-- the table stays one by handle
pub set_by_handle : (index : ℕ) (entries : List (ℕ × IndexEntry)) (w : IndexEntry) → IsByHandle entries → index ≡ w.public.index → HasContent w
    → IsByHandle (set_value (nat_eq index) entries w)
set_by_handle index [] w all handle content = all
set_by_handle index (e ∷ es) w all handle content =
    by (nat_eq index e.0) refl (set_by_handle index es w (rest_of IsUnderHandle e es all) handle content)
  where
    by : (b : Bool) → nat_eq index e.0 ≡ b → IsByHandle (set_value (nat_eq index) es w)
        → IsByHandle (cond b ((e.0, w) ∷ es) (e ∷ set_value (nat_eq index) es w))
    by true test rest =
        all_of IsUnderHandle (e.0, w) es (record { handle = sym (eqb-true index e.0 test) ∙ handle; content = content }) (rest_of IsUnderHandle e es all)
    by false test rest = all_of IsUnderHandle e (set_value (nat_eq index) es w) (first_of IsUnderHandle e es all) rest

-- WRITTEN is no part of the type
pub index_type-written : (attributes : ℕ) → index_type (bit_or attributes nv_written) ≡ index_type attributes
index_type-written attributes =
    ap (λ n. n % 2 ^ 4) (or_shr attributes nv_written 4) ∙ or_mod (attributes / 2 ^ 4) (nv_written / 2 ^ 4) 4 ∙ or_zero_r (attributes / 2 ^ 4 % 2 ^ 4)

-- a write keeps the length of the content
pub length-spliced : (offset : ℕ) (bytes content : List ℕ) → offset + length bytes ≤ length content → length (spliced offset bytes content) ≡ length content
length-spliced offset bytes content within =
    omega (
      arith,
      length-append (take offset content ++ bytes) (drop (offset + length bytes) content),
      length-append (take offset content) bytes,
      length-take-le offset content (omega arith),
      length-drop (offset + length bytes) content,
    )

pub written_content : (offset : ℕ) (bytes : List ℕ) (entry : IndexEntry) → offset + length bytes ≤ length entry.content → HasContent entry → HasContent (written_entry offset bytes entry)
written_content offset bytes entry within has = record {
  size = length-spliced offset bytes entry.content within ∙ has.size;
  counter = λ counter. has.counter (sym (index_type-written entry.public.attributes) ∙ counter);
}

-- what is found by key is the index with that handle
pub found_index : (index : ℕ) (entries : List (ℕ × IndexEntry)) (indices : List IndexEntry) (entry : Option IndexEntry) → IsByHandle entries
    → values_of entries ≡ indices → entry ≡ lookup (nat_eq index) entries → entry ≡ index_of index indices
found_index index entries indices entry all same found = found ∙ lookup_index index entries all ∙ ap (index_of index) same

-- where something is found, a reference to it is
pub is_copied : {X : Type 0} (o : Option (Bor X)) (r : Option X) → option_copied o ≡ r → IsSome r → IsSome o
is_copied None r same some = subst IsSome (sym same) some
is_copied (Some x) r same some = refl

-- each of a table's indices has the content of its size
pub contents_of : (entries : List (ℕ × IndexEntry)) → IsByHandle entries → All HasContent (values_of entries)
contents_of [] all = λ k d within. absurd (omega arith)
contents_of (e ∷ es) all =
    all_of HasContent e.1 (values_of es) (first_of IsUnderHandle e es all).content (contents_of es (rest_of IsUnderHandle e es all))

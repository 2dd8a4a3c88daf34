-- A table that is filled with indices of different handles.
use Rattle.std.proofs.Common.{◌≡◌, ℕ, nat_eq, false, cond, List, [], ◌∷◌, ◌++◌, append_assoc, map, refl, sym, ap, subst, ◌∙◌, arith}
use Rattle.std.specs.Prelude.{All}
use Rattle.std.specs.List.{AllByRecursion, IsDistinct}
use Rattle.std.specs.Map.{values_of}
use Rattle.std.proofs.lemmas.Bool.{eqb-false, ne_eqb}
use Rattle.tpol_name.specs.declared.entries.IndexEntry.{IndexEntry}
use Rattle.indexmap.specs.IndexMap.{insert_entry}
use Rattle.tpm_nv.specs.Contents.{HasContent}
use Rattle.tpm_nv.specs.Tables.{IsByHandle, IsUnderHandle}
use Rattle.tpm_nv.proofs.TableLemmas.{all_of, first_of, rest_of}

-- an index under its handle
abbrev pub under_handle : IndexEntry → ℕ × IndexEntry
under_handle entry = (entry.public.index, entry)

abbrev pub handle_of : IndexEntry → ℕ
handle_of entry = entry.public.index

-- what holds of each of a list holds of one in its middle
among : (P : ℕ → Type 0) (before after : List IndexEntry) (entry : IndexEntry) → AllByRecursion P (map handle_of (before ++ entry ∷ after)) → P entry.public.index
among P [] after entry all = all.0
among P (e ∷ es) after entry all = among P es after entry all.1

other_way : (a b : ℕ) → nat_eq a b ≡ false → nat_eq b a ≡ false
other_way a b other = ne_eqb b a (λ same. eqb-false a b other (sym same))

-- an index whose handle none of those before it has goes last
pub insert_new : (before after : List IndexEntry) (entry : IndexEntry) → IsDistinct nat_eq (map handle_of (before ++ entry ∷ after))
    → insert_entry nat_eq (map under_handle before) entry.public.index entry ≡ map under_handle (before ++ entry ∷ [])
unfolding IsDistinct
insert_new [] after entry distinct = refl
insert_new (e ∷ es) after entry distinct =
    let other : nat_eq entry.public.index e.public.index ≡ false = other_way _ _ (among (λ handle. nat_eq e.public.index handle ≡ false) es after entry distinct.0) in
    (λ i. cond (other i) ((e.public.index, entry) ∷ map under_handle es) (under_handle e ∷ insert_entry nat_eq (map under_handle es) entry.public.index entry))
    ∙ ap (λ rest. under_handle e ∷ rest) (insert_new es after entry distinct.1)

-- a filled table is one by handle
pub filled_by_handle : (indices : List IndexEntry) → All HasContent indices → IsByHandle (map under_handle indices)
filled_by_handle [] each = λ k d within. absurd (omega arith)
filled_by_handle (e ∷ es) each =
    all_of IsUnderHandle (under_handle e) (map under_handle es) (record { handle = refl; content = first_of HasContent e es each })
    (filled_by_handle es (rest_of HasContent e es each))

-- and has these indices
pub values_of-filled : (indices : List IndexEntry) → values_of (map under_handle indices) ≡ indices
values_of-filled [] = refl
values_of-filled (e ∷ es) = ap (λ rest. e ∷ rest) (values_of-filled es)

-- one turn of the filling: the first of what is still to come is placed
pub one_placed : (entries entries' : List (ℕ × IndexEntry)) (before left left' indices : List IndexEntry) (entry : IndexEntry)
    → entries ≡ map under_handle before → before ++ left ≡ indices → left ≡ entry ∷ left' → entries' ≡ insert_entry nat_eq entries entry.public.index entry
    → IsDistinct nat_eq (map handle_of indices) → (entries' ≡ map under_handle (before ++ entry ∷ [])) × ((before ++ entry ∷ []) ++ left' ≡ indices)
one_placed entries entries' before left left' indices entry placed all next inserted distinct =
    let whole : before ++ entry ∷ left' ≡ indices = ap (λ rest. before ++ rest) (sym next) ∙ all in
    let still : IsDistinct nat_eq (map handle_of (before ++ entry ∷ left')) = subst (λ is. IsDistinct nat_eq (map handle_of is)) (sym whole) distinct in (
      inserted ∙ ap (λ es. insert_entry nat_eq es entry.public.index entry) placed ∙ insert_new before left' entry still,
      append_assoc before (entry ∷ []) left' ∙ whole,
    )

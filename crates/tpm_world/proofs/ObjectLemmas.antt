-- A table of objects by handle, against the list of its objects; and one that is filled with objects of
-- different handles.
use Rattle.std.proofs.Common.{◌≡◌, ℕ, nat_eq, false, cond, List, [], ◌∷◌, ◌++◌, append_assoc, map, Some, refl, sym, ap, subst, ◌∙◌, arith}
use Rattle.std.specs.List.{AllByRecursion, IsDistinct}
use Rattle.std.specs.Map.{lookup, values_of}
use Rattle.std.proofs.lemmas.Bool.{eqb-false, ne_eqb}
use Rattle.indexmap.specs.IndexMap.{insert_entry}
use Rattle.tpol_name.specs.declared.entries.ObjectEntry.{ObjectEntry}
use Rattle.tpm_nv.proofs.TableLemmas.{all_of, first_of, rest_of}
use Rattle.tpm_world.specs.Objects.{IsByHandle, IsUnderHandle, object_of}

-- by key is by handle
pub lookup_object : (handle : ℕ) (entries : List (ℕ × ObjectEntry)) → IsByHandle entries → lookup (nat_eq handle) entries ≡ object_of handle (values_of entries)
lookup_object handle [] all = refl
lookup_object handle (e ∷ es) all =
    let here = first_of IsUnderHandle e es all in
    let rest = lookup_object handle es (rest_of IsUnderHandle e es all) in
    λ i. cond (nat_eq handle (here i)) (Some e.1) (rest i)

-- an object under its handle
abbrev pub under_handle : ObjectEntry → ℕ × ObjectEntry
under_handle object = (object.handle, object)

abbrev pub handle_of : ObjectEntry → ℕ
handle_of object = object.handle

-- what holds of each of a list holds of one in its middle
among : (P : ℕ → Type 0) (before after : List ObjectEntry) (object : ObjectEntry) → AllByRecursion P (map handle_of (before ++ object ∷ after)) → P object.handle
among P [] after object all = all.0
among P (o ∷ os) after object all = among P os after object all.1

other_way : (a b : ℕ) → nat_eq a b ≡ false → nat_eq b a ≡ false
other_way a b other = ne_eqb b a (λ same. eqb-false a b other (sym same))

-- an object whose handle none of those before it has goes last
pub insert_new : (before after : List ObjectEntry) (object : ObjectEntry) → IsDistinct nat_eq (map handle_of (before ++ object ∷ after))
    → insert_entry nat_eq (map under_handle before) object.handle object ≡ map under_handle (before ++ object ∷ [])
unfolding IsDistinct
insert_new [] after object distinct = refl
insert_new (o ∷ os) after object distinct =
    let other : nat_eq object.handle o.handle ≡ false = other_way _ _ (among (λ handle. nat_eq o.handle handle ≡ false) os after object distinct.0) in
    (λ i. cond (other i) ((o.handle, object) ∷ map under_handle os) (under_handle o ∷ insert_entry nat_eq (map under_handle os) object.handle object))
    ∙ ap (λ rest. under_handle o ∷ rest) (insert_new os after object distinct.1)

-- a filled table is one by handle
pub filled_by_handle : (objects : List ObjectEntry) → IsByHandle (map under_handle objects)
filled_by_handle [] = λ k d within. absurd (omega arith)
filled_by_handle (o ∷ os) = all_of IsUnderHandle (under_handle o) (map under_handle os) refl (filled_by_handle os)

-- and has these objects
pub values_of-filled : (objects : List ObjectEntry) → values_of (map under_handle objects) ≡ objects
values_of-filled [] = refl
values_of-filled (o ∷ os) = ap (λ rest. o ∷ rest) (values_of-filled os)

-- one turn of the filling: the first of what is still to come is placed
pub one_placed : (entries entries' : List (ℕ × ObjectEntry)) (before left left' objects : List ObjectEntry) (object : ObjectEntry)
    → entries ≡ map under_handle before → before ++ left ≡ objects → left ≡ object ∷ left' → entries' ≡ insert_entry nat_eq entries object.handle object
    → IsDistinct nat_eq (map handle_of objects) → (entries' ≡ map under_handle (before ++ object ∷ [])) × ((before ++ object ∷ []) ++ left' ≡ objects)
one_placed entries entries' before left left' objects object placed all next inserted distinct =
    let whole : before ++ object ∷ left' ≡ objects = ap (λ rest. before ++ rest) (sym next) ∙ all in
    let still : IsDistinct nat_eq (map handle_of (before ++ object ∷ left')) = subst (λ is. IsDistinct nat_eq (map handle_of is)) (sym whole) distinct in (
      inserted ∙ ap (λ es. insert_entry nat_eq es object.handle object) placed ∙ insert_new before left' object still,
      append_assoc before (object ∷ []) left' ∙ whole,
    )

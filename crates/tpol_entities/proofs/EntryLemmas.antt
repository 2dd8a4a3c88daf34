-- What the entities of a scene meet.
use Rattle.std.proofs.Common.{◌≡◌, ℕ, ◌+◌, ◌*◌, max, Bool, true, false, List, [], ◌∷◌, ◌++◌, append_assoc, append-nil, refl, sym, ap, subst, cond, ◌∙◌, arith, inl, inr}
use Rattle.std.specs.Prelude.{Option, Some, None, is_some, find, map, not, ◌==◌, ◌||◌, ◌&&◌, nat_eq, bit_and, bit_or, codes, replicate}
use Rattle.std.specs.Cmp.{nat_eq_equiv}
use Rattle.std.specs.Cmp.Lexicographic.{nat_list_eq_equiv}
use Rattle.std.specs.List.{IsDistinct, list_any}
use Rattle.std.specs.Int.{bit_at}
use Rattle.std.proofs.lemmas.Bool.{true≢false, eqb-true, ne_eqb, and_parts, or_cases, not-false}
use Rattle.std.proofs.lemmas.List.{map_push}
use Rattle.std.proofs.lemmas.List.Elements.{All-push}
use Rattle.std.proofs.lemmas.List.Folds.{list_any-append}
use Rattle.std.proofs.lemmas.Nat.{or_disjoint}
use Rattle.std.proofs.lemmas.Nat.Bits.{and_pow, bit_at_or, bit_at-pow_same}
use Rattle.tpol_name.specs.Areas.{is_written}
use Rattle.tpol_name.specs.Paths.{is_same_path, path_key}
use Rattle.tpol_base.specs.Attributes.{index_type, is_size_of_type}
use Rattle.tpol_base.specs.Handle.{rh_endorsement, rh_lockout, rh_owner}
use Rattle.tpol_name.specs.Entities.{hierarchy_at, index_at, object_at}
use Rattle.tpol_name.specs.Setups.{IsObject, IsIndex, IsTypeOfSize, AreEntities, hierarchy_paths}
use Rattle.tpol_name.specs.declared.entries.IndexEntry.{IndexEntry}
use Rattle.tpol_name.specs.declared.entries.ObjectEntry.{ObjectEntry}
use Rattle.tpol_entities.specs.Entities.{has_path, attributes_with, content_or_zeros}
use Rattle.tpol_entities.specs.declared.entities.Entities.{Entities}
use Rattle.tpol_entities.proofs.DistinctLemmas.{or_false, list_any-map, IsDistinct-insert}

-- ---- distinct keys

same_path-flips : (a b : List ℕ) → is_same_path a b ≡ is_same_path b a
same_path-flips a b = nat_list_eq_equiv.symm (path_key a) (path_key b)

-- one more key at the end
IsDistinct-last : {K : Type 0} (e : K → K → Bool) (flips : (x y : K) → e x y ≡ e y x) (xs : List K) (k : K)
    → IsDistinct e xs → list_any (λ x. e x k) xs ≡ false → IsDistinct e (xs ++ k ∷ [])
IsDistinct-last {K} e flips xs k distinct none =
    let P : List K → Type 0 = λ l. IsDistinct e l in
    IsDistinct-insert e flips xs [] k (subst P (sym (append-nil xs)) distinct) (ap (list_any (λ x. e x k)) (append-nil xs) ∙ none)

pub handles-push : {X : Type 0} (handle : X → ℕ) (xs : List X) (x : X) → IsDistinct nat_eq (map handle xs)
    → list_any (λ y. handle y == handle x) xs ≡ false → IsDistinct nat_eq (map handle (xs ++ x ∷ []))
handles-push handle xs x distinct none =
    let P : List ℕ → Type 0 = λ l. IsDistinct nat_eq l in
    subst P (sym (map_push handle xs x))
    (IsDistinct-last nat_eq nat_eq_equiv.symm (map handle xs) (handle x) distinct (list_any-map (λ h. h == handle x) handle xs ∙ none))

middle : (front objects indices : List (List ℕ)) (path : List ℕ) → (front ++ objects) ++ path ∷ indices ≡ (front ++ (objects ++ path ∷ [])) ++ indices
middle front objects indices path =
    append_assoc front objects (path ∷ indices)
    ∙ ap (λ (l : List (List ℕ)). front ++ l) (sym (append_assoc objects (path ∷ []) indices))
    ∙ sym (append_assoc front (objects ++ path ∷ []) indices)

-- the paths with one more, behind the objects or behind the indices
paths-object : (front objects indices : List (List ℕ)) (path : List ℕ) → IsDistinct is_same_path ((front ++ objects) ++ indices)
    → list_any (λ x. is_same_path x path) ((front ++ objects) ++ indices) ≡ false → IsDistinct is_same_path ((front ++ (objects ++ path ∷ [])) ++ indices)
paths-object front objects indices path distinct none =
    let P : List (List ℕ) → Type 0 = λ l. IsDistinct is_same_path l in
    subst P (middle front objects indices path) (IsDistinct-insert is_same_path same_path-flips (front ++ objects) indices path distinct none)

paths-index : (front indices : List (List ℕ)) (path : List ℕ) → IsDistinct is_same_path (front ++ indices)
    → list_any (λ x. is_same_path x path) (front ++ indices) ≡ false → IsDistinct is_same_path (front ++ (indices ++ path ∷ []))
paths-index front indices path distinct none =
    let P : List (List ℕ) → Type 0 = λ l. IsDistinct is_same_path l in
    subst P (append_assoc front indices (path ∷ [])) (IsDistinct-last is_same_path same_path-flips (front ++ indices) path distinct none)

none_of : (p : List ℕ → Bool) (a b c : List ℕ) (objects indices : List (List ℕ)) → p a ≡ false → p b ≡ false → p c ≡ false
    → list_any p objects ≡ false → list_any p indices ≡ false → list_any p (((a ∷ b ∷ c ∷ []) ++ objects) ++ indices) ≡ false
none_of p a b c objects indices not_a not_b not_c none_o none_i =
    rw (not_a, not_b, not_c) (list_any-append p objects indices ∙ rw (none_o, none_i) refl)

-- what is not found is not there
by_first : {A : Type 0} (b : Bool) (x : A) (rest : Option A) (others : Bool) → is_some rest ≡ others → is_some (cond b (Some x) rest) ≡ (b || others)
by_first true x rest others same = refl
by_first false x rest others same = same

found_any : {A : Type 0} (p : A → Bool) (xs : List A) → is_some (find p xs) ≡ list_any p xs
found_any p [] = refl
found_any p (x ∷ xs) = by_first (p x) x (find p xs) (list_any p xs) (found_any p xs)

no_hierarchy : (a b c : Bool) (x y z : ℕ) → is_some (cond a (Some x) (cond b (Some y) (cond c (Some z) None))) ≡ false → (a ≡ false) × (b ≡ false) × (c ≡ false)
no_hierarchy true b c x y z e = absurd cc
no_hierarchy false true c x y z e = absurd cc
no_hierarchy false false true x y z e = absurd cc
no_hierarchy false false false x y z e = (refl, refl, refl)

-- a path that no entity has is none of the paths
pub new_path : (entities : Entities) (path : List ℕ) → has_path entities path ≡ false
    → list_any (λ x. is_same_path x path) ((hierarchy_paths ++ map (λ o. o.path) entities.objects) ++ map (λ i. i.path) entities.indices) ≡ false
unfolding has_path
new_path entities path e =
    let p : List ℕ → Bool = λ x. is_same_path x path in
    let behind = or_false (is_some (hierarchy_at path) || is_some (object_at entities.objects path)) (is_some (index_at entities.indices path)) e in
    let front = or_false (is_some (hierarchy_at path)) (is_some (object_at entities.objects path)) behind.0 in
    let hierarchies = no_hierarchy (p (codes "HS")) (p (codes "HE")) (p (codes "LOCKOUT")) rh_owner rh_endorsement rh_lockout front.0 in
    let objects = sym (found_any (λ object. is_same_path object.path path) entities.objects) ∙ front.1 in
    let indices = sym (found_any (λ index. is_same_path index.path path) entities.indices) ∙ behind.1 in
    none_of p (codes "HS") (codes "HE") (codes "LOCKOUT") (map (λ o. o.path) entities.objects) (map (λ i. i.path) entities.indices)
    hierarchies.0 hierarchies.1 hierarchies.2 (list_any-map p (λ o. o.path) entities.objects ∙ objects) (list_any-map p (λ i. i.path) entities.indices ∙ indices)

abbrev pub Entered : Entities → Type 0
Entered entities = AreEntities entities.objects entities.indices

-- ---- one more entity

pub object_entered : (entities : Entities) (object : ObjectEntry) → Entered entities → IsObject object
    → list_any (λ o. o.handle == object.handle) entities.objects ≡ false → has_path entities object.path ≡ false
    → AreEntities (entities.objects ++ object ∷ []) entities.indices
object_entered entities object entered is new_handle path = record {
  each_object = All-push IsObject entities.objects object entered.each_object is;
  each_index = entered.each_index;
  object_handles = handles-push (λ o. o.handle) entities.objects object entered.object_handles new_handle;
  index_handles = entered.index_handles;
  paths =
      let P : List (List ℕ) → Type 0 = λ l. IsDistinct is_same_path ((hierarchy_paths ++ l) ++ map (λ i. i.path) entities.indices) in
      subst P (sym (map_push (λ o. o.path) entities.objects object))
      (paths-object hierarchy_paths (map (λ o. o.path) entities.objects) (map (λ i. i.path) entities.indices) object.path entered.paths (new_path entities object.path path));
}

pub index_entered : (entities : Entities) (index : IndexEntry) → Entered entities → IsIndex index
    → list_any (λ i. i.public.index == index.public.index) entities.indices ≡ false → has_path entities index.path ≡ false
    → AreEntities entities.objects (entities.indices ++ index ∷ [])
index_entered entities index entered is new_handle path = record {
  each_object = entered.each_object;
  each_index = All-push IsIndex entities.indices index entered.each_index is;
  object_handles = entered.object_handles;
  index_handles = handles-push (λ i. i.public.index) entities.indices index entered.index_handles new_handle;
  paths =
      let P : List (List ℕ) → Type 0 = λ l. IsDistinct is_same_path ((hierarchy_paths ++ map (λ o. o.path) entities.objects) ++ l) in
      subst P (sym (map_push (λ i. i.path) entities.indices index))
      (paths-index (hierarchy_paths ++ map (λ o. o.path) entities.objects) (map (λ i. i.path) entities.indices) index.path entered.paths (new_path entities index.path path));
}

-- ---- the state of an index

pub type_of_size : (kind size : ℕ) → is_size_of_type kind size ≡ true → IsTypeOfSize kind size
type_of_size kind size e =
    elim (or_cases ((kind == 0 || (kind == 1 && size == 8)) || (kind == 2 && size == 8)) (kind == 4 && size == 32) e) [
      | inr extend ↦ let both = and_parts (kind == 4) (size == 32) extend in inr (inr (inr (eqb-true _ _ both.0, eqb-true _ _ both.1)))
      | inl other ↦ elim (or_cases (kind == 0 || (kind == 1 && size == 8)) (kind == 2 && size == 8) other) [
        | inr bits ↦ let both = and_parts (kind == 2) (size == 8) bits in inr (inr (inl (eqb-true _ _ both.0, eqb-true _ _ both.1)))
        | inl less ↦ elim (or_cases (kind == 0) (kind == 1 && size == 8) less) [
          | inl ordinary ↦ inl (eqb-true _ _ ordinary)
          | inr counter ↦ let both = and_parts (kind == 1) (size == 8) counter in inr (inl (eqb-true _ _ both.0, eqb-true _ _ both.1))
        ]
      ]
    ]

-- without WRITTEN, bit 29, to set it adds it
not_written : (attributes : ℕ) → is_written attributes ≡ false → bit_and attributes 0x20000000 ≡ 0
not_written attributes e = eqb-true _ _ (not-false _ e)

with_written : (attributes : ℕ) → is_written attributes ≡ false → bit_or attributes 0x20000000 ≡ attributes + 0x20000000
with_written attributes e = or_disjoint attributes 0x20000000 (not_written attributes e)

type-add : (n : ℕ) → index_type (n + 0x20000000) ≡ index_type n
type-add n = omega arith

pub type-with : (content : Option (List ℕ)) (attributes : ℕ) → is_written attributes ≡ false → index_type (attributes_with content attributes) ≡ index_type attributes
type-with None attributes e = refl
type-with (Some content) attributes e = ap index_type (with_written attributes e) ∙ type-add attributes

written : (attributes : ℕ) → is_written (bit_or attributes 0x20000000) ≡ true
written attributes =
    let n = bit_or attributes 0x20000000 in
    let bit : bit_at n 29 ≡ max (bit_at attributes 29) 1 = bit_at_or attributes 0x20000000 29 ∙ ap (λ b. max (bit_at attributes 29) b) (bit_at-pow_same 29) in
    let value : bit_and n 0x20000000 ≡ bit_at n 29 * 0x20000000 = and_pow n 29 in
    ap not (ne_eqb (bit_and n 0x20000000) 0 (λ none. omega (arith, value, bit, none)))

pub unwritten-zeros : (content : Option (List ℕ)) (attributes size : ℕ) → is_written (attributes_with content attributes) ≡ false → content_or_zeros content size ≡ replicate size 0
unwritten-zeros None attributes size e = refl
unwritten-zeros (Some content) attributes size e = absurd (true≢false (sym (written attributes) ∙ e))

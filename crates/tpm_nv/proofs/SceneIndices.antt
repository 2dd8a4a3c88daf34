-- The indices of scenes: they have the contents that a table asks for, and they stay indices of scenes when
-- they are written.
use Rattle.std.proofs.Common.{◌≡◌, ℕ, ◌+◌, ◌≤◌, ◌==◌, nat_eq, Bool, true, false, true≢false, cond, List, [], ◌∷◌, ◌++◌, length, map, Some, refl, sym, ap, subst, ◌∙◌, arith}
use Rattle.std.specs.Prelude.{All, bit_or, not}
use Rattle.std.specs.List.{AllByRecursion, IsDistinct}
use Rattle.std.proofs.lemmas.Bool.{eqb-true}
use Rattle.std.proofs.lemmas.Nat.{and_or_self}
use Rattle.tpol_base.specs.Attributes.{index_type, nt_counter, nv_written}
use Rattle.tpol_name.specs.declared.entries.IndexEntry.{IndexEntry}
use Rattle.tpol_name.specs.declared.entries.ObjectEntry.{ObjectEntry}
use Rattle.tpol_name.specs.Areas.{is_written}
use Rattle.tpol_name.specs.Paths.{is_same_path}
use Rattle.tpol_name.specs.Setups.{AreEntities, IsIndex, IsTypeOfSize, hierarchy_paths}
use Rattle.tpm_nv.specs.Contents.{HasContent, written_entry}
use Rattle.tpm_nv.specs.Indices.{changed_at, index_of, written_at}
use Rattle.tpm_nv.proofs.FillLemmas.{handle_of}
use Rattle.tpm_nv.proofs.TableLemmas.{all_of, first_of, index_type-written, length-spliced, rest_of}

-- counters have eight bytes
counter_size : (kind size : ℕ) → IsTypeOfSize kind size → kind ≡ nt_counter → size ≡ 8
counter_size kind size type counter = grind arith

-- an index of a scene has the content of its size
pub content_of_index : (entry : IndexEntry) → IsIndex entry → HasContent entry
content_of_index entry is = record {
  size = is.content;
  counter = counter_size (index_type entry.public.attributes) entry.public.size is.type_of_size;
}

pub contents_of_indices : (indices : List IndexEntry) → All IsIndex indices → All HasContent indices
contents_of_indices indices each k d within = content_of_index _ (each k d within)

-- a written index is written
pub is_written-written : (attributes : ℕ) → is_written (bit_or attributes nv_written) ≡ true
is_written-written attributes = ap (λ bits. not (bits == 0)) (and_or_self nv_written attributes)

-- an index of a scene stays one when it is written
pub index_written : (offset : ℕ) (bytes : List ℕ) (entry : IndexEntry) → offset + length bytes ≤ length entry.content → IsIndex entry → IsIndex (written_entry offset bytes entry)
index_written offset bytes entry within is = record {
  least_handle = is.least_handle;
  greatest_handle = is.greatest_handle;
  auth_policy = is.auth_policy;
  auth = is.auth;
  least_size = is.least_size;
  greatest_size = is.greatest_size;
  type_of_size = subst (λ kind. IsTypeOfSize kind entry.public.size) (sym (index_type-written entry.public.attributes)) is.type_of_size;
  content = length-spliced offset bytes entry.content within ∙ is.content;
  unwritten = λ not_written. absurd (true≢false (sym (is_written-written entry.public.attributes) ∙ not_written));
}

-- a change that leaves what is read of an index leaves it of all
map-changed_at : {X : Type 0} (f : IndexEntry → X) (handle : ℕ) (change : IndexEntry → IndexEntry) → ((entry : IndexEntry) → f (change entry) ≡ f entry)
    → (indices : List IndexEntry) → map f (changed_at handle change indices) ≡ map f indices
map-changed_at f handle change same [] = refl
map-changed_at f handle change same (e ∷ es) = λ i. by (handle == e.public.index) i ∷ map-changed_at f handle change same es i
  where
    by : (b : Bool) → f (cond b (change e) e) ≡ f e
    by true = same e
    by false = refl

-- an index that no other has the handle of is changed alone
others_stay : (handle : ℕ) (change : IndexEntry → IndexEntry) (indices : List IndexEntry) → AllByRecursion (λ other. nat_eq handle other ≡ false) (map handle_of indices)
    → indices ≡ changed_at handle change indices
others_stay handle change [] others = refl
others_stay handle change (e ∷ es) others = λ i. cond (sym others.0 i) (change e) e ∷ others_stay handle change es others.1 i

each_written : (handle offset : ℕ) (bytes : List ℕ) (indices : List IndexEntry) (entry : IndexEntry) → All IsIndex indices → IsDistinct nat_eq (map handle_of indices)
    → index_of handle indices ≡ Some entry → offset + length bytes ≤ length entry.content → All IsIndex (written_at handle offset bytes indices)
unfolding IsDistinct
each_written handle offset bytes [] entry each distinct found within = each
each_written handle offset bytes (e ∷ es) entry each distinct found within =
    by (handle == e.public.index) refl found (λ same. each_written handle offset bytes es entry (rest_of IsIndex e es each) distinct.1 same within)
  where
    by : (b : Bool) → (handle == e.public.index) ≡ b → cond b (Some e) (index_of handle es) ≡ Some entry
        → (index_of handle es ≡ Some entry → All IsIndex (written_at handle offset bytes es))
        → All IsIndex (cond b (written_entry offset bytes e) e ∷ written_at handle offset bytes es)
    by true test same rest =
        let is : e ≡ entry = cc in
        let room : offset + length bytes ≤ length e.content = subst (λ found. offset + length bytes ≤ length found.content) (sym is) within in
        let others = subst (λ key. AllByRecursion (λ other. nat_eq key other ≡ false) (map handle_of es)) (sym (eqb-true handle e.public.index test)) distinct.0 in
        all_of IsIndex (written_entry offset bytes e) (written_at handle offset bytes es) (index_written offset bytes e room (first_of IsIndex e es each))
        (subst (All IsIndex) (others_stay handle (written_entry offset bytes) es others) (rest_of IsIndex e es each))
    by false test same rest = all_of IsIndex e (written_at handle offset bytes es) (first_of IsIndex e es each) (rest same)

-- the entities of a scene stay such when an index is written
pub entities_written : (objects : List ObjectEntry) (indices : List IndexEntry) (handle offset : ℕ) (bytes : List ℕ) (entry : IndexEntry) → AreEntities objects indices
    → index_of handle indices ≡ Some entry → offset + length bytes ≤ length entry.content → AreEntities objects (written_at handle offset bytes indices)
entities_written objects indices handle offset bytes entry are found within =
    let handles = map-changed_at handle_of handle (written_entry offset bytes) (λ entry. refl) indices in
    let paths = map-changed_at (λ entry. entry.path) handle (written_entry offset bytes) (λ entry. refl) indices in
    record {
      each_object = are.each_object;
      each_index = each_written handle offset bytes indices entry are.each_index are.index_handles found within;
      object_handles = are.object_handles;
      index_handles = subst (IsDistinct nat_eq) (sym handles) are.index_handles;
      paths = subst (λ last. IsDistinct is_same_path (hierarchy_paths ++ map (λ o. o.path) objects ++ last)) (sym paths) are.paths;
    }

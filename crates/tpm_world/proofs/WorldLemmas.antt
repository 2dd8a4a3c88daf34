-- The world stays one: its indices are found with the contents of their sizes, and a write within a content
-- leaves the entities those of a scene.
use Rattle.std.proofs.Common.{◌≡◌, ◌≤◌, ◌+◌, ℕ, ◌==◌, Bool, true, false, cond, List, [], ◌∷◌, length, Option, Some, None, refl, sym, subst, arith}
use Rattle.std.specs.Borrow.{Bor}
use Rattle.std.specs.Int.{to_be_bytes, w64}
use Rattle.std.specs.Option.{option_copied}
use Rattle.std.specs.Prelude.{All, IfSome, IsSome, OnErr, OnOk, Result, Ok, Err, option_and_then}
use Rattle.std.proofs.lemmas.Bool.Decides.{nat_tests}
use Rattle.tpol_base.specs.declared.rc.Rc.{Rc}
use Rattle.tpol_name.specs.declared.entries.IndexEntry.{IndexEntry}
use Rattle.tpol_name.specs.declared.entries.ObjectEntry.{ObjectEntry}
use Rattle.tpol_name.specs.Setups.{AreEntities, IsIndex}
use Rattle.tpm_nv.specs.Counters.{count_before, greatest_count}
use Rattle.tpm_nv.specs.Indices.{count_after, counter_rule, incremented_at, index_of, rule_of, written_at}
use Rattle.tpm_nv.specs.Rules.{increment_rule, write_rule}
use Rattle.tpm_nv.proofs.SceneIndices.{entities_written}
use Rattle.tpm_nv.proofs.TableLemmas.{first_of, rest_of}
use Rattle.tpm_world.specs.World.{IsWorld, WorldState}

-- what is found among a scene's indices is an index of a scene
pub found_index : (handle : ℕ) (indices : List IndexEntry) (entry : IndexEntry) → All IsIndex indices → index_of handle indices ≡ Some entry → IsIndex entry
found_index handle [] entry each found = absurd (cc)
found_index handle (e ∷ es) entry each found = by (handle == e.public.index) found (found_index handle es entry (rest_of IsIndex e es each))
  where
    by : (b : Bool) → cond b (Some e) (index_of handle es) ≡ Some entry → (index_of handle es ≡ Some entry → IsIndex entry) → IsIndex entry
    by true same rest =
        let is : e ≡ entry = cc in
        subst IsIndex is (first_of IsIndex e es each)
    by false same rest = rest same

-- what may be written lies within the content
pub write_fits : (entry : IndexEntry) (offset count : ℕ) → write_rule entry offset count ≡ None → IsIndex entry → offset + count ≤ length entry.content
write_fits entry offset count rule is = grind (arith, nat_tests)

-- a counter that may be incremented has eight bytes
pub counter_fits : (entry : IndexEntry) (count : ℕ) → increment_rule entry count ≡ None → IsIndex entry → length entry.content ≡ 8
counter_fits entry count rule is = grind (arith, nat_tests)

-- what is found has the content of its size
pub found_content : (handle : ℕ) (indices : List IndexEntry) (found : Option (Bor IndexEntry)) → All IsIndex indices → option_copied found ≡ index_of handle indices
    → IfSome found (λ entry. length entry.now.content ≡ entry.now.public.size)
found_content handle indices None each same = tt
found_content handle indices (Some entry) each same = (found_index handle indices entry.now each (sym same)).content

-- the rule of an index that is there
pub rule_at : (rule : IndexEntry → Option ℕ) (handle : ℕ) (indices : List IndexEntry) (entry : IndexEntry) → rule_of rule handle indices ≡ None → index_of handle indices ≡ Some entry → rule entry ≡ None
rule_at rule handle indices entry holds found = subst (λ o. option_and_then rule o ≡ None) found holds

-- where an index is there, it is some index
there : (found : Option IndexEntry) → IsSome found → (entry : IndexEntry) × (found ≡ Some entry)
there None some = absurd (cc)
there (Some entry) some = (entry, refl)

-- the entities after a write whose rules hold
pub entities_after_write : (objects : List ObjectEntry) (indices : List IndexEntry) (handle offset : ℕ) (bytes : List ℕ) → AreEntities objects indices → IsSome (index_of handle indices)
    → rule_of (λ entry. write_rule entry offset (length bytes)) handle indices ≡ None → AreEntities objects (written_at handle offset bytes indices)
entities_after_write objects indices handle offset bytes are some rule =
    let found = there (index_of handle indices) some in
    let is = found_index handle indices found.0 are.each_index found.1 in
    let holds = rule_at (λ entry. write_rule entry offset (length bytes)) handle indices found.0 rule found.1 in
    entities_written objects indices handle offset bytes found.0 are found.1 (write_fits found.0 offset (length bytes) holds is)

-- and after an increment
pub entities_after_increment : (objects : List ObjectEntry) (indices : List IndexEntry) (handle : ℕ) → AreEntities objects indices → IsSome (index_of handle indices)
    → rule_of (counter_rule indices) handle indices ≡ None → AreEntities objects (incremented_at handle indices)
entities_after_increment objects indices handle are some rule =
    let found = there (index_of handle indices) some in
    let is = found_index handle indices found.0 are.each_index found.1 in
    let holds = rule_at (counter_rule indices) handle indices found.0 rule found.1 in
    let eight = counter_fits found.0 (count_before (greatest_count indices) found.0) holds is in
    let count = to_be_bytes w64 (count_after handle indices) in
    let size : length count ≡ 8 = refl in
    entities_written objects indices handle 0 count found.0 are found.1 (omega arith)

-- the world after a write that was asked for
pub world_written : (world : WorldState) (handle offset : ℕ) (bytes : List ℕ) (result : Result (Unit {0}) Rc) (indices : List IndexEntry)
    → IsWorld world → IsSome (index_of handle world.indices)
    → OnOk result (indices ≡ written_at handle offset bytes world.indices)
    → OnOk result (rule_of (λ entry. write_rule entry offset (length bytes)) handle world.indices ≡ None)
    → OnErr result (indices ≡ world.indices) → IsWorld (record world { indices = indices })
world_written world handle offset bytes (Ok x) indices is some written rule err = record {
  pcrs = is.pcrs;
  time = is.time;
  entities = subst (AreEntities world.objects) (sym written) (entities_after_write world.objects world.indices handle offset bytes is.entities some rule);
}
world_written world handle offset bytes (Err rc) indices is some written rule err = record {
  pcrs = is.pcrs;
  time = is.time;
  entities = subst (AreEntities world.objects) (sym err) is.entities;
}

-- and after an increment that was asked for
pub world_incremented : (world : WorldState) (handle : ℕ) (result : Result (Unit {0}) Rc) (indices : List IndexEntry)
    → IsWorld world → IsSome (index_of handle world.indices)
    → OnOk result (indices ≡ incremented_at handle world.indices)
    → OnOk result (rule_of (counter_rule world.indices) handle world.indices ≡ None)
    → OnErr result (indices ≡ world.indices) → IsWorld (record world { indices = indices })
world_incremented world handle (Ok x) indices is some written rule err = record {
  pcrs = is.pcrs;
  time = is.time;
  entities = subst (AreEntities world.objects) (sym written) (entities_after_increment world.objects world.indices handle is.entities some rule);
}
world_incremented world handle (Err rc) indices is some written rule err = record {
  pcrs = is.pcrs;
  time = is.time;
  entities = subst (AreEntities world.objects) (sym err) is.entities;
}

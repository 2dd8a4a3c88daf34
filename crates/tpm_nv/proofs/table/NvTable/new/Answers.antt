use Rattle.std.proofs.Common.{◌≡◌, ◌∙◌, sym, ap, subst, map, rules}
use Rattle.std.specs.Map.{values_of}
use Rattle.std.proofs.lemmas.Iterator.Adapters.{YieldsList-from_vec}
use Rattle.std.proofs.lemmas.Iterator.Consumers.{YieldsList-end}
use Rattle.std.proofs.lemmas.List.{map-id}
use Rattle.std.specs.Vec.Iter.{into_iter_items}
use Rattle.tpm_nv.specs.Tables.{IsByHandle}
use Rattle.tpm_nv.proofs.FillLemmas.{filled_by_handle, one_placed, under_handle, values_of-filled}
use Rattle.tpm_nv.proofs.table.NvTable.new.Goals as goal

pub loop-entry-preserved : goal.loop-entry-preserved
loop-entry-preserved c =
    one_placed c.loop-entry.table.entries _ c.loop-entry.yielded (into_iter_items c.loop-entry.entry-iterator) _ c.args.indices c.in-Some.entry
    c.loop-entry.invariant.0 c.loop-entry.invariant.1 c.in-Some.ensures.steps.0 c.in_ok-insert.ensures.entries c.requires.handles

pub invariant_of-result : goal.invariant_of-result
invariant_of-result c =
    let road = YieldsList-from_vec {s = c.into_iter-entry-iterator.result} c.args.indices (search rules) (search rules) in
    let ended = YieldsList-end road c.loop-entry.yielded c.loop-entry.entry-iterator c.loop-entry.yielded_by c.next.result c.next.new.self c.in-None.is c.next.ensures.steps in
    let all : c.loop-entry.yielded ≡ c.args.indices = sym (map-id c.loop-entry.yielded) ∙ ended.0 in
    subst IsByHandle (sym (c.loop-entry.invariant.0 ∙ ap (map under_handle) all)) (filled_by_handle c.args.indices c.requires.contents)

pub returns : goal.returns
returns c =
    let road = YieldsList-from_vec {s = c.into_iter-entry-iterator.result} c.args.indices (search rules) (search rules) in
    let ended = YieldsList-end road c.loop-entry.yielded c.loop-entry.entry-iterator c.loop-entry.yielded_by c.next.result c.next.new.self c.in-None.is c.next.ensures.steps in
    let all : c.loop-entry.yielded ≡ c.args.indices = sym (map-id c.loop-entry.yielded) ∙ ended.0 in
    record { indices = ap values_of c.loop-entry.invariant.0 ∙ values_of-filled c.loop-entry.yielded ∙ all }

use Rattle.std.proofs.Common.{◌≡◌, ◌∙◌, sym, ap, subst, map, rules}
use Rattle.std.specs.Map.{values_of}
use Rattle.std.proofs.lemmas.Iterator.Adapters.{YieldsList-from_vec}
use Rattle.std.proofs.lemmas.Iterator.Consumers.{YieldsList-end}
use Rattle.std.proofs.lemmas.List.{map-id}
use Rattle.std.specs.Vec.Iter.{into_iter_items}
use Rattle.tpm_world.specs.Objects.{IsByHandle}
use Rattle.tpm_world.proofs.ObjectLemmas.{filled_by_handle, one_placed, under_handle, values_of-filled}
use Rattle.tpm_world.proofs.objects.ObjectTable.new.Goals as goal

pub loop-object-preserved : goal.loop-object-preserved
loop-object-preserved c =
    one_placed c.loop-object.table.entries _ c.loop-object.yielded (into_iter_items c.loop-object.object-iterator) _ c.args.objects c.in-Some.object
    c.loop-object.invariant.0 c.loop-object.invariant.1 c.in-Some.ensures.steps.0 c.in_ok-insert.ensures.entries c.requires.handles

pub invariant_of-result : goal.invariant_of-result
invariant_of-result c =
    let road = YieldsList-from_vec {s = c.into_iter-object-iterator.result} c.args.objects (search rules) (search rules) in
    let ended = YieldsList-end road c.loop-object.yielded c.loop-object.object-iterator c.loop-object.yielded_by c.next.result c.next.new.self c.in-None.is c.next.ensures.steps in
    let all : c.loop-object.yielded ≡ c.args.objects = sym (map-id c.loop-object.yielded) ∙ ended.0 in
    subst IsByHandle (sym (c.loop-object.invariant.0 ∙ ap (map under_handle) all)) (filled_by_handle c.args.objects)

pub returns : goal.returns
returns c =
    let road = YieldsList-from_vec {s = c.into_iter-object-iterator.result} c.args.objects (search rules) (search rules) in
    let ended = YieldsList-end road c.loop-object.yielded c.loop-object.object-iterator c.loop-object.yielded_by c.next.result c.next.new.self c.in-None.is c.next.ensures.steps in
    let all : c.loop-object.yielded ≡ c.args.objects = sym (map-id c.loop-object.yielded) ∙ ended.0 in
    record { objects = ap values_of c.loop-object.invariant.0 ∙ values_of-filled c.loop-object.yielded ∙ all }

use Rattle.std.proofs.Common.{◌∙◌, sym, ap, map, max, rules}
use Rattle.std.specs.Map.Iter.{deref}
use Rattle.std.specs.Map.{values_of}
use Rattle.std.proofs.lemmas.List.{map_push}
use Rattle.std.proofs.lemmas.Map.Views.{All-turn}
use Rattle.tpm_nv.specs.Contents.{HasContent}
use Rattle.tpm_nv.specs.Counters.{greatest_count}
use Rattle.tpm_nv.proofs.CounterLemmas.{greatest_count-counter, greatest_count-other, ord_max-nat}
use Rattle.tpm_nv.proofs.TableLemmas.{contents_of}
use Rattle.tpm_nv.proofs.table.NvTable.greatest_count.Goals as goal

pub written_count-requires : goal.written_count-requires
written_count-requires c =
    let entries = c.self.inside.indices.entries in
    record {
      content = All-turn deref HasContent (values_of entries) c.loop-entry.yielded c.into_iter-entry-iterator.result c.loop-entry.entry-iterator c.next.new.self c.next.result
          c.in-Some.entry (contents_of entries c.self.invariant) (search rules) c.loop-entry.yielded_by c.in-Some.is c.next.ensures.steps;
    }

pub loop-entry-preserved-in-Some-written_count : goal.loop-entry-preserved-in-Some-written_count
loop-entry-preserved-in-Some-written_count c =
    let count = c.in-Some-written_count.count in
    c.max-greatest.ensures ∙ ord_max-nat c.loop-entry.greatest count
    ∙ ap (λ greatest. max greatest count) c.loop-entry.invariant
    ∙ greatest_count-counter (map (λ entry. entry.now) c.loop-entry.yielded) c.in-Some.entry.now count c.in-Some-written_count.ensures.count
    ∙ ap greatest_count (sym (map_push (λ entry. entry.now) c.loop-entry.yielded c.in-Some.entry))

pub loop-entry-preserved : goal.loop-entry-preserved
loop-entry-preserved c =
    c.loop-entry.invariant
    ∙ greatest_count-other (map (λ entry. entry.now) c.loop-entry.yielded) c.in-Some.entry.now c.in_default.ensures.count
    ∙ ap greatest_count (sym (map_push (λ entry. entry.now) c.loop-entry.yielded c.in-Some.entry))

use Rattle.std.proofs.Common.{ap, ◌∙◌}
use Rattle.tpol_store.proofs.SortedNames.{sorted_once}
use Rattle.tpol_store.specs.FileNames.{sorted_names}
use Rattle.tpol_store.proofs.file_name.document_names.Goals as goal

pub returns : goal.returns
returns c =
    sorted_once c.in_ok-names.names.items c.sort.new.self.items c.dedup.new.self.items c.sort.ensures.permutation c.in_ok-sort.ensures.sorted c.dedup.ensures.filtered
    ∙ ap sorted_names c.in_ok-names.ensures

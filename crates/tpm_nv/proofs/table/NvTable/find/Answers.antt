use Rattle.std.proofs.Common.{◌∙◌, ap}
use Rattle.tpm_nv.specs.Indices.{index_of}
use Rattle.tpm_nv.proofs.TableLemmas.{lookup_index}
use Rattle.tpm_nv.proofs.table.NvTable.find.Goals as goal

pub returns : goal.returns
returns c = record {
  found = c.get.ensures.value ∙ lookup_index c.args.index c.self.inside.indices.entries c.self.invariant ∙ ap (index_of c.args.index) c.self.view_is;
}

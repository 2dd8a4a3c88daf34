use Rattle.std.proofs.Common.{◌∙◌, sym, ap}
use Rattle.std.specs.Option.{option_copied}
use Rattle.tpm_nv.proofs.TableLemmas.{found_under, found_index, is_copied}
use Rattle.tpm_nv.proofs.table.NvTable.entry_at.Goals as goal

pub unwrap-requires : goal.unwrap-requires
unwrap-requires c =
    is_copied c.get.result _
    (found_index c.args.index c.self.inside.indices.entries c.args.self.now _ c.self.invariant c.self.view_is c.get.ensures.value)
    c.requires.there

pub returns-clause-found : goal.returns-clause-found
returns-clause-found c =
    sym (found_index c.args.index c.self.inside.indices.entries c.args.self.now _ c.self.invariant c.self.view_is c.get.ensures.value)
    ∙ ap option_copied c.unwrap.ensures

pub returns-clause-content : goal.returns-clause-content
returns-clause-content c =
    (found_under c.args.index c.self.inside.indices.entries c.unwrap.result.now c.self.invariant
    (sym c.get.ensures.value ∙ ap option_copied c.unwrap.ensures)).content

use Rattle.std.proofs.Common.{map, string_bytes}
use Rattle.tpol_store.proofs.ListedNames.{listed_are_of_shelf}
use Rattle.tpol_store.proofs.load.listed_names.Goals as goal

pub returns-in-Ok-clause-names : goal.returns-in-Ok-clause-names
returns-in-Ok-clause-names g c =
    listed_are_of_shelf (λ names. map string_bytes names.items) (g.H.Shelf.documents c.args.shelf.now) c.in-Ok.listed c.few_names.result
    c.in-Ok.ensures.listed (rw c.as_slice.ensures at c.few_names.ensures.names)

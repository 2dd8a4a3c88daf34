use Rattle.std.proofs.Common.{◌≡◌, drop}
use Rattle.tpol_store.specs.Stores.{policies_of}
use Rattle.tpol_prepare.specs.References.{references_step}
use Rattle.tpol_prepare.proofs.references.check_references.Given as goal

-- the references to come decide
abbrev pub invariant-loop-reference : goal.invariant-loop-reference
invariant-loop-reference l =
    references_step (policies_of l.store) (drop l.reference-index l.references)
    ≡ references_step (policies_of l.store) l.references

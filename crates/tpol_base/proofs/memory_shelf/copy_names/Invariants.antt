use Rattle.std.proofs.Common.{◌≡◌, map, take}
use Rattle.tpol_base.proofs.memory_shelf.copy_names.Given as goal

-- the names of the documents so far
abbrev pub invariant-loop-document : goal.invariant-loop-document
invariant-loop-document l = l.names ≡ map (λ document. document.name) (take l.document-index l.documents)

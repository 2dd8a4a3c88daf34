use Rattle.std.proofs.Common.{◌≡◌, [], All, IfSome, drop, map, string_bytes}
use Rattle.tpol_store.specs.Loading.{documents_from}
use Rattle.tpol_store.specs.Stores.{IsReadable, named_policy}
use Rattle.tpol_store.proofs.load.read_documents.Given as goal

-- the documents so far, with those of the names to come, are all of them
abbrev pub invariant-loop-name : goal.invariant-loop-name
invariant-loop-name g l = record {
  read : IfSome (g.H.Shelf.documents l.initial.shelf) (λ all.
      documents_from (map named_policy l.documents) (map string_bytes (drop l.name-index l.names)) all
      ≡ documents_from [] (map string_bytes l.names) all);
  readable : All IsReadable l.documents;
  keeps : g.H.Shelf.documents l.shelf ≡ g.H.Shelf.documents l.initial.shelf;
  faults : g.H.Shelf.faults l.shelf ≡ g.H.Shelf.faults l.initial.shelf;
}

use Rattle.std.proofs.Common.{◌≡◌, [], All, drop, map}
use Rattle.std.specs.Option.{option_copied}
use Rattle.tpol_store.specs.Stores.{IsReadable, policies_of, stored}
use Rattle.tpol_prepare.specs.FilledDocuments.{documents_from}
use Rattle.tpol_steps.specs.Filled.{IsReadyDocument, erased_filled}
use Rattle.tpol_prepare.proofs.documents.fill_references.Given as goal

-- the documents so far, with those to come, are all of them
abbrev pub invariant-loop-reference : goal.invariant-loop-reference
invariant-loop-reference l = record {
  answer : documents_from (policies_of l.store) (option_copied l.sight) (map erased_filled l.documents) (drop l.reference-index l.references)
      ≡ documents_from (policies_of l.store) (option_copied l.sight) [] l.references;
  ready : All IsReadable (stored l.store) → All IsReadyDocument l.documents;
}

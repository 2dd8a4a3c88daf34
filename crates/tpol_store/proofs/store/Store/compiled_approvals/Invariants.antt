use Rattle.std.proofs.Common.{◌≡◌, All, map, take, flat_map}
use Rattle.std.specs.Option.{option_copied}
use Rattle.tpol_fill.specs.Forms.{IsFilledApproval}
use Rattle.tpol_store.specs.Approvals.{HasApprovedBounds, approved_in}
use Rattle.tpol_store.specs.Stores.{IsReadable, named_policy, stored}
use Rattle.tpol_tree.specs.ClosedErased.{erased_document}
use Rattle.tpol_store.proofs.store.Store.compiled_approvals.Given as goal

-- what the documents so far approve
abbrev pub invariant-loop-document : goal.invariant-loop-document
invariant-loop-document l = record {
  documents : map erased_document l.approvals
      ≡ flat_map (λ document. approved_in document.0 document.1 (option_copied l.sight)) (map named_policy (take l.document-index l.document-items));
  form : All IsReadable (stored l.self) → All IsFilledApproval l.approvals;
  bounded : All IsReadable (stored l.self) → All HasApprovedBounds l.approvals;
}

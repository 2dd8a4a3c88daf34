use Rattle.std.proofs.Common.{◌≡◌, ◌++◌, All, map, take, flat_map}
use Rattle.std.specs.Option.{option_copied}
use Rattle.tpol_fill.specs.Forms.{IsFilledApproval}
use Rattle.tpol_store.specs.Approvals.{HasApprovedBounds, approved_by}
use Rattle.tpol_store.specs.Stores.{IsReadable}
use Rattle.tpol_tree.specs.ClosedErased.{erased_document}
use Rattle.tpol_tree.specs.Erased.{erased_policy}
use Rattle.tpol_store.proofs.approvals.push_compiled.Given as goal

-- what the authorizations so far approve
abbrev pub invariant-loop-wish : goal.invariant-loop-wish
invariant-loop-wish l = record {
  documents : map erased_document l.approvals
      ≡ map erased_document l.initial.approvals
      ++ flat_map (approved_by l.document.name (erased_policy l.document.policy) (option_copied l.sight)) (take l.wish-index l.wish-items);
  form : IsReadable l.document → All IsFilledApproval l.initial.approvals → All IsFilledApproval l.approvals;
  bounded : IsReadable l.document → All HasApprovedBounds l.initial.approvals → All HasApprovedBounds l.approvals;
}

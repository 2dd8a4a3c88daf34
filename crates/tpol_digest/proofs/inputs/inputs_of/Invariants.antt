use Rattle.std.proofs.Common.{◌≡◌, ◌++◌, take}
use Rattle.std.specs.List.{flat_map}
use Rattle.tpol_tree.specs.declared.path.ApprovedDoc.{ApprovedDoc}
use Rattle.tpol_digest.specs.Digest.{zero_digest}
use Rattle.tpol_digest.specs.Inputs.{inputs_at}
use Rattle.tpol_digest.proofs.inputs.inputs_of.Given as goal

abbrev pub invariant-loop-document : goal.invariant-loop-document
invariant-loop-document l =
    l.inputs ≡ inputs_at l.policy.elements zero_digest ++ flat_map (λ (document : ApprovedDoc). inputs_at document.closed.elements zero_digest) (take l.document-index l.document-items)

-- The approval of a policy that no listed document has.
use Rattle.std.specs.Prelude.{Option, Some, None}
use Rattle.tpol_digest.specs.Digest.{zero_digest}
use Rattle.tpol_tree.specs.declared.closed.ClosedElement.{ClosedElement}
use Rattle.tpol_tree.specs.declared.closed.ClosedElement.TheVariants.{Authorize, AuthorizeNv}
use Rattle.tpol_tree.specs.declared.path.Move.{Move}
use Rattle.tpol_tree.specs.declared.path.Move.TheVariants.{Approve, ApproveNv}

abbrev pub outside_move : ClosedElement → Option Move
outside_move (Authorize key policy_ref) = Some (Approve key policy_ref zero_digest zero_digest)
outside_move (AuthorizeNv index) = Some (ApproveNv index zero_digest)
outside_move _ = None

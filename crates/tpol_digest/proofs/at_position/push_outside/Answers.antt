use Rattle.std.proofs.Common.{◌∙◌, ap, arith}
use Rattle.std.proofs.lemmas.Result.{on_ok_weaker}
use Rattle.tpol_tree.specs.declared.path.Move.TheVariants.{Approve, ApproveNv}
use Rattle.tpol_digest.specs.Digest.{zero_digest}
use Rattle.tpol_digest.specs.Paths.{followed_by, outside_path}
use Rattle.tpol_digest.proofs.Positions.{goes_one}
use Rattle.tpol_digest.proofs.at_position.push_outside.Goals as goal

pub returns-in_ok-policy_ref-in-Authorize : goal.returns-in_ok-policy_ref-in-Authorize
returns-in_ok-policy_ref-in-Authorize c =
    let key = c.in-Authorize.key in
    let policy_ref = c.in-Authorize.policy_ref in
    let before = c.args.path.now in
    let same = c.in_ok-policy_ref-in-Authorize.ensures ∙ c.as_slice.ensures in
    rw c.in-Authorize.is (on_ok_weaker c.push_outside_move.result (λ e. goes_one before c.push_outside_move.new.path (outside_path (Approve key policy_ref zero_digest zero_digest)) 0 (omega arith) (e ∙ ap (λ x. followed_by before (outside_path (Approve key x c.zero_digest.result c.zero_digest-in-Authorize.result))) same ∙ ap (λ x. followed_by before (outside_path (Approve key policy_ref x c.zero_digest-in-Authorize.result))) c.zero_digest.ensures ∙ ap (λ x. followed_by before (outside_path (Approve key policy_ref zero_digest x))) c.zero_digest-in-Authorize.ensures)) c.push_outside_move.ensures)

pub returns-in-AuthorizeNv : goal.returns-in-AuthorizeNv
returns-in-AuthorizeNv c =
    let before = c.args.path.now in
    let index = c.in-AuthorizeNv.index in
    rw c.in-AuthorizeNv.is (on_ok_weaker c.push_outside_move-in-AuthorizeNv.result (λ e. goes_one before c.push_outside_move-in-AuthorizeNv.new.path (outside_path (ApproveNv index zero_digest)) 0 (omega arith) (e ∙ ap (λ x. followed_by before (outside_path (ApproveNv index x))) c.zero_digest-in-AuthorizeNv.ensures)) c.push_outside_move-in-AuthorizeNv.ensures)

use Rattle.std.proofs.Common.{◌≡◌, ◌++◌, ap, ◌∙◌}
use Rattle.std.proofs.lemmas.Result.{IfOk-weaker}
use Rattle.tpol_digest.specs.Digest.{after_update, or_digest, approve_digest, approve_nv_digest, branch_digests}
use Rattle.tpol_digest.specs.UpdateBytes.{update_value}
use Rattle.tpol_digest.proofs.inputs.+inputs.Goals as goal

pub push_element-returns-in_ok-update-in-Or-clause-digest : goal.push_element-returns-in_ok-update-in-Or-clause-digest
push_element-returns-in_ok-update-in-Or-clause-digest t c =
    let d = c.args.before in
    let branches = c.in-Or.branches in
    let digests_are = c.in_ok-push_branches-in-Or.ensures.digests ∙ ap (λ l. l ++ branch_digests branches d) c.new-digests.ensures in
    let same = ap (λ u. after_update u d) c.in_ok-update-in-Or.ensures ∙ ap or_digest digests_are in
    rw c.in-Or.is (IfOk-weaker c.push_update-in-Or.result (λ after. after ≡ after_update (update_value c.in_ok-update-in-Or.update) d) (λ after. after ≡ or_digest (branch_digests branches d)) (λ after e. e ∙ same) c.push_update-in-Or.ensures.digest)

pub push_element-returns-in_ok-update-in-Authorize-clause-digest : goal.push_element-returns-in_ok-update-in-Authorize-clause-digest
push_element-returns-in_ok-update-in-Authorize-clause-digest t c =
    let d = c.args.before in
    let same = ap (λ u. after_update u d) c.in_ok-update-in-Authorize.ensures in
    rw c.in-Authorize.is (IfOk-weaker c.push_update-in-Authorize.result (λ after. after ≡ after_update (update_value c.in_ok-update-in-Authorize.update) d) (λ after. after ≡ approve_digest c.in-Authorize.key c.in-Authorize.policy_ref) (λ after e. e ∙ same) c.push_update-in-Authorize.ensures.digest)

pub push_element-returns-in_ok-update-in-AuthorizeNv-clause-digest : goal.push_element-returns-in_ok-update-in-AuthorizeNv-clause-digest
push_element-returns-in_ok-update-in-AuthorizeNv-clause-digest t c =
    let d = c.args.before in
    let same = ap (λ u. after_update u d) c.in_ok-update-in-AuthorizeNv.ensures in
    rw c.in-AuthorizeNv.is (IfOk-weaker c.push_update-in-AuthorizeNv.result (λ after. after ≡ after_update (update_value c.in_ok-update-in-AuthorizeNv.update) d) (λ after. after ≡ approve_nv_digest c.in-AuthorizeNv.index) (λ after e. e ∙ same) c.push_update-in-AuthorizeNv.ensures.digest)

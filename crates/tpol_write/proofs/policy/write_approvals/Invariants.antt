use Rattle.std.proofs.Common.{◌∷◌, take, map}
use Rattle.json.specs.Token.{begin_array}
use Rattle.tpol_write.specs.Approvals.{approval_value}
use Rattle.tpol_write.specs.Drafts.{Adds, AllRead, values_tokens}
use Rattle.tpol_write.proofs.policy.write_approvals.Given as goal

abbrev pub invariant-loop-approval : goal.invariant-loop-approval
invariant-loop-approval l = (Adds l.fn.draft l.draft (begin_array ∷ values_tokens (map approval_value (take l.approval-index l.approvals))))
    × AllRead (map approval_value (take l.approval-index l.approvals))

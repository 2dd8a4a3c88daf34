use Rattle.tpol_write.specs.Approvals.{approval_value}
use Rattle.tpol_write.proofs.Reading.{ended, ended_reads, one_more, one_more_reads}
use Rattle.tpol_write.proofs.Steps.{on_ok}
use Rattle.tpol_write.proofs.policy.write_approvals.Goals as goal

pub returns-clause-tokens : goal.returns-clause-tokens
returns-clause-tokens c =
    on_ok c.end_list.result (λ ends. ended approval_value c.args.approvals.now c.loop-approval.approval-index c.loop-approval-test.false c.loop-approval.invariant.0 ends) c.end_list.ensures

pub returns-clause-reads : goal.returns-clause-reads
returns-clause-reads c =
    on_ok c.end_list.result (λ _. ended_reads approval_value c.args.approvals.now c.loop-approval.approval-index c.loop-approval-test.false c.loop-approval.invariant.1) c.end_list.ensures

pub loop-approval-preserved : goal.loop-approval-preserved
loop-approval-preserved c =
    let l = c.loop-approval in (
      one_more approval_value c.args.approvals.now l.approval-index c.approval-item.result c.approval-item.result c.approval-item.is c.loop-approval-test.true l.invariant.0 c.in_ok-write_approval.ensures.tokens,
      one_more_reads approval_value c.args.approvals.now l.approval-index c.approval-item.result c.approval-item.result c.approval-item.is c.loop-approval-test.true l.invariant.1 c.in_ok-write_approval.ensures.reads,
    )

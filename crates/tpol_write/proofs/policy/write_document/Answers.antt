use Rattle.std.proofs.Common.{ap, subst}
use Rattle.tpol_write.specs.Approvals.{approvals_members}
use Rattle.tpol_write.specs.Drafts.{AllMembersRead, members_tokens}
use Rattle.tpol_write.proofs.DocumentTokens.{document_reads, document_tokens}
use Rattle.tpol_write.proofs.Steps.{on_ok, spelled, step}
use Rattle.tpol_write.proofs.policy.write_document.Goals as goal

pub returns-clause-tokens : goal.returns-clause-tokens
returns-clause-tokens c =
    on_ok c.end_object.result (λ ends. spelled (document_tokens c.args.policy.now)
    (step c.in_ok-begin_object.ensures (step c.in_ok-put_text.ensures (step c.in_ok-name.ensures (step c.in_ok-begin_list.ensures (step c.in_ok-write_elements.ensures.tokens (step c.in_ok-end_list.ensures (step (spelled (ap (λ list. members_tokens (approvals_members list)) c.as_slice.ensures) c.in_ok-put_approvals.ensures.tokens) ends)))))))) c.end_object.ensures

pub returns-clause-reads : goal.returns-clause-reads
returns-clause-reads c = on_ok c.end_object.result (λ _. document_reads c.args.policy.now c.in_ok-write_elements.ensures.reads (subst (λ list. AllMembersRead (approvals_members list)) c.as_slice.ensures c.in_ok-put_approvals.ensures.reads)) c.end_object.ensures

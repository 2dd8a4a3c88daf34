use Rattle.tpol_write.specs.Elements.{elements_values}
use Rattle.tpol_write.proofs.DocumentTokens.{branch_reads, branch_tokens, or_reads, or_tokens}
use Rattle.tpol_write.proofs.Steps.{on_ok, spelled, step}
use Rattle.tpol_write.proofs.elements.+policy.Goals as goal

pub or-returns-clause-tokens : goal.or-returns-clause-tokens
or-returns-clause-tokens g c =
    on_ok c.end_typed.result (λ ends. spelled (or_tokens c.args.branches.now)
    (step c.in_ok-begin_object.ensures (step c.in_ok-name.ensures (step c.in_ok-begin_list.ensures (step c.in_ok-write_branches.ensures.tokens (step c.in_ok-end_list.ensures ends)))))) c.end_typed.ensures

pub or-returns-clause-reads : goal.or-returns-clause-reads
or-returns-clause-reads g c = on_ok c.end_typed.result (λ _. or_reads c.args.branches.now c.in_ok-write_branches.ensures.reads) c.end_typed.ensures

pub write_branch-returns-clause-tokens : goal.write_branch-returns-clause-tokens
write_branch-returns-clause-tokens g c =
    on_ok c.end_object.result (λ ends. spelled (branch_tokens c.args.branch.now.name c.args.branch.now.description (elements_values c.args.branch.now.elements))
    (step c.in_ok-begin_object.ensures (step c.in_ok-put_text.ensures (step c.in_ok-put_text-2.ensures (step c.in_ok-name.ensures (step c.in_ok-begin_list.ensures (step c.in_ok-write_elements.ensures.tokens (step c.in_ok-end_list.ensures ends)))))))) c.end_object.ensures

pub write_branch-returns-clause-reads : goal.write_branch-returns-clause-reads
write_branch-returns-clause-reads g c = on_ok c.end_object.result (λ _. branch_reads c.args.branch.now.name c.args.branch.now.description (elements_values c.args.branch.now.elements) c.in_ok-write_elements.ensures.reads) c.end_object.ensures

pub write_element-returns-in-AuthValue-clause-tokens : goal.write_element-returns-in-AuthValue-clause-tokens
write_element-returns-in-AuthValue-clause-tokens g c = rw c.in-AuthValue.is c.bare.ensures.tokens

pub write_element-returns-in-PhysicalPresence-clause-tokens : goal.write_element-returns-in-PhysicalPresence-clause-tokens
write_element-returns-in-PhysicalPresence-clause-tokens g c = rw c.in-PhysicalPresence.is c.bare-in-PhysicalPresence.ensures.tokens

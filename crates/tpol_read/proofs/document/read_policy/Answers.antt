use Rattle.std.proofs.Common.{◌∙◌}
use Rattle.serde_json.specs.View.{view}
use Rattle.tpol_read.proofs.FirstFault.{no_faults, policy_of-read, is_refused}
use Rattle.tpol_read.proofs.Sound.{elements-so, has_bounds, has_branch_counts, has_rising_pcrs}
use Rattle.tpol_read.proofs.document.read_policy.Goals as goal

pub returns-in-Ok-document-clause-stands : goal.returns-in-Ok-document-clause-stands
returns-in-Ok-document-clause-stands c =
    let says = policy_of-read (view c.in-Ok.value) c.at.result c.new.result _ c.document.new.walk (c.at.ensures ∙ c.root-root.ensures) c.new.ensures c.in-Ok-document.ensures in
    (view c.in-Ok.value, c.in-Ok.ensures.value, (no_faults (view c.in-Ok.value) _ says, says))

pub returns-in-Err-Bad-clause-refused : goal.returns-in-Err-Bad-clause-refused
returns-in-Err-Bad-clause-refused c =
    is_refused c.args.bytes.now (view c.in-Ok.value) c.at.result c.in-Err-Bad.place c.new.result c.in-Err-Bad.kind c.in-Ok.ensures.value (c.at.ensures ∙ c.root-root.ensures) c.new.ensures (rw c.in-Err-Bad.field-0-is at c.in-Err-Bad.ensures)

pub returns-in-Ok-document-clause-branches : goal.returns-in-Ok-document-clause-branches
returns-in-Ok-document-clause-branches c =
    has_branch_counts c.in-Ok-document.policy.elements
    (elements-so (view c.in-Ok.value) c.at.result _ c.document.new.walk c.in-Ok-document.policy.elements _ _ c.in-Ok-document.ensures)

pub returns-in-Ok-document-clause-bounded : goal.returns-in-Ok-document-clause-bounded
returns-in-Ok-document-clause-bounded c =
    has_bounds c.in-Ok-document.policy.elements
    (elements-so (view c.in-Ok.value) c.at.result _ c.document.new.walk c.in-Ok-document.policy.elements _ _ c.in-Ok-document.ensures)

pub returns-in-Ok-document-clause-rising : goal.returns-in-Ok-document-clause-rising
returns-in-Ok-document-clause-rising c =
    has_rising_pcrs c.in-Ok-document.policy.elements
    (elements-so (view c.in-Ok.value) c.at.result _ c.document.new.walk c.in-Ok-document.policy.elements _ _ c.in-Ok-document.ensures)

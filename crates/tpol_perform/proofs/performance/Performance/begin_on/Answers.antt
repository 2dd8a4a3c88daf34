use Rattle.std.proofs.Common.{subst, sym}
use Rattle.tpol_choose.proofs.Few.{few_branches}
use Rattle.tpol_choose.specs.Few.{HaveFewBranches}
use Rattle.tpol_steps.specs.declared.filled.FilledDocument.{FilledDocument}
use Rattle.tpol_perform.proofs.performance.Performance.begin_on.Goals as goal

pub choose_with_memo-requires-clause-few : goal.choose_with_memo-requires-clause-few
choose_with_memo-requires-clause-few c =
    let few = few_branches c.args.document.now.closed c.args.scenario.now.approvals c.requires.walked.branches in
    subst (λ (document : FilledDocument). HaveFewBranches document.closed c.documents-documents.result.now) (sym c.filled.ensures) (subst (HaveFewBranches c.args.document.now.closed) (sym c.documents-documents.ensures) few)

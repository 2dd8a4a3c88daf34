use Rattle.std.proofs.Common.{length, map, subst, sym, ap, ◌∙◌, arith}
use Rattle.std.proofs.lemmas.List.{length-map}
use Rattle.tpol_choose.proofs.Few.{few_branches}
use Rattle.tpol_choose.specs.Few.{HaveFewBranches}
use Rattle.tpol_digest.specs.Paths.{paths_of}
use Rattle.tpol_lines.specs.PathLine.{label}
use Rattle.tpol_steps.specs.declared.filled.FilledDocument.{FilledDocument}
use Rattle.tpol_who.specs.Lines.{block_for}
use Rattle.tpol_who.proofs.paths.push_paths.Goals as goal

pub blocks-requires-clause-few : goal.blocks-requires-clause-few
blocks-requires-clause-few c =
    let few = few_branches c.args.document.now.closed c.args.approvals.now c.requires.walked.branches in
    subst (λ (document : FilledDocument). HaveFewBranches document.closed c.documents-documents.result.now) (sym c.filled.ensures) (subst (HaveFewBranches c.args.document.now.closed) (sym c.documents-documents.ensures) few)

pub push_list-pushed-requires-clause-alike : goal.push_list-pushed-requires-clause-alike
push_list-pushed-requires-clause-alike c =
    let paths = paths_of c.filled.result.now.closed c.documents-documents.result.now in
    let count = ap length (c.in-Ok.ensures) ∙ length-map paths (λ path. label path.steps) in
    let same = ap length (c.deref.ensures.value ∙ c.in_ok-blocks.ensures) ∙ length-map paths (block_for c.args.sight.now c.args.run.now) in
    count ∙ sym same

pub push_list-pushed-requires-clause-few : goal.push_list-pushed-requires-clause-few
push_list-pushed-requires-clause-few c =
    let paths = paths_of c.filled.result.now.closed c.documents-documents.result.now in
    let same = ap length (c.deref.ensures.value ∙ c.in_ok-blocks.ensures) ∙ length-map paths (block_for c.args.sight.now c.args.run.now) in
    let document = ap (λ (document : FilledDocument). length (paths_of document.closed c.documents-documents.result.now)) c.filled.ensures in
    let listed = ap (λ l. length (paths_of c.args.document.now.closed l)) c.documents-documents.ensures in
    omega (arith, same, document, listed, c.requires.walked.within.few)

pub returns-in-Ok : goal.returns-in-Ok
returns-in-Ok c =
    let approvals = c.args.approvals.now in
    let listed = ap (paths_of c.args.document.now.closed) c.documents-documents.ensures in
    let same = ap (λ (document : FilledDocument). paths_of document.closed c.documents-documents.result.now) c.filled.ensures ∙ listed in
    let blocks = ap (map (block_for c.args.sight.now c.args.run.now)) same in
    let labels = ap (map (λ path. label path.steps)) same in
    c.push_list-pushed.ensures c.args.sight.now c.args.run.now (paths_of c.args.document.now.closed approvals) (c.deref.ensures.value ∙ c.in_ok-blocks.ensures ∙ blocks) (c.in-Ok.ensures ∙ labels)

use Rattle.std.proofs.Common.{length, map, subst, sym, ap, ◌∙◌, arith}
use Rattle.std.proofs.lemmas.List.{length-map}
use Rattle.tpol_choose.proofs.Few.{few_branches}
use Rattle.tpol_choose.specs.Blocks.{first_block}
use Rattle.tpol_choose.specs.Few.{HaveFewBranches}
use Rattle.tpol_digest.specs.Paths.{paths_of}
use Rattle.tpol_lines.specs.PathLine.{label}
use Rattle.tpol_steps.specs.declared.filled.FilledDocument.{FilledDocument}
use Rattle.tpol_perform.proofs.performance.Performance.print_blocks.Goals as goal

pub blocks-requires-clause-few : goal.blocks-requires-clause-few
blocks-requires-clause-few c =
    let few = few_branches c.args.document.now.closed c.args.approvals.now c.requires.walked.branches in
    subst (λ (document : FilledDocument). HaveFewBranches document.closed c.documents-documents.result.now) (sym c.filled.ensures) (subst (HaveFewBranches c.args.document.now.closed) (sym c.documents-documents.ensures) few)

pub print_block_list-printed-requires-clause-alike : goal.print_block_list-printed-requires-clause-alike
print_block_list-printed-requires-clause-alike c =
    let paths = paths_of c.filled.result.now.closed c.documents-documents.result.now in
    let run = c.args.run.now in
    let count = ap length (c.in-Ok.ensures) ∙ length-map paths (λ path. label path.steps) in
    let same = ap length (c.deref.ensures.value ∙ c.in_ok-blocks.ensures) ∙ length-map paths (λ path. first_block path c.args.sight.now run.grants run.goal run.locality) in
    count ∙ sym same

pub print_block_list-printed-requires-clause-few : goal.print_block_list-printed-requires-clause-few
print_block_list-printed-requires-clause-few c =
    let paths = paths_of c.filled.result.now.closed c.documents-documents.result.now in
    let run = c.args.run.now in
    let same = ap length (c.deref.ensures.value ∙ c.in_ok-blocks.ensures) ∙ length-map paths (λ path. first_block path c.args.sight.now run.grants run.goal run.locality) in
    let document = ap (λ (document : FilledDocument). length (paths_of document.closed c.documents-documents.result.now)) c.filled.ensures in
    let listed = ap (λ l. length (paths_of c.args.document.now.closed l)) c.documents-documents.ensures in
    omega (arith, same, document, listed, c.requires.walked.within.few)

pub returns-in-Ok-clause-told : goal.returns-in-Ok-clause-told
returns-in-Ok-clause-told c =
    let approvals = c.args.approvals.now in
    let run = c.args.run.now in
    let listed = ap (paths_of c.args.document.now.closed) c.documents-documents.ensures in
    let same = ap (λ (document : FilledDocument). paths_of document.closed c.documents-documents.result.now) c.filled.ensures ∙ listed in
    let blocks = ap (map (λ path. first_block path c.args.sight.now run.grants run.goal run.locality)) same in
    let labels = ap (map (λ path. label path.steps)) same in
    c.print_block_list-printed.ensures.told c.args.sight.now run (paths_of c.args.document.now.closed approvals) (c.deref.ensures.value ∙ c.in_ok-blocks.ensures ∙ blocks) (c.in-Ok.ensures ∙ labels)

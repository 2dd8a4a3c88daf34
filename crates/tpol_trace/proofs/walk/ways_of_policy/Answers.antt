use Rattle.std.proofs.Common.{subst}
use Rattle.std.specs.Prelude.{IfOk}
use Rattle.tpol_digest.specs.Digest.{zero_digest}
use Rattle.tpol_digest.specs.Paths.{document_paths, paths_at, product}
use Rattle.tpol_trace.specs.Tables.{IsTable}
use Rattle.tpol_trace.proofs.walk.ways_of_policy.Goals as goal

pub returns-then-has_or-clause-table : goal.returns-then-has_or-clause-table
returns-then-has_or-clause-table c = λ moves ways asks inside table.
    let approvals = c.args.walk.now.approvals.now in
    let levels = c.args.walk.now.levels in
    subst (λ d. IfOk c.ways_of_elements.result (λ found. IsTable approvals levels moves found (product (paths_at (document_paths approvals levels) approvals c.args.elements.now d) ways))) c.start.ensures.digest (c.ways_of_elements.ensures.table moves ways asks inside table)

pub returns-else-has_or-clause-table : goal.returns-else-has_or-clause-table
returns-else-has_or-clause-table c = λ moves ways asks inside table.
    c.ways_of_unbranched.ensures.table moves zero_digest ways asks inside table

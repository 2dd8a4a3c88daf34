use Rattle.std.proofs.Common.{◌≡◌, suc, ◌+◌, ◌-◌, ◌<◌, ◌≤◌, ◌++◌, [], true, false, map, take, length, inl, inr, refl, sym, ap, ◌∙◌, subst, arith}
use Rattle.std.specs.Prelude.{IfOk}
use Rattle.std.proofs.lemmas.Bool.{false≢true, or_parts}
use Rattle.std.proofs.lemmas.List.{take_all}
use Rattle.std.proofs.lemmas.Result.{IfOk-weaker, on_ok_weaker}
use Rattle.tpol_tree.specs.Closed.{ApprovalsLead}
use Rattle.tpol_tree.specs.declared.closed.ClosedBranch.{ClosedBranch}
use Rattle.tpol_tree.specs.declared.path.Move.TheVariants.{Assert, Or}
use Rattle.tpol_digest.specs.Digest.{digest_at_element, branch_digests}
use Rattle.tpol_digest.specs.Positions.{has_or, is_or}
use Rattle.tpol_digest.proofs.Positions.{unbranched_element_ways}
use Rattle.tpol_digest.specs.Paths.{approval_of, approved_paths, document_paths, followed_by, outside_paths, path_of_move, paths_at, paths_at_branches, paths_by_approval, product, between}
use Rattle.tpol_tree.specs.declared.path.PathStep.TheVariants.{Branch}
use Rattle.tpol_digest.specs.Update.{update_of_or}
use Rattle.tpol_digest.proofs.Products.{empty_product}
use Rattle.tpol_digest.proofs.Weights.{weight, greatest, weight-lt-greatest, level_less}
use Rattle.tpol_trace.specs.Tables.{IsApproval, IsTable}
use Rattle.tpol_trace.proofs.Walked.{approval_paths, approval_table, branch_table, branches_table, documents_table, inside_at, inside_map, inside_product, lead_weaker, more_table, no_level_table, one_table, other_level, passed_table, same_table, used_table}
use Rattle.tpol_trace.proofs.walk.+walk.Goals as goal
use Rattle.tpol_trace.proofs.walk.+walk.Goals.{add_documents-then-accepts+in_ok-behind+in_ok-update+in_ok-ways, add_documents-else-accepts, ways_of_rest-then-is_some, ways_of_rest-else-is_some}

pub ways_of_elements-ways_of_rest-requires : goal.ways_of_elements-ways_of_rest-requires
ways_of_elements-ways_of_rest-requires t c =
    let lead = (rw c.in-More.is at c.requires.lead).1 in
    let knows = rw c.in-More.is at c.requires.knows in
    let small = rw c.in-More.is at c.decreases in (
      rw c.deref-in-More.ensures (omega (arith, small)),
      (
        rw c.deref-in-More.ensures (lead_weaker c.in-More.rest.value lead),
        (rw c.deref.ensures (rw c.deref-in-More.ensures knows), (c.requires.documents, c.requires.size)),
      ),
    )

pub ways_of_elements-returns-in-End-clause-table : goal.ways_of_elements-returns-in-End-clause-table
ways_of_elements-returns-in-End-clause-table t c =
    rw c.in-End.is (λ moves ways asks inside table. subst (IsTable c.args.walk.now.approvals.now c.args.walk.now.levels moves c.args.behind) (sym (empty_product ways)) table)

pub ways_of_elements-returns-in_ok-behind-in-More-clause-table : goal.ways_of_elements-returns-in_ok-behind-in-More-clause-table
ways_of_elements-returns-in_ok-behind-in-More-clause-table t c =
    let approvals = c.args.walk.now.approvals.now in
    let levels = c.args.walk.now.levels in
    let within = document_paths approvals levels in
    let d = c.args.before.now.digest in
    let after = digest_at_element c.deref.result.now d in
    let others = c.deref-in-More.result.now in
    let element = c.in-More.element.value in
    let lead : ApprovalsLead false others = subst (ApprovalsLead false) (sym c.deref-in-More.ensures) (rw c.in-More.is at c.requires.lead).1 in
    let after_is : after ≡ digest_at_element element d = ap (λ e. digest_at_element e d) c.deref.ensures in
    rw c.in-More.is (λ moves ways asks inside table. IfOk-weaker c.ways_of_element.result _ _ (λ found h. more_table approvals moves levels within element c.deref-in-More-2.result.now c.in-More.rest.value others d after found ways c.deref-in-More-2.ensures c.deref-in-More.ensures after_is h) (c.ways_of_element.ensures.table moves (product (paths_at within approvals others after) ways) asks (inside_product (paths_at within approvals others after) ways (inside_at within approvals others after lead) inside) (c.in_ok-behind-in-More.ensures.table moves ways asks inside table)))

pub ways_of_rest-ways_of_elements-requires : goal.ways_of_rest-ways_of_elements-requires
ways_of_rest-ways_of_elements-requires t c =
    (omega (arith, c.decreases), (c.requires.lead, (c.behind.ensures.knows, (c.requires.documents, c.requires.size))))

pub ways_of_rest-ways_of_unbranched-requires : goal.ways_of_rest-ways_of_unbranched-requires
ways_of_rest-ways_of_unbranched-requires t c =
    let none : has_or c.args.rest.now ≡ false = elim c.if-is_some.branch [
      | ways_of_rest-then-is_some w ↦ absurd (false≢true (sym c.if-has_or.false ∙ w.value-is ∙ w.if-is_some.true))
      | ways_of_rest-else-is_some w ↦ sym w.has_or.ensures ∙ sym w.value-is ∙ c.if-has_or.false
    ] in (omega (arith, c.decreases), (none, (c.requires.lead, (c.requires.documents, c.requires.size))))

pub ways_of_rest-returns-then-has_or-clause-table : goal.ways_of_rest-returns-then-has_or-clause-table
ways_of_rest-returns-then-has_or-clause-table t c = λ moves ways asks inside table.
    let approvals = c.args.walk.now.approvals.now in
    let levels = c.args.walk.now.levels in
    subst (λ d. IfOk c.ways_of_elements.result (λ found. IsTable approvals levels moves found (product (paths_at (document_paths approvals levels) approvals c.args.rest.now d) ways))) c.behind.ensures.digest (c.ways_of_elements.ensures.table moves ways asks inside table)

pub ways_of_rest-returns-else-has_or-clause-table : goal.ways_of_rest-returns-else-has_or-clause-table
ways_of_rest-returns-else-has_or-clause-table t c = λ moves ways asks inside table.
    c.ways_of_unbranched.ensures.table moves (digest_at_element c.args.element.now c.args.before.now.digest) ways asks inside table

pub ways_of_unbranched-ways_of_unbranched-requires : goal.ways_of_unbranched-ways_of_unbranched-requires
ways_of_unbranched-ways_of_unbranched-requires t c =
    let lead = (rw c.in-More.is at c.requires.lead).1 in
    let none = or_parts (is_or c.in-More.element.value) (has_or c.in-More.rest.value) (rw c.in-More.is at c.requires.unbranched) in
    let small = rw c.in-More.is at c.decreases in (
      rw c.deref.ensures (omega (arith, small)),
      (
        rw c.deref.ensures none.1,
        (rw c.deref.ensures (lead_weaker c.in-More.rest.value lead), (c.requires.documents, c.requires.size)),
      ),
    )

pub ways_of_unbranched-ways_of_element-requires : goal.ways_of_unbranched-ways_of_element-requires
ways_of_unbranched-ways_of_element-requires t c =
    let lead = (rw c.in-More.is at c.requires.lead).0 in
    let knows = rw c.in-More.is at (c.without_memo-before.ensures.knows c.args.elements.now) in
    let small = rw c.in-More.is at c.decreases in (
      rw c.deref-in-More.ensures (omega (arith, small)),
      (
        rw c.deref-in-More.ensures lead,
        (rw c.deref-in-More.ensures (rw c.deref-in-More-2.ensures knows), (c.requires.documents, c.in_ok-behind-in-More.ensures.size)),
      ),
    )

pub ways_of_unbranched-returns-in-End-clause-table : goal.ways_of_unbranched-returns-in-End-clause-table
ways_of_unbranched-returns-in-End-clause-table t c =
    rw c.in-End.is (λ moves before ways asks inside table. subst (IsTable c.args.walk.now.approvals.now c.args.walk.now.levels moves c.args.behind) (sym (empty_product ways)) table)

pub ways_of_unbranched-returns-in_ok-behind-in-More-clause-table : goal.ways_of_unbranched-returns-in_ok-behind-in-More-clause-table
ways_of_unbranched-returns-in_ok-behind-in-More-clause-table t c =
    let approvals = c.args.walk.now.approvals.now in
    let levels = c.args.walk.now.levels in
    let within = document_paths approvals levels in
    let others = c.deref.result.now in
    let read = c.deref-in-More.result.now in
    let element = c.in-More.element.value in
    let lead : ApprovalsLead false others = subst (ApprovalsLead false) (sym c.deref.ensures) (rw c.in-More.is at c.requires.lead).1 in
    let none : is_or read ≡ false = subst (λ e. is_or e ≡ false) (sym c.deref-in-More.ensures) (or_parts (is_or element) (has_or c.in-More.rest.value) (rw c.in-More.is at c.requires.unbranched)).0 in
    rw c.in-More.is (λ moves d ways asks inside table.
    let after = digest_at_element element d in
    let behind = product (paths_at within approvals others after) ways in
    let found = c.ways_of_element.ensures.table moves behind asks (inside_product (paths_at within approvals others after) ways (inside_at within approvals others after lead) inside) (c.in_ok-behind-in-More.ensures.table moves after ways asks inside table) in
    IfOk-weaker c.ways_of_element.result _ _ (λ found h. more_table approvals moves levels within element read c.in-More.rest.value others d after found ways c.deref-in-More.ensures c.deref.ensures refl h) (subst (λ firsts. IfOk c.ways_of_element.result (λ x. IsTable approvals levels moves x (product firsts behind))) (unbranched_element_ways approvals levels read c.without_memo-before.result.digest d none) found))

pub ways_of_element-returns-in_ok-update-in-Assert-clause-table : goal.ways_of_element-returns-in_ok-update-in-Assert-clause-table
ways_of_element-returns-in_ok-update-in-Assert-clause-table t c =
    let approvals = c.args.walk.now.approvals.now in
    let levels = c.args.walk.now.levels in
    let act = Assert c.in-Assert.assertion in
    rw c.in-Assert.is (λ moves ways asks inside table. one_table approvals moves levels act c.put_behind.new.self ways (c.put_behind.ensures.behind approvals levels moves act ways asks (c.not_approving.ensures.asks act c.in_ok-update-in-Assert.ensures refl) inside table))

pub ways_of_element-returns-in-Authorize-clause-table : goal.ways_of_element-returns-in-Authorize-clause-table
ways_of_element-returns-in-Authorize-clause-table t c = λ moves ways asks inside table.
    let approvals = c.args.walk.now.approvals.now in
    let levels = c.args.walk.now.levels in
    let approval : IsApproval c.args.element.now = elim c.in-Authorize.is [
      | inl p ↦ subst IsApproval (sym p.2) tt
      | inr q ↦ subst IsApproval (sym q.1) tt
    ] in
    subst (λ paths. IfOk c.ways_of_approval.result (λ found. IsTable approvals levels moves found (product paths ways))) (sym (approval_paths approvals (document_paths approvals levels) c.args.element.now c.args.before.now.digest approval)) (c.ways_of_approval.ensures.table moves ways asks inside table)

pub ways_of_or-returns-clause-table : goal.ways_of_or-returns-clause-table
ways_of_or-returns-clause-table t c = λ moves ways asks inside table.
    let approvals = c.args.walk.now.approvals.now in
    let levels = c.args.walk.now.levels in
    let d = c.args.before.now.digest in
    let within = document_paths approvals levels in
    let branches = c.args.branches.now in
    let act = Or (branch_digests branches d) in
    let hashed = c.in_ok-update.ensures in
    subst (λ x. IsTable approvals levels moves c.add_branches.new.found (product (paths_at_branches within approvals branches 1 act x) ways)) c.within-within.ensures.digest (c.in_ok-add_branches.ensures.table moves act 1 ways [] asks inside (c.put_behind.ensures.behind approvals levels moves act ways asks (c.not_approving.ensures.asks act (hashed ∙ ap update_of_or c.in_ok-digests.ensures) refl) inside table) (c.in_ok-found.ensures.none approvals levels moves asks))

pub ways_of_approval-returns-clause-table : goal.ways_of_approval-returns-clause-table
ways_of_approval-returns-clause-table t c = λ moves ways asks inside table.
    let approvals = c.args.walk.now.approvals.now in
    let levels = c.args.walk.now.levels in
    let element = c.args.element.now in
    let approved = approved_paths (document_paths approvals levels) approvals element in
    approval_table approvals moves levels c.append.new.self approved (outside_paths element) ways (c.append.ensures.both approvals levels moves (product approved ways) (product (outside_paths element) ways) (c.in_ok-add_documents.ensures.table moves ways [] asks inside table (c.in_ok-found.ensures.none approvals levels moves asks)) (c.in_ok-outside_ways.ensures.table moves ways asks inside table))

pub add_branches-returns-in_ok-ways-in-More-clause-table : goal.add_branches-returns-in_ok-ways-in-More-clause-table
add_branches-returns-in_ok-ways-in-More-clause-table t c =
    let approvals = c.args.walk.now.approvals.now in
    let levels = c.args.walk.now.levels in
    let within = document_paths approvals levels in
    let d = c.args.before.now.digest in
    let branch = c.in-More.branch.value in
    let elements = branch.policy.elements in
    rw c.in-More.is (λ moves act position ways done asks inside behind found.
    let paths = paths_at within approvals elements d in
    let here = map (between (Branch position branch.name) act) paths in
    let copied = same_table approvals moves levels c.args.behind.now c.in_ok-copy-in-More.field-0 (map (followed_by (path_of_move act)) ways) c.in_ok-copy-in-More.ensures.0 c.in_ok-copy-in-More.ensures.1 c.in_ok-copy-in-More.ensures.2 behind in
    let inner = c.in_ok-ways-in-More.ensures.table moves (map (followed_by (path_of_move act)) ways) asks (inside_map (followed_by (path_of_move act)) (λ p h. h) ways inside) copied in
    let same : IsTable approvals levels moves c.in_ok-ways-in-More.ways (product paths (map (followed_by (path_of_move act)) ways)) = subst (λ (b : ClosedBranch). IsTable approvals levels moves c.in_ok-ways-in-More.ways (product (paths_at within approvals b.policy.elements d) (map (followed_by (path_of_move act)) ways))) c.deref.ensures (subst (λ x. IsTable approvals levels moves c.in_ok-ways-in-More.ways (product (paths_at within approvals c.deref.result.now.policy.elements x) (map (followed_by (path_of_move act)) ways))) c.first-first.ensures.digest inner) in
    let joined = c.append.ensures.both approvals levels moves done (product here ways) found (branch_table approvals moves levels position branch.name act c.in_ok-ways-in-More.ways paths ways same) in
    on_ok_weaker c.add_branches.result (λ h. branches_table approvals moves levels within elements c.in-More.rest.value c.deref-in-More-2.result.now position branch.name act d c.add_branches.new.found done ways c.deref-in-More-2.ensures (subst (λ x. IsTable approvals levels moves c.add_branches.new.found ((done ++ product here ways) ++ product (paths_at_branches within approvals c.deref-in-More-2.result.now (position + 1) act x) ways)) c.behind.ensures.digest h)) (c.add_branches.ensures.table moves act (position + 1) ways (done ++ product here ways) asks inside behind joined))

pub add_documents-returns-then-walk-eq0-clause-table : goal.add_documents-returns-then-walk-eq0-clause-table
add_documents-returns-then-walk-eq0-clause-table t c = λ moves ways done asks inside behind found.
    no_level_table c.args.walk.now.approvals.now moves c.args.walk.now.levels c.args.element.now c.args.found.now done ways c.if-walk-eq0.true found

pub add_documents-ways_of_elements-requires : goal.add_documents-ways_of_elements-requires
add_documents-ways_of_elements-requires t c =
    let approvals = c.args.walk.now.approvals.now in
    let document = c.document-item.result in
    let light = weight-lt-greatest approvals c.loop-document.document-index document c.loop-document-test.true in
    let lighter : weight document.closed.elements < greatest approvals = subst (λ x. weight x.closed.elements < greatest approvals) (sym c.document-item.is) light in
    let some : 1 ≤ c.args.walk.now.levels = omega (arith, c.if-walk-eq0.false) in
    let less = level_less c.args.walk.now.levels (greatest approvals) (weight document.closed.elements) some lighter in
    let size = c.put_behind.ensures.size in
    let copied = ap length c.in_ok-behind.ensures.0 in
    let first = c.requires.size in (
      omega (arith, less, c.decreases),
      (
        subst (λ x. ApprovalsLead true x.closed.elements) (sym c.document-item.is) (c.requires.documents c.loop-document.document-index document c.loop-document-test.true),
        (c.without_memo-before.ensures.knows document.closed.elements, (c.requires.documents, size ∙ copied ∙ first)),
      ),
    )

pub add_documents-returns-clause-table : goal.add_documents-returns-clause-table
add_documents-returns-clause-table t c = λ moves ways done asks inside behind found.
    let approvals = c.args.walk.now.approvals.now in
    let levels = c.args.walk.now.levels in
    let all : take c.loop-document.document-index approvals ≡ approvals = take_all c.loop-document.document-index approvals (omega arith) in
    subst (λ some. IsTable approvals levels moves c.loop-document.found (done ++ product (approved_paths (document_paths approvals levels) some c.args.element.now) ways)) all (c.loop-document.invariant.1 moves ways done asks inside behind found)

pub add_documents-loop-document-preserved : goal.add_documents-loop-document-preserved
add_documents-loop-document-preserved t c =
    let approvals = c.args.walk.now.approvals.now in
    let levels = c.args.walk.now.levels in
    let element = c.args.element.now in
    let i = c.loop-document.document-index in
    let document = c.document-item.result in
    elim c.if-accepts.branch [
      | add_documents-then-accepts+in_ok-behind+in_ok-update+in_ok-ways w ↦ (
        ap (λ x. length x.first.items) w.found-is ∙ w.append.ensures.size ∙ c.loop-document.invariant.0,
        λ moves ways done asks inside behind found.
            let n : suc (levels - 1) ≡ levels = omega (arith, c.if-walk-eq0.false) in
            let used = used_table approvals moves (levels - 1) element c.requires.approval document w.without_memo-before.result.digest w.in_ok-ways.ways ways (ap (λ x. x.bytes) w.without_memo-before.ensures.digest) (sym c.accepts.ensures ∙ w.if-accepts.true) (λ act hashed approved. w.in_ok-ways.ensures.table moves (map (followed_by (path_of_move act)) ways) asks (inside_map (followed_by (path_of_move act)) (λ p h. h) ways inside) (w.put_behind.ensures.behind approvals (levels - 1) moves act ways asks (w.approving.ensures act (w.in_ok-update.ensures ∙ sym hashed) approved) inside (same_table approvals moves (levels - 1) c.args.behind.now w.in_ok-behind.behind ways w.in_ok-behind.ensures.0 w.in_ok-behind.ensures.1 w.in_ok-behind.ensures.2 (other_level approvals moves levels (levels - 1) c.args.behind.now ways inside behind)))) in
            let here = subst (λ l. IsTable approvals l moves w.in_ok-ways.ways (product (paths_by_approval (approval_of element document) document (document_paths approvals l document)) ways)) n used in
            subst (λ x. IsTable approvals levels moves x (done ++ product (approved_paths (document_paths approvals levels) (take (i + 1) approvals) element) ways)) (sym w.found-is) (documents_table approvals moves levels element i document w.append.new.self done ways c.loop-document-test.true c.document-item.is (w.append.ensures.both approvals levels moves (done ++ product (approved_paths (document_paths approvals levels) (take i approvals) element) ways) (product (paths_by_approval (approval_of element document) document (document_paths approvals levels document)) ways) (c.loop-document.invariant.1 moves ways done asks inside behind found) here)),
      )
      | add_documents-else-accepts w ↦ (
        ap (λ x. length x.first.items) w.found-is ∙ c.loop-document.invariant.0,
        λ moves ways done asks inside behind found.
            subst (λ x. IsTable approvals levels moves x (done ++ product (approved_paths (document_paths approvals levels) (take (i + 1) approvals) element) ways)) (sym w.found-is) (passed_table approvals moves levels element i document c.loop-document.found done ways c.loop-document-test.true c.document-item.is (sym c.accepts.ensures ∙ w.if-accepts.false) (c.loop-document.invariant.1 moves ways done asks inside behind found)),
      )
    ]

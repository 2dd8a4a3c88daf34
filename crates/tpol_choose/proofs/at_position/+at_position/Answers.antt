use Rattle.std.proofs.Common.{◌≡◌, ◌≢◌, ◌+◌, ◌-◌, ◌/◌, ◌%◌, ◌<◌, ◌≤◌, length, map, subst, sym, ap, ◌∙◌, length-append, arith}
use Rattle.std.specs.Prelude.{is_some}
use Rattle.std.proofs.lemmas.List.{length-map}
use Rattle.tpol_tree.specs.declared.closed.ClosedBranch.{ClosedBranch}
use Rattle.tpol_tree.specs.declared.path.Move.TheVariants.{Assert, Or}
use Rattle.tpol_tree.specs.declared.path.PathStep.TheVariants.{Branch, Document}
use Rattle.tpol_choose.specs.Few.{HasFewBranches, ElementHasFewBranches, BranchesHaveFewBranches}
use Rattle.tpol_digest.specs.Digest.{branch_digests, digest_at_element, or_digest}
use Rattle.tpol_digest.specs.Paths.{empty_path, followed_by, path_of_move, paths_by_approval, approved_paths, outside_paths, document_paths}
use Rattle.tpol_digest.specs.Positions.{path_of_step, element_list_ways, element_ways, branch_ways, approval_ways}
use Rattle.tpol_digest.proofs.Weights.{weight, weight_of_element, weight_of_branches, greatest, weight-lt-greatest, level_less}
use Rattle.tpol_digest.proofs.Documents.{document_paths-some}
use Rattle.tpol_digest.proofs.Positions.{branches_closed, length-branch_ways, before_document, parts_more, part_inside, part_passed, no_document, all_documents, left_over}
use Rattle.tpol_choose.specs.Acts.{move_of}
use Rattle.tpol_choose.specs.Lent.{client_of_lent}
use Rattle.tpol_choose.specs.Tracks.{Goes, IsTrack, track_after}
use Rattle.tpol_choose.proofs.Counts.{document_ways, first_counted, parts}
use Rattle.tpol_choose.proofs.Going.{along_move, along_nothing, branch_ways-count, go_between, go_by_move, go_by_step, go_first, go_in_document, go_later, go_one, go_through, go_to_outside}
use Rattle.tpol_choose.proofs.at_position.+at_position.Goals as goal
use Rattle.tpol_choose.proofs.at_position.+at_position.Goals.{go_approval-in-Some+else-left-count, go_approval-in_default, go_approval-then-walk-gt0+else-loop-document-test, go_approval-else-walk-gt0}

-- ---- elements

pub go_elements-nonzero_div-behind : goal.go_elements-nonzero_div-behind
go_elements-nonzero_div-behind t c =
    let counted = rw c.in-More.is at c.requires.counted in
    (parts c.args.walk.now.approvals.now c.args.walk.now.levels c.count_element_ways-choices.result c.in-More.element.value c.deref.result.now c.in-More.rest.value c.args.before c.args.count c.args.index c.deref.ensures counted c.requires.few c.requires.inside c.count_element_ways-choices.ensures.ways).divides

pub go_elements-nonzero_div-index : goal.go_elements-nonzero_div-index
go_elements-nonzero_div-index t c =
    let counted = rw c.in-More.is at c.requires.counted in
    (parts c.args.walk.now.approvals.now c.args.walk.now.levels c.count_element_ways-choices.result c.in-More.element.value c.deref.result.now c.in-More.rest.value c.args.before c.args.count c.args.index c.deref.ensures counted c.requires.few c.requires.inside c.count_element_ways-choices.ensures.ways).behind_divides

pub go_elements-nonzero_rem-index : goal.go_elements-nonzero_rem-index
go_elements-nonzero_rem-index t c =
    let counted = rw c.in-More.is at c.requires.counted in
    (parts c.args.walk.now.approvals.now c.args.walk.now.levels c.count_element_ways-choices.result c.in-More.element.value c.deref.result.now c.in-More.rest.value c.args.before c.args.count c.args.index c.deref.ensures counted c.requires.few c.requires.inside c.count_element_ways-choices.ensures.ways).behind_divides

pub go_elements-go_element-middle-requires : goal.go_elements-go_element-middle-requires
go_elements-go_element-middle-requires t c =
    let documents = c.args.walk.now.approvals.now in
    let levels = c.args.walk.now.levels in
    let counts = rw c.in-More.is at c.requires.branches in
    let counted = rw c.in-More.is at c.requires.counted in
    let p = parts documents levels c.count_element_ways-choices.result c.in-More.element.value c.deref.result.now c.in-More.rest.value c.args.before c.args.count c.args.index c.deref.ensures counted c.requires.few c.requires.inside c.count_element_ways-choices.ensures.ways in (
      omega (arith, rw c.in-More.is at c.decreases, ap weight_of_element c.deref-in-More.ensures),
      (
        subst ElementHasFewBranches (sym c.deref-in-More.ensures) counts.0,
        (
          c.requires.approved,
          (
            c.requires.sight,
            (
              subst (λ e. length (element_ways documents levels e c.args.before) ≤ 65536) (sym c.deref-in-More.ensures) p.first_few,
              subst (λ e. c.args.index / (c.args.count / c.count_element_ways-choices.result) < length (element_ways documents levels e c.args.before)) (sym c.deref-in-More.ensures) p.first_inside,
            ),
          ),
        ),
      ),
    )

pub go_elements-go_elements-requires : goal.go_elements-go_elements-requires
go_elements-go_elements-requires t c =
    let documents = c.args.walk.now.approvals.now in
    let levels = c.args.walk.now.levels in
    let counts = rw c.in-More.is at c.requires.branches in
    let counted = rw c.in-More.is at c.requires.counted in
    let p = parts documents levels c.count_element_ways-choices.result c.in-More.element.value c.deref.result.now c.in-More.rest.value c.args.before c.args.count c.args.index c.deref.ensures counted c.requires.few c.requires.inside c.count_element_ways-choices.ensures.ways in
    let after_is = c.go_element-middle.ensures.digest ∙ ap (λ e. digest_at_element e c.args.before) c.deref-in-More.ensures in (
      omega (arith, rw c.in-More.is at c.decreases, ap weight c.deref-in-More-2.ensures),
      (
        subst HasFewBranches (sym c.deref-in-More-2.ensures) counts.1,
        (
          c.requires.approved,
          (
            c.requires.sight,
            (
              p.behind ∙ ap (λ d. length (element_list_ways documents levels c.in-More.rest.value d)) (sym after_is) ∙ ap (λ e. length (element_list_ways documents levels e c.go_element-middle.result.digest)) (sym c.deref-in-More-2.ensures),
              (p.rest_few, p.rest_inside),
            ),
          ),
        ),
      ),
    )

pub go_elements-returns-in-End : goal.go_elements-returns-in-End
go_elements-returns-in-End t c =
    let client = client_of_lent c.args.walk.now.client.now in
    let counted = rw c.in-End.is at c.requires.counted in
    rw c.in-End.is (λ state h. go_one client state c.args.track empty_path state c.args.index (omega (arith, counted, c.requires.inside)) h (along_nothing client state))

pub go_elements-returns-in-More : goal.go_elements-returns-in-More
go_elements-returns-in-More t c =
    let client = client_of_lent c.args.walk.now.client.now in
    let documents = c.args.walk.now.approvals.now in
    let levels = c.args.walk.now.levels in
    let d = c.args.before in
    let element = c.in-More.element.value in
    let rest = c.in-More.rest.value in
    let counted = rw c.in-More.is at c.requires.counted in
    let p = parts documents levels c.count_element_ways-choices.result element c.deref.result.now rest d c.args.count c.args.index c.deref.ensures counted c.requires.few c.requires.inside c.count_element_ways-choices.ensures.ways in
    let behind = c.args.count / c.count_element_ways-choices.result in
    let middle = c.go_element-middle.result.track in
    let end = c.go_elements.result in
    let after_is = c.go_element-middle.ensures.digest ∙ ap (λ e. digest_at_element e d) c.deref-in-More.ensures in
    let same = ap (λ e. element_list_ways documents levels e c.go_element-middle.result.digest) c.deref-in-More-2.ensures ∙ ap (element_list_ways documents levels rest) after_is in
    rw c.in-More.is (λ state h. go_through client state middle end (element_ways documents levels element d) (element_list_ways documents levels rest (digest_at_element element d)) (c.args.index / behind) (c.args.index % behind) c.args.index (subst (λ e. Goes client state (element_ways documents levels e d) (c.args.index / behind) middle) c.deref-in-More.ensures (c.go_element-middle.ensures.track state h)) (λ s is. subst (λ l. Goes client s l (c.args.index % behind) end) same (c.go_elements.ensures s is)) p.whole)

-- ---- one element

pub go_element-returns-in-Assert-clause-track : goal.go_element-returns-in-Assert-clause-track
go_element-returns-in-Assert-clause-track t c =
    let client = client_of_lent c.args.walk.now.client.now in
    let act = Assert c.in-Assert.assertion in
    let inside = rw c.in-Assert.is at c.requires.inside in
    rw c.in-Assert.is (λ state h. go_one client state c.after.result (path_of_move act) (track_after client state act) c.args.index (omega (arith, inside)) (subst (λ a. IsTrack c.after.result (track_after client state (Assert a))) c.new-step.ensures.assertion (c.after.ensures state h)) (along_move client state act))

pub go_element-go_branches-inner-requires : goal.go_element-go_branches-inner-requires
go_element-go_branches-inner-requires t c =
    let documents = c.args.walk.now.approvals.now in
    let levels = c.args.walk.now.levels in
    let branches = c.in-Or.branches in
    let d = c.args.before in
    let counts = rw c.in-Or.is at c.requires.branches in
    let same = length-branch_ways documents levels branches 1 (Or (branch_digests branches d)) d in (
      omega (arith, rw c.in-Or.is at c.decreases),
      (
        counts.1,
        (
          c.requires.approved,
          (
            c.requires.sight,
            (
              omega (arith, same, rw c.in-Or.is at c.requires.few),
              omega (arith, same, rw c.in-Or.is at c.requires.inside),
            ),
          ),
        ),
      ),
    )

pub go_element-returns-in-Or-clause-digest : goal.go_element-returns-in-Or-clause-digest
go_element-returns-in-Or-clause-digest t c =
    rw c.in-Or.is (c.new-or.result.known ∙ ap or_digest (c.new-or.ensures ∙ c.as_slice.ensures ∙ c.of-digests.ensures))

pub go_element-returns-in-Or-clause-track : goal.go_element-returns-in-Or-clause-track
go_element-returns-in-Or-clause-track t c =
    let client = client_of_lent c.args.walk.now.client.now in
    let documents = c.args.walk.now.approvals.now in
    let levels = c.args.walk.now.levels in
    let branches = c.in-Or.branches in
    let d = c.args.before in
    let act = Or (branch_digests branches d) in
    let end = c.after-in-Or.result in
    rw c.in-Or.is (λ state h. subst (λ l. Goes client state l c.args.index end) (branches_closed documents levels branches 1 act d) (go_by_move client state c.go_branches-inner.result end act (branch_ways documents levels branches 1 d) c.args.index (c.go_branches-inner.ensures state 1 h) (λ s is. subst (λ ds. IsTrack end (track_after client s (Or ds))) (c.new-or.ensures ∙ c.as_slice.ensures ∙ c.of-digests.ensures) (c.after-in-Or.ensures s is))))

-- ---- branches

pub go_branches-go_elements-requires : goal.go_branches-go_elements-requires
go_branches-go_elements-requires t c =
    let documents = c.args.walk.now.approvals.now in
    let levels = c.args.walk.now.levels in
    let branch = c.in-More.branch.value in
    let d = c.args.before in
    let counts = rw c.in-More.is at c.requires.branches in
    let counted = first_counted documents levels c.count_ways-count.result branch c.deref.result.now c.in-More.rest.value d c.deref.ensures (rw c.in-More.is at c.requires.few) c.count_ways-count.ensures.ways in
    let ways = ap (λ (b : ClosedBranch). length (element_list_ways documents levels b.policy.elements d)) (sym c.deref.ensures) in (
      omega (arith, rw c.in-More.is at c.decreases, ap (λ (b : ClosedBranch). weight b.policy.elements) c.deref.ensures),
      (
        subst (λ (b : ClosedBranch). HasFewBranches b.policy.elements) (sym c.deref.ensures) counts.0,
        (
          c.requires.approved,
          (
            c.requires.sight,
            (counted.0 ∙ ways, (omega (arith, counted.1, rw c.in-More.is at c.requires.few), c.if-index-count.true)),
          ),
        ),
      ),
    )

pub go_branches-go_branches-requires : goal.go_branches-go_branches-requires
go_branches-go_branches-requires t c =
    let documents = c.args.walk.now.approvals.now in
    let levels = c.args.walk.now.levels in
    let branch = c.in-More.branch.value in
    let rest = c.in-More.rest.value in
    let d = c.args.before in
    let counts = rw c.in-More.is at c.requires.branches in
    let counted = first_counted documents levels c.count_ways-count.result branch c.deref.result.now rest d c.deref.ensures (rw c.in-More.is at c.requires.few) c.count_ways-count.ensures.ways in
    let ways = ap (λ r. length (branch_ways documents levels r 1 d)) c.deref-else-index-count.ensures ∙ branch_ways-count documents levels rest 1 2 d in (
      omega (arith, rw c.in-More.is at c.decreases, ap weight_of_branches c.deref-else-index-count.ensures),
      (
        subst BranchesHaveFewBranches (sym c.deref-else-index-count.ensures) counts.1,
        (
          c.requires.approved,
          (
            c.requires.sight,
            (
              omega (arith, counted.1, ways, rw c.in-More.is at c.requires.few),
              omega (arith, counted.1, ways, rw c.in-More.is at c.requires.inside, c.if-index-count.false),
            ),
          ),
        ),
      ),
    )

pub go_branches-returns-then-index-count : goal.go_branches-returns-then-index-count
go_branches-returns-then-index-count t c =
    let client = client_of_lent c.args.walk.now.client.now in
    let documents = c.args.walk.now.approvals.now in
    let levels = c.args.walk.now.levels in
    let branch = c.in-More.branch.value in
    let d = c.args.before in
    let end = c.go_elements.result in
    rw c.in-More.is (λ state position h.
    let step = Branch position branch.name in
    let ways = element_list_ways documents levels branch.policy.elements d in
    go_first client state end (map (followed_by (path_of_step step)) ways) (branch_ways documents levels c.in-More.rest.value (position + 1) d) c.args.index (go_by_step client state end step ways c.args.index (subst (λ (b : ClosedBranch). Goes client state (element_list_ways documents levels b.policy.elements d) c.args.index end) c.deref.ensures (c.go_elements.ensures state h))))

pub go_branches-returns-else-index-count : goal.go_branches-returns-else-index-count
go_branches-returns-else-index-count t c =
    let client = client_of_lent c.args.walk.now.client.now in
    let documents = c.args.walk.now.approvals.now in
    let levels = c.args.walk.now.levels in
    let branch = c.in-More.branch.value in
    let rest = c.in-More.rest.value in
    let d = c.args.before in
    let end = c.go_branches.result in
    let left = c.args.index - c.count_ways-count.result in
    let counted = first_counted documents levels c.count_ways-count.result branch c.deref.result.now rest d c.deref.ensures (rw c.in-More.is at c.requires.few) c.count_ways-count.ensures.ways in
    rw c.in-More.is (λ state position h.
    let step = followed_by (path_of_step (Branch position branch.name)) in
    let ways = element_list_ways documents levels branch.policy.elements d in
    let split : c.args.index ≡ length (map step ways) + left = omega (arith, counted.0, c.if-index-count.false, length-map ways step) in
    go_later client state end (map step ways) (branch_ways documents levels rest (position + 1) d) left c.args.index split (subst (λ r. Goes client state (branch_ways documents levels r (position + 1) d) left end) c.deref-else-index-count.ensures (c.go_branches.ensures state (position + 1) h)))

-- ---- approvals

pub go_approval-go_elements-behind-requires : goal.go_approval-go_elements-behind-requires
go_approval-go_elements-behind-requires t c =
    let documents = c.args.walk.now.approvals.now in
    let levels = c.args.walk.now.levels in
    let document = c.document-item.result in
    let index = c.loop-document.document-index in
    let level : levels ≢ 0 = omega (arith, c.if-walk-gt0.true) in
    let counted = document_ways documents levels c.args.element.now c.count_ways-count.result index document c.loop-document-test.true c.document-item.is level (ap is_some (sym c.in-Some.ensures)) c.requires.few c.count_ways-count.ensures.ways in
    let inside = part_inside documents levels c.args.element.now index document c.loop-document-test.true c.document-item.is in
    let total = length-append (approved_paths (document_paths documents levels) documents c.args.element.now) (outside_paths c.args.element.now) in
    let light = weight-lt-greatest documents index document c.loop-document-test.true in
    let lighter : weight document.closed.elements < greatest documents = subst (λ x. weight x.closed.elements < greatest documents) (sym c.document-item.is) light in
    let less = level_less levels (greatest documents) (weight document.closed.elements) (omega (arith, c.if-walk-gt0.true)) lighter in (
      omega (arith, less, c.decreases),
      (
        subst (λ x. HasFewBranches x.closed.elements) (sym c.document-item.is) (c.requires.approved index document c.loop-document-test.true),
        (
          c.requires.approved,
          (
            c.requires.sight,
            (
              counted.1 ∙ ap (λ d. length (element_list_ways documents (levels - 1) document.closed.elements d)) (sym c.zero_digest.ensures),
              (omega (arith, counted.0, inside, total, c.requires.few), c.if-left-count.true),
            ),
          ),
        ),
      ),
    )

pub go_approval-returns-then-left-count : goal.go_approval-returns-then-left-count
go_approval-returns-then-left-count t c =
    let client = client_of_lent c.args.walk.now.client.now in
    let documents = c.args.walk.now.approvals.now in
    let levels = c.args.walk.now.levels in
    let element = c.args.element.now in
    let document = c.document-item.result in
    let index = c.loop-document.document-index in
    let left = c.loop-document.left in
    let act = move_of c.in-Some.act in
    let behind = c.go_elements-behind.result in
    let end = c.after.result in
    let level : levels ≢ 0 = omega (arith, c.if-walk-gt0.true) in
    λ state h.
    let inner = subst (λ d. Goes client state (element_list_ways documents (levels - 1) document.closed.elements d) left behind) c.zero_digest.ensures (c.go_elements-behind.ensures state h) in
    let all = subst (λ l. Goes client state l left behind) (sym (document_paths-some documents levels document level)) inner in
    let used = go_between client state behind end (Document document.document) act (document_paths documents levels document) left all c.after.ensures in
    let there = subst (λ o. Goes client state (paths_by_approval o document (document_paths documents levels document)) left end) c.in-Some.ensures used in
    subst (λ n. Goes client state (approval_ways documents levels element) n end) (sym c.loop-document.invariant) (go_first client state end (approved_paths (document_paths documents levels) documents element) (outside_paths element) (length (before_document documents levels element index) + left) (go_in_document client documents levels element state end index left document c.loop-document-test.true c.document-item.is there))

pub go_approval-loop-document-preserved : goal.go_approval-loop-document-preserved
go_approval-loop-document-preserved t c =
    let documents = c.args.walk.now.approvals.now in
    let levels = c.args.walk.now.levels in
    let document = c.document-item.result in
    let index = c.loop-document.document-index in
    let level : levels ≢ 0 = omega (arith, c.if-walk-gt0.true) in
    let more = parts_more documents levels c.args.element.now index document c.loop-document-test.true c.document-item.is in
    elim c.match-approval.branch [
      | go_approval-in-Some+else-left-count w ↦
          let counted = document_ways documents levels c.args.element.now w.count_ways-count.result index document c.loop-document-test.true c.document-item.is level (ap is_some (sym w.in-Some.ensures)) c.requires.few w.count_ways-count.ensures.ways in
          omega (arith, more, counted.0, w.left-is, w.if-left-count.false, c.loop-document.invariant)
      | go_approval-in_default w ↦
          let none = part_passed documents levels c.args.element.now document (ap is_some (sym w.in_default.ensures)) in
          omega (arith, more, none, w.left-is, c.loop-document.invariant)
    ]

pub go_approval-go_outside-requires-clause-some : goal.go_approval-go_outside-requires-clause-some
go_approval-go_outside-requires-clause-some t c =
    let documents = c.args.walk.now.approvals.now in
    let levels = c.args.walk.now.levels in
    let element = c.args.element.now in
    let counted : c.args.index ≡ length (approved_paths (document_paths documents levels) documents element) + c.if-walk-gt0.left =
    elim c.if-walk-gt0.branch [
      | go_approval-then-walk-gt0+else-loop-document-test w ↦ omega (arith, all_documents documents levels element w.loop-document.document-index w.loop-document-test.false, w.left-is, w.loop-document.invariant)
      | go_approval-else-walk-gt0 w ↦ omega (arith, no_document documents levels element w.if-walk-gt0.false, w.left-is)
    ] in
    omega (arith, left_over documents levels element c.args.index c.if-walk-gt0.left counted c.requires.inside)

pub go_approval-returns : goal.go_approval-returns
go_approval-returns t c =
    let client = client_of_lent c.args.walk.now.client.now in
    let documents = c.args.walk.now.approvals.now in
    let levels = c.args.walk.now.levels in
    let element = c.args.element.now in
    let counted : c.args.index ≡ length (approved_paths (document_paths documents levels) documents element) + c.if-walk-gt0.left =
    elim c.if-walk-gt0.branch [
      | go_approval-then-walk-gt0+else-loop-document-test w ↦ omega (arith, all_documents documents levels element w.loop-document.document-index w.loop-document-test.false, w.left-is, w.loop-document.invariant)
      | go_approval-else-walk-gt0 w ↦ omega (arith, no_document documents levels element w.if-walk-gt0.false, w.left-is)
    ] in
    λ state h. go_to_outside client documents levels element state c.go_outside.result c.args.index c.if-walk-gt0.left counted c.requires.inside (c.go_outside.ensures state h)

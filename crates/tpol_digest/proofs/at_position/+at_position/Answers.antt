use Rattle.std.proofs.Common.{◌≡◌, ◌≢◌, ◌+◌, ◌-◌, ◌/◌, ◌%◌, ◌<◌, ◌≤◌, ◌++◌, false, [], ◌∷◌, length, map, subst, sym, ap, ◌∙◌, length-append, arith}
use Rattle.std.proofs.lemmas.Bool.{or_parts}
use Rattle.std.proofs.lemmas.List.{length-map}
use Rattle.std.proofs.lemmas.Result.{on_ok_weaker}
use Rattle.tpol_tree.specs.declared.closed.ClosedBranch.{ClosedBranch}
use Rattle.tpol_tree.specs.declared.path.Move.TheVariants.{Assert, Or}
use Rattle.tpol_tree.specs.declared.path.Path.{Path}
use Rattle.tpol_tree.specs.declared.path.PathStep.TheVariants.{Branch, Document}
use Rattle.tpol_digest.specs.Digest.{zero_digest, branch_digests, digest_at_element}
use Rattle.tpol_digest.specs.Extent.{IsCapped, extent_at, extent_at_element, document_extent}
use Rattle.tpol_digest.specs.Memos.{Knows, KnowsBranches, KnowsFirst}
use Rattle.tpol_digest.specs.Paths.{followed_by, path_of_move, product, approved_paths, outside_paths, document_paths}
use Rattle.tpol_digest.specs.Positions.{is_or, has_or, path_of_step, element_list_ways, element_ways, branch_ways, approval_ways, GoesOn}
use Rattle.tpol_digest.proofs.Weights.{weight, weight_of_element, weight_of_branches, greatest, weight-lt-greatest, level_less}
use Rattle.tpol_digest.proofs.Positions.{step_pushed, move_pushed, goes_nowhere, goes_one, goes_through, goes_first, goes_later, goes_by_step, goes_by_move, branches_closed, length-branch_ways, unbranched_ways, parted_ways, parted_unbranched, counted_first, before_document, parts_more, part_inside, part_passed, document_counted, goes_in_document, goes_by_document, no_document, all_documents, left_over, goes_outside}
use Rattle.tpol_digest.proofs.at_position.+at_position.Goals as goal
use Rattle.tpol_digest.proofs.at_position.+at_position.Goals.{push_approval-then-accepts+else-left-count, push_approval-else-accepts, push_approval-then-walk-gt0+else-loop-document-test, push_approval-else-walk-gt0}

pub push_unbranched-nonzero_div-behind : goal.push_unbranched-nonzero_div-behind
push_unbranched-nonzero_div-behind t c =
    let documents = c.args.walk.now.approvals.now in
    let levels = c.args.walk.now.levels in
    let counted = rw c.in-More.is at c.requires.counted in
    let none = or_parts (is_or c.in-More.element.value) (has_or c.in-More.rest.value) (rw c.in-More.is at c.requires.unbranched) in
    let capped = subst (λ e. IsCapped c.extent_of_element-choices.result (extent_at_element (document_extent documents levels) documents e)) c.deref.ensures c.extent_of_element-choices.ensures in
    (parted_unbranched documents levels c.extent_of_element-choices.result c.in-More.element.value c.in-More.rest.value c.args.count c.args.index none.1 counted c.requires.few c.requires.inside capped).divides

pub push_unbranched-nonzero_div-index : goal.push_unbranched-nonzero_div-index
push_unbranched-nonzero_div-index t c =
    let documents = c.args.walk.now.approvals.now in
    let levels = c.args.walk.now.levels in
    let counted = rw c.in-More.is at c.requires.counted in
    let none = or_parts (is_or c.in-More.element.value) (has_or c.in-More.rest.value) (rw c.in-More.is at c.requires.unbranched) in
    let capped = subst (λ e. IsCapped c.extent_of_element-choices.result (extent_at_element (document_extent documents levels) documents e)) c.deref.ensures c.extent_of_element-choices.ensures in
    (parted_unbranched documents levels c.extent_of_element-choices.result c.in-More.element.value c.in-More.rest.value c.args.count c.args.index none.1 counted c.requires.few c.requires.inside capped).behind_divides

pub push_unbranched-nonzero_rem-index : goal.push_unbranched-nonzero_rem-index
push_unbranched-nonzero_rem-index t c =
    let documents = c.args.walk.now.approvals.now in
    let levels = c.args.walk.now.levels in
    let counted = rw c.in-More.is at c.requires.counted in
    let none = or_parts (is_or c.in-More.element.value) (has_or c.in-More.rest.value) (rw c.in-More.is at c.requires.unbranched) in
    let capped = subst (λ e. IsCapped c.extent_of_element-choices.result (extent_at_element (document_extent documents levels) documents e)) c.deref.ensures c.extent_of_element-choices.ensures in
    (parted_unbranched documents levels c.extent_of_element-choices.result c.in-More.element.value c.in-More.rest.value c.args.count c.args.index none.1 counted c.requires.few c.requires.inside capped).behind_divides

pub push_unbranched-push_unbranched_element-requires : goal.push_unbranched-push_unbranched_element-requires
push_unbranched-push_unbranched_element-requires t c =
    let documents = c.args.walk.now.approvals.now in
    let levels = c.args.walk.now.levels in
    let counted = rw c.in-More.is at c.requires.counted in
    let none = or_parts (is_or c.in-More.element.value) (has_or c.in-More.rest.value) (rw c.in-More.is at c.requires.unbranched) in
    let capped = subst (λ e. IsCapped c.extent_of_element-choices.result (extent_at_element (document_extent documents levels) documents e)) c.deref.ensures c.extent_of_element-choices.ensures in
    let p = parted_unbranched documents levels c.extent_of_element-choices.result c.in-More.element.value c.in-More.rest.value c.args.count c.args.index none.1 counted c.requires.few c.requires.inside capped in (
      omega (arith, rw c.in-More.is at c.decreases, ap weight_of_element c.deref-in-More.ensures),
      (
        subst (λ e. is_or e ≡ false) (sym c.deref-in-More.ensures) none.0,
        (
          subst (λ e. length (element_ways documents levels e zero_digest) ≤ 65536) (sym c.deref-in-More.ensures) p.first_few,
          subst (λ e. c.args.index / (c.args.count / c.extent_of_element-choices.result.paths) < length (element_ways documents levels e zero_digest)) (sym c.deref-in-More.ensures) p.first_inside,
        ),
      ),
    )

pub push_unbranched-push_unbranched-requires : goal.push_unbranched-push_unbranched-requires
push_unbranched-push_unbranched-requires t c =
    let documents = c.args.walk.now.approvals.now in
    let levels = c.args.walk.now.levels in
    let counted = rw c.in-More.is at c.requires.counted in
    let none = or_parts (is_or c.in-More.element.value) (has_or c.in-More.rest.value) (rw c.in-More.is at c.requires.unbranched) in
    let capped = subst (λ e. IsCapped c.extent_of_element-choices.result (extent_at_element (document_extent documents levels) documents e)) c.deref.ensures c.extent_of_element-choices.ensures in
    let p = parted_unbranched documents levels c.extent_of_element-choices.result c.in-More.element.value c.in-More.rest.value c.args.count c.args.index none.1 counted c.requires.few c.requires.inside capped in (
      omega (arith, rw c.in-More.is at c.decreases, ap weight c.deref-in-More-2.ensures),
      (
        subst (λ e. has_or e ≡ false) (sym c.deref-in-More-2.ensures) none.1,
        (
          p.behind ∙ ap (λ e. length (element_list_ways documents levels e zero_digest)) (sym c.deref-in-More-2.ensures),
          (p.rest_few, p.rest_inside),
        ),
      ),
    )

pub push_unbranched-returns-in-End : goal.push_unbranched-returns-in-End
push_unbranched-returns-in-End t c =
    let counted = rw c.in-End.is at c.requires.counted in
    rw c.in-End.is (goes_nowhere c.args.path.now c.args.index (omega (arith, counted, c.requires.inside)))

pub push_unbranched-returns-in_ok-push_unbranched_element-in-More : goal.push_unbranched-returns-in_ok-push_unbranched_element-in-More
push_unbranched-returns-in_ok-push_unbranched_element-in-More t c =
    let element = c.in-More.element.value in
    let rest = c.in-More.rest.value in
    let documents = c.args.walk.now.approvals.now in
    let levels = c.args.walk.now.levels in
    let counted = rw c.in-More.is at c.requires.counted in
    let none = or_parts (is_or c.in-More.element.value) (has_or c.in-More.rest.value) (rw c.in-More.is at c.requires.unbranched) in
    let capped = subst (λ e. IsCapped c.extent_of_element-choices.result (extent_at_element (document_extent documents levels) documents e)) c.deref.ensures c.extent_of_element-choices.ensures in
    let p = parted_unbranched documents levels c.extent_of_element-choices.result c.in-More.element.value c.in-More.rest.value c.args.count c.args.index none.1 counted c.requires.few c.requires.inside capped in
    let behind = c.args.count / c.extent_of_element-choices.result.paths in
    let middle = c.push_unbranched_element.new.path in
    let firsts = element_ways documents levels element zero_digest in
    let rests = element_list_ways documents levels rest zero_digest in
    let first = subst (λ e. GoesOn c.args.path.now (element_ways documents levels e zero_digest) (c.args.index / behind) middle) c.deref-in-More.ensures c.in_ok-push_unbranched_element-in-More.ensures in
    let same = unbranched_ways documents levels rest zero_digest (digest_at_element element zero_digest) none.1 in
    rw c.in-More.is (on_ok_weaker c.push_unbranched.result (λ g. subst (λ ways. GoesOn c.args.path.now (product firsts ways) c.args.index c.push_unbranched.new.path) same (goes_through c.args.path.now middle c.push_unbranched.new.path firsts rests (c.args.index / behind) (c.args.index % behind) c.args.index first (subst (λ e. GoesOn middle (element_list_ways documents levels e zero_digest) (c.args.index % behind) c.push_unbranched.new.path) c.deref-in-More-2.ensures g) p.whole)) c.push_unbranched.ensures)

pub push_unbranched_element-returns-in_ok-try_clone-in-Assert : goal.push_unbranched_element-returns-in_ok-try_clone-in-Assert
push_unbranched_element-returns-in_ok-try_clone-in-Assert t c =
    let before = c.args.path.now in
    let act = Assert c.in-Assert.assertion in
    let inside = rw c.in-Assert.is at c.requires.inside in
    let longer : Path = record { steps = before.steps; moves = c.push.new.self; outside = before.outside } in
    let copied = ap (λ a. before.moves ++ Assert a ∷ []) c.in_ok-try_clone-in-Assert.ensures in
    rw c.in-Assert.is (on_ok_weaker c.push.result (λ pushed. goes_one before longer (path_of_move act) c.args.index (omega (arith, inside)) (move_pushed before act c.push.new.self (pushed ∙ copied))) c.push.ensures.ok)

pub push_elements-nonzero_div-behind : goal.push_elements-nonzero_div-behind
push_elements-nonzero_div-behind t c =
    let documents = c.args.walk.now.approvals.now in
    let levels = c.args.walk.now.levels in
    let counted = rw c.in-More.is at c.requires.counted in
    let capped = subst (λ e. IsCapped c.first_extent-choices.result (extent_at_element (document_extent documents levels) documents e)) c.deref.ensures c.first_extent-choices.ensures in
    (parted_ways documents levels c.first_extent-choices.result c.in-More.element.value c.in-More.rest.value c.args.before.now.digest c.args.count c.args.index counted c.requires.few c.requires.inside capped).divides

pub push_elements-nonzero_div-index : goal.push_elements-nonzero_div-index
push_elements-nonzero_div-index t c =
    let documents = c.args.walk.now.approvals.now in
    let levels = c.args.walk.now.levels in
    let counted = rw c.in-More.is at c.requires.counted in
    let capped = subst (λ e. IsCapped c.first_extent-choices.result (extent_at_element (document_extent documents levels) documents e)) c.deref.ensures c.first_extent-choices.ensures in
    (parted_ways documents levels c.first_extent-choices.result c.in-More.element.value c.in-More.rest.value c.args.before.now.digest c.args.count c.args.index counted c.requires.few c.requires.inside capped).behind_divides

pub push_elements-nonzero_rem-index : goal.push_elements-nonzero_rem-index
push_elements-nonzero_rem-index t c =
    let documents = c.args.walk.now.approvals.now in
    let levels = c.args.walk.now.levels in
    let counted = rw c.in-More.is at c.requires.counted in
    let capped = subst (λ e. IsCapped c.first_extent-choices.result (extent_at_element (document_extent documents levels) documents e)) c.deref.ensures c.first_extent-choices.ensures in
    (parted_ways documents levels c.first_extent-choices.result c.in-More.element.value c.in-More.rest.value c.args.before.now.digest c.args.count c.args.index counted c.requires.few c.requires.inside capped).behind_divides

pub push_elements-push_element-requires : goal.push_elements-push_element-requires
push_elements-push_element-requires t c =
    let documents = c.args.walk.now.approvals.now in
    let levels = c.args.walk.now.levels in
    let counted = rw c.in-More.is at c.requires.counted in
    let capped = subst (λ e. IsCapped c.first_extent-choices.result (extent_at_element (document_extent documents levels) documents e)) c.deref.ensures c.first_extent-choices.ensures in
    let p = parted_ways documents levels c.first_extent-choices.result c.in-More.element.value c.in-More.rest.value c.args.before.now.digest c.args.count c.args.index counted c.requires.few c.requires.inside capped in
    let known = rw c.in-More.is at c.requires.knows in (
      omega (arith, rw c.in-More.is at c.decreases, ap weight_of_element c.deref-in-More-2.ensures),
      (
        subst (λ r. KnowsFirst c.args.before.now c.deref-in-More-2.result.now r) (sym c.deref-in-More-3.ensures) (subst (λ e. KnowsFirst c.args.before.now e c.in-More.rest.value) (sym c.deref-in-More-2.ensures) known),
        (
          subst (λ e. length (element_ways documents levels e c.args.before.now.digest) ≤ 65536) (sym c.deref-in-More-2.ensures) p.first_few,
          subst (λ e. c.args.index / (c.args.count / c.first_extent-choices.result.paths) < length (element_ways documents levels e c.args.before.now.digest)) (sym c.deref-in-More-2.ensures) p.first_inside,
        ),
      ),
    )

pub push_elements-push_elements-requires : goal.push_elements-push_elements-requires
push_elements-push_elements-requires t c =
    let documents = c.args.walk.now.approvals.now in
    let levels = c.args.walk.now.levels in
    let counted = rw c.in-More.is at c.requires.counted in
    let capped = subst (λ e. IsCapped c.first_extent-choices.result (extent_at_element (document_extent documents levels) documents e)) c.deref.ensures c.first_extent-choices.ensures in
    let p = parted_ways documents levels c.first_extent-choices.result c.in-More.element.value c.in-More.rest.value c.args.before.now.digest c.args.count c.args.index counted c.requires.few c.requires.inside capped in
    let after_is = c.behind-after.ensures.digest ∙ ap (λ e. digest_at_element e c.args.before.now.digest) c.deref-in-More-4.ensures in (
      omega (arith, rw c.in-More.is at c.decreases, ap weight c.deref-in-More-6.ensures),
      (
        subst (Knows c.behind-after.result) (c.deref-in-More-5.ensures ∙ sym c.deref-in-More-6.ensures) c.behind-after.ensures.knows,
        (
          p.behind ∙ ap (λ d. length (element_list_ways documents levels c.in-More.rest.value d)) (sym after_is) ∙ ap (λ e. length (element_list_ways documents levels e c.behind-after.result.digest)) (sym c.deref-in-More-6.ensures),
          (p.rest_few, p.rest_inside),
        ),
      ),
    )

pub push_elements-returns-in-End : goal.push_elements-returns-in-End
push_elements-returns-in-End t c =
    let counted = rw c.in-End.is at c.requires.counted in
    rw c.in-End.is (goes_nowhere c.args.path.now c.args.index (omega (arith, counted, c.requires.inside)))

pub push_elements-returns-in_ok-push_element-in-More : goal.push_elements-returns-in_ok-push_element-in-More
push_elements-returns-in_ok-push_element-in-More t c =
    let documents = c.args.walk.now.approvals.now in
    let levels = c.args.walk.now.levels in
    let d = c.args.before.now.digest in
    let element = c.in-More.element.value in
    let rest = c.in-More.rest.value in
    let counted = rw c.in-More.is at c.requires.counted in
    let capped = subst (λ e. IsCapped c.first_extent-choices.result (extent_at_element (document_extent documents levels) documents e)) c.deref.ensures c.first_extent-choices.ensures in
    let p = parted_ways documents levels c.first_extent-choices.result element rest d c.args.count c.args.index counted c.requires.few c.requires.inside capped in
    let behind = c.args.count / c.first_extent-choices.result.paths in
    let middle = c.push_element.new.path in
    let first = subst (λ e. GoesOn c.args.path.now (element_ways documents levels e d) (c.args.index / behind) middle) c.deref-in-More-2.ensures c.in_ok-push_element-in-More.ensures in
    let after_is = c.behind-after.ensures.digest ∙ ap (λ e. digest_at_element e d) c.deref-in-More-4.ensures in
    let same = ap (λ e. element_list_ways documents levels e c.behind-after.result.digest) c.deref-in-More-6.ensures ∙ ap (element_list_ways documents levels rest) after_is in
    rw c.in-More.is (on_ok_weaker c.push_elements.result (λ g. goes_through c.args.path.now middle c.push_elements.new.path (element_ways documents levels element d) (element_list_ways documents levels rest (digest_at_element element d)) (c.args.index / behind) (c.args.index % behind) c.args.index first (subst (λ l. GoesOn middle l (c.args.index % behind) c.push_elements.new.path) same g) p.whole) c.push_elements.ensures)

pub push_element-push_branch-requires : goal.push_element-push_branch-requires
push_element-push_branch-requires t c =
    let documents = c.args.walk.now.approvals.now in
    let levels = c.args.walk.now.levels in
    let branches = c.in-Or.branches in
    let d = c.args.before.now.digest in
    let within = ap (λ x. length (branch_ways documents levels branches 1 x)) c.within.ensures.digest in
    let same = length-branch_ways documents levels branches 1 (Or (branch_digests branches d)) d in (
      omega (arith, rw c.in-Or.is at c.decreases),
      (
        c.within.ensures.knows,
        (
          omega (arith, within, same, rw c.in-Or.is at c.requires.few),
          omega (arith, within, same, rw c.in-Or.is at c.requires.inside),
        ),
      ),
    )

pub push_element-returns-in_ok-digests-in-Or : goal.push_element-returns-in_ok-digests-in-Or
push_element-returns-in_ok-digests-in-Or t c =
    let documents = c.args.walk.now.approvals.now in
    let levels = c.args.walk.now.levels in
    let branches = c.in-Or.branches in
    let d = c.args.before.now.digest in
    let act = Or (branch_digests branches d) in
    let middle = c.push_branch.new.path in
    let gone = subst (λ x. GoesOn c.args.path.now (branch_ways documents levels branches 1 x) c.args.index middle) c.within.ensures.digest c.in_ok-push_branch-in-Or.ensures in
    let digests_are = ap (λ l. middle.moves ++ Or l ∷ []) c.in_ok-digests-in-Or.ensures in
    let longer : Path = record { steps = middle.steps; moves = c.push.new.self; outside = middle.outside } in
    rw c.in-Or.is (on_ok_weaker c.push.result (λ pushed. subst (λ l. GoesOn c.args.path.now l c.args.index longer) (branches_closed documents levels branches 1 act d) (goes_by_move c.args.path.now middle longer act (branch_ways documents levels branches 1 d) c.args.index gone (move_pushed middle act c.push.new.self (pushed ∙ digests_are)))) c.push.ensures.ok)

pub push_branch-push_elements-requires : goal.push_branch-push_elements-requires
push_branch-push_elements-requires t c =
    let documents = c.args.walk.now.approvals.now in
    let levels = c.args.walk.now.levels in
    let branch = c.in-More.branch.value in
    let rest = c.in-More.rest.value in
    let d = c.args.before.now.digest in
    let others = branch_ways documents levels rest (c.args.position + 1) d in
    let step = followed_by (path_of_step (Branch c.args.position branch.name)) in
    let capped = subst (λ (b : ClosedBranch). IsCapped c.extent-count.result (extent_at (document_extent documents levels) documents b.policy.elements)) c.deref.ensures c.extent-count.ensures in
    let counted = counted_first documents levels c.extent-count.result branch.policy.elements d step others (rw c.in-More.is at c.requires.few) capped in
    let ways = ap (λ (b : ClosedBranch). length (element_list_ways documents levels b.policy.elements d)) (sym c.deref.ensures) ∙ ap (λ x. length (element_list_ways documents levels c.deref.result.now.policy.elements x)) (sym c.first-first.ensures.digest) in (
      omega (arith, rw c.in-More.is at c.decreases, ap (λ (b : ClosedBranch). weight b.policy.elements) c.deref.ensures),
      (
        c.first-first.ensures.knows,
        (
          counted.0 ∙ ways,
          (omega (arith, counted.1, rw c.in-More.is at c.requires.few), c.if-index-count.true),
        ),
      ),
    )

pub push_branch-push_branch-requires : goal.push_branch-push_branch-requires
push_branch-push_branch-requires t c =
    let documents = c.args.walk.now.approvals.now in
    let levels = c.args.walk.now.levels in
    let branch = c.in-More.branch.value in
    let rest = c.in-More.rest.value in
    let d = c.args.before.now.digest in
    let others = branch_ways documents levels rest (c.args.position + 1) d in
    let step = followed_by (path_of_step (Branch c.args.position branch.name)) in
    let capped = subst (λ (b : ClosedBranch). IsCapped c.extent-count.result (extent_at (document_extent documents levels) documents b.policy.elements)) c.deref.ensures c.extent-count.ensures in
    let counted = counted_first documents levels c.extent-count.result branch.policy.elements d step others (rw c.in-More.is at c.requires.few) capped in
    let next = ap (λ n. length (branch_ways documents levels c.deref-else-index-count-2.result.now n c.behind-behind.result.digest)) c.in_ok-next-in-More.ensures in
    let behind = ap (λ x. length (branch_ways documents levels c.deref-else-index-count-2.result.now (c.args.position + 1) x)) c.behind-behind.ensures.digest in
    let ways = next ∙ behind ∙ ap (λ r. length (branch_ways documents levels r (c.args.position + 1) d)) c.deref-else-index-count-2.ensures in (
      omega (arith, rw c.in-More.is at c.decreases, ap weight_of_branches c.deref-else-index-count-2.ensures),
      (
        subst (KnowsBranches c.behind-behind.result) (c.deref-else-index-count.ensures ∙ sym c.deref-else-index-count-2.ensures) c.behind-behind.ensures.knows,
        (
          omega (arith, counted.1, ways, rw c.in-More.is at c.requires.few),
          omega (arith, counted.1, ways, rw c.in-More.is at c.requires.inside, c.if-index-count.false),
        ),
      ),
    )

pub push_branch-returns-in_ok-push-in-More : goal.push_branch-returns-in_ok-push-in-More
push_branch-returns-in_ok-push-in-More t c =
    let documents = c.args.walk.now.approvals.now in
    let levels = c.args.walk.now.levels in
    let branch = c.in-More.branch.value in
    let rest = c.in-More.rest.value in
    let d = c.args.before.now.digest in
    let before = c.args.path.now in
    let step = Branch c.args.position branch.name in
    let others = branch_ways documents levels rest (c.args.position + 1) d in
    let ways = element_list_ways documents levels branch.policy.elements d in
    let named = c.in_ok-name-in-More.ensures ∙ ap (λ (b : ClosedBranch). b.name) c.deref-then-index-count.ensures in
    let pushed = c.in_ok-push-in-More.ensures.ok ∙ ap (λ n. before.steps ++ Branch c.args.position n ∷ []) named in
    let behind : Path = record { steps = c.push.new.self; moves = before.moves; outside = before.outside } in
    let same = ap (element_list_ways documents levels c.deref.result.now.policy.elements) c.first-first.ensures.digest ∙ ap (λ (b : ClosedBranch). element_list_ways documents levels b.policy.elements d) c.deref.ensures in
    rw c.in-More.is (on_ok_weaker c.push_elements.result (λ g. goes_first before c.push_elements.new.path (map (followed_by (path_of_step step)) ways) others c.args.index (goes_by_step before behind c.push_elements.new.path step ways c.args.index (step_pushed before step c.push.new.self pushed) (subst (λ l. GoesOn behind l c.args.index c.push_elements.new.path) same g))) c.push_elements.ensures)

pub push_branch-returns-in_ok-next-in-More : goal.push_branch-returns-in_ok-next-in-More
push_branch-returns-in_ok-next-in-More t c =
    let documents = c.args.walk.now.approvals.now in
    let levels = c.args.walk.now.levels in
    let branch = c.in-More.branch.value in
    let rest = c.in-More.rest.value in
    let d = c.args.before.now.digest in
    let others = branch_ways documents levels rest (c.args.position + 1) d in
    let step = followed_by (path_of_step (Branch c.args.position branch.name)) in
    let firsts = map step (element_list_ways documents levels branch.policy.elements d) in
    let capped = subst (λ (b : ClosedBranch). IsCapped c.extent-count.result (extent_at (document_extent documents levels) documents b.policy.elements)) c.deref.ensures c.extent-count.ensures in
    let counted = counted_first documents levels c.extent-count.result branch.policy.elements d step others (rw c.in-More.is at c.requires.few) capped in
    let split : c.args.index ≡ length firsts + (c.args.index - c.extent-count.result.paths) = omega (arith, counted.0, counted.1, c.if-index-count.false, length-map (element_list_ways documents levels branch.policy.elements d) step) in
    let left = c.args.index - c.extent-count.result.paths in
    let same = ap (λ n. branch_ways documents levels c.deref-else-index-count-2.result.now n c.behind-behind.result.digest) c.in_ok-next-in-More.ensures ∙ ap (branch_ways documents levels c.deref-else-index-count-2.result.now (c.args.position + 1)) c.behind-behind.ensures.digest ∙ ap (λ r. branch_ways documents levels r (c.args.position + 1) d) c.deref-else-index-count-2.ensures in
    rw c.in-More.is (on_ok_weaker c.push_branch.result (λ g. goes_later c.args.path.now c.push_branch.new.path firsts others left c.args.index split (subst (λ l. GoesOn c.args.path.now l left c.push_branch.new.path) same g)) c.push_branch.ensures)

pub push_approval-push_from_zero-requires : goal.push_approval-push_from_zero-requires
push_approval-push_from_zero-requires t c =
    let documents = c.args.walk.now.approvals.now in
    let levels = c.args.walk.now.levels in
    let document = c.document-item.result in
    let index = c.loop-document.document-index in
    let level : levels ≢ 0 = omega (arith, c.if-walk-gt0.true) in
    let counted = document_counted documents levels c.args.element.now c.extent_of_elements-count.result index document c.loop-document-test.true c.document-item.is level (sym c.accepts.ensures ∙ c.if-accepts.true) c.requires.few c.extent_of_elements-count.ensures in
    let inside = part_inside documents levels c.args.element.now index document c.loop-document-test.true c.document-item.is in
    let total = length-append (approved_paths (document_paths documents levels) documents c.args.element.now) (outside_paths c.args.element.now) in
    let light = weight-lt-greatest documents index document c.loop-document-test.true in
    let lighter : weight document.closed.elements < greatest documents = subst (λ x. weight x.closed.elements < greatest documents) (sym c.document-item.is) light in
    let less = level_less levels (greatest documents) (weight document.closed.elements) (omega (arith, c.if-walk-gt0.true)) lighter in (
      omega (arith, less, c.decreases),
      (
        c.without_memo-before.ensures.knows c.document-item.result.closed.elements,
        (
          c.without_memo-before.ensures.digest ∙ c.zero_digest.ensures,
          (
            counted.1,
            (omega (arith, counted.0, inside, total, c.requires.few), c.if-left-count.true),
          ),
        ),
      ),
    )

pub push_approval-returns-then-left-count : goal.push_approval-returns-then-left-count
push_approval-returns-then-left-count t c =
    let documents = c.args.walk.now.approvals.now in
    let levels = c.args.walk.now.levels in
    let element = c.args.element.now in
    let document = c.document-item.result in
    let index = c.loop-document.document-index in
    let left = c.loop-document.left in
    let before = c.loop-document.path in
    let level : levels ≢ 0 = omega (arith, c.if-walk-gt0.true) in
    let accepted = sym c.accepts.ensures ∙ c.if-accepts.true in
    let pushed = c.in_ok-push.ensures.ok ∙ ap (λ n. before.steps ++ Document n ∷ []) c.in_ok-name.ensures in
    let behind : Path = record { steps = c.push.new.self; moves = before.moves; outside = before.outside } in
    let inner = c.in_ok-push_from_zero.ensures in
    on_ok_weaker c.push_use.result (λ used. subst (λ p. GoesOn p (approval_ways documents levels element) c.args.index c.push_use.new.path) c.loop-document.invariant.same (subst (λ i. GoesOn before (approval_ways documents levels element) i c.push_use.new.path) (sym c.loop-document.invariant.counted) (goes_first before c.push_use.new.path (approved_paths (document_paths documents levels) documents element) (outside_paths element) (length (before_document documents levels element index) + left) (goes_in_document documents levels element before c.push_use.new.path index left document c.loop-document-test.true c.document-item.is (goes_by_document documents levels element before behind c.push_from_zero.new.path c.push_use.new.path document left level accepted (step_pushed before (Document document.document) c.push.new.self pushed) inner used))))) c.push_use.ensures

pub push_approval-loop-document-preserved : goal.push_approval-loop-document-preserved
push_approval-loop-document-preserved t c =
    let documents = c.args.walk.now.approvals.now in
    let levels = c.args.walk.now.levels in
    let document = c.document-item.result in
    let index = c.loop-document.document-index in
    let level : levels ≢ 0 = omega (arith, c.if-walk-gt0.true) in
    let more = parts_more documents levels c.args.element.now index document c.loop-document-test.true c.document-item.is in
    elim c.if-accepts.branch [
      | push_approval-then-accepts+else-left-count w ↦ record {
        same = c.loop-document.invariant.same;
        counted =
            let counted = document_counted documents levels c.args.element.now w.extent_of_elements-count.result index document c.loop-document-test.true c.document-item.is level (sym c.accepts.ensures ∙ w.if-accepts.true) c.requires.few w.extent_of_elements-count.ensures in
            omega (arith, more, counted.0, w.left-is, w.if-left-count.false, c.loop-document.invariant.counted);
      }
      | push_approval-else-accepts w ↦ record {
        same = c.loop-document.invariant.same;
        counted =
            let none = part_passed documents levels c.args.element.now document (sym c.accepts.ensures ∙ w.if-accepts.false) in
            omega (arith, more, none, w.left-is, c.loop-document.invariant.counted);
      }
    ]

pub push_approval-push_outside-requires : goal.push_approval-push_outside-requires
push_approval-push_outside-requires t c =
    let documents = c.args.walk.now.approvals.now in
    let levels = c.args.walk.now.levels in
    let element = c.args.element.now in
    let counted : c.args.index ≡ length (approved_paths (document_paths documents levels) documents element) + c.if-walk-gt0.left =
    elim c.if-walk-gt0.branch [
      | push_approval-then-walk-gt0+else-loop-document-test w ↦ omega (arith, all_documents documents levels element w.loop-document.document-index w.loop-document-test.false, w.left-is, w.loop-document.invariant.counted)
      | push_approval-else-walk-gt0 w ↦ omega (arith, no_document documents levels element w.if-walk-gt0.false, w.left-is)
    ] in
    omega (arith, left_over documents levels element c.args.index c.if-walk-gt0.left counted c.requires.inside)

pub push_approval-returns : goal.push_approval-returns
push_approval-returns t c =
    let documents = c.args.walk.now.approvals.now in
    let levels = c.args.walk.now.levels in
    let element = c.args.element.now in
    let counted : c.args.index ≡ length (approved_paths (document_paths documents levels) documents element) + c.if-walk-gt0.left =
    elim c.if-walk-gt0.branch [
      | push_approval-then-walk-gt0+else-loop-document-test w ↦ omega (arith, all_documents documents levels element w.loop-document.document-index w.loop-document-test.false, w.left-is, w.loop-document.invariant.counted)
      | push_approval-else-walk-gt0 w ↦ omega (arith, no_document documents levels element w.if-walk-gt0.false, w.left-is)
    ] in
    let same : c.if-walk-gt0.path ≡ c.args.path.now =
    elim c.if-walk-gt0.branch [
      | push_approval-then-walk-gt0+else-loop-document-test w ↦ w.path-is ∙ w.loop-document.invariant.same
      | push_approval-else-walk-gt0 w ↦ w.path-is
    ] in
    on_ok_weaker c.push_outside.result (λ g. goes_outside documents levels element c.args.path.now c.push_outside.new.path c.args.index c.if-walk-gt0.left counted c.requires.inside (subst (λ p. GoesOn p (outside_paths element) 0 c.push_outside.new.path) same g)) c.push_outside.ensures

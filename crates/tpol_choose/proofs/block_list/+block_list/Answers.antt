use Rattle.std.proofs.Common.{◌≡◌, ◌≢◌, ◌+◌, ◌-◌, ◌*◌, ◌<◌, ◌++◌, length, map, subst, sym, ap, ◌∙◌, refl, inl, inr, arith}
use Rattle.std.proofs.lemmas.List.{append-nil, append_assoc}
use Rattle.std.proofs.lemmas.Result.{on_ok_weaker}
use Rattle.std.proofs.lemmas.Option.{slice_get_read}
use Rattle.tpol_tree.specs.declared.closed.ClosedBranch.{ClosedBranch}
use Rattle.tpol_tree.specs.declared.closed.ClosedElement.TheVariants as closed
use Rattle.tpol_tree.specs.declared.path.Move.TheVariants.{Assert, Or}
use Rattle.tpol_tree.specs.declared.path.PathStep.TheVariants.{Branch}
use Rattle.tpol_choose.specs.Few.{HasFewBranches, ElementHasFewBranches, BranchesHaveFewBranches}
use Rattle.tpol_digest.specs.Digest.{branch_digests, digest_at_element, or_digest}
use Rattle.tpol_digest.specs.Memos.{KnowsFirst}
use Rattle.tpol_digest.specs.Paths.{approved_paths, document_paths, empty_path, followed_by, outside_paths, paths_by_approval}
use Rattle.tpol_digest.specs.Positions.{path_of_step, element_list_ways, element_ways, branch_ways, approval_ways}
use Rattle.tpol_digest.proofs.Documents.{approved_none}
use Rattle.tpol_digest.proofs.Positions.{branches_closed, part}
use Rattle.tpol_digest.proofs.Weights.{weight, weight_of_element, weight_of_branches, greatest, weight-lt-greatest}
use Rattle.tpol_choose.specs.Acts.{move_of}
use Rattle.tpol_choose.specs.Clients.{Client}
use Rattle.tpol_choose.specs.Lent.{client_of_lent}
use Rattle.tpol_choose.specs.BlockLists.{blocks_ahead, blocks_of, blocks_rest}
use Rattle.tpol_choose.specs.Tracks.{IsTrack, TrackState, after_first, gone_outside, track_after}
use Rattle.tpol_name.specs.Setups.{IsSight}
use Rattle.tpol_choose.proofs.Going.{along_nothing}
use Rattle.tpol_choose.proofs.Leads.{lead_blocks, lead_few, lead_lighter}
use Rattle.tpol_choose.proofs.Loads.{share, share_some, entered_lighter}
use Rattle.tpol_choose.proofs.SearchLaws.{left, next_left, none_left}
use Rattle.tpol_choose.proofs.BlockListLaws.{blocks_append, blocks_by_move, blocks_by_step, blocks_entered, blocks_one, blocks_one_move, blocks_outside, blocks_product, blocks_same}
use Rattle.tpol_choose.proofs.block_list.+block_list.Goals as goal
use Rattle.tpol_choose.proofs.block_list.+block_list.Goals.{push_documents-in-Some+in_ok-push_elements, push_documents-in_default}

-- ---- elements

pub push_elements-returns-in-End : goal.push_elements-returns-in-End
push_elements-returns-in-End t c =
    let client = client_of_lent c.args.walk.now.client.now in
    let behind = blocks_ahead client c.args.walk.now.approvals.now c.args.ahead.now in
    rw c.in-End.is (λ state h. on_ok_weaker c.push_ahead.result (λ e. e ∙ ap (λ l. c.args.found.now.items ++ l) (ap behind (along_nothing client state) ∙ sym (blocks_one client behind state empty_path))) (c.push_ahead.ensures state h))

pub push_elements-returns-in-More : goal.push_elements-returns-in-More
push_elements-returns-in-More t c =
    let client = client_of_lent c.args.walk.now.client.now in
    let documents = c.args.walk.now.approvals.now in
    let levels = c.args.walk.now.levels in
    let d = c.args.before.digest in
    let element = c.in-More.element.value in
    let rest = c.in-More.rest.value in
    let ahead = c.args.ahead.now in
    let blocks = c.args.found.now.items in
    rw c.in-More.is (λ state h. on_ok_weaker c.push_element.result (λ e. e
    ∙ ap (λ x. blocks ++ blocks_of client (blocks_rest client documents levels c.deref-in-More.result.now (digest_at_element x d) ahead) state (element_ways documents levels x d)) c.deref.ensures
    ∙ ap (λ r. blocks ++ blocks_of client (blocks_rest client documents levels r (digest_at_element element d) ahead) state (element_ways documents levels element d)) c.deref-in-More.ensures
    ∙ ap (λ l. blocks ++ l) (sym (blocks_product client (blocks_ahead client documents ahead) state (element_ways documents levels element d) (element_list_ways documents levels rest (digest_at_element element d))))) (c.push_element.ensures state h))

-- ---- one element

pub push_element-returns-in-Assert : goal.push_element-returns-in-Assert
push_element-returns-in-Assert t c =
    let client = client_of_lent c.args.walk.now.client.now in
    let documents = c.args.walk.now.approvals.now in
    let levels = c.args.walk.now.levels in
    let rest = c.args.rest.now in
    let ahead = c.args.ahead.now in
    let blocks = c.args.found.now.items in
    let act = Assert c.in-Assert.assertion in
    let after = c.behind-after.ensures.digest ∙ ap (λ e. digest_at_element e c.args.before.digest) c.in-Assert.is in
    rw c.in-Assert.is (λ state h. on_ok_weaker c.push_elements.result (λ e. e
    ∙ ap (λ d. blocks ++ blocks_of client (blocks_ahead client documents ahead) (track_after client state act) (element_list_ways documents levels rest d)) after
    ∙ ap (λ l. blocks ++ l) (sym (blocks_one_move client (blocks_rest client documents levels rest (digest_at_element (closed.Assert c.in-Assert.assertion) c.args.before.digest) ahead) state act))) (c.push_elements.ensures (track_after client state act) (subst (λ a. IsTrack c.add.new.self (track_after client state (Assert a))) c.with_after-step.ensures (c.add.ensures state h))))

pub push_element-returns-in-Or : goal.push_element-returns-in-Or
push_element-returns-in-Or t c = rw c.in-Or.is (λ state h. c.push_or.ensures state h)

pub push_element-returns-in-Authorize : goal.push_element-returns-in-Authorize
push_element-returns-in-Authorize t c = λ state h.
    let client = client_of_lent c.args.walk.now.client.now in
    let documents = c.args.walk.now.approvals.now in
    let levels = c.args.walk.now.levels in
    let rest = c.args.rest.now in
    let ahead = c.args.ahead.now in
    let blocks = c.args.found.now.items in
    let d = c.args.before.digest in
    let element = c.args.element.now in
    let same : approval_ways documents levels element ≡ element_ways documents levels element d = elim c.in-Authorize.is [
      | inl p ↦ subst (λ e. approval_ways documents levels e ≡ element_ways documents levels e d) (sym p.2) refl
      | inr q ↦ subst (λ e. approval_ways documents levels e ≡ element_ways documents levels e d) (sym q.1) refl
    ] in
    on_ok_weaker c.push_approvals.result (λ e. e
    ∙ ap (λ x. blocks ++ blocks_of client (blocks_rest client documents levels rest x ahead) state (approval_ways documents levels element)) c.behind-after-in-Authorize.ensures.digest
    ∙ ap (λ w. blocks ++ blocks_of client (blocks_rest client documents levels rest (digest_at_element element d) ahead) state w) same) (c.push_approvals.ensures state h)

-- ---- an OR

pub push_or-returns : goal.push_or-returns
push_or-returns t c =
    let client = client_of_lent c.or_kept.result.now in
    let documents = c.args.walk.now.approvals.now in
    let levels = c.args.walk.now.levels in
    let rest = c.args.rest.now in
    let ahead = c.args.ahead.now in
    let blocks = c.args.found.now.items in
    let d = c.args.before.digest in
    let branches = c.args.branches.now in
    let digests = branch_digests branches d in
    let ways = branch_ways documents levels branches 1 d in
    let first = c.of-lead.result.first in
    let before = c.of-lead.result.before.digest in
    let begins = c.of-lead.result.rest.now in
    let behind = λ (s : TrackState). blocks_rest client documents levels begins before ahead (after_first client (track_after client s (Or c.with_after-or.result.digests.now)) first) in
    let whole = λ (s : TrackState). blocks_rest client documents levels rest c.behind-after.result.digest ahead (track_after client s (Or c.with_after-or.result.digests.now)) in
    let leads = λ (s : TrackState). lead_blocks client documents levels ahead (track_after client s (Or c.with_after-or.result.digests.now)) first rest c.behind-after.result.digest begins before c.of-lead.ensures.lead in
    (λ state h. on_ok_weaker c.push_branches.result (λ e. e
    ∙ ap (λ x. blocks ++ blocks_of client behind state (branch_ways documents levels branches 1 x)) c.within-inner.ensures.digest
    ∙ ap (λ l. blocks ++ l) (blocks_same client behind whole leads state ways)
    ∙ ap (λ ds. blocks ++ blocks_of client (λ s. blocks_rest client documents levels rest c.behind-after.result.digest ahead (track_after client s (Or ds))) state ways) (c.with_after-or.ensures ∙ c.as_slice.ensures ∙ c.of-digests.ensures)
    ∙ ap (λ x. blocks ++ blocks_of client (λ s. blocks_rest client documents levels rest x ahead (track_after client s (Or digests))) state ways) (c.behind-after.ensures.digest ∙ ap or_digest c.of-digests.ensures)
    ∙ ap (λ l. blocks ++ l) (sym (blocks_by_move client (blocks_rest client documents levels rest (or_digest digests) ahead) state (Or digests) ways)
    ∙ ap (blocks_of client (blocks_rest client documents levels rest (or_digest digests) ahead) state) (branches_closed documents levels branches 1 (Or digests) d))
    ∙ ap (λ (one : Client). blocks ++ blocks_of one (blocks_rest one documents levels rest (or_digest digests) ahead) state (element_ways documents levels (closed.Or branches) d)) c.or_kept.ensures) (c.push_branches.ensures state 1 h))

-- ---- branches

pub push_branches-returns-in-End : goal.push_branches-returns-in-End
push_branches-returns-in-End t c = rw c.in-End.is (λ state position h. sym (append-nil c.args.found.now.items))

pub push_branches-returns-in_ok-push_elements-in-More : goal.push_branches-returns-in_ok-push_elements-in-More
push_branches-returns-in_ok-push_elements-in-More t c =
    let client = client_of_lent c.args.walk.now.client.now in
    let documents = c.args.walk.now.approvals.now in
    let levels = c.args.walk.now.levels in
    let behind = blocks_ahead client documents c.args.ahead.now in
    let blocks = c.args.found.now.items in
    let d = c.args.before.digest in
    let branch = c.in-More.branch.value in
    let rest = c.in-More.rest.value in
    let ways = element_list_ways documents levels branch.policy.elements d in
    rw c.in-More.is (λ state position h.
    let step = Branch position branch.name in
    let others = branch_ways documents levels rest (position + 1) d in
    let first = c.in_ok-push_elements-in-More.ensures state h ∙ ap (λ x. blocks ++ blocks_of client behind state (element_list_ways documents levels c.deref.result.now.policy.elements x)) c.first-first.ensures.digest ∙ ap (λ (b : ClosedBranch). blocks ++ blocks_of client behind state (element_list_ways documents levels b.policy.elements d)) c.deref.ensures in
    on_ok_weaker c.push_branches.result (λ e. e
    ∙ ap (λ x. c.push_elements.new.found.items ++ blocks_of client behind state (branch_ways documents levels c.deref-rest.result.now (position + 1) x)) c.behind-others.ensures.digest
    ∙ ap (λ r. c.push_elements.new.found.items ++ blocks_of client behind state (branch_ways documents levels r (position + 1) d)) c.deref-rest.ensures
    ∙ ap (λ l. l ++ blocks_of client behind state others) first
    ∙ append_assoc blocks (blocks_of client behind state ways) (blocks_of client behind state others)
    ∙ ap (λ l. blocks ++ (l ++ blocks_of client behind state others)) (sym (blocks_by_step client behind state step ways))
    ∙ ap (λ l. blocks ++ l) (sym (blocks_append client behind state (map (followed_by (path_of_step step)) ways) others))) (c.push_branches.ensures state (position + 1) h))

-- ---- approvals

pub push_approvals-returns-in-Some : goal.push_approvals-returns-in-Some
push_approvals-returns-in-Some t c = λ state h.
    let client = client_of_lent c.args.walk.now.client.now in
    let documents = c.args.walk.now.approvals.now in
    let levels = c.args.walk.now.levels in
    let element = c.args.element.now in
    let blocks = c.args.found.now.items in
    let behind = blocks_rest client documents levels c.args.rest.now c.args.after.digest c.args.ahead.now in
    let act = move_of c.in-Some.act in
    let listed = approved_paths (document_paths documents levels) documents element in
    let gone = gone_outside (track_after client state act) in
    on_ok_weaker c.push_elements.result (λ e. e
    ∙ ap (λ l. l ++ behind gone) (c.in_ok-push_documents.ensures state h)
    ∙ append_assoc blocks (blocks_of client behind state listed) (behind gone)
    ∙ ap (λ l. blocks ++ (blocks_of client behind state listed ++ l)) (sym (blocks_outside client behind state element act c.in-Some.ensures))
    ∙ ap (λ l. blocks ++ l) (sym (blocks_append client behind state listed (outside_paths element)))) (c.push_elements.ensures gone (c.outside-next.ensures (track_after client state act) (c.after.ensures state h)))

-- ---- documents

pub push_documents-returns-then-walk-eq0 : goal.push_documents-returns-then-walk-eq0
push_documents-returns-then-walk-eq0 t c = λ state h.
    let client = client_of_lent c.args.walk.now.client.now in
    let documents = c.args.walk.now.approvals.now in
    let element = c.args.element.now in
    let behind = blocks_rest client documents c.args.walk.now.levels c.args.rest.now c.args.after.digest c.args.ahead.now in
    let blocks = c.args.found.now.items in
    sym (ap (λ w. blocks ++ blocks_of client behind state w) (ap (λ n. approved_paths (document_paths documents n) documents element) c.if-walk-eq0.true ∙ approved_none documents documents element) ∙ append-nil blocks)

pub push_documents-loop-index-init : goal.push_documents-loop-index-init
push_documents-loop-index-init t c = λ state h. refl

pub push_documents-returns : goal.push_documents-returns
push_documents-returns t c = λ state h.
    let client = client_of_lent c.args.walk.now.client.now in
    let documents = c.args.walk.now.approvals.now in
    let levels = c.args.walk.now.levels in
    let behind = blocks_rest client documents levels c.args.rest.now c.args.after.digest c.args.ahead.now in
    sym (c.loop-index.invariant state h
    ∙ ap (λ w. c.loop-index.found.items ++ blocks_of client behind state w) (none_left documents levels c.args.element.now c.loop-index.index (omega (arith, c.loop-index-test.false)))
    ∙ append-nil c.loop-index.found.items)

-- ---- what comes behind

pub push_ahead-returns-in-Nothing : goal.push_ahead-returns-in-Nothing
push_ahead-returns-in-Nothing t c = rw c.in-Nothing.is (λ state h. c.push_end.ensures state h)

pub push_ahead-returns-in-After : goal.push_ahead-returns-in-After
push_ahead-returns-in-After t c =
    let client = client_of_lent c.args.walk.now.client.now in
    rw c.in-After.is (λ state h.
    let closed = track_after client state (move_of c.in-After.act) in
    c.push_elements.ensures (after_first client closed c.in-After.first) (c.add_first.ensures closed (c.add.ensures state h)))

-- ---- the end, and what the calls ask for

pub push_elements-push_ahead-requires : goal.push_elements-push_ahead-requires
push_elements-push_ahead-requires t c =
    let some = share_some c.args.walk.now.approvals.now c.args.walk.now.levels in
    (omega (arith, rw c.in-End.is at c.decreases, some), (c.requires.approved, (c.requires.kept, (c.requires.sight, c.requires.ahead))))

pub push_elements-push_element-requires : goal.push_elements-push_element-requires
push_elements-push_element-requires t c =
    let s = share c.args.walk.now.approvals.now c.args.walk.now.levels in
    let some = share_some c.args.walk.now.approvals.now c.args.walk.now.levels in
    let first = ap (λ e. weight_of_element e * s) c.deref.ensures in
    let rest = ap (λ e. weight e * s) c.deref-in-More.ensures in
    let knows = subst (λ e. KnowsFirst c.args.before e c.deref-in-More.result.now) (sym c.deref.ensures) (subst (KnowsFirst c.args.before c.in-More.element.value) (sym c.deref-in-More.ensures) (rw c.in-More.is at c.requires.knows)) in
    let counts = rw c.in-More.is at c.requires.branches in (
      omega (arith, rw c.in-More.is at c.decreases, first, rest, some),
      (
        subst ElementHasFewBranches (sym c.deref.ensures) counts.0,
        (
          subst HasFewBranches (sym c.deref-in-More.ensures) counts.1,
          (c.requires.approved, (c.requires.kept, (c.requires.sight, (c.requires.ahead, knows)))),
        ),
      ),
    )

pub push_element-push_elements-requires : goal.push_element-push_elements-requires
push_element-push_elements-requires t c =
    let some = share_some c.args.walk.now.approvals.now c.args.walk.now.levels in
    (omega (arith, rw c.in-Assert.is at c.decreases, some), (c.requires.rest, (c.requires.approved, (c.requires.kept, (c.requires.sight, (c.requires.ahead, c.behind-after.ensures.knows))))))

pub push_element-push_or-requires : goal.push_element-push_or-requires
push_element-push_or-requires t c =
    let some = share_some c.args.walk.now.approvals.now c.args.walk.now.levels in
    (omega (arith, rw c.in-Or.is at c.decreases, some), (c.in-Or.is, (rw c.in-Or.is at c.requires.branches, (c.requires.rest, (c.requires.approved, (c.requires.kept, (c.requires.sight, (c.requires.ahead, rw c.in-Or.is at c.requires.knows))))))))

pub push_or-push_branches-requires : goal.push_or-push_branches-requires
push_or-push_branches-requires t c =
    let some = share_some c.args.walk.now.approvals.now c.args.walk.now.levels in
    let sight = subst (λ (one : Client). IsSight one.sight) (sym c.or_kept.ensures) c.requires.sight in
    let counts = c.requires.branches in
    let lead = c.of-lead.result in
    let lighter = lead_lighter (share c.args.walk.now.approvals.now c.args.walk.now.levels) lead.first c.args.rest.now c.behind-after.result.digest lead.rest.now lead.before.digest c.of-lead.ensures.lead in
    let few = lead_few lead.first c.args.rest.now c.behind-after.result.digest lead.rest.now lead.before.digest c.of-lead.ensures.lead c.requires.rest in
    (omega (arith, c.decreases, some, lighter), (counts.1, (c.requires.approved, (c.requires.kept, (sight, ((few, (c.of-lead.ensures.knows, c.requires.ahead)), c.within-inner.ensures.knows))))))

pub push_element-push_approvals-requires : goal.push_element-push_approvals-requires
push_element-push_approvals-requires t c =
    let some = share_some c.args.walk.now.approvals.now c.args.walk.now.levels in
    elim c.in-Authorize.is [
      | inl p ↦ (
        omega (arith, rw p.2 at c.decreases, some),
        (
          subst (λ e. length (outside_paths e) ≡ 1) (sym p.2) refl,
          (c.requires.rest, (c.requires.approved, (c.requires.kept, (c.requires.sight, (c.requires.ahead, c.behind-after-in-Authorize.ensures.knows))))),
        ),
      )
      | inr q ↦ (
        omega (arith, rw q.1 at c.decreases, some),
        (
          subst (λ e. length (outside_paths e) ≡ 1) (sym q.1) refl,
          (c.requires.rest, (c.requires.approved, (c.requires.kept, (c.requires.sight, (c.requires.ahead, c.behind-after-in-Authorize.ensures.knows))))),
        ),
      )
    ]

pub push_branches-push_elements-requires : goal.push_branches-push_elements-requires
push_branches-push_elements-requires t c =
    let s = share c.args.walk.now.approvals.now c.args.walk.now.levels in
    let some = share_some c.args.walk.now.approvals.now c.args.walk.now.levels in
    let same = ap (λ (b : ClosedBranch). weight b.policy.elements * s) c.deref.ensures in
    let counts = rw c.in-More.is at c.requires.branches in (
      omega (arith, rw c.in-More.is at c.decreases, same, some),
      (
        subst (λ (b : ClosedBranch). HasFewBranches b.policy.elements) (sym c.deref.ensures) counts.0,
        (c.requires.approved, (c.requires.kept, (c.requires.sight, (c.requires.ahead, c.first-first.ensures.knows)))),
      ),
    )

pub push_branches-push_branches-requires : goal.push_branches-push_branches-requires
push_branches-push_branches-requires t c =
    let s = share c.args.walk.now.approvals.now c.args.walk.now.levels in
    let some = share_some c.args.walk.now.approvals.now c.args.walk.now.levels in
    let same = ap (λ b. weight_of_branches b * s) c.deref-rest.ensures in
    let counts = rw c.in-More.is at c.requires.branches in (
      omega (arith, rw c.in-More.is at c.decreases, same, some),
      (
        subst BranchesHaveFewBranches (sym c.deref-rest.ensures) counts.1,
        (c.requires.approved, (c.requires.kept, (c.requires.sight, (c.requires.ahead, c.behind-others.ensures.knows)))),
      ),
    )

pub push_approvals-push_documents-requires : goal.push_approvals-push_documents-requires
push_approvals-push_documents-requires t c =
    let some = share_some c.args.walk.now.approvals.now c.args.walk.now.levels in
    (omega (arith, c.decreases, some), (c.requires.rest, (c.requires.approved, (c.requires.kept, (c.requires.sight, (c.requires.ahead, c.requires.knows))))))

pub push_documents-push_elements-requires : goal.push_documents-push_elements-requires
push_documents-push_elements-requires t c =
    let documents = c.args.walk.now.approvals.now in
    let levels = c.args.walk.now.levels in
    let sight = subst (λ (one : Client). IsSight one.sight) (sym c.or_kept.ensures) c.requires.sight in
    let document = c.document-item.result in
    let i = c.loop-index.index in
    let light = weight-lt-greatest documents i document c.loop-index-test.true in
    let lighter : weight document.closed.elements < greatest documents = subst (λ x. weight x.closed.elements < greatest documents) (sym c.document-item.is) light in
    let less = entered_lighter documents levels (weight document.closed.elements) (omega (arith, c.if-walk-eq0.false)) lighter in (
      omega (arith, less, c.decreases),
      (
        subst (λ x. HasFewBranches x.closed.elements) (sym c.document-item.is) (c.requires.approved i document c.loop-index-test.true),
        (c.requires.approved, (c.requires.kept, (sight, ((c.requires.rest, (c.requires.knows, c.requires.ahead)), c.start_of-start.ensures.knows document (slice_get_read documents (length documents) i document refl c.loop-index-test.true c.document-item.is))))),
      ),
    )

pub push_ahead-push_elements-requires : goal.push_ahead-push_elements-requires
push_ahead-push_elements-requires t c =
    let counts = rw c.in-After.is at c.requires.ahead in
    (omega (arith, rw c.in-After.is at c.decreases), (counts.0, (c.requires.approved, (c.requires.kept, (c.requires.sight, (counts.1.1, counts.1.0))))))

pub push_approvals-push_elements-requires : goal.push_approvals-push_elements-requires
push_approvals-push_elements-requires t c =
    let some = share_some c.args.walk.now.approvals.now c.args.walk.now.levels in
    (omega (arith, c.decreases, some), (c.requires.rest, (c.requires.approved, (c.requires.kept, (c.requires.sight, (c.requires.ahead, c.requires.knows))))))

pub push_documents-loop-index-preserved : goal.push_documents-loop-index-preserved
push_documents-loop-index-preserved t c =
    let client = client_of_lent c.args.walk.now.client.now in
    let documents = c.args.walk.now.approvals.now in
    let levels = c.args.walk.now.levels in
    let element = c.args.element.now in
    let behind = blocks_rest client documents levels c.args.rest.now c.args.after.digest c.args.ahead.now in
    let document = c.document-item.result in
    let i = c.loop-index.index in
    let blocks = c.loop-index.found.items in
    let level : levels ≢ 0 = c.if-walk-eq0.false in
    let next = next_left documents levels element i document c.loop-index-test.true c.document-item.is in
    elim c.match-approval.branch [
      | push_documents-in-Some+in_ok-push_elements w ↦ λ state h.
          let others = blocks_of client behind state (left documents levels element (i + 1)) in
          let inner = blocks_entered client behind documents levels element document (move_of w.in-Some.act) w.start_of-start.result.digest state level w.in-Some.ensures w.start_of-start.ensures.digest in
          c.loop-index.invariant state h
          ∙ ap (λ v. blocks ++ blocks_of client behind state v) next
          ∙ ap (λ l. blocks ++ l) (blocks_append client behind state (part documents levels element document) (left documents levels element (i + 1)))
          ∙ sym (append_assoc blocks (blocks_of client behind state (part documents levels element document)) others)
          ∙ ap (λ l. l ++ others) (ap (λ l. blocks ++ l) inner ∙ sym (w.in_ok-push_elements.ensures state h ∙ ap (λ (one : Client). blocks ++ blocks_of one (λ t. blocks_rest one documents levels c.args.rest.now c.args.after.digest c.args.ahead.now (track_after one t (move_of w.in-Some.act))) state (element_list_ways documents (levels - 1) document.closed.elements w.start_of-start.result.digest)) c.or_kept.ensures))
          ∙ ap (λ v. v.items ++ others) (sym w.found-is)
      | push_documents-in_default w ↦ λ state h.
          let others = blocks_of client behind state (left documents levels element (i + 1)) in
          c.loop-index.invariant state h
          ∙ ap (λ v. blocks ++ blocks_of client behind state v) next
          ∙ ap (λ o. blocks ++ blocks_of client behind state (paths_by_approval o document (document_paths documents levels document) ++ left documents levels element (i + 1))) (sym w.in_default.ensures)
          ∙ ap (λ v. v.items ++ others) (sym w.found-is)
    ]

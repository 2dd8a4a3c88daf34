use Rattle.std.proofs.Common.{◌≡◌, ◌≢◌, ℕ, ◌+◌, ◌-◌, ◌*◌, ◌<◌, ◌++◌, length, map, subst, sym, ap, ◌∙◌, refl, inl, inr, arith}
use Rattle.std.proofs.lemmas.Option.{slice_get_read}
use Rattle.tpol_tree.specs.declared.closed.ClosedBranch.{ClosedBranch}
use Rattle.tpol_tree.specs.declared.closed.ClosedElement.TheVariants as closed
use Rattle.tpol_tree.specs.declared.path.Move.TheVariants.{Assert, Or}
use Rattle.tpol_tree.specs.declared.path.PathStep.TheVariants.{Branch}
use Rattle.tpol_choose.specs.Few.{HasFewBranches, ElementHasFewBranches, BranchesHaveFewBranches}
use Rattle.tpol_digest.specs.Digest.{branch_digests, digest_at_element, or_digest}
use Rattle.tpol_digest.specs.Memos.{KnowsFirst}
use Rattle.tpol_digest.specs.Extent.{document_extent, extent_at}
use Rattle.tpol_digest.specs.Paths.{approved_paths, document_paths, empty_path, followed_by, outside_paths, paths_by_approval}
use Rattle.tpol_digest.specs.Positions.{path_of_step, element_list_ways, element_ways, branch_ways, approval_ways}
use Rattle.tpol_digest.proofs.Documents.{approved_none}
use Rattle.tpol_digest.proofs.Positions.{branches_closed, part}
use Rattle.tpol_digest.proofs.Weights.{weight, weight_of_element, weight_of_branches, greatest, weight-lt-greatest}
use Rattle.tpol_choose.specs.Acts.{move_of}
use Rattle.tpol_choose.specs.Ahead.{ways_ahead}
use Rattle.tpol_choose.specs.Clients.{Client}
use Rattle.tpol_choose.specs.Lent.{client_of_lent}
use Rattle.tpol_choose.specs.Searches.{search_ahead, search_rest, search_ways}
use Rattle.tpol_choose.specs.Tracks.{IsTrack, TrackState, after_first, track_after}
use Rattle.tpol_name.specs.Setups.{IsSight}
use Rattle.tpol_choose.proofs.Going.{along_nothing}
use Rattle.tpol_choose.proofs.Leads.{lead_few, lead_lighter, lead_search}
use Rattle.tpol_choose.proofs.Loads.{share, share_some, entered_lighter}
use Rattle.tpol_choose.proofs.SearchLaws.{ahead_hopeless, elements_hopeless, entered, found_first, left, next_left, none_left, outside_hopeless, passed_first, ways_by_move, ways_by_step, ways_one, ways_one_move, ways_product, ways_same}
use Rattle.tpol_choose.proofs.searching.+searching.Goals as goal
use Rattle.tpol_choose.proofs.searching.+searching.Goals.{search_documents-in-Some+in-Passed, search_documents-in_default}

-- ---- elements

pub search_elements-returns-then-is_hopeless : goal.search_elements-returns-then-is_hopeless
search_elements-returns-then-is_hopeless t c = λ state h.
    let client = client_of_lent c.args.walk.now.client.now in
    let documents = c.args.walk.now.approvals.now in
    let ahead = c.args.ahead.now in
    c.pass_over.ensures
    ∙ sym (elements_hopeless client documents (search_ahead client documents ahead) (ways_ahead documents ahead) (ahead_hopeless client documents ahead) c.args.walk.now.levels c.args.elements.now c.args.before.digest state c.args.passed (sym (c.is_hopeless.ensures state h) ∙ c.if-is_hopeless.true))

pub search_elements-returns-in-End : goal.search_elements-returns-in-End
search_elements-returns-in-End t c =
    let client = client_of_lent c.args.walk.now.client.now in
    let behind = search_ahead client c.args.walk.now.approvals.now c.args.ahead.now in
    rw c.in-End.is (λ state h. c.search_ahead.ensures state h ∙ ap (λ s. behind s c.args.passed) (along_nothing client state) ∙ sym (ways_one client behind state c.args.passed empty_path))

pub search_elements-returns-in-More : goal.search_elements-returns-in-More
search_elements-returns-in-More t c =
    let client = client_of_lent c.args.walk.now.client.now in
    let documents = c.args.walk.now.approvals.now in
    let levels = c.args.walk.now.levels in
    let d = c.args.before.digest in
    let element = c.in-More.element.value in
    let rest = c.in-More.rest.value in
    let ahead = c.args.ahead.now in
    rw c.in-More.is (λ state h.
    c.search_element.ensures state h
    ∙ ap (λ e. search_ways client (search_rest client documents levels c.deref-in-More.result.now (digest_at_element e d) ahead) state c.args.passed (element_ways documents levels e d)) c.deref.ensures
    ∙ ap (λ r. search_ways client (search_rest client documents levels r (digest_at_element element d) ahead) state c.args.passed (element_ways documents levels element d)) c.deref-in-More.ensures
    ∙ sym (ways_product client (search_ahead client documents ahead) state c.args.passed (element_ways documents levels element d) (element_list_ways documents levels rest (digest_at_element element d))))

-- ---- one element

pub search_element-returns-in-Assert : goal.search_element-returns-in-Assert
search_element-returns-in-Assert t c =
    let client = client_of_lent c.args.walk.now.client.now in
    let documents = c.args.walk.now.approvals.now in
    let levels = c.args.walk.now.levels in
    let rest = c.args.rest.now in
    let ahead = c.args.ahead.now in
    let passed = c.args.passed in
    let act = Assert c.in-Assert.assertion in
    let after = c.behind-after.ensures.digest ∙ ap (λ e. digest_at_element e c.args.before.digest) c.in-Assert.is in
    rw c.in-Assert.is (λ state h.
    c.search_elements.ensures (track_after client state act) (subst (λ a. IsTrack c.add.new.self (track_after client state (Assert a))) c.with_after-step.ensures (c.add.ensures state h))
    ∙ ap (λ d. search_ways client (search_ahead client documents ahead) (track_after client state act) passed (element_list_ways documents levels rest d)) after
    ∙ sym (ways_one_move client (search_rest client documents levels rest (digest_at_element (closed.Assert c.in-Assert.assertion) c.args.before.digest) ahead) state passed act))

pub search_element-returns-in-Or : goal.search_element-returns-in-Or
search_element-returns-in-Or t c = rw c.in-Or.is (λ state h. c.search_or.ensures state h)

pub search_element-returns-in-Authorize : goal.search_element-returns-in-Authorize
search_element-returns-in-Authorize t c = λ state h.
    let client = client_of_lent c.args.walk.now.client.now in
    let documents = c.args.walk.now.approvals.now in
    let levels = c.args.walk.now.levels in
    let rest = c.args.rest.now in
    let ahead = c.args.ahead.now in
    let passed = c.args.passed in
    let d = c.args.before.digest in
    let element = c.args.element.now in
    let same : approval_ways documents levels element ≡ element_ways documents levels element d = elim c.in-Authorize.is [
      | inl p ↦ subst (λ e. approval_ways documents levels e ≡ element_ways documents levels e d) (sym p.2) refl
      | inr q ↦ subst (λ e. approval_ways documents levels e ≡ element_ways documents levels e d) (sym q.1) refl
    ] in
    c.search_approvals.ensures state h
    ∙ ap (λ e. search_ways client (search_rest client documents levels rest e ahead) state passed (approval_ways documents levels element)) c.behind-after-in-Authorize.ensures.digest
    ∙ ap (search_ways client (search_rest client documents levels rest (digest_at_element element d) ahead) state passed) same

-- ---- an OR

pub search_or-returns : goal.search_or-returns
search_or-returns t c =
    let client = client_of_lent c.or_kept.result.now in
    let documents = c.args.walk.now.approvals.now in
    let levels = c.args.walk.now.levels in
    let rest = c.args.rest.now in
    let ahead = c.args.ahead.now in
    let passed = c.args.passed in
    let d = c.args.before.digest in
    let branches = c.args.branches.now in
    let digests = branch_digests branches d in
    let ways = branch_ways documents levels branches 1 d in
    let first = c.of-lead.result.first in
    let before = c.of-lead.result.before.digest in
    let begins = c.of-lead.result.rest.now in
    let behind = λ (s : TrackState) (m : ℕ). search_rest client documents levels begins before ahead (after_first client (track_after client s (Or c.with_after-or.result.digests.now)) first) m in
    let whole = λ (s : TrackState) (m : ℕ). search_rest client documents levels rest c.behind-after.result.digest ahead (track_after client s (Or c.with_after-or.result.digests.now)) m in
    let leads = λ (s : TrackState) (m : ℕ). lead_search client documents levels ahead (track_after client s (Or c.with_after-or.result.digests.now)) m first rest c.behind-after.result.digest begins before c.of-lead.ensures.lead in
    (λ state h.
    c.search_branches.ensures state 1 h
    ∙ ap (λ x. search_ways client behind state passed (branch_ways documents levels branches 1 x)) c.within-inner.ensures.digest
    ∙ ways_same client behind whole leads state passed ways
    ∙ ap (λ ds. search_ways client (λ s m. search_rest client documents levels rest c.behind-after.result.digest ahead (track_after client s (Or ds)) m) state passed ways) (c.with_after-or.ensures ∙ c.as_slice.ensures ∙ c.of-digests.ensures)
    ∙ ap (λ e. search_ways client (λ s m. search_rest client documents levels rest e ahead (track_after client s (Or digests)) m) state passed ways) (c.behind-after.ensures.digest ∙ ap or_digest c.of-digests.ensures)
    ∙ sym (ways_by_move client (search_rest client documents levels rest (or_digest digests) ahead) state passed (Or digests) ways)
    ∙ ap (search_ways client (search_rest client documents levels rest (or_digest digests) ahead) state passed) (branches_closed documents levels branches 1 (Or digests) d)
    ∙ ap (λ (one : Client). search_ways one (search_rest one documents levels rest (or_digest digests) ahead) state passed (element_ways documents levels (closed.Or branches) d)) c.or_kept.ensures)

-- ---- branches

pub search_branches-returns-in-End : goal.search_branches-returns-in-End
search_branches-returns-in-End t c = rw c.in-End.is (λ state position h. refl)

pub search_branches-returns-in-Found : goal.search_branches-returns-in-Found
search_branches-returns-in-Found t c =
    let client = client_of_lent c.args.walk.now.client.now in
    let documents = c.args.walk.now.approvals.now in
    let levels = c.args.walk.now.levels in
    let behind = search_ahead client documents c.args.ahead.now in
    let passed = c.args.passed in
    let d = c.args.before.digest in
    let branch = c.in-More.branch.value in
    let ways = element_list_ways documents levels branch.policy.elements d in
    rw c.in-More.is (λ state position h.
    let step = Branch position branch.name in
    let first = sym (c.search_elements.ensures state h ∙ ap (λ x. search_ways client behind state passed (element_list_ways documents levels c.deref.result.now.policy.elements x)) c.first-first.ensures.digest ∙ ap (λ (b : ClosedBranch). search_ways client behind state passed (element_list_ways documents levels b.policy.elements d)) c.deref.ensures) in
    sym (found_first client behind state passed c.in-Found.index (map (followed_by (path_of_step step)) ways) (branch_ways documents levels c.in-More.rest.value (position + 1) d) (ways_by_step client behind state passed step ways ∙ first ∙ c.in-Found.is)))

pub search_branches-returns-in-Passed : goal.search_branches-returns-in-Passed
search_branches-returns-in-Passed t c =
    let client = client_of_lent c.args.walk.now.client.now in
    let documents = c.args.walk.now.approvals.now in
    let levels = c.args.walk.now.levels in
    let behind = search_ahead client documents c.args.ahead.now in
    let passed = c.args.passed in
    let more = c.in-Passed.more in
    let d = c.args.before.digest in
    let branch = c.in-More.branch.value in
    let rest = c.in-More.rest.value in
    let ways = element_list_ways documents levels branch.policy.elements d in
    rw c.in-More.is (λ state position h.
    let step = Branch position branch.name in
    let first = sym (c.search_elements.ensures state h ∙ ap (λ x. search_ways client behind state passed (element_list_ways documents levels c.deref.result.now.policy.elements x)) c.first-first.ensures.digest ∙ ap (λ (b : ClosedBranch). search_ways client behind state passed (element_list_ways documents levels b.policy.elements d)) c.deref.ensures) in
    c.search_branches.ensures state (position + 1) h
    ∙ ap (λ x. search_ways client behind state more (branch_ways documents levels c.deref-rest.result.now (position + 1) x)) c.behind-others.ensures.digest
    ∙ ap (λ r. search_ways client behind state more (branch_ways documents levels r (position + 1) d)) c.deref-rest.ensures
    ∙ sym (passed_first client behind state passed more (map (followed_by (path_of_step step)) ways) (branch_ways documents levels rest (position + 1) d) (ways_by_step client behind state passed step ways ∙ first ∙ c.in-Passed.is)))

-- ---- approvals

pub search_approvals-returns-in-Found : goal.search_approvals-returns-in-Found
search_approvals-returns-in-Found t c = λ state h.
    let client = client_of_lent c.args.walk.now.client.now in
    let documents = c.args.walk.now.approvals.now in
    let levels = c.args.walk.now.levels in
    let element = c.args.element.now in
    let behind = search_rest client documents levels c.args.rest.now c.args.after.digest c.args.ahead.now in
    sym (found_first client behind state c.args.passed c.in-Found.index (approved_paths (document_paths documents levels) documents element) (outside_paths element) (sym (c.search_documents.ensures state h) ∙ c.in-Found.is))

pub search_approvals-returns-in-Passed : goal.search_approvals-returns-in-Passed
search_approvals-returns-in-Passed t c = λ state h.
    let client = client_of_lent c.args.walk.now.client.now in
    let documents = c.args.walk.now.approvals.now in
    let levels = c.args.walk.now.levels in
    let element = c.args.element.now in
    let rest = c.args.rest.now in
    let ahead = c.args.ahead.now in
    let behind = search_rest client documents levels rest c.args.after.digest ahead in
    let left_out = (extent_at (document_extent documents levels) documents rest).paths * ways_ahead documents ahead in
    c.pass_over.ensures
    ∙ sym (passed_first client behind state c.args.passed c.in-Passed.more (approved_paths (document_paths documents levels) documents element) (outside_paths element) (sym (c.search_documents.ensures state h) ∙ c.in-Passed.is)
    ∙ outside_hopeless client documents behind left_out (λ s m lost. elements_hopeless client documents (search_ahead client documents ahead) (ways_ahead documents ahead) (ahead_hopeless client documents ahead) levels rest c.args.after.digest s m lost) element state c.in-Passed.more c.requires.asks)

-- ---- documents

pub search_documents-returns-then-walk-eq0 : goal.search_documents-returns-then-walk-eq0
search_documents-returns-then-walk-eq0 t c = λ state h.
    let client = client_of_lent c.args.walk.now.client.now in
    let documents = c.args.walk.now.approvals.now in
    let element = c.args.element.now in
    let behind = search_rest client documents c.args.walk.now.levels c.args.rest.now c.args.after.digest c.args.ahead.now in
    sym (ap (search_ways client behind state c.args.passed) (ap (λ n. approved_paths (document_paths documents n) documents element) c.if-walk-eq0.true ∙ approved_none documents documents element))

pub search_documents-loop-index-init : goal.search_documents-loop-index-init
search_documents-loop-index-init t c = λ state h. refl

pub search_documents-returns-in-Found : goal.search_documents-returns-in-Found
search_documents-returns-in-Found t c = λ state h.
    let client = client_of_lent c.args.walk.now.client.now in
    let documents = c.args.walk.now.approvals.now in
    let levels = c.args.walk.now.levels in
    let element = c.args.element.now in
    let behind = search_rest client documents levels c.args.rest.now c.args.after.digest c.args.ahead.now in
    let document = c.document-item.result in
    let i = c.loop-index.index in
    let so_far = c.loop-index.so_far in
    let level : levels ≢ 0 = c.if-walk-eq0.false in
    let inner = entered client behind documents levels element document (move_of c.in-Some.act) c.start_of-start.result.digest state so_far c.search_elements.result level c.in-Some.ensures c.start_of-start.ensures.digest (c.search_elements.ensures state h ∙ ap (λ (one : Client). search_ways one (λ t m. search_rest one documents levels c.args.rest.now c.args.after.digest c.args.ahead.now (track_after one t (move_of c.in-Some.act)) m) state so_far (element_list_ways documents (levels - 1) document.closed.elements c.start_of-start.result.digest)) c.or_kept.ensures) in
    sym (c.loop-index.invariant state h
    ∙ ap (search_ways client behind state so_far) (next_left documents levels element i document c.loop-index-test.true c.document-item.is)
    ∙ found_first client behind state so_far c.in-Found.index (part documents levels element document) (left documents levels element (i + 1)) (inner ∙ c.in-Found.is))

pub search_documents-loop-index-preserved : goal.search_documents-loop-index-preserved
search_documents-loop-index-preserved t c =
    let client = client_of_lent c.args.walk.now.client.now in
    let documents = c.args.walk.now.approvals.now in
    let levels = c.args.walk.now.levels in
    let element = c.args.element.now in
    let behind = search_rest client documents levels c.args.rest.now c.args.after.digest c.args.ahead.now in
    let document = c.document-item.result in
    let i = c.loop-index.index in
    let so_far = c.loop-index.so_far in
    let level : levels ≢ 0 = c.if-walk-eq0.false in
    let next = next_left documents levels element i document c.loop-index-test.true c.document-item.is in
    elim c.match-approval.branch [
      | search_documents-in-Some+in-Passed w ↦ λ state h.
          let inner = entered client behind documents levels element document (move_of w.in-Some.act) w.start_of-start.result.digest state so_far w.search_elements.result level w.in-Some.ensures w.start_of-start.ensures.digest (w.search_elements.ensures state h ∙ ap (λ (one : Client). search_ways one (λ t m. search_rest one documents levels c.args.rest.now c.args.after.digest c.args.ahead.now (track_after one t (move_of w.in-Some.act)) m) state so_far (element_list_ways documents (levels - 1) document.closed.elements w.start_of-start.result.digest)) c.or_kept.ensures) in
          c.loop-index.invariant state h
          ∙ ap (search_ways client behind state so_far) next
          ∙ passed_first client behind state so_far w.in-Passed.more (part documents levels element document) (left documents levels element (i + 1)) (inner ∙ w.in-Passed.is)
          ∙ ap (λ n. search_ways client behind state n (left documents levels element (i + 1))) (sym w.so_far-is)
      | search_documents-in_default w ↦ λ state h.
          c.loop-index.invariant state h
          ∙ ap (search_ways client behind state so_far) next
          ∙ ap (λ o. search_ways client behind state so_far (paths_by_approval o document (document_paths documents levels document) ++ left documents levels element (i + 1))) (sym w.in_default.ensures)
          ∙ ap (λ n. search_ways client behind state n (left documents levels element (i + 1))) (sym w.so_far-is)
    ]

pub search_documents-returns : goal.search_documents-returns
search_documents-returns t c = λ state h.
    let client = client_of_lent c.args.walk.now.client.now in
    let documents = c.args.walk.now.approvals.now in
    let levels = c.args.walk.now.levels in
    let behind = search_rest client documents levels c.args.rest.now c.args.after.digest c.args.ahead.now in
    sym (c.loop-index.invariant state h
    ∙ ap (search_ways client behind state c.loop-index.so_far) (none_left documents levels c.args.element.now c.loop-index.index (omega (arith, c.loop-index-test.false))))

-- ---- what comes behind

pub search_ahead-returns-in-Nothing : goal.search_ahead-returns-in-Nothing
search_ahead-returns-in-Nothing t c = rw c.in-Nothing.is (λ state h. c.search_end.ensures state h)

pub search_ahead-returns-in-After : goal.search_ahead-returns-in-After
search_ahead-returns-in-After t c =
    let client = client_of_lent c.args.walk.now.client.now in
    rw c.in-After.is (λ state h.
    let closed = track_after client state (move_of c.in-After.act) in
    c.search_elements.ensures (after_first client closed c.in-After.first) (c.add_first.ensures closed (c.add.ensures state h)))

-- ---- the end, and what the calls ask for

pub search_elements-search_ahead-requires : goal.search_elements-search_ahead-requires
search_elements-search_ahead-requires t c =
    let some = share_some c.args.walk.now.approvals.now c.args.walk.now.levels in
    (omega (arith, rw c.in-End.is at c.decreases, some), (c.requires.approved, (c.requires.kept, (c.requires.sight, c.requires.ahead))))

pub search_elements-search_element-requires : goal.search_elements-search_element-requires
search_elements-search_element-requires t c =
    let s = share c.args.walk.now.approvals.now c.args.walk.now.levels in
    let some = share_some c.args.walk.now.approvals.now c.args.walk.now.levels in
    let first = ap (λ e. weight_of_element e * s) c.deref.ensures in
    let rest = ap (λ e. weight e * s) c.deref-in-More.ensures in
    let knows = subst (λ e. KnowsFirst c.args.before e c.deref-in-More.result.now) (sym c.deref.ensures) (subst (KnowsFirst c.args.before c.in-More.element.value) (sym c.deref-in-More.ensures) (rw c.in-More.is at c.requires.knows)) in
    let counts = rw c.in-More.is at c.requires.branches in (
      omega (arith, rw c.in-More.is at c.decreases, first, rest, some),
      (
        subst ElementHasFewBranches (sym c.deref.ensures) counts.0,
        (
          subst HasFewBranches (sym c.deref-in-More.ensures) counts.1,
          (c.requires.approved, (c.requires.kept, (c.requires.sight, (c.requires.ahead, knows)))),
        ),
      ),
    )

pub search_element-search_elements-requires : goal.search_element-search_elements-requires
search_element-search_elements-requires t c =
    let some = share_some c.args.walk.now.approvals.now c.args.walk.now.levels in
    (omega (arith, rw c.in-Assert.is at c.decreases, some), (c.requires.rest, (c.requires.approved, (c.requires.kept, (c.requires.sight, (c.requires.ahead, c.behind-after.ensures.knows))))))

pub search_element-search_or-requires : goal.search_element-search_or-requires
search_element-search_or-requires t c =
    let some = share_some c.args.walk.now.approvals.now c.args.walk.now.levels in
    (omega (arith, rw c.in-Or.is at c.decreases, some), (c.in-Or.is, (rw c.in-Or.is at c.requires.branches, (c.requires.rest, (c.requires.approved, (c.requires.kept, (c.requires.sight, (c.requires.ahead, rw c.in-Or.is at c.requires.knows))))))))

pub search_or-search_branches-requires : goal.search_or-search_branches-requires
search_or-search_branches-requires t c =
    let some = share_some c.args.walk.now.approvals.now c.args.walk.now.levels in
    let sight = subst (λ (one : Client). IsSight one.sight) (sym c.or_kept.ensures) c.requires.sight in
    let counts = c.requires.branches in
    let lead = c.of-lead.result in
    let lighter = lead_lighter (share c.args.walk.now.approvals.now c.args.walk.now.levels) lead.first c.args.rest.now c.behind-after.result.digest lead.rest.now lead.before.digest c.of-lead.ensures.lead in
    let few = lead_few lead.first c.args.rest.now c.behind-after.result.digest lead.rest.now lead.before.digest c.of-lead.ensures.lead c.requires.rest in
    (omega (arith, c.decreases, some, lighter), (counts.1, (c.requires.approved, (c.requires.kept, (sight, ((few, (c.of-lead.ensures.knows, c.requires.ahead)), c.within-inner.ensures.knows))))))

pub search_element-search_approvals-requires : goal.search_element-search_approvals-requires
search_element-search_approvals-requires t c =
    let some = share_some c.args.walk.now.approvals.now c.args.walk.now.levels in
    elim c.in-Authorize.is [
      | inl p ↦ (
        omega (arith, rw p.2 at c.decreases, some),
        (
          subst (λ e. length (outside_paths e) ≡ 1) (sym p.2) refl,
          (c.requires.rest, (c.requires.approved, (c.requires.kept, (c.requires.sight, (c.requires.ahead, c.behind-after-in-Authorize.ensures.knows))))),
        ),
      )
      | inr q ↦ (
        omega (arith, rw q.1 at c.decreases, some),
        (
          subst (λ e. length (outside_paths e) ≡ 1) (sym q.1) refl,
          (c.requires.rest, (c.requires.approved, (c.requires.kept, (c.requires.sight, (c.requires.ahead, c.behind-after-in-Authorize.ensures.knows))))),
        ),
      )
    ]

pub search_branches-search_elements-requires : goal.search_branches-search_elements-requires
search_branches-search_elements-requires t c =
    let s = share c.args.walk.now.approvals.now c.args.walk.now.levels in
    let some = share_some c.args.walk.now.approvals.now c.args.walk.now.levels in
    let same = ap (λ (b : ClosedBranch). weight b.policy.elements * s) c.deref.ensures in
    let counts = rw c.in-More.is at c.requires.branches in (
      omega (arith, rw c.in-More.is at c.decreases, same, some),
      (
        subst (λ (b : ClosedBranch). HasFewBranches b.policy.elements) (sym c.deref.ensures) counts.0,
        (c.requires.approved, (c.requires.kept, (c.requires.sight, (c.requires.ahead, c.first-first.ensures.knows)))),
      ),
    )

pub search_branches-search_branches-requires : goal.search_branches-search_branches-requires
search_branches-search_branches-requires t c =
    let s = share c.args.walk.now.approvals.now c.args.walk.now.levels in
    let some = share_some c.args.walk.now.approvals.now c.args.walk.now.levels in
    let same = ap (λ b. weight_of_branches b * s) c.deref-rest.ensures in
    let counts = rw c.in-More.is at c.requires.branches in (
      omega (arith, rw c.in-More.is at c.decreases, same, some),
      (
        subst BranchesHaveFewBranches (sym c.deref-rest.ensures) counts.1,
        (c.requires.approved, (c.requires.kept, (c.requires.sight, (c.requires.ahead, c.behind-others.ensures.knows)))),
      ),
    )

pub search_approvals-search_documents-requires : goal.search_approvals-search_documents-requires
search_approvals-search_documents-requires t c =
    let some = share_some c.args.walk.now.approvals.now c.args.walk.now.levels in
    (omega (arith, c.decreases, some), (c.requires.rest, (c.requires.approved, (c.requires.kept, (c.requires.sight, (c.requires.ahead, c.requires.knows))))))

pub search_documents-search_elements-requires : goal.search_documents-search_elements-requires
search_documents-search_elements-requires t c =
    let documents = c.args.walk.now.approvals.now in
    let levels = c.args.walk.now.levels in
    let sight = subst (λ (one : Client). IsSight one.sight) (sym c.or_kept.ensures) c.requires.sight in
    let document = c.document-item.result in
    let i = c.loop-index.index in
    let light = weight-lt-greatest documents i document c.loop-index-test.true in
    let lighter : weight document.closed.elements < greatest documents = subst (λ x. weight x.closed.elements < greatest documents) (sym c.document-item.is) light in
    let less = entered_lighter documents levels (weight document.closed.elements) (omega (arith, c.if-walk-eq0.false)) lighter in (
      omega (arith, less, c.decreases),
      (
        subst (λ x. HasFewBranches x.closed.elements) (sym c.document-item.is) (c.requires.approved i document c.loop-index-test.true),
        (c.requires.approved, (c.requires.kept, (sight, ((c.requires.rest, (c.requires.knows, c.requires.ahead)), c.start_of-start.ensures.knows document (slice_get_read documents (length documents) i document refl c.loop-index-test.true c.document-item.is))))),
      ),
    )

pub search_ahead-search_elements-requires : goal.search_ahead-search_elements-requires
search_ahead-search_elements-requires t c =
    let counts = rw c.in-After.is at c.requires.ahead in
    (omega (arith, rw c.in-After.is at c.decreases), (counts.0, (c.requires.approved, (c.requires.kept, (c.requires.sight, (counts.1.1, counts.1.0))))))

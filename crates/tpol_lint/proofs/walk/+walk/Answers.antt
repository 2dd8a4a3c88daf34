use Rattle.std.proofs.Common.{◌≡◌, ◌≢◌, ◌+◌, ◌-◌, ◌*◌, ◌<◌, ◌++◌, [], ◌∷◌, map, take, subst, sym, ap, ◌∙◌, arith}
use Rattle.std.proofs.lemmas.List.{append-nil, take_all}
use Rattle.std.proofs.lemmas.Result.{on_ok_weaker}
use Rattle.tpol_tree.specs.declared.closed.ClosedBranch.{ClosedBranch}
use Rattle.tpol_tree.specs.declared.closed.ClosedElement.TheVariants as elements
use Rattle.tpol_tree.specs.declared.path.Move.TheVariants.{Assert}
use Rattle.tpol_tree.specs.declared.path.PathStep.TheVariants.{Branch, Outside}
use Rattle.tpol_digest.proofs.Images.{both-append, both-one, both_assoc, both-closed, both-first_none, of_more, of_assertion, of_or, of_key, of_index, documents_more, document_entered, document_passed, no_documents}
use Rattle.tpol_digest.proofs.Shares.{share, share_some, entered_lighter}
use Rattle.tpol_digest.proofs.Weights.{weight, weight_of_element, weight_of_branches, greatest, weight-lt-greatest}
use Rattle.tpol_digest.specs.Images.{both, documents_images, document_images}
use Rattle.tpol_lint.proofs.TraceLaws.{finds_behind, finds_nothing, finds_then, inside_branch, traces}
use Rattle.tpol_lint.specs.Traces.{Finds, approval_traces, branch_traces, closing_trace, element_list_traces, element_traces, join, move_trace, step_trace, trace_of, traces_ahead}
use Rattle.tpol_lint.proofs.walk.+walk.Goals as goal
use Rattle.tpol_lint.proofs.walk.+walk.Goals.{find_in_approvals-then-accepts+in_ok-find_in_elements, find_in_approvals-else-accepts, find_in_approvals-then-scope-gt0+else-loop-document-test, find_in_approvals-else-scope-gt0}

-- ---- the end

pub find_ahead-find_in_elements-requires : goal.find_ahead-find_in_elements-requires
find_ahead-find_in_elements-requires t c = (omega (arith, rw c.in-After.is at c.decreases), tt)

pub find_in_approvals-find_in_elements-requires : goal.find_in_approvals-find_in_elements-requires
find_in_approvals-find_in_elements-requires t c =
    let documents = c.args.scope.now.approvals.now in
    let document = c.document-item.result in
    let light = weight-lt-greatest documents c.loop-document.document-index document c.loop-document-test.true in
    let lighter : weight document.closed.elements < greatest documents = subst (λ x. weight x.closed.elements < greatest documents) (sym c.document-item.is) light in
    (omega (arith, entered_lighter documents c.args.scope.now.levels (weight document.closed.elements) (omega (arith, c.if-scope-gt0.true)) lighter, c.decreases), tt)

pub find_in_approvals-find_ahead-requires : goal.find_in_approvals-find_ahead-requires
find_in_approvals-find_ahead-requires t c =
    (omega (arith, c.decreases, share_some c.args.scope.now.approvals.now c.args.scope.now.levels), tt)

pub find_in_elements-find_ahead-requires : goal.find_in_elements-find_ahead-requires
find_in_elements-find_ahead-requires t c =
    (omega (arith, rw c.in-End.is at c.decreases, share_some c.args.scope.now.approvals.now c.args.scope.now.levels), tt)

pub find_in_branches-find_in_elements-requires : goal.find_in_branches-find_in_elements-requires
find_in_branches-find_in_elements-requires t c =
    let s = share c.args.scope.now.approvals.now c.args.scope.now.levels in
    let same = ap (λ (b : ClosedBranch). weight b.policy.elements * s) c.deref.ensures in
    (omega (arith, rw c.in-More.is at c.decreases, same, share_some c.args.scope.now.approvals.now c.args.scope.now.levels), tt)

pub find_in_branches-find_in_branches-requires : goal.find_in_branches-find_in_branches-requires
find_in_branches-find_in_branches-requires t c =
    let s = share c.args.scope.now.approvals.now c.args.scope.now.levels in
    let same = ap (λ b. weight_of_branches b * s) c.deref-in-More.ensures in
    (omega (arith, rw c.in-More.is at c.decreases, same, share_some c.args.scope.now.approvals.now c.args.scope.now.levels), tt)

pub find_in_elements-find_in_elements-requires : goal.find_in_elements-find_in_elements-requires
find_in_elements-find_in_elements-requires t c =
    let s = share c.args.scope.now.approvals.now c.args.scope.now.levels in
    let rest = ap (λ e. weight e * s) c.deref-in-Assert.ensures in
    (omega (arith, rw c.in-More.is at c.decreases, rest, share_some c.args.scope.now.approvals.now c.args.scope.now.levels), tt)

pub find_in_elements-find_in_branches-requires : goal.find_in_elements-find_in_branches-requires
find_in_elements-find_in_branches-requires t c =
    let s = share c.args.scope.now.approvals.now c.args.scope.now.levels in
    let first = ap (λ e. weight_of_element e * s) (sym c.deref-in-More.ensures ∙ c.in-Or.is) in
    let rest = ap (λ e. weight e * s) c.deref.ensures in
    (omega (arith, rw c.in-More.is at c.decreases, first, rest, share_some c.args.scope.now.approvals.now c.args.scope.now.levels), tt)

pub find_in_elements-find_in_approvals-requires : goal.find_in_elements-find_in_approvals-requires
find_in_elements-find_in_approvals-requires t c =
    let s = share c.args.scope.now.approvals.now c.args.scope.now.levels in
    let first = ap (λ e. weight_of_element e * s) (sym c.deref-in-More.ensures ∙ c.in-Authorize.is) in
    let rest = ap (λ e. weight e * s) c.deref.ensures in
    (omega (arith, rw c.in-More.is at c.decreases, first, rest, share_some c.args.scope.now.approvals.now c.args.scope.now.levels), tt)

pub find_in_elements-find_in_approvals-requires-in-AuthorizeNv : goal.find_in_elements-find_in_approvals-requires-in-AuthorizeNv
find_in_elements-find_in_approvals-requires-in-AuthorizeNv t c =
    let s = share c.args.scope.now.approvals.now c.args.scope.now.levels in
    let first = ap (λ e. weight_of_element e * s) (sym c.deref-in-More.ensures ∙ c.in-AuthorizeNv.is) in
    let rest = ap (λ e. weight e * s) c.deref.ensures in
    (omega (arith, rw c.in-More.is at c.decreases, first, rest, share_some c.args.scope.now.approvals.now c.args.scope.now.levels), tt)

-- ---- what is found

pub find_ahead-returns-in_ok-after_closing-in-After : goal.find_ahead-returns-in_ok-after_closing-in-After
find_ahead-returns-in_ok-after_closing-in-After t c = record {
  finds = λ before h.
      rw c.in-After.is
      (on_ok_weaker c.find_in_elements.result (λ g. finds_behind c.args.finder.now c.find_in_elements.new.finder before closing_trace _ g)
      (c.find_in_elements.ensures.finds (join before closing_trace) (c.in_ok-after_closing-in-After.ensures.longer before h)));
}

pub find_in_approvals-loop-document-init : goal.find_in_approvals-loop-document-init
find_in_approvals-loop-document-init t c = λ before h. finds_nothing c.args.finder.now before

pub find_in_approvals-loop-document-preserved : goal.find_in_approvals-loop-document-preserved
find_in_approvals-loop-document-preserved t c before h =
    let documents = c.args.scope.now.approvals.now in
    let levels = c.args.scope.now.levels in
    let element = c.args.element.now in
    let document = c.document-item.result in
    let i = c.loop-document.document-index in
    let ahead = traces_ahead documents c.args.ahead.now in
    let level : levels ≢ 0 = omega (arith, c.if-scope-gt0.true) in
    let done = documents_images trace_of join step_trace documents levels element (take i documents) in
    let wanted = both join (documents_images trace_of join step_trace documents levels element (take (i + 1) documents)) ahead in
    let more = documents_more traces documents levels element i document c.loop-document-test.true c.document-item.is in
    elim c.if-accepts.branch [
      | find_in_approvals-then-accepts+in_ok-find_in_elements w ↦
          let inner = element_list_traces documents (levels - 1) document.closed.elements in
          let entered = document_entered traces documents levels element document level (sym c.accepts.ensures ∙ w.if-accepts.true) in
          let same : both join done ahead ++ both join inner ahead ≡ wanted =
          ap (λ l. both join done ahead ++ l) (sym (inside_branch inner ahead) ∙ ap (λ l. both join l ahead) (sym entered))
          ∙ sym (both-append traces done (document_images trace_of join step_trace documents levels element document) ahead)
          ∙ ap (λ l. both join l ahead) (sym more) in
          subst (λ f. Finds c.args.finder.now f before wanted) (sym w.finder-is)
          (subst (Finds c.args.finder.now w.find_in_elements.new.finder before) same
          (finds_then c.args.finder.now c.loop-document.finder w.find_in_elements.new.finder before (both join done ahead) (both join inner ahead)
          (c.loop-document.invariant before h) (w.in_ok-find_in_elements.ensures.finds before h)))
      | find_in_approvals-else-accepts w ↦
          let passed = document_passed traces documents levels element document (sym c.accepts.ensures ∙ w.if-accepts.false) in
          let same : both join done ahead ≡ wanted = ap (λ l. both join l ahead) (sym (append-nil done) ∙ ap (λ l. done ++ l) (sym passed) ∙ sym more) in
          subst (λ f. Finds c.args.finder.now f before wanted) (sym w.finder-is)
          (subst (Finds c.args.finder.now c.loop-document.finder before) same (c.loop-document.invariant before h))
    ]

pub find_in_approvals-returns : goal.find_in_approvals-returns
find_in_approvals-returns t c = record {
  finds = λ before h.
      let documents = c.args.scope.now.approvals.now in
      let levels = c.args.scope.now.levels in
      let element = c.args.element.now in
      let ahead = traces_ahead documents c.args.ahead.now in
      let whole = documents_images trace_of join step_trace documents levels element documents in
      let first : Finds c.args.finder.now c.if-scope-gt0.finder before (both join whole ahead) =
      elim c.if-scope-gt0.branch [
        | find_in_approvals-then-scope-gt0+else-loop-document-test w ↦
            subst (λ f. Finds c.args.finder.now f before (both join whole ahead)) (sym w.finder-is)
            (subst (λ l. Finds c.args.finder.now w.loop-document.finder before (both join (documents_images trace_of join step_trace documents levels element l) ahead))
            (take_all w.loop-document.document-index documents w.loop-document-test.false) (w.loop-document.invariant before h))
        | find_in_approvals-else-scope-gt0 w ↦
            subst (λ f. Finds c.args.finder.now f before (both join whole ahead)) (sym w.finder-is)
            (subst (Finds c.args.finder.now c.args.finder.now before) (ap (λ l. both join l ahead) (sym (no_documents traces documents levels element w.if-scope-gt0.false))) (finds_nothing c.args.finder.now before))
      ] in
      let same : both join whole ahead ++ map (join (step_trace Outside)) ahead ≡ both join (approval_traces documents levels element) ahead =
      ap (λ l. both join whole ahead ++ l) (sym (both-one traces (step_trace Outside) ahead)) ∙ sym (both-append traces whole (step_trace Outside ∷ []) ahead) in
      on_ok_weaker c.find_ahead.result
      (λ g. subst (Finds c.args.finder.now c.find_ahead.new.finder before) same
      (finds_then c.args.finder.now c.if-scope-gt0.finder c.find_ahead.new.finder before (both join whole ahead) (map (join (step_trace Outside)) ahead) first
      (finds_behind c.if-scope-gt0.finder c.find_ahead.new.finder before (step_trace Outside) ahead g)))
      (c.find_ahead.ensures.finds (join before (step_trace Outside)) (c.by_outside.ensures.longer before h));
}

pub find_in_branches-returns-in_ok-find_in_elements-in-More : goal.find_in_branches-returns-in_ok-find_in_elements-in-More
find_in_branches-returns-in_ok-find_in_elements-in-More t c = record {
  finds = λ before h.
      let documents = c.args.scope.now.approvals.now in
      let levels = c.args.scope.now.levels in
      let branch = c.in-More.branch.value in
      let rest = c.in-More.rest.value in
      let ahead = traces_ahead documents c.args.ahead.now in
      let inner = element_list_traces documents levels branch.policy.elements in
      let first : Finds c.args.finder.now c.find_in_elements.new.finder before (both join inner ahead) =
      subst (λ (b : ClosedBranch). Finds c.args.finder.now c.find_in_elements.new.finder before (both join (element_list_traces documents levels b.policy.elements) ahead)) c.deref.ensures
      (c.in_ok-find_in_elements-in-More.ensures.finds before h) in
      let same : both join inner ahead ++ both join (branch_traces documents levels rest) ahead ≡ both join (map (join (step_trace (Branch 1 branch.name))) inner ++ branch_traces documents levels rest) ahead =
      ap (λ l. l ++ both join (branch_traces documents levels rest) ahead) (sym (inside_branch inner ahead)) ∙ sym (both-append traces (map (join (step_trace (Branch 1 branch.name))) inner) (branch_traces documents levels rest) ahead) in
      rw c.in-More.is
      (on_ok_weaker c.find_in_branches.result
      (λ g. subst (Finds c.args.finder.now c.find_in_branches.new.finder before) same
      (finds_then c.args.finder.now c.find_in_elements.new.finder c.find_in_branches.new.finder before (both join inner ahead) (both join (branch_traces documents levels rest) ahead) first
      (subst (λ r. Finds c.find_in_elements.new.finder c.find_in_branches.new.finder before (both join (branch_traces documents levels r) ahead)) c.deref-in-More.ensures g)))
      (c.find_in_branches.ensures.finds before h));
}

pub find_in_elements-returns-in-End : goal.find_in_elements-returns-in-End
find_in_elements-returns-in-End t c = record {
  finds = λ before h.
      let ahead = traces_ahead c.args.scope.now.approvals.now c.args.ahead.now in
      rw c.in-End.is
      (on_ok_weaker c.find_ahead.result (λ g. subst (Finds c.args.finder.now c.find_ahead.new.finder before) (sym (both-first_none traces ahead)) g)
      (c.find_ahead.ensures.finds before h));
}

pub find_in_elements-returns-in_ok-after-in-Assert : goal.find_in_elements-returns-in_ok-after-in-Assert
find_in_elements-returns-in_ok-after-in-Assert t c = record {
  finds = λ before h.
      let documents = c.args.scope.now.approvals.now in
      let levels = c.args.scope.now.levels in
      let element = c.in-More.element.value in
      let rest = c.in-More.rest.value in
      let ahead = traces_ahead documents c.args.ahead.now in
      let act = Assert c.in-Assert.assertion in
      let behind = both join (element_list_traces documents levels rest) ahead in
      let is : element ≡ elements.Assert c.in-Assert.assertion = sym c.deref-in-More.ensures ∙ c.in-Assert.is in
      let same : map (join (move_trace act)) behind ≡ both join (element_list_traces documents levels c.args.elements.now) ahead =
      sym (both-one traces (move_trace act) behind)
      ∙ ap (λ l. both join l behind) (sym (of_assertion traces documents levels c.in-Assert.assertion) ∙ ap (element_traces documents levels) (sym is))
      ∙ sym (both_assoc traces (element_traces documents levels element) (element_list_traces documents levels rest) ahead)
      ∙ ap (λ l. both join l ahead) (sym (of_more traces documents levels element rest))
      ∙ ap (λ e. both join (element_list_traces documents levels e) ahead) (sym c.in-More.is) in
      on_ok_weaker c.find_in_elements.result
      (λ g. subst (Finds c.args.finder.now c.find_in_elements.new.finder before) same
      (finds_behind c.args.finder.now c.find_in_elements.new.finder before (move_trace act) behind
      (subst (λ e. Finds c.args.finder.now c.find_in_elements.new.finder (join before (move_trace act)) (both join (element_list_traces documents levels e) ahead)) c.deref-in-Assert.ensures g)))
      (c.find_in_elements.ensures.finds (join before (move_trace act)) (c.in_ok-after-in-Assert.ensures.longer before h));
}

pub find_in_elements-returns-in-Or : goal.find_in_elements-returns-in-Or
find_in_elements-returns-in-Or t c = record {
  finds = λ before h.
      let documents = c.args.scope.now.approvals.now in
      let levels = c.args.scope.now.levels in
      let element = c.in-More.element.value in
      let rest = c.in-More.rest.value in
      let ahead = traces_ahead documents c.args.ahead.now in
      let behind = both join (element_list_traces documents levels rest) ahead in
      let inner = branch_traces documents levels c.in-Or.branches in
      let is : element ≡ elements.Or c.in-Or.branches = sym c.deref-in-More.ensures ∙ c.in-Or.is in
      let same : both join inner (map (join closing_trace) behind) ≡ both join (element_list_traces documents levels c.args.elements.now) ahead =
      sym (both-closed traces closing_trace inner behind)
      ∙ ap (λ l. both join l behind) (sym (of_or traces documents levels c.in-Or.branches) ∙ ap (element_traces documents levels) (sym is))
      ∙ sym (both_assoc traces (element_traces documents levels element) (element_list_traces documents levels rest) ahead)
      ∙ ap (λ l. both join l ahead) (sym (of_more traces documents levels element rest))
      ∙ ap (λ e. both join (element_list_traces documents levels e) ahead) (sym c.in-More.is) in
      on_ok_weaker c.find_in_branches.result
      (λ g. subst (Finds c.args.finder.now c.find_in_branches.new.finder before) same
      (subst (λ e. Finds c.args.finder.now c.find_in_branches.new.finder before (both join inner (map (join closing_trace) (both join (element_list_traces documents levels e) ahead)))) c.deref.ensures g))
      (c.find_in_branches.ensures.finds before h);
}

pub find_in_elements-returns-in-Authorize : goal.find_in_elements-returns-in-Authorize
find_in_elements-returns-in-Authorize t c = record {
  finds = λ before h.
      let documents = c.args.scope.now.approvals.now in
      let levels = c.args.scope.now.levels in
      let element = c.in-More.element.value in
      let rest = c.in-More.rest.value in
      let ahead = traces_ahead documents c.args.ahead.now in
      let behind = both join (element_list_traces documents levels rest) ahead in
      let is : element ≡ elements.Authorize c.in-Authorize.key c.in-Authorize.policy_ref = sym c.deref-in-More.ensures ∙ c.in-Authorize.is in
      let same : both join (approval_traces documents levels element) (map (join closing_trace) behind) ≡ both join (element_list_traces documents levels c.args.elements.now) ahead =
      ap (λ e. both join (approval_traces documents levels e) (map (join closing_trace) behind)) is
      ∙ sym (both-closed traces closing_trace (approval_traces documents levels (elements.Authorize c.in-Authorize.key c.in-Authorize.policy_ref)) behind)
      ∙ ap (λ l. both join l behind) (sym (of_key traces documents levels c.in-Authorize.key c.in-Authorize.policy_ref) ∙ ap (element_traces documents levels) (sym is))
      ∙ sym (both_assoc traces (element_traces documents levels element) (element_list_traces documents levels rest) ahead)
      ∙ ap (λ l. both join l ahead) (sym (of_more traces documents levels element rest))
      ∙ ap (λ e. both join (element_list_traces documents levels e) ahead) (sym c.in-More.is) in
      on_ok_weaker c.find_in_approvals.result
      (λ g. subst (Finds c.args.finder.now c.find_in_approvals.new.finder before) same
      (subst (λ e. Finds c.args.finder.now c.find_in_approvals.new.finder before (both join (approval_traces documents levels e) (map (join closing_trace) behind))) c.deref-in-Authorize.ensures
      (subst (λ e. Finds c.args.finder.now c.find_in_approvals.new.finder before (both join (approval_traces documents levels c.deref-in-Authorize.result.now) (map (join closing_trace) (both join (element_list_traces documents levels e) ahead)))) c.deref.ensures g)))
      (c.find_in_approvals.ensures.finds before h);
}

pub find_in_elements-returns-in-AuthorizeNv : goal.find_in_elements-returns-in-AuthorizeNv
find_in_elements-returns-in-AuthorizeNv t c = record {
  finds = λ before h.
      let documents = c.args.scope.now.approvals.now in
      let levels = c.args.scope.now.levels in
      let element = c.in-More.element.value in
      let rest = c.in-More.rest.value in
      let ahead = traces_ahead documents c.args.ahead.now in
      let behind = both join (element_list_traces documents levels rest) ahead in
      let is : element ≡ elements.AuthorizeNv c.in-AuthorizeNv.index = sym c.deref-in-More.ensures ∙ c.in-AuthorizeNv.is in
      let same : both join (approval_traces documents levels element) (map (join closing_trace) behind) ≡ both join (element_list_traces documents levels c.args.elements.now) ahead =
      ap (λ e. both join (approval_traces documents levels e) (map (join closing_trace) behind)) is
      ∙ sym (both-closed traces closing_trace (approval_traces documents levels (elements.AuthorizeNv c.in-AuthorizeNv.index)) behind)
      ∙ ap (λ l. both join l behind) (sym (of_index traces documents levels c.in-AuthorizeNv.index) ∙ ap (element_traces documents levels) (sym is))
      ∙ sym (both_assoc traces (element_traces documents levels element) (element_list_traces documents levels rest) ahead)
      ∙ ap (λ l. both join l ahead) (sym (of_more traces documents levels element rest))
      ∙ ap (λ e. both join (element_list_traces documents levels e) ahead) (sym c.in-More.is) in
      on_ok_weaker c.find_in_approvals-in-AuthorizeNv.result
      (λ g. subst (Finds c.args.finder.now c.find_in_approvals-in-AuthorizeNv.new.finder before) same
      (subst (λ e. Finds c.args.finder.now c.find_in_approvals-in-AuthorizeNv.new.finder before (both join (approval_traces documents levels e) (map (join closing_trace) behind))) c.deref-in-AuthorizeNv.ensures
      (subst (λ e. Finds c.args.finder.now c.find_in_approvals-in-AuthorizeNv.new.finder before (both join (approval_traces documents levels c.deref-in-AuthorizeNv.result.now) (map (join closing_trace) (both join (element_list_traces documents levels e) ahead)))) c.deref.ensures g)))
      (c.find_in_approvals-in-AuthorizeNv.ensures.finds before h);
}

use Rattle.std.proofs.Common.{◌≡◌, ◌≢◌, ◌+◌, ◌-◌, ◌/◌, ◌%◌, ◌<◌, ◌≤◌, ◌^◌, ◌++◌, min, [], ◌∷◌, length, refl, subst, sym, ap, ◌∙◌, arith}
use Rattle.std.proofs.lemmas.List.{length-map}
use Rattle.std.proofs.lemmas.Result.{on_ok_weaker}
use Rattle.tpol_tree.specs.declared.closed.ClosedBranch.{ClosedBranch}
use Rattle.tpol_digest.proofs.Weights.{weight, weight_of_element, weight_of_branches, greatest, weight-lt-greatest, level_less}
use Rattle.tpol_cert.specs.declared.choice.Choice.TheVariants.{Branch, Document, Outside}
use Rattle.tpol_cert.specs.Going.{GoesOn}
use Rattle.tpol_cert.specs.Choices.{behind, branch_choices, element_choices, element_list_choices}
use Rattle.tpol_cert.proofs.Going.{choices_from, counted, counted_first, from_entered, from_none, from_passed, goes_behind, goes_first, goes_later, goes_outside, goes_through, no_documents, parted}
use Rattle.tpol_cert.proofs.walk.+walk.Goals as goal
use Rattle.tpol_cert.proofs.walk.+walk.Goals.{push_approval-then-accepts+else-left-count+in_ok-number, push_approval-else-accepts, push_approval-then-scope-gt0+else-loop-document-test, push_approval-else-scope-gt0}

-- ---- elements

pub push_elements-nonzero_div-behind : goal.push_elements-nonzero_div-behind
push_elements-nonzero_div-behind t c =
    let documents = c.args.scope.now.approvals.now in
    let levels = c.args.scope.now.levels in
    let element = c.in-More.element.value in
    let rest = c.in-More.rest.value in
    let p = parted documents levels element c.deref.result.now rest c.count_element_ways-ways.result c.args.count c.args.index c.deref.ensures c.count_element_ways-ways.ensures.ways (rw c.in-More.is at c.requires.counted) c.requires.few c.requires.inside in
    p.divides

pub push_elements-nonzero_div-index : goal.push_elements-nonzero_div-index
push_elements-nonzero_div-index t c =
    let documents = c.args.scope.now.approvals.now in
    let levels = c.args.scope.now.levels in
    let element = c.in-More.element.value in
    let rest = c.in-More.rest.value in
    let p = parted documents levels element c.deref.result.now rest c.count_element_ways-ways.result c.args.count c.args.index c.deref.ensures c.count_element_ways-ways.ensures.ways (rw c.in-More.is at c.requires.counted) c.requires.few c.requires.inside in
    p.behind_divides

pub push_elements-nonzero_rem-index : goal.push_elements-nonzero_rem-index
push_elements-nonzero_rem-index t c =
    let documents = c.args.scope.now.approvals.now in
    let levels = c.args.scope.now.levels in
    let element = c.in-More.element.value in
    let rest = c.in-More.rest.value in
    let p = parted documents levels element c.deref.result.now rest c.count_element_ways-ways.result c.args.count c.args.index c.deref.ensures c.count_element_ways-ways.ensures.ways (rw c.in-More.is at c.requires.counted) c.requires.few c.requires.inside in
    p.behind_divides

pub push_elements-push_element-requires : goal.push_elements-push_element-requires
push_elements-push_element-requires t c =
    let documents = c.args.scope.now.approvals.now in
    let levels = c.args.scope.now.levels in
    let element = c.in-More.element.value in
    let rest = c.in-More.rest.value in
    let p = parted documents levels element c.deref.result.now rest c.count_element_ways-ways.result c.args.count c.args.index c.deref.ensures c.count_element_ways-ways.ensures.ways (rw c.in-More.is at c.requires.counted) c.requires.few c.requires.inside in (
      omega (arith, rw c.in-More.is at c.decreases, ap weight_of_element c.deref-in-More.ensures),
      (
        subst (λ e. length (element_choices documents levels e) ≤ 65536) (sym c.deref-in-More.ensures) p.first_few,
        subst (λ e. c.args.index / (c.args.count / c.count_element_ways-ways.result) < length (element_choices documents levels e)) (sym c.deref-in-More.ensures) p.first_inside,
      ),
    )

pub push_elements-push_elements-requires : goal.push_elements-push_elements-requires
push_elements-push_elements-requires t c =
    let documents = c.args.scope.now.approvals.now in
    let levels = c.args.scope.now.levels in
    let element = c.in-More.element.value in
    let rest = c.in-More.rest.value in
    let p = parted documents levels element c.deref.result.now rest c.count_element_ways-ways.result c.args.count c.args.index c.deref.ensures c.count_element_ways-ways.ensures.ways (rw c.in-More.is at c.requires.counted) c.requires.few c.requires.inside in (
      omega (arith, rw c.in-More.is at c.decreases, ap weight c.deref-in-More-2.ensures),
      (p.behind ∙ ap (λ e. length (element_list_choices documents levels e)) (sym c.deref-in-More-2.ensures), (p.rest_few, p.rest_inside)),
    )

pub push_elements-returns-in_ok-push_element-in-More : goal.push_elements-returns-in_ok-push_element-in-More
push_elements-returns-in_ok-push_element-in-More t c =
    let documents = c.args.scope.now.approvals.now in
    let levels = c.args.scope.now.levels in
    let element = c.in-More.element.value in
    let rest = c.in-More.rest.value in
    let p = parted documents levels element c.deref.result.now rest c.count_element_ways-ways.result c.args.count c.args.index c.deref.ensures c.count_element_ways-ways.ensures.ways (rw c.in-More.is at c.requires.counted) c.requires.few c.requires.inside in
    let firsts = element_choices documents levels element in
    let rests = element_list_choices documents levels rest in
    let behind = c.args.count / c.count_element_ways-ways.result in
    let first = subst (λ e. GoesOn c.args.choices.now (element_choices documents levels e) (c.args.index / behind) c.push_element.new.choices) c.deref-in-More.ensures c.in_ok-push_element-in-More.ensures in
    rw c.in-More.is
    (on_ok_weaker c.push_elements.result
    (λ g. goes_through c.args.choices.now c.push_element.new.choices c.push_elements.new.choices firsts rests (c.args.index / behind) (c.args.index % behind) c.args.index first
    (subst (λ e. GoesOn c.push_element.new.choices (element_list_choices documents levels e) (c.args.index % behind) c.push_elements.new.choices) c.deref-in-More-2.ensures g) p.whole)
    c.push_elements.ensures)

-- ---- branches

pub push_branch-push_elements-requires : goal.push_branch-push_elements-requires
push_branch-push_elements-requires t c =
    let documents = c.args.scope.now.approvals.now in
    let levels = c.args.scope.now.levels in
    let elements = c.in-More.branch.value.policy.elements in
    let inner = element_list_choices documents levels elements in
    let others = branch_choices documents levels c.in-More.rest.value (c.args.position + 1) in
    let same = ap (λ (b : ClosedBranch). b.policy.elements) c.deref.ensures in
    let count = subst (λ e. c.count_ways-count.result ≡ min (length (element_list_choices documents levels e)) 65537) same (counted documents levels c.deref.result.now.policy.elements c.count_ways-count.result c.count_ways-count.ensures.ways) in
    let exact = counted_first c.count_ways-count.result (Branch c.args.position) inner others count (rw c.in-More.is at c.requires.few) in
    let ways = ap (λ e. length (element_list_choices documents levels e)) (sym same) in (
      omega (arith, rw c.in-More.is at c.decreases, ap weight same),
      (
        exact.0 ∙ ways,
        (omega (arith, exact.1, rw c.in-More.is at c.requires.few), c.if-index-count.true),
      ),
    )

pub push_branch-push_branch-requires : goal.push_branch-push_branch-requires
push_branch-push_branch-requires t c =
    let documents = c.args.scope.now.approvals.now in
    let levels = c.args.scope.now.levels in
    let elements = c.in-More.branch.value.policy.elements in
    let inner = element_list_choices documents levels elements in
    let others = branch_choices documents levels c.in-More.rest.value (c.args.position + 1) in
    let same = ap (λ (b : ClosedBranch). b.policy.elements) c.deref.ensures in
    let count = subst (λ e. c.count_ways-count.result ≡ min (length (element_list_choices documents levels e)) 65537) same (counted documents levels c.deref.result.now.policy.elements c.count_ways-count.result c.count_ways-count.ensures.ways) in
    let exact = counted_first c.count_ways-count.result (Branch c.args.position) inner others count (rw c.in-More.is at c.requires.few) in
    let ways = ap (λ n. length (branch_choices documents levels c.deref-else-index-count.result.now n)) c.in_ok-next_number-in-More.ensures.next ∙ ap (λ r. length (branch_choices documents levels r (c.args.position + 1))) c.deref-else-index-count.ensures in (
      omega (arith, rw c.in-More.is at c.decreases, ap weight_of_branches c.deref-else-index-count.ensures),
      (
        omega (arith, ways, exact.1, rw c.in-More.is at c.requires.few),
        omega (arith, ways, exact.1, c.if-index-count.false, rw c.in-More.is at c.requires.inside),
      ),
    )

pub push_branch-returns-in_ok-push-in-More : goal.push_branch-returns-in_ok-push-in-More
push_branch-returns-in_ok-push-in-More t c =
    let documents = c.args.scope.now.approvals.now in
    let levels = c.args.scope.now.levels in
    let inner = element_list_choices documents levels c.in-More.branch.value.policy.elements in
    let others = branch_choices documents levels c.in-More.rest.value (c.args.position + 1) in
    let same = ap (λ (b : ClosedBranch). b.policy.elements) c.deref.ensures in
    rw c.in-More.is
    (on_ok_weaker c.push_elements.result
    (λ g. goes_first c.args.choices.now c.push_elements.new.choices (behind (Branch c.args.position) inner) others c.args.index
    (goes_behind c.args.choices.now c.push.new.self c.push_elements.new.choices (Branch c.args.position) inner c.args.index (omega (arith, c.ranges.position.fits)) c.in_ok-push-in-More.ensures.ok
    (subst (λ e. GoesOn c.push.new.self (element_list_choices documents levels e) c.args.index c.push_elements.new.choices) same g)))
    c.push_elements.ensures)

pub push_branch-returns-in_ok-next_number-in-More : goal.push_branch-returns-in_ok-next_number-in-More
push_branch-returns-in_ok-next_number-in-More t c =
    let documents = c.args.scope.now.approvals.now in
    let levels = c.args.scope.now.levels in
    let inner = element_list_choices documents levels c.in-More.branch.value.policy.elements in
    let others = branch_choices documents levels c.in-More.rest.value (c.args.position + 1) in
    let same = ap (λ (b : ClosedBranch). b.policy.elements) c.deref.ensures in
    let count = subst (λ e. c.count_ways-count.result ≡ min (length (element_list_choices documents levels e)) 65537) same (counted documents levels c.deref.result.now.policy.elements c.count_ways-count.result c.count_ways-count.ensures.ways) in
    let exact = counted_first c.count_ways-count.result (Branch c.args.position) inner others count (rw c.in-More.is at c.requires.few) in
    let split : c.args.index ≡ length (behind (Branch c.args.position) inner) + (c.args.index - c.count_ways-count.result) = omega (arith, exact.0, c.if-index-count.false, length-map inner (λ rest. Branch c.args.position ∷ rest)) in
    rw c.in-More.is
    (on_ok_weaker c.push_branch.result
    (λ g. goes_later c.args.choices.now c.push_branch.new.choices (behind (Branch c.args.position) inner) others (c.args.index - c.count_ways-count.result) c.args.index split
    (subst (λ r. GoesOn c.args.choices.now (branch_choices documents levels r (c.args.position + 1)) (c.args.index - c.count_ways-count.result) c.push_branch.new.choices) c.deref-else-index-count.ensures
    (subst (λ n. GoesOn c.args.choices.now (branch_choices documents levels c.deref-else-index-count.result.now n) (c.args.index - c.count_ways-count.result) c.push_branch.new.choices) c.in_ok-next_number-in-More.ensures.next g)))
    c.push_branch.ensures)

-- ---- approvals

pub push_approval-push_elements-requires : goal.push_approval-push_elements-requires
push_approval-push_elements-requires t c =
    let documents = c.args.scope.now.approvals.now in
    let levels = c.args.scope.now.levels in
    let element = c.args.element.now in
    let document = c.document-item.result in
    let index = c.loop-document.document-index in
    let number = c.loop-document.number in
    let level : levels ≢ 0 = omega (arith, c.if-scope-gt0.true) in
    let light = weight-lt-greatest documents index document c.loop-document-test.true in
    let lighter : weight document.closed.elements < greatest documents = subst (λ x. weight x.closed.elements < greatest documents) (sym c.document-item.is) light in
    let less = level_less levels (greatest documents) (weight document.closed.elements) (omega (arith, c.if-scope-gt0.true)) lighter in
    let inner = element_list_choices documents (levels - 1) document.closed.elements in
    let others = choices_from documents levels element (number + 1) (index + 1) in
    let entered = from_entered documents levels element number index document c.loop-document-test.true c.document-item.is level (sym c.accepts.ensures ∙ c.if-accepts.true) in
    let count = counted documents (levels - 1) document.closed.elements c.count_ways-count.result c.count_ways-count.ensures.ways in
    let exact = counted_first c.count_ways-count.result (Document number) inner others count (subst (λ l. length l ≤ 65536) entered c.loop-document.invariant.few) in (
      omega (arith, less, c.decreases),
      (
        exact.0,
        (omega (arith, exact.1, ap length entered, c.loop-document.invariant.few), c.if-left-count.true),
      ),
    )

pub push_approval-returns-then-left-count : goal.push_approval-returns-then-left-count
push_approval-returns-then-left-count t c =
    let documents = c.args.scope.now.approvals.now in
    let levels = c.args.scope.now.levels in
    let element = c.args.element.now in
    let document = c.document-item.result in
    let index = c.loop-document.document-index in
    let number = c.loop-document.number in
    let left = c.loop-document.left in
    let before = c.args.choices.now in
    let after = c.push_elements.new.choices in
    let level : levels ≢ 0 = omega (arith, c.if-scope-gt0.true) in
    let inner = element_list_choices documents (levels - 1) document.closed.elements in
    let others = choices_from documents levels element (number + 1) (index + 1) in
    let entered = from_entered documents levels element number index document c.loop-document-test.true c.document-item.is level (sym c.accepts.ensures ∙ c.if-accepts.true) in
    let pushed = c.in_ok-push.ensures.ok ∙ ap (λ x. x ++ Document number ∷ []) c.loop-document.invariant.same in
    on_ok_weaker c.push_elements.result
    (λ g. c.loop-document.invariant.leads before after
    (subst (λ l. GoesOn before l left after) (sym entered)
    (goes_first before after (behind (Document number) inner) others left
    (goes_behind before c.push.new.self after (Document number) inner left c.loop-document.invariant.fits pushed g))))
    c.push_elements.ensures

pub push_approval-loop-document-init : goal.push_approval-loop-document-init
push_approval-loop-document-init t c = record { same = refl; fits = omega arith; few = c.requires.few; inside = c.requires.inside; leads = λ before after g. g }

pub push_approval-loop-document-preserved : goal.push_approval-loop-document-preserved
push_approval-loop-document-preserved t c =
    let documents = c.args.scope.now.approvals.now in
    let levels = c.args.scope.now.levels in
    let element = c.args.element.now in
    let document = c.document-item.result in
    let index = c.loop-document.document-index in
    let number = c.loop-document.number in
    let left = c.loop-document.left in
    let level : levels ≢ 0 = omega (arith, c.if-scope-gt0.true) in
    let invariant = c.loop-document.invariant in
    elim c.if-accepts.branch [
      | push_approval-then-accepts+else-left-count+in_ok-number w ↦
          let inner = element_list_choices documents (levels - 1) document.closed.elements in
          let firsts = behind (Document number) inner in
          let others = choices_from documents levels element (number + 1) (index + 1) in
          let entered = from_entered documents levels element number index document c.loop-document-test.true c.document-item.is level (sym c.accepts.ensures ∙ w.if-accepts.true) in
          let count = counted documents (levels - 1) document.closed.elements w.count_ways-count.result w.count_ways-count.ensures.ways in
          let exact = counted_first w.count_ways-count.result (Document number) inner others count (subst (λ l. length l ≤ 65536) entered invariant.few) in
          let whole = ap length entered in
          let less : left - w.count_ways-count.result < length others = omega (arith, exact.0, exact.1, whole, invariant.inside, w.if-left-count.false) in
          let split : left ≡ length firsts + (left - w.count_ways-count.result) = omega (arith, exact.0, w.if-left-count.false, length-map inner (λ rest. Document number ∷ rest)) in
          let next : c.if-accepts.number ≡ number + 1 = w.number-is ∙ w.in_ok-number.ensures.next in
          record {
            same = invariant.same;
            fits = subst (λ n. n < 2 ^ 32) (sym w.number-is) w.in_ok-number.ensures.fits;
            few = subst (λ n. length (choices_from documents levels element n (index + 1)) ≤ 65536) (sym next) (omega (arith, exact.1, whole, invariant.few));
            inside = subst (λ n. c.if-accepts.left < length (choices_from documents levels element n (index + 1))) (sym next) (subst (λ n. n < length others) (sym w.left-is) less);
            leads = λ before after g.
                invariant.leads before after
                (subst (λ l. GoesOn before l left after) (sym entered)
                (goes_later before after firsts others (left - w.count_ways-count.result) left split
                (subst (λ n. GoesOn before others n after) w.left-is
                (subst (λ n. GoesOn before (choices_from documents levels element n (index + 1)) c.if-accepts.left after) next g))));
          }
      | push_approval-else-accepts w ↦
          let passed = from_passed documents levels element number index document c.loop-document-test.true c.document-item.is (sym c.accepts.ensures ∙ w.if-accepts.false) in
          let whole = ap length passed in
          record {
            same = invariant.same;
            fits = subst (λ n. n < 2 ^ 32) (sym w.number-is) invariant.fits;
            few = subst (λ n. length (choices_from documents levels element n (index + 1)) ≤ 65536) (sym w.number-is) (omega (arith, whole, invariant.few));
            inside = subst (λ n. c.if-accepts.left < length (choices_from documents levels element n (index + 1))) (sym w.number-is) (omega (arith, whole, invariant.inside, w.left-is));
            leads = λ before after g.
                invariant.leads before after
                (subst (λ l. GoesOn before l left after) (sym passed)
                (subst (λ n. GoesOn before (choices_from documents levels element number (index + 1)) n after) w.left-is
                (subst (λ n. GoesOn before (choices_from documents levels element n (index + 1)) c.if-accepts.left after) w.number-is g)));
          }
    ]

pub push_approval-returns : goal.push_approval-returns
push_approval-returns t c =
    let documents = c.args.scope.now.approvals.now in
    let levels = c.args.scope.now.levels in
    let element = c.args.element.now in
    let before = c.args.choices.now in
    let after = c.push-2.new.self in
    elim c.if-scope-gt0.branch [
      | push_approval-then-scope-gt0+else-loop-document-test w ↦
          let none = from_none documents levels element w.loop-document.number w.loop-document.document-index w.loop-document-test.false in
          let first : w.loop-document.left < 1 = omega (arith, ap length none, w.loop-document.invariant.inside) in
          on_ok_weaker c.push-2.result
          (λ e. w.loop-document.invariant.leads before after
          (subst (λ l. GoesOn before l w.loop-document.left after) (sym none)
          (goes_outside before after w.loop-document.left first (e ∙ ap (λ x. x ++ Outside ∷ []) (w.choices-is ∙ w.loop-document.invariant.same)))))
          c.push-2.ensures.ok
      | push_approval-else-scope-gt0 w ↦
          let none = no_documents documents levels element w.if-scope-gt0.false in
          let first : c.args.index < 1 = omega (arith, ap length none, c.requires.inside) in
          on_ok_weaker c.push-2.result
          (λ e. subst (λ l. GoesOn before l c.args.index after) (sym none)
          (goes_outside before after c.args.index first (e ∙ ap (λ x. x ++ Outside ∷ []) w.choices-is)))
          c.push-2.ensures.ok
    ]

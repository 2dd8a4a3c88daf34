use Rattle.std.proofs.Common.{◌≡◌, ◌≢◌, ◌+◌, ◌-◌, ◌/◌, ◌%◌, ◌<◌, ◌≤◌, ◌++◌, min, codes, ◌∷◌, length, map, inl, inr, refl, subst, sym, ap, ◌∙◌, arith}
use Rattle.std.proofs.lemmas.List.{length-map}
use Rattle.std.proofs.lemmas.Result.{on_ok_weaker}
use Rattle.json.specs.Print.{quoted}
use Rattle.tpol_tree.specs.declared.closed.ClosedBranch.{ClosedBranch}
use Rattle.tpol_digest.proofs.Images.{of_more, of_assertion, of_or}
use Rattle.tpol_digest.proofs.Weights.{weight, weight_of_element, weight_of_branches, greatest, weight-lt-greatest, level_less}
use Rattle.tpol_lines.specs.PathLine.{assertion_kind}
use Rattle.tpol_lines.specs.Texts.{GoesOn, approval_texts, branch_texts, element_list_texts, element_texts, join, no_text, of_choice, of_kind}
use Rattle.tpol_lines.proofs.LabelLaws.{IsAsking, approval_closed, approval_kind, counted, counted_first, from_entered, from_none, from_passed, goes_behind, goes_closed, goes_first, goes_later, goes_nowhere, goes_outside, goes_through, no_level, parts, texts_from}
use Rattle.tpol_lines.proofs.TextLaws.{texts}
use Rattle.tpol_lines.proofs.one_label.+one_label.Goals as goal
use Rattle.tpol_lines.proofs.one_label.+one_label.Goals.{push_approval-then-accepts+else-left-count, push_approval-else-accepts, push_approval-then-scope-gt0+else-loop-document-test, push_approval-else-scope-gt0}

-- ---- elements

pub push_elements-nonzero_div-behind : goal.push_elements-nonzero_div-behind
push_elements-nonzero_div-behind t c =
    let documents = c.args.scope.now.approvals.now in
    let levels = c.args.scope.now.levels in
    let element = c.in-More.element.value in
    let rest = c.in-More.rest.value in
    let counted = rw c.in-More.is at c.requires.counted in
    let all = counted ∙ ap length (of_more texts documents levels element rest) in
    let p = parts documents levels element c.deref.result.now rest c.count_element_ways-ways.result c.args.count c.args.index c.deref.ensures c.count_element_ways-ways.ensures.ways all c.requires.few c.requires.inside in
    p.divides

pub push_elements-nonzero_div-index : goal.push_elements-nonzero_div-index
push_elements-nonzero_div-index t c =
    let documents = c.args.scope.now.approvals.now in
    let levels = c.args.scope.now.levels in
    let element = c.in-More.element.value in
    let rest = c.in-More.rest.value in
    let counted = rw c.in-More.is at c.requires.counted in
    let all = counted ∙ ap length (of_more texts documents levels element rest) in
    let p = parts documents levels element c.deref.result.now rest c.count_element_ways-ways.result c.args.count c.args.index c.deref.ensures c.count_element_ways-ways.ensures.ways all c.requires.few c.requires.inside in
    p.behind_divides

pub push_elements-nonzero_rem-index : goal.push_elements-nonzero_rem-index
push_elements-nonzero_rem-index t c =
    let documents = c.args.scope.now.approvals.now in
    let levels = c.args.scope.now.levels in
    let element = c.in-More.element.value in
    let rest = c.in-More.rest.value in
    let counted = rw c.in-More.is at c.requires.counted in
    let all = counted ∙ ap length (of_more texts documents levels element rest) in
    let p = parts documents levels element c.deref.result.now rest c.count_element_ways-ways.result c.args.count c.args.index c.deref.ensures c.count_element_ways-ways.ensures.ways all c.requires.few c.requires.inside in
    p.behind_divides

pub push_elements-push_element-requires : goal.push_elements-push_element-requires
push_elements-push_element-requires t c =
    let documents = c.args.scope.now.approvals.now in
    let levels = c.args.scope.now.levels in
    let element = c.in-More.element.value in
    let rest = c.in-More.rest.value in
    let counted = rw c.in-More.is at c.requires.counted in
    let all = counted ∙ ap length (of_more texts documents levels element rest) in
    let p = parts documents levels element c.deref.result.now rest c.count_element_ways-ways.result c.args.count c.args.index c.deref.ensures c.count_element_ways-ways.ensures.ways all c.requires.few c.requires.inside in (
      omega (arith, rw c.in-More.is at c.decreases, ap weight_of_element c.deref-in-More.ensures),
      (
        subst (λ e. length (element_texts documents levels e) ≤ 65536) (sym c.deref-in-More.ensures) p.first_few,
        subst (λ e. c.args.index / (c.args.count / c.count_element_ways-ways.result) < length (element_texts documents levels e)) (sym c.deref-in-More.ensures) p.first_inside,
      ),
    )

pub push_elements-push_elements-requires : goal.push_elements-push_elements-requires
push_elements-push_elements-requires t c =
    let documents = c.args.scope.now.approvals.now in
    let levels = c.args.scope.now.levels in
    let element = c.in-More.element.value in
    let rest = c.in-More.rest.value in
    let counted = rw c.in-More.is at c.requires.counted in
    let all = counted ∙ ap length (of_more texts documents levels element rest) in
    let p = parts documents levels element c.deref.result.now rest c.count_element_ways-ways.result c.args.count c.args.index c.deref.ensures c.count_element_ways-ways.ensures.ways all c.requires.few c.requires.inside in (
      omega (arith, rw c.in-More.is at c.decreases, ap weight c.deref-in-More-2.ensures),
      (p.behind ∙ ap (λ e. length (element_list_texts documents levels e)) (sym c.deref-in-More-2.ensures), (p.rest_few, p.rest_inside)),
    )

pub push_elements-returns-in-End : goal.push_elements-returns-in-End
push_elements-returns-in-End t c =
    let counted = rw c.in-End.is at c.requires.counted in
    rw c.in-End.is (goes_nowhere c.args.choices.now no_text c.args.index (omega (arith, counted, c.requires.inside)) refl)

pub push_elements-returns-in_ok-push_element-in-More : goal.push_elements-returns-in_ok-push_element-in-More
push_elements-returns-in_ok-push_element-in-More t c =
    let documents = c.args.scope.now.approvals.now in
    let levels = c.args.scope.now.levels in
    let element = c.in-More.element.value in
    let rest = c.in-More.rest.value in
    let counted = rw c.in-More.is at c.requires.counted in
    let all = counted ∙ ap length (of_more texts documents levels element rest) in
    let p = parts documents levels element c.deref.result.now rest c.count_element_ways-ways.result c.args.count c.args.index c.deref.ensures c.count_element_ways-ways.ensures.ways all c.requires.few c.requires.inside in
    let firsts = element_texts documents levels element in
    let rests = element_list_texts documents levels rest in
    let behind = c.args.count / c.count_element_ways-ways.result in
    let first = subst (λ e. GoesOn c.args.choices.now (element_texts documents levels e) (c.args.index / behind) c.push_element.new.choices) c.deref-in-More.ensures c.in_ok-push_element-in-More.ensures in
    rw c.in-More.is
    (on_ok_weaker c.push_elements.result
    (λ g. subst (λ l. GoesOn c.args.choices.now l c.args.index c.push_elements.new.choices) (sym (of_more texts documents levels element rest))
    (goes_through c.args.choices.now c.push_element.new.choices c.push_elements.new.choices firsts rests (c.args.index / behind) (c.args.index % behind) c.args.index first
    (subst (λ e. GoesOn c.push_element.new.choices (element_list_texts documents levels e) (c.args.index % behind) c.push_elements.new.choices) c.deref-in-More-2.ensures g) p.whole))
    c.push_elements.ensures)

-- ---- one element

pub push_element-returns-in-Assert : goal.push_element-returns-in-Assert
push_element-returns-in-Assert t c =
    let documents = c.args.scope.now.approvals.now in
    let levels = c.args.scope.now.levels in
    let one = of_assertion texts documents levels c.in-Assert.field-0 in
    let inside = subst (λ l. c.args.index < length l) one (rw c.in-Assert.is at c.requires.inside) in
    rw c.in-Assert.is (subst (λ l. GoesOn c.args.choices.now l c.args.index c.args.choices.now) (sym one) (goes_nowhere c.args.choices.now (of_kind (assertion_kind c.in-Assert.field-0)) c.args.index (omega (arith, inside)) refl))

pub push_element-push_branch-requires : goal.push_element-push_branch-requires
push_element-push_branch-requires t c =
    let documents = c.args.scope.now.approvals.now in
    let levels = c.args.scope.now.levels in
    let branches = c.in-Or.branches in
    let same = ap length (of_or texts documents levels branches) ∙ length-map (branch_texts documents levels branches) (λ x. join x (of_kind (codes "Or"))) in (
      omega (arith, rw c.in-Or.is at c.decreases),
      (
        omega (arith, same, rw c.in-Or.is at c.requires.few),
        omega (arith, same, rw c.in-Or.is at c.requires.inside),
      ),
    )

pub push_element-returns-in-Or : goal.push_element-returns-in-Or
push_element-returns-in-Or t c =
    let documents = c.args.scope.now.approvals.now in
    let levels = c.args.scope.now.levels in
    let branches = c.in-Or.branches in
    rw c.in-Or.is
    (on_ok_weaker c.push_branch.result
    (λ g. subst (λ l. GoesOn c.args.choices.now l c.args.index c.push_branch.new.choices) (sym (of_or texts documents levels branches))
    (goes_closed c.args.choices.now c.push_branch.new.choices (codes "Or") (branch_texts documents levels branches) c.args.index g))
    c.push_branch.ensures)

pub push_element-push_approval-requires : goal.push_element-push_approval-requires
push_element-push_approval-requires t c =
    let documents = c.args.scope.now.approvals.now in
    let levels = c.args.scope.now.levels in
    let element = c.args.element.now in
    let asking : IsAsking element = elim c.in-Authorize.is [
      | inl p ↦ subst IsAsking (sym p.2) tt
      | inr q ↦ subst IsAsking (sym q.1) tt
    ] in
    let same = ap length (approval_closed documents levels element asking) ∙ length-map (approval_texts documents levels element) (λ x. join x (of_kind (approval_kind element))) in (
      omega (arith, c.decreases),
      (omega (arith, same, c.requires.few), omega (arith, same, c.requires.inside)),
    )

pub push_element-returns-in-Authorize : goal.push_element-returns-in-Authorize
push_element-returns-in-Authorize t c =
    let documents = c.args.scope.now.approvals.now in
    let levels = c.args.scope.now.levels in
    let element = c.args.element.now in
    let asking : IsAsking element = elim c.in-Authorize.is [
      | inl p ↦ subst IsAsking (sym p.2) tt
      | inr q ↦ subst IsAsking (sym q.1) tt
    ] in
    on_ok_weaker c.push_approval.result
    (λ g. subst (λ l. GoesOn c.args.choices.now l c.args.index c.push_approval.new.choices) (sym (approval_closed documents levels element asking))
    (goes_closed c.args.choices.now c.push_approval.new.choices (approval_kind element) (approval_texts documents levels element) c.args.index g))
    c.push_approval.ensures

-- ---- branches

pub push_branch-push_elements-requires : goal.push_branch-push_elements-requires
push_branch-push_elements-requires t c =
    let documents = c.args.scope.now.approvals.now in
    let levels = c.args.scope.now.levels in
    let branch = c.in-More.branch.value in
    let inner = element_list_texts documents levels branch.policy.elements in
    let others = branch_texts documents levels c.in-More.rest.value in
    let same = ap (λ (b : ClosedBranch). b.policy.elements) c.deref.ensures in
    let count = subst (λ e. c.count_ways-count.result ≡ min (length (element_list_texts documents levels e)) 65537) same (counted documents levels c.deref.result.now.policy.elements c.count_ways-count.result c.count_ways-count.ensures.ways) in
    let exact = counted_first c.count_ways-count.result (quoted branch.name) inner others count (rw c.in-More.is at c.requires.few) in
    let ways = ap (λ e. length (element_list_texts documents levels e)) (sym same) in (
      omega (arith, rw c.in-More.is at c.decreases, ap weight same),
      (
        exact.0 ∙ ways,
        (omega (arith, exact.1, rw c.in-More.is at c.requires.few), c.if-index-count.true),
      ),
    )

pub push_branch-push_branch-requires : goal.push_branch-push_branch-requires
push_branch-push_branch-requires t c =
    let documents = c.args.scope.now.approvals.now in
    let levels = c.args.scope.now.levels in
    let branch = c.in-More.branch.value in
    let inner = element_list_texts documents levels branch.policy.elements in
    let others = branch_texts documents levels c.in-More.rest.value in
    let same = ap (λ (b : ClosedBranch). b.policy.elements) c.deref.ensures in
    let count = subst (λ e. c.count_ways-count.result ≡ min (length (element_list_texts documents levels e)) 65537) same (counted documents levels c.deref.result.now.policy.elements c.count_ways-count.result c.count_ways-count.ensures.ways) in
    let exact = counted_first c.count_ways-count.result (quoted branch.name) inner others count (rw c.in-More.is at c.requires.few) in
    let ways = ap (λ r. length (branch_texts documents levels r)) c.deref-else-index-count.ensures in (
      omega (arith, rw c.in-More.is at c.decreases, ap weight_of_branches c.deref-else-index-count.ensures),
      (
        omega (arith, ways, exact.1, rw c.in-More.is at c.requires.few),
        omega (arith, ways, exact.1, c.if-index-count.false, rw c.in-More.is at c.requires.inside),
      ),
    )

pub push_branch-returns-in_ok-push_choice-in-More : goal.push_branch-returns-in_ok-push_choice-in-More
push_branch-returns-in_ok-push_choice-in-More t c =
    let documents = c.args.scope.now.approvals.now in
    let levels = c.args.scope.now.levels in
    let branch = c.in-More.branch.value in
    let inner = element_list_texts documents levels branch.policy.elements in
    let others = branch_texts documents levels c.in-More.rest.value in
    let same = ap (λ (b : ClosedBranch). b.policy.elements) c.deref.ensures in
    let name = c.as_str.ensures ∙ ap (λ (b : ClosedBranch). b.name) c.deref-then-index-count.ensures in
    let pushed = c.in_ok-push_choice-in-More.ensures ∙ ap (λ n. c.args.choices.now ++ 47 ∷ quoted n) name in
    rw c.in-More.is
    (on_ok_weaker c.push_elements.result
    (λ g. goes_first c.args.choices.now c.push_elements.new.choices (map (join (of_choice (quoted branch.name))) inner) others c.args.index
    (goes_behind c.args.choices.now c.push_choice.new.choices c.push_elements.new.choices (quoted branch.name) inner c.args.index pushed
    (subst (λ e. GoesOn c.push_choice.new.choices (element_list_texts documents levels e) c.args.index c.push_elements.new.choices) same g)))
    c.push_elements.ensures)

pub push_branch-returns-else-index-count : goal.push_branch-returns-else-index-count
push_branch-returns-else-index-count t c =
    let documents = c.args.scope.now.approvals.now in
    let levels = c.args.scope.now.levels in
    let branch = c.in-More.branch.value in
    let inner = element_list_texts documents levels branch.policy.elements in
    let others = branch_texts documents levels c.in-More.rest.value in
    let same = ap (λ (b : ClosedBranch). b.policy.elements) c.deref.ensures in
    let count = subst (λ e. c.count_ways-count.result ≡ min (length (element_list_texts documents levels e)) 65537) same (counted documents levels c.deref.result.now.policy.elements c.count_ways-count.result c.count_ways-count.ensures.ways) in
    let exact = counted_first c.count_ways-count.result (quoted branch.name) inner others count (rw c.in-More.is at c.requires.few) in
    let firsts = map (join (of_choice (quoted branch.name))) inner in
    let split : c.args.index ≡ length firsts + (c.args.index - c.count_ways-count.result) = omega (arith, exact.0, c.if-index-count.false, length-map inner (join (of_choice (quoted branch.name)))) in
    rw c.in-More.is
    (on_ok_weaker c.push_branch.result
    (λ g. goes_later c.args.choices.now c.push_branch.new.choices firsts others (c.args.index - c.count_ways-count.result) c.args.index split
    (subst (λ r. GoesOn c.args.choices.now (branch_texts documents levels r) (c.args.index - c.count_ways-count.result) c.push_branch.new.choices) c.deref-else-index-count.ensures g))
    c.push_branch.ensures)

-- ---- approvals

pub push_approval-push_elements-requires : goal.push_approval-push_elements-requires
push_approval-push_elements-requires t c =
    let documents = c.args.scope.now.approvals.now in
    let levels = c.args.scope.now.levels in
    let element = c.args.element.now in
    let document = c.document-item.result in
    let index = c.loop-document.document-index in
    let level : levels ≢ 0 = omega (arith, c.if-scope-gt0.true) in
    let light = weight-lt-greatest documents index document c.loop-document-test.true in
    let lighter : weight document.closed.elements < greatest documents = subst (λ x. weight x.closed.elements < greatest documents) (sym c.document-item.is) light in
    let less = level_less levels (greatest documents) (weight document.closed.elements) (omega (arith, c.if-scope-gt0.true)) lighter in
    let inner = element_list_texts documents (levels - 1) document.closed.elements in
    let others = texts_from documents levels element (index + 1) in
    let entered = from_entered documents levels element index document c.loop-document-test.true c.document-item.is level (sym c.accepts.ensures ∙ c.if-accepts.true) in
    let count = counted documents (levels - 1) document.closed.elements c.count_ways-count.result c.count_ways-count.ensures.ways in
    let exact = counted_first c.count_ways-count.result (64 ∷ quoted document.document) inner others count (subst (λ l. length l ≤ 65536) entered c.loop-document.invariant.few) in (
      omega (arith, less, c.decreases),
      (
        exact.0,
        (omega (arith, exact.1, ap length entered, c.loop-document.invariant.few), c.if-left-count.true),
      ),
    )

pub push_approval-returns-then-left-count : goal.push_approval-returns-then-left-count
push_approval-returns-then-left-count t c =
    let documents = c.args.scope.now.approvals.now in
    let levels = c.args.scope.now.levels in
    let element = c.args.element.now in
    let document = c.document-item.result in
    let index = c.loop-document.document-index in
    let left = c.loop-document.left in
    let before = c.args.choices.now in
    let after = c.push_elements.new.choices in
    let name = 64 ∷ quoted document.document in
    let level : levels ≢ 0 = omega (arith, c.if-scope-gt0.true) in
    let inner = element_list_texts documents (levels - 1) document.closed.elements in
    let others = texts_from documents levels element (index + 1) in
    let entered = from_entered documents levels element index document c.loop-document-test.true c.document-item.is level (sym c.accepts.ensures ∙ c.if-accepts.true) in
    let pushed = c.in_ok-push_choice.ensures ∙ ap (λ n. c.loop-document.choices ++ 47 ∷ 64 ∷ quoted n) c.as_str.ensures ∙ ap (λ x. x ++ 47 ∷ name) c.loop-document.invariant.same in
    on_ok_weaker c.push_elements.result
    (λ g. c.loop-document.invariant.leads before after
    (subst (λ l. GoesOn before l left after) (sym entered)
    (goes_first before after (map (join (of_choice name)) inner) others left
    (goes_behind before c.push_choice.new.choices after name inner left pushed g))))
    c.push_elements.ensures

pub push_approval-loop-document-init : goal.push_approval-loop-document-init
push_approval-loop-document-init t c = record { same = refl; few = c.requires.few; inside = c.requires.inside; leads = λ before after g. g }

pub push_approval-loop-document-preserved : goal.push_approval-loop-document-preserved
push_approval-loop-document-preserved t c =
    let documents = c.args.scope.now.approvals.now in
    let levels = c.args.scope.now.levels in
    let element = c.args.element.now in
    let document = c.document-item.result in
    let index = c.loop-document.document-index in
    let left = c.loop-document.left in
    let level : levels ≢ 0 = omega (arith, c.if-scope-gt0.true) in
    let invariant = c.loop-document.invariant in
    elim c.if-accepts.branch [
      | push_approval-then-accepts+else-left-count w ↦
          let name = 64 ∷ quoted document.document in
          let inner = element_list_texts documents (levels - 1) document.closed.elements in
          let firsts = map (join (of_choice name)) inner in
          let others = texts_from documents levels element (index + 1) in
          let entered = from_entered documents levels element index document c.loop-document-test.true c.document-item.is level (sym c.accepts.ensures ∙ w.if-accepts.true) in
          let count = counted documents (levels - 1) document.closed.elements w.count_ways-count.result w.count_ways-count.ensures.ways in
          let exact = counted_first w.count_ways-count.result name inner others count (subst (λ l. length l ≤ 65536) entered invariant.few) in
          let whole = ap length entered in
          let less : left - w.count_ways-count.result < length others = omega (arith, exact.0, exact.1, whole, invariant.inside, w.if-left-count.false) in
          let split : left ≡ length firsts + (left - w.count_ways-count.result) = omega (arith, exact.0, w.if-left-count.false, length-map inner (join (of_choice name))) in
          record {
            same = invariant.same;
            few = omega (arith, exact.1, whole, invariant.few);
            inside = subst (λ n. n < length others) (sym w.left-is) less;
            leads = λ before after g.
                invariant.leads before after
                (subst (λ l. GoesOn before l left after) (sym entered)
                (goes_later before after firsts others (left - w.count_ways-count.result) left split
                (subst (λ n. GoesOn before others n after) w.left-is g)));
          }
      | push_approval-else-accepts w ↦
          let passed = from_passed documents levels element index document c.loop-document-test.true c.document-item.is (sym c.accepts.ensures ∙ w.if-accepts.false) in
          let whole = ap length passed in
          record {
            same = invariant.same;
            few = omega (arith, whole, invariant.few);
            inside = omega (arith, whole, invariant.inside, w.left-is);
            leads = λ before after g.
                invariant.leads before after
                (subst (λ l. GoesOn before l left after) (sym passed)
                (subst (λ n. GoesOn before (texts_from documents levels element (index + 1)) n after) w.left-is g));
          }
    ]

pub push_approval-returns : goal.push_approval-returns
push_approval-returns t c =
    let documents = c.args.scope.now.approvals.now in
    let levels = c.args.scope.now.levels in
    let element = c.args.element.now in
    let before = c.args.choices.now in
    let after = c.push_str.new.self in
    elim c.if-scope-gt0.branch [
      | push_approval-then-scope-gt0+else-loop-document-test w ↦
          let none = from_none documents levels element w.loop-document.document-index w.loop-document-test.false in
          let first : w.loop-document.left < 1 = omega (arith, ap length none, w.loop-document.invariant.inside) in
          on_ok_weaker c.push_str.result
          (λ e. w.loop-document.invariant.leads before after
          (subst (λ l. GoesOn before l w.loop-document.left after) (sym none)
          (goes_outside before after w.loop-document.left first (e ∙ ap (λ x. x ++ codes "/@*") (w.choices-is ∙ w.loop-document.invariant.same)))))
          c.push_str.ensures.ok
      | push_approval-else-scope-gt0 w ↦
          let none = no_level documents levels element w.if-scope-gt0.false in
          let first : c.args.index < 1 = omega (arith, ap length none, c.requires.inside) in
          on_ok_weaker c.push_str.result
          (λ e. subst (λ l. GoesOn before l c.args.index after) (sym none)
          (goes_outside before after c.args.index first (e ∙ ap (λ x. x ++ codes "/@*") w.choices-is)))
          c.push_str.ensures.ok
    ]

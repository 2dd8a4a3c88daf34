use Rattle.std.proofs.Common.{◌≡◌, ◌≢◌, ℕ, drop, ◌+◌, ◌-◌, ◌*◌, ◌/◌, ◌<◌, ◌≤◌, ◌++◌, List, min, [], ◌∷◌, length, refl, subst, sym, ap, ◌∙◌, length-append, arith}
use Rattle.std.proofs.lemmas.List.{length-map}
use Rattle.std.proofs.lemmas.Result.{IfOk-weaker, IfErr-weaker, err_from_is_err_and}
use Rattle.tpol_tree.specs.declared.closed.ClosedElement.{ClosedElement}
use Rattle.tpol_tree.specs.declared.path.ApprovedDoc.{ApprovedDoc}
use Rattle.tpol_tree.specs.declared.closed.ClosedBranch.{ClosedBranch}
use Rattle.tpol_digest.proofs.Weights.{weight, weight_of_element, weight_of_branches, greatest, weight-lt-greatest, level_less}
use Rattle.tpol_cert.specs.declared.choice.Choice.{Choice}
use Rattle.tpol_cert.specs.declared.choice.Choice.TheVariants.{Branch, Document, Outside}
use Rattle.tpol_cert.specs.Choices.{approval_choices, approved_choices, behind, branch_choices, document_choices, each_with, element_choices, element_list_choices}
use Rattle.tpol_cert.specs.Following.{IsStray, Leads, Strays}
use Rattle.tpol_cert.proofs.Apart.{branches_part, documents_are_apart, documents_from, element_part}
use Rattle.tpol_cert.proofs.Following.{Untouched, fits_two, leads_behind, leads_past, leads_through, leads_within, stray_by, strays_behind, strays_empty, strays_first, strays_past, strays_none, strays_second, strays_untouched, untouched_append, untouched_behind, untouched_branches, untouched_documents}
use Rattle.tpol_cert.proofs.Going.{choices_from, counted, counted_first, from_entered, from_none, from_passed, length-product, no_documents, parted}
use Rattle.tpol_cert.proofs.follow.+follow.Goals as goal
use Rattle.tpol_cert.proofs.follow.+follow.Goals.{follow_approval-then-accepts+in_default+in_ok-number, follow_approval-else-accepts, follow_approval-then-scope-gt0+else-loop-document-test, follow_approval-else-scope-gt0}

-- ---- elements

pub follow_elements-returns-then-count-eq0-clause-strays : goal.follow_elements-returns-then-count-eq0-clause-strays
follow_elements-returns-then-count-eq0-clause-strays t c =
    let documents = c.args.scope.now.approvals.now in
    let levels = c.args.scope.now.levels in
    let all = each_with (element_choices documents levels c.in-More.element.value) (element_list_choices documents levels c.in-More.rest.value) in
    let counted : c.args.count ≡ length all = rw c.in-More.is at c.requires.counted in
    rw c.in-More.is (strays_none c.args.steps.now all (omega (arith, counted, c.if-count-eq0.true)))

pub follow_elements-nonzero_div-behind : goal.follow_elements-nonzero_div-behind
follow_elements-nonzero_div-behind t c =
    let documents = c.args.scope.now.approvals.now in
    let levels = c.args.scope.now.levels in
    let element = c.in-More.element.value in
    let rest = c.in-More.rest.value in
    let firsts = element_choices documents levels element in
    let rests = element_list_choices documents levels rest in
    let counted = rw c.in-More.is at c.requires.counted in
    let p = parted documents levels element c.deref.result.now rest c.count_element_ways-ways.result c.args.count 0 c.deref.ensures c.count_element_ways-ways.ensures.ways counted c.requires.few (omega (arith, c.if-count-eq0.false)) in
    p.divides

pub follow_elements-follow_element-requires : goal.follow_elements-follow_element-requires
follow_elements-follow_element-requires t c =
    let documents = c.args.scope.now.approvals.now in
    let levels = c.args.scope.now.levels in
    let element = c.in-More.element.value in
    let rest = c.in-More.rest.value in
    let firsts = element_choices documents levels element in
    let rests = element_list_choices documents levels rest in
    let counted = rw c.in-More.is at c.requires.counted in
    let p = parted documents levels element c.deref.result.now rest c.count_element_ways-ways.result c.args.count 0 c.deref.ensures c.count_element_ways-ways.ensures.ways counted c.requires.few (omega (arith, c.if-count-eq0.false)) in
    let same = ap (λ e. length (element_choices documents levels e)) c.deref-in-More.ensures in
    (omega (arith, rw c.in-More.is at c.decreases, ap weight_of_element c.deref-in-More.ensures), omega (arith, p.first_few, same))

pub follow_elements-returns-in_err-first-in-More-clause-strays : goal.follow_elements-returns-in_err-first-in-More-clause-strays
follow_elements-returns-in_err-first-in-More-clause-strays t c =
    let documents = c.args.scope.now.approvals.now in
    let levels = c.args.scope.now.levels in
    let element = c.in-More.element.value in
    let rest = c.in-More.rest.value in
    let firsts = element_choices documents levels element in
    let rests = element_list_choices documents levels rest in
    let counted = rw c.in-More.is at c.requires.counted in
    let p = parted documents levels element c.deref.result.now rest c.count_element_ways-ways.result c.args.count 0 c.deref.ensures c.count_element_ways-ways.ensures.ways counted c.requires.few (omega (arith, c.if-count-eq0.false)) in
    let steps = c.args.steps.now in
    let stray = c.in_err-first-in-More.field-0.0 in
    let some : 0 < length rests = omega (arith, p.behind, p.behind_divides) in
    let here = subst (λ e. IsStray (element_choices documents levels e) steps stray) c.deref-in-More.ensures c.in_err-first-in-More.ensures.strays in
    let whole = stray_by firsts (each_with firsts rests) steps steps stray (λ left h. strays_first steps left firsts rests some h) here in
    let q = err_from_is_err_and c.from_residual.result c.from_residual.ensures.1 in
    rw (c.in-More.is, q.1, q.2) whole

pub follow_elements-follow_elements-requires : goal.follow_elements-follow_elements-requires
follow_elements-follow_elements-requires t c =
    let documents = c.args.scope.now.approvals.now in
    let levels = c.args.scope.now.levels in
    let element = c.in-More.element.value in
    let rest = c.in-More.rest.value in
    let firsts = element_choices documents levels element in
    let rests = element_list_choices documents levels rest in
    let counted = rw c.in-More.is at c.requires.counted in
    let p = parted documents levels element c.deref.result.now rest c.count_element_ways-ways.result c.args.count 0 c.deref.ensures c.count_element_ways-ways.ensures.ways counted c.requires.few (omega (arith, c.if-count-eq0.false)) in (
      omega (arith, rw c.in-More.is at c.decreases, ap weight c.deref-in-More-2.ensures),
      (p.behind ∙ ap (λ e. length (element_list_choices documents levels e)) (sym c.deref-in-More-2.ensures), p.rest_few),
    )

pub follow_elements-returns-in_err-second-in-More-clause-strays : goal.follow_elements-returns-in_err-second-in-More-clause-strays
follow_elements-returns-in_err-second-in-More-clause-strays t c =
    let documents = c.args.scope.now.approvals.now in
    let levels = c.args.scope.now.levels in
    let element = c.in-More.element.value in
    let rest = c.in-More.rest.value in
    let firsts = element_choices documents levels element in
    let rests = element_list_choices documents levels rest in
    let counted = rw c.in-More.is at c.requires.counted in
    let p = parted documents levels element c.deref.result.now rest c.count_element_ways-ways.result c.args.count 0 c.deref.ensures c.count_element_ways-ways.ensures.ways counted c.requires.few (omega (arith, c.if-count-eq0.false)) in
    let steps = c.args.steps.now in
    let led = c.in_ok-first-in-More.first in
    let stray = c.in_err-second-in-More.field-0.0 in
    let some : 0 < length rests = omega (arith, p.behind, p.behind_divides) in
    let first = subst (λ e. Leads (element_choices documents levels e) steps led.index led.left.now) c.deref-in-More.ensures c.in_ok-first-in-More.ensures.leads in
    let apart = element_part (document_choices documents levels) documents (documents_are_apart documents levels) element in
    let here = subst (λ e. IsStray (element_list_choices documents levels e) led.left.now stray) c.deref-in-More-2.ensures c.in_err-second-in-More.ensures.strays in
    let whole = stray_by rests (each_with firsts rests) led.left.now steps stray (λ left h. strays_second steps led.left.now left firsts rests led.index apart some first h) here in
    let q = err_from_is_err_and c.from_residual-in_err-second-in-More.result c.from_residual-in_err-second-in-More.ensures.1 in
    rw (c.in-More.is, q.1, q.2) whole

pub follow_elements-overflow_mul-result : goal.follow_elements-overflow_mul-result
follow_elements-overflow_mul-result t c =
    let documents = c.args.scope.now.approvals.now in
    let levels = c.args.scope.now.levels in
    let element = c.in-More.element.value in
    let rest = c.in-More.rest.value in
    let firsts = element_choices documents levels element in
    let rests = element_list_choices documents levels rest in
    let counted = rw c.in-More.is at c.requires.counted in
    let p = parted documents levels element c.deref.result.now rest c.count_element_ways-ways.result c.args.count 0 c.deref.ensures c.count_element_ways-ways.ensures.ways counted c.requires.few (omega (arith, c.if-count-eq0.false)) in
    let led = c.in_ok-first-in-More.first in
    let next = c.in_ok-second-in-More.second in
    let behind = c.args.count / c.count_element_ways-ways.result in
    let first = subst (λ e. Leads (element_choices documents levels e) c.args.steps.now led.index led.left.now) c.deref-in-More.ensures c.in_ok-first-in-More.ensures.leads in
    let second = subst (λ e. Leads (element_list_choices documents levels e) led.left.now next.index next.left.now) c.deref-in-More-2.ensures c.in_ok-second-in-More.ensures.leads in
    let i = leads_within firsts c.args.steps.now led.left.now led.index first in
    let j = leads_within rests led.left.now next.left.now next.index second in
    let both = fits_two led.index next.index (length firsts) (length rests) (omega (arith, counted, c.requires.few, length-product firsts rests)) i j in
    let whole : led.index * behind ≤ 65536 = subst (λ n. led.index * n ≤ 65536) (sym p.behind) both.0 in
    omega (arith, whole)

pub follow_elements-overflow_add-result : goal.follow_elements-overflow_add-result
follow_elements-overflow_add-result t c =
    let documents = c.args.scope.now.approvals.now in
    let levels = c.args.scope.now.levels in
    let element = c.in-More.element.value in
    let rest = c.in-More.rest.value in
    let firsts = element_choices documents levels element in
    let rests = element_list_choices documents levels rest in
    let counted = rw c.in-More.is at c.requires.counted in
    let p = parted documents levels element c.deref.result.now rest c.count_element_ways-ways.result c.args.count 0 c.deref.ensures c.count_element_ways-ways.ensures.ways counted c.requires.few (omega (arith, c.if-count-eq0.false)) in
    let led = c.in_ok-first-in-More.first in
    let next = c.in_ok-second-in-More.second in
    let behind = c.args.count / c.count_element_ways-ways.result in
    let first = subst (λ e. Leads (element_choices documents levels e) c.args.steps.now led.index led.left.now) c.deref-in-More.ensures c.in_ok-first-in-More.ensures.leads in
    let second = subst (λ e. Leads (element_list_choices documents levels e) led.left.now next.index next.left.now) c.deref-in-More-2.ensures c.in_ok-second-in-More.ensures.leads in
    let i = leads_within firsts c.args.steps.now led.left.now led.index first in
    let j = leads_within rests led.left.now next.left.now next.index second in
    let both = fits_two led.index next.index (length firsts) (length rests) (omega (arith, counted, c.requires.few, length-product firsts rests)) i j in
    let whole : led.index * behind + next.index ≤ 65536 = subst (λ n. led.index * n + next.index ≤ 65536) (sym p.behind) both.1 in
    omega (arith, whole)

pub follow_elements-returns-in_ok-second-in-More-clause-leads : goal.follow_elements-returns-in_ok-second-in-More-clause-leads
follow_elements-returns-in_ok-second-in-More-clause-leads t c =
    let documents = c.args.scope.now.approvals.now in
    let levels = c.args.scope.now.levels in
    let element = c.in-More.element.value in
    let rest = c.in-More.rest.value in
    let firsts = element_choices documents levels element in
    let rests = element_list_choices documents levels rest in
    let counted = rw c.in-More.is at c.requires.counted in
    let p = parted documents levels element c.deref.result.now rest c.count_element_ways-ways.result c.args.count 0 c.deref.ensures c.count_element_ways-ways.ensures.ways counted c.requires.few (omega (arith, c.if-count-eq0.false)) in
    let led = c.in_ok-first-in-More.first in
    let next = c.in_ok-second-in-More.second in
    let behind = c.args.count / c.count_element_ways-ways.result in
    let first = subst (λ e. Leads (element_choices documents levels e) c.args.steps.now led.index led.left.now) c.deref-in-More.ensures c.in_ok-first-in-More.ensures.leads in
    let second = subst (λ e. Leads (element_list_choices documents levels e) led.left.now next.index next.left.now) c.deref-in-More-2.ensures c.in_ok-second-in-More.ensures.leads in
    rw c.in-More.is (leads_through c.args.steps.now led.left.now next.left.now firsts rests led.index next.index (led.index * behind + next.index) first second (ap (λ n. led.index * n + next.index) p.behind))

-- ---- branches

pub follow_branch-returns-then-count-eq0-clause-strays : goal.follow_branch-returns-then-count-eq0-clause-strays
follow_branch-returns-then-count-eq0-clause-strays t c =
    let documents = c.args.scope.now.approvals.now in
    let levels = c.args.scope.now.levels in
    let position = c.args.position in
    let same = ap (λ (b : ClosedBranch). b.policy.elements) c.deref.ensures in
    let inner = element_list_choices documents levels c.in-More.branch.value.policy.elements in
    let others = branch_choices documents levels c.in-More.others.value (position + 1) in
    let count = subst (λ e. c.count_ways-count.result ≡ min (length (element_list_choices documents levels e)) 65537) same (counted documents levels c.deref.result.now.policy.elements c.count_ways-count.result c.count_ways-count.ensures.ways) in
    let begins = (branches_part (document_choices documents levels) documents (documents_are_apart documents levels) c.in-More.others.value (position + 1)).1 in
    rw c.in-More.is (strays_empty c.args.steps.now c.in-Some.rest.now (Branch position) inner others c.in-Some.ensures.taken (omega (arith, count, c.if-count-eq0.true)) (untouched_branches position c.in-Some.rest.now others begins))

pub follow_branch-follow_elements-requires : goal.follow_branch-follow_elements-requires
follow_branch-follow_elements-requires t c =
    let documents = c.args.scope.now.approvals.now in
    let levels = c.args.scope.now.levels in
    let same = ap (λ (b : ClosedBranch). b.policy.elements) c.deref.ensures in
    let inner = element_list_choices documents levels c.in-More.branch.value.policy.elements in
    let others = branch_choices documents levels c.in-More.others.value (c.args.position + 1) in
    let few = rw c.in-More.is at c.requires.few in
    let count = subst (λ e. c.count_ways-count.result ≡ min (length (element_list_choices documents levels e)) 65537) same (counted documents levels c.deref.result.now.policy.elements c.count_ways-count.result c.count_ways-count.ensures.ways) in
    let exact = counted_first c.count_ways-count.result (Branch c.args.position) inner others count few in (
      omega (arith, rw c.in-More.is at c.decreases, ap weight same),
      (exact.0 ∙ ap (λ e. length (element_list_choices documents levels e)) (sym same), omega (arith, exact.1, few)),
    )

pub follow_branch-returns-else-count-eq0-clause-leads : goal.follow_branch-returns-else-count-eq0-clause-leads
follow_branch-returns-else-count-eq0-clause-leads t c =
    let documents = c.args.scope.now.approvals.now in
    let levels = c.args.scope.now.levels in
    let position = c.args.position in
    let same = ap (λ (b : ClosedBranch). b.policy.elements) c.deref.ensures in
    let inner = element_list_choices documents levels c.in-More.branch.value.policy.elements in
    let others = branch_choices documents levels c.in-More.others.value (position + 1) in
    rw c.in-More.is
    (IfOk-weaker c.follow_elements.result (λ led. Leads (element_list_choices documents levels c.deref.result.now.policy.elements) c.in-Some.rest.now led.index led.left.now) (λ led. Leads (behind (Branch position) inner ++ others) c.args.steps.now led.index led.left.now)
    (λ led h. leads_behind c.args.steps.now c.in-Some.rest.now led.left.now (Branch position) inner others led.index c.in-Some.ensures.taken
    (subst (λ e. Leads (element_list_choices documents levels e) c.in-Some.rest.now led.index led.left.now) same h))
    c.follow_elements.ensures.leads)

pub follow_branch-returns-else-count-eq0-clause-strays : goal.follow_branch-returns-else-count-eq0-clause-strays
follow_branch-returns-else-count-eq0-clause-strays t c =
    let documents = c.args.scope.now.approvals.now in
    let levels = c.args.scope.now.levels in
    let position = c.args.position in
    let same = ap (λ (b : ClosedBranch). b.policy.elements) c.deref.ensures in
    let inner = element_list_choices documents levels c.in-More.branch.value.policy.elements in
    let others = branch_choices documents levels c.in-More.others.value (position + 1) in
    let count = subst (λ e. c.count_ways-count.result ≡ min (length (element_list_choices documents levels e)) 65537) same (counted documents levels c.deref.result.now.policy.elements c.count_ways-count.result c.count_ways-count.ensures.ways) in
    let some : 0 < length inner = omega (arith, count, c.if-count-eq0.false) in
    let begins = (branches_part (document_choices documents levels) documents (documents_are_apart documents levels) c.in-More.others.value (position + 1)).1 in
    let away = untouched_branches position c.in-Some.rest.now others begins in
    rw c.in-More.is
    (IfErr-weaker c.follow_elements.result (λ stray. IsStray (element_list_choices documents levels c.deref.result.now.policy.elements) c.in-Some.rest.now stray) (λ stray. IsStray (behind (Branch position) inner ++ others) c.args.steps.now stray)
    (λ stray h. stray_by inner (behind (Branch position) inner ++ others) c.in-Some.rest.now c.args.steps.now stray
    (λ left g. strays_behind c.args.steps.now c.in-Some.rest.now left (Branch position) inner others c.in-Some.ensures.taken some away g)
    (subst (λ e. IsStray (element_list_choices documents levels e) c.in-Some.rest.now stray) same h))
    c.follow_elements.ensures.strays)

pub follow_branch-follow_branch-requires : goal.follow_branch-follow_branch-requires
follow_branch-follow_branch-requires t c =
    let documents = c.args.scope.now.approvals.now in
    let levels = c.args.scope.now.levels in
    let inner = element_list_choices documents levels c.in-More.branch.value.policy.elements in
    let others = branch_choices documents levels c.in-More.others.value (c.args.position + 1) in
    let ways = ap (λ n. length (branch_choices documents levels c.deref-in-None.result.now n)) c.in_ok-next-in-None.ensures.next ∙ ap (λ r. length (branch_choices documents levels r (c.args.position + 1))) c.deref-in-None.ensures in (
      omega (arith, rw c.in-More.is at c.decreases, ap weight_of_branches c.deref-in-None.ensures),
      omega (arith, ways, length-append (behind (Branch c.args.position) inner) others, rw c.in-More.is at c.requires.few),
    )

pub follow_branch-returns-in_err-led-in-None-clause-strays : goal.follow_branch-returns-in_err-led-in-None-clause-strays
follow_branch-returns-in_err-led-in-None-clause-strays t c =
    let documents = c.args.scope.now.approvals.now in
    let levels = c.args.scope.now.levels in
    let position = c.args.position in
    let steps = c.args.steps.now in
    let inner = element_list_choices documents levels c.in-More.branch.value.policy.elements in
    let others = branch_choices documents levels c.in-More.others.value (position + 1) in
    let stray = c.in_err-led-in-None.field-0.0 in
    let here = subst (λ r. IsStray (branch_choices documents levels r (position + 1)) steps stray) c.deref-in-None.ensures
    (subst (λ n. IsStray (branch_choices documents levels c.deref-in-None.result.now n) steps stray) c.in_ok-next-in-None.ensures.next c.in_err-led-in-None.ensures.strays) in
    let away = untouched_behind steps (Branch position) inner c.in-None.ensures.missed in
    let whole = stray_by others (behind (Branch position) inner ++ others) steps steps stray (λ left h. strays_past steps left (behind (Branch position) inner) others away h) here in
    let p = err_from_is_err_and c.from_residual-in_err-led-in-None.result c.from_residual-in_err-led-in-None.ensures.1 in
    rw (c.in-More.is, p.1, p.2) whole

pub follow_branch-overflow_add-result : goal.follow_branch-overflow_add-result
follow_branch-overflow_add-result t c =
    let documents = c.args.scope.now.approvals.now in
    let levels = c.args.scope.now.levels in
    let position = c.args.position in
    let same = ap (λ (b : ClosedBranch). b.policy.elements) c.deref.ensures in
    let inner = element_list_choices documents levels c.in-More.branch.value.policy.elements in
    let others = branch_choices documents levels c.in-More.others.value (position + 1) in
    let led = c.in_ok-led-in-None.led in
    let count = subst (λ e. c.count_ways-count.result ≡ min (length (element_list_choices documents levels e)) 65537) same (counted documents levels c.deref.result.now.policy.elements c.count_ways-count.result c.count_ways-count.ensures.ways) in
    let exact = counted_first c.count_ways-count.result (Branch position) inner others count (rw c.in-More.is at c.requires.few) in
    let here = subst (λ r. Leads (branch_choices documents levels r (position + 1)) c.args.steps.now led.index led.left.now) c.deref-in-None.ensures
    (subst (λ n. Leads (branch_choices documents levels c.deref-in-None.result.now n) c.args.steps.now led.index led.left.now) c.in_ok-next-in-None.ensures.next c.in_ok-led-in-None.ensures.leads) in
    let inside = leads_within others c.args.steps.now led.left.now led.index here in
    omega (arith, exact.1, inside, rw c.in-More.is at c.requires.few)

pub follow_branch-returns-in_ok-led-in-None-clause-leads : goal.follow_branch-returns-in_ok-led-in-None-clause-leads
follow_branch-returns-in_ok-led-in-None-clause-leads t c =
    let documents = c.args.scope.now.approvals.now in
    let levels = c.args.scope.now.levels in
    let position = c.args.position in
    let same = ap (λ (b : ClosedBranch). b.policy.elements) c.deref.ensures in
    let inner = element_list_choices documents levels c.in-More.branch.value.policy.elements in
    let others = branch_choices documents levels c.in-More.others.value (position + 1) in
    let led = c.in_ok-led-in-None.led in
    let count = subst (λ e. c.count_ways-count.result ≡ min (length (element_list_choices documents levels e)) 65537) same (counted documents levels c.deref.result.now.policy.elements c.count_ways-count.result c.count_ways-count.ensures.ways) in
    let exact = counted_first c.count_ways-count.result (Branch position) inner others count (rw c.in-More.is at c.requires.few) in
    let here = subst (λ r. Leads (branch_choices documents levels r (position + 1)) c.args.steps.now led.index led.left.now) c.deref-in-None.ensures
    (subst (λ n. Leads (branch_choices documents levels c.deref-in-None.result.now n) c.args.steps.now led.index led.left.now) c.in_ok-next-in-None.ensures.next c.in_ok-led-in-None.ensures.leads) in
    rw c.in-More.is (leads_past c.args.steps.now led.left.now (behind (Branch position) inner) others led.index (c.count_ways-count.result + led.index) (omega (arith, exact.0, length-map inner (λ rest. Branch position ∷ rest))) here)

-- ---- approvals

-- the choices by later documents, and by another policy, are of other choices
later_away : (documents : List ApprovedDoc) (levels : ℕ) (element : ClosedElement) (number i : ℕ) (rest : List Choice) → Untouched (Document number ∷ rest) (choices_from documents levels element (number + 1) i)
later_away documents levels element number i rest =
    let begins = documents_from (document_choices documents levels) documents (documents_are_apart documents levels) element (drop i documents) (number + 1) in
    untouched_append (Document number ∷ rest) (approved_choices (document_choices documents levels) (number + 1) element (drop i documents)) ((Outside ∷ []) ∷ []) (untouched_documents number rest (approved_choices (document_choices documents levels) (number + 1) element (drop i documents)) begins) ((refl, omega arith), tt)

by_outside : (steps rest : List Choice) → steps ≡ Outside ∷ rest → Leads ((Outside ∷ []) ∷ []) steps 0 rest
by_outside steps rest e = record { choices = Outside ∷ []; is_there = refl; follows = e }

pub follow_approval-returns-then-count-eq0-clause-strays : goal.follow_approval-returns-then-count-eq0-clause-strays
follow_approval-returns-then-count-eq0-clause-strays t c =
    let documents = c.args.scope.now.approvals.now in
    let levels = c.args.scope.now.levels in
    let element = c.args.element.now in
    let steps = c.args.steps.now in
    let document = c.document-item.result in
    let index = c.loop-document.document-index in
    let number = c.loop-document.number in
    let level : levels ≢ 0 = omega (arith, c.if-scope-gt0.true) in
    let inner = element_list_choices documents (levels - 1) document.closed.elements in
    let later = choices_from documents levels element (number + 1) (index + 1) in
    let entered = from_entered documents levels element number index document c.loop-document-test.true c.document-item.is level (sym c.accepts.ensures ∙ c.if-accepts.true) in
    let count = counted documents (levels - 1) document.closed.elements c.count_ways-count.result c.count_ways-count.ensures.ways in
    c.loop-document.invariant.strays steps
    (subst (λ l. Strays l steps steps) (sym entered)
    (strays_empty steps c.in-Some.rest.now (Document number) inner later c.in-Some.ensures.taken (omega (arith, count, c.if-count-eq0.true)) (later_away documents levels element number (index + 1) c.in-Some.rest.now)))

pub follow_approval-follow_elements-requires : goal.follow_approval-follow_elements-requires
follow_approval-follow_elements-requires t c =
    let documents = c.args.scope.now.approvals.now in
    let levels = c.args.scope.now.levels in
    let element = c.args.element.now in
    let document = c.document-item.result in
    let index = c.loop-document.document-index in
    let number = c.loop-document.number in
    let level : levels ≢ 0 = omega (arith, c.if-scope-gt0.true) in
    let light = weight-lt-greatest documents index document c.loop-document-test.true in
    let lighter : weight document.closed.elements < greatest documents = subst (λ x. weight x.closed.elements < greatest documents) (sym c.document-item.is) light in
    let less = level_less levels (greatest documents) (weight document.closed.elements) (omega (arith, c.if-scope-gt0.true)) lighter in
    let inner = element_list_choices documents (levels - 1) document.closed.elements in
    let later = choices_from documents levels element (number + 1) (index + 1) in
    let entered = from_entered documents levels element number index document c.loop-document-test.true c.document-item.is level (sym c.accepts.ensures ∙ c.if-accepts.true) in
    let few : length (behind (Document number) inner ++ later) ≤ 65536 = omega (arith, ap length entered, c.loop-document.invariant.few) in
    let count = counted documents (levels - 1) document.closed.elements c.count_ways-count.result c.count_ways-count.ensures.ways in
    let exact = counted_first c.count_ways-count.result (Document number) inner later count few in
    (omega (arith, less, c.decreases), (exact.0, omega (arith, exact.1, few)))

pub follow_approval-returns-in_err-led-clause-strays : goal.follow_approval-returns-in_err-led-clause-strays
follow_approval-returns-in_err-led-clause-strays t c =
    let documents = c.args.scope.now.approvals.now in
    let levels = c.args.scope.now.levels in
    let element = c.args.element.now in
    let steps = c.args.steps.now in
    let document = c.document-item.result in
    let index = c.loop-document.document-index in
    let number = c.loop-document.number in
    let rest = c.in-Some.rest.now in
    let stray = c.in_err-led.field-0.0 in
    let level : levels ≢ 0 = omega (arith, c.if-scope-gt0.true) in
    let inner = element_list_choices documents (levels - 1) document.closed.elements in
    let later = choices_from documents levels element (number + 1) (index + 1) in
    let entered = from_entered documents levels element number index document c.loop-document-test.true c.document-item.is level (sym c.accepts.ensures ∙ c.if-accepts.true) in
    let count = counted documents (levels - 1) document.closed.elements c.count_ways-count.result c.count_ways-count.ensures.ways in
    let some : 0 < length inner = omega (arith, count, c.if-count-eq0.false) in
    let whole = stray_by inner (approval_choices documents levels element) rest steps stray
    (λ left h. c.loop-document.invariant.strays left
    (subst (λ l. Strays l steps left) (sym entered)
    (strays_behind steps rest left (Document number) inner later c.in-Some.ensures.taken some (later_away documents levels element number (index + 1) rest) h)))
    c.in_err-led.ensures.strays in
    let p = err_from_is_err_and c.from_residual.result c.from_residual.ensures.1 in
    rw (p.1, p.2) whole

pub follow_approval-overflow_add-result : goal.follow_approval-overflow_add-result
follow_approval-overflow_add-result t c =
    let documents = c.args.scope.now.approvals.now in
    let levels = c.args.scope.now.levels in
    let element = c.args.element.now in
    let document = c.document-item.result in
    let index = c.loop-document.document-index in
    let number = c.loop-document.number in
    let level : levels ≢ 0 = omega (arith, c.if-scope-gt0.true) in
    let inner = element_list_choices documents (levels - 1) document.closed.elements in
    let later = choices_from documents levels element (number + 1) (index + 1) in
    let entered = from_entered documents levels element number index document c.loop-document-test.true c.document-item.is level (sym c.accepts.ensures ∙ c.if-accepts.true) in
    let inside = leads_within inner c.in-Some.rest.now c.in_ok-led.led.left.now c.in_ok-led.led.index c.in_ok-led.ensures.leads in
    omega (arith, inside, ap length entered, length-append (behind (Document number) inner) later, length-map inner (λ rest. Document number ∷ rest), c.loop-document.invariant.few)

pub follow_approval-returns-in-Some-clause-leads : goal.follow_approval-returns-in-Some-clause-leads
follow_approval-returns-in-Some-clause-leads t c =
    let documents = c.args.scope.now.approvals.now in
    let levels = c.args.scope.now.levels in
    let element = c.args.element.now in
    let steps = c.args.steps.now in
    let document = c.document-item.result in
    let index = c.loop-document.document-index in
    let number = c.loop-document.number in
    let rest = c.in-Some.rest.now in
    let led = c.in_ok-led.led in
    let level : levels ≢ 0 = omega (arith, c.if-scope-gt0.true) in
    let inner = element_list_choices documents (levels - 1) document.closed.elements in
    let later = choices_from documents levels element (number + 1) (index + 1) in
    let entered = from_entered documents levels element number index document c.loop-document-test.true c.document-item.is level (sym c.accepts.ensures ∙ c.if-accepts.true) in
    c.loop-document.invariant.leads led.index led.left.now
    (subst (λ l. Leads l steps led.index led.left.now) (sym entered)
    (leads_behind steps rest led.left.now (Document number) inner later led.index c.in-Some.ensures.taken c.in_ok-led.ensures.leads))

pub follow_approval-overflow_add-passed : goal.follow_approval-overflow_add-passed
follow_approval-overflow_add-passed t c =
    let documents = c.args.scope.now.approvals.now in
    let levels = c.args.scope.now.levels in
    let element = c.args.element.now in
    let document = c.document-item.result in
    let index = c.loop-document.document-index in
    let number = c.loop-document.number in
    let level : levels ≢ 0 = omega (arith, c.if-scope-gt0.true) in
    let inner = element_list_choices documents (levels - 1) document.closed.elements in
    let later = choices_from documents levels element (number + 1) (index + 1) in
    let entered = from_entered documents levels element number index document c.loop-document-test.true c.document-item.is level (sym c.accepts.ensures ∙ c.if-accepts.true) in
    let count = counted documents (levels - 1) document.closed.elements c.count_ways-count.result c.count_ways-count.ensures.ways in
    omega (arith, count, ap length entered, length-append (behind (Document number) inner) later, length-map inner (λ rest. Document number ∷ rest), c.loop-document.invariant.few)

pub follow_approval-loop-document-init : goal.follow_approval-loop-document-init
follow_approval-loop-document-init t c = record {
  few = omega (arith, c.requires.few);
  leads = λ index left g.
      let same : index ≡ 0 + index = omega arith in
      subst (λ n. Leads (approval_choices c.args.scope.now.approvals.now c.args.scope.now.levels c.args.element.now) c.args.steps.now n left) same g;
  strays = λ left g. g;
}

pub follow_approval-loop-document-preserved : goal.follow_approval-loop-document-preserved
follow_approval-loop-document-preserved t c =
    let documents = c.args.scope.now.approvals.now in
    let levels = c.args.scope.now.levels in
    let element = c.args.element.now in
    let steps = c.args.steps.now in
    let document = c.document-item.result in
    let index = c.loop-document.document-index in
    let number = c.loop-document.number in
    let passed = c.loop-document.passed in
    let all = approval_choices documents levels element in
    let level : levels ≢ 0 = omega (arith, c.if-scope-gt0.true) in
    let invariant = c.loop-document.invariant in
    elim c.if-accepts.branch [
      | follow_approval-then-accepts+in_default+in_ok-number w ↦
          let inner = element_list_choices documents (levels - 1) document.closed.elements in
          let firsts = behind (Document number) inner in
          let later = choices_from documents levels element (number + 1) (index + 1) in
          let entered = from_entered documents levels element number index document c.loop-document-test.true c.document-item.is level (sym c.accepts.ensures ∙ w.if-accepts.true) in
          let count = counted documents (levels - 1) document.closed.elements w.count_ways-count.result w.count_ways-count.ensures.ways in
          let total = ap length entered in
          let parts = length-append firsts later in
          let same = length-map inner (λ rest. Document number ∷ rest) in
          let next : c.if-accepts.number ≡ number + 1 = w.number-is ∙ w.in_ok-number.ensures.next in
          let more : c.if-accepts.passed ≡ passed + length firsts = omega (arith, w.passed-is, count, total, parts, same, invariant.few) in
          let away = untouched_behind steps (Document number) inner w.in_default.ensures.missed in
          record {
            few = subst (λ n. c.if-accepts.passed + length (choices_from documents levels element n (index + 1)) ≤ 65536) (sym next) (omega (arith, more, total, parts, invariant.few));
            leads = λ k left g.
                let moved : passed + (length firsts + k) ≡ c.if-accepts.passed + k = omega (arith, more) in
                subst (λ n. Leads all steps n left) moved
                (invariant.leads (length firsts + k) left
                (subst (λ l. Leads l steps (length firsts + k) left) (sym entered)
                (leads_past steps left firsts later k (length firsts + k) refl
                (subst (λ n. Leads (choices_from documents levels element n (index + 1)) steps k left) next g))));
            strays = λ left g.
                invariant.strays left
                (subst (λ l. Strays l steps left) (sym entered)
                (strays_past steps left firsts later away (subst (λ n. Strays (choices_from documents levels element n (index + 1)) steps left) next g)));
          }
      | follow_approval-else-accepts w ↦
          let gone = from_passed documents levels element number index document c.loop-document-test.true c.document-item.is (sym c.accepts.ensures ∙ w.if-accepts.false) in
          record {
            few = subst (λ n. c.if-accepts.passed + length (choices_from documents levels element n (index + 1)) ≤ 65536) (sym w.number-is) (omega (arith, w.passed-is, ap length gone, invariant.few));
            leads = λ k left g.
                subst (λ n. Leads all steps (n + k) left) (sym w.passed-is)
                (invariant.leads k left
                (subst (λ l. Leads l steps k left) (sym gone) (subst (λ n. Leads (choices_from documents levels element n (index + 1)) steps k left) w.number-is g)));
            strays = λ left g.
                invariant.strays left
                (subst (λ l. Strays l steps left) (sym gone) (subst (λ n. Strays (choices_from documents levels element n (index + 1)) steps left) w.number-is g));
          }
    ]

pub follow_approval-returns-in-Some-behind-clause-leads : goal.follow_approval-returns-in-Some-behind-clause-leads
follow_approval-returns-in-Some-behind-clause-leads t c =
    let documents = c.args.scope.now.approvals.now in
    let levels = c.args.scope.now.levels in
    let element = c.args.element.now in
    let steps = c.args.steps.now in
    let rest = c.in-Some-behind.rest.now in
    let all = approval_choices documents levels element in
    elim c.if-scope-gt0.branch [
      | follow_approval-then-scope-gt0+else-loop-document-test w ↦
          let none = from_none documents levels element w.loop-document.number w.loop-document.document-index w.loop-document-test.false in
          let same : w.loop-document.passed + 0 ≡ c.if-scope-gt0.passed = omega (arith, w.passed-is) in
          subst (λ n. Leads all steps n rest) same
          (w.loop-document.invariant.leads 0 rest (subst (λ l. Leads l steps 0 rest) (sym none) (by_outside steps rest c.in-Some-behind.ensures.taken)))
      | follow_approval-else-scope-gt0 w ↦
          let none = no_documents documents levels element w.if-scope-gt0.false in
          subst (λ n. Leads all steps n rest) (sym w.passed-is) (subst (λ l. Leads l steps 0 rest) (sym none) (by_outside steps rest c.in-Some-behind.ensures.taken))
    ]

pub follow_approval-returns-in-None-clause-strays : goal.follow_approval-returns-in-None-clause-strays
follow_approval-returns-in-None-clause-strays t c =
    let documents = c.args.scope.now.approvals.now in
    let levels = c.args.scope.now.levels in
    let element = c.args.element.now in
    let steps = c.args.steps.now in
    let last = strays_untouched steps ((Outside ∷ []) ∷ []) (untouched_behind steps Outside ([] ∷ []) c.in-None.ensures.missed) in
    elim c.if-scope-gt0.branch [
      | follow_approval-then-scope-gt0+else-loop-document-test w ↦
          let none = from_none documents levels element w.loop-document.number w.loop-document.document-index w.loop-document-test.false in
          w.loop-document.invariant.strays steps (subst (λ l. Strays l steps steps) (sym none) last)
      | follow_approval-else-scope-gt0 w ↦
          let none = no_documents documents levels element w.if-scope-gt0.false in
          subst (λ l. Strays l steps steps) (sym none) last
    ]

use Rattle.std.proofs.Common.{◌+◌, ◌<◌, ◌≤◌, take, subst, sym, ◌∙◌, arith}
use Rattle.std.proofs.lemmas.List.{take_all}
use Rattle.tpol_digest.specs.Extent.{IsCapped, extent_by_approval, extent_at_element, extent_at, document_extent}
use Rattle.tpol_digest.proofs.Weights.{weight, greatest, weight-lt-greatest, level_less}
use Rattle.tpol_digest.proofs.Extents.{capped_both, capped_start, capped_past, capped_entered, capped_passed, document_extent-none}
use Rattle.tpol_digest.proofs.counting.+counting.Goals as goal
use Rattle.tpol_digest.proofs.counting.+counting.Goals.{extent_of_documents-then-accepts, extent_of_documents-else-accepts}

pub extent_of_documents-returns-then-levels-eq0 : goal.extent_of_documents-returns-then-levels-eq0
extent_of_documents-returns-then-levels-eq0 t c =
    subst (λ within. IsCapped c.no_path-extent.result (extent_by_approval within c.args.element.now c.args.approvals.now)) (sym (document_extent-none c.args.approvals.now c.args.levels c.if-levels-eq0.true)) (record { paths = c.no_path-extent.ensures.paths; moves = λ _. c.no_path-extent.ensures.moves })

pub extent_of_elements-returns-in-More : goal.extent_of_elements-returns-in-More
extent_of_elements-returns-in-More t c =
    let within = document_extent c.args.approvals.now c.args.levels in
    let documents = c.args.approvals.now in
    let first = subst (λ e. IsCapped c.extent_of_element.result (extent_at_element within documents e)) c.deref.ensures c.extent_of_element.ensures in
    let others = subst (λ e. IsCapped c.extent_of_elements.result (extent_at within documents e)) c.deref-in-More.ensures c.extent_of_elements.ensures in
    rw c.in-More.is (capped_both c.extent_of_element.result c.extent_of_elements.result c.then.result (extent_at_element within documents c.in-More.element.value) (extent_at within documents c.in-More.rest.value) first others c.then.ensures.paths c.then.ensures.moves)

pub extent_of_documents-loop-document-init : goal.extent_of_documents-loop-document-init
extent_of_documents-loop-document-init t c =
    capped_start (document_extent c.args.approvals.now c.args.levels) c.args.element.now c.no_path-extent.result c.no_path-extent.ensures.paths c.no_path-extent.ensures.moves

pub extent_of_documents-returns-then-extent-gt-MAX_PATHS : goal.extent_of_documents-returns-then-extent-gt-MAX_PATHS
extent_of_documents-returns-then-extent-gt-MAX_PATHS t c =
    capped_past c.args.approvals.now c.args.levels c.if-levels-eq0.false c.args.element.now c.loop-document.extent c.loop-document.document-index c.loop-document.invariant c.if-extent-gt-MAX_PATHS.true

pub extent_of_documents-extent_of_elements-requires : goal.extent_of_documents-extent_of_elements-requires
extent_of_documents-extent_of_elements-requires t c =
    let document = c.document-item.result in
    let light = weight-lt-greatest c.args.approvals.now c.loop-document.document-index document c.loop-document-test.true in
    let lighter : weight document.closed.elements < greatest c.args.approvals.now = subst (λ x. weight x.closed.elements < greatest c.args.approvals.now) (sym c.document-item.is) light in
    let some : 1 ≤ c.args.levels = omega (arith, c.if-levels-eq0.false) in
    let less = level_less c.args.levels (greatest c.args.approvals.now) (weight document.closed.elements) some lighter in
    omega (arith, less, c.decreases)

pub extent_of_documents-loop-document-preserved : goal.extent_of_documents-loop-document-preserved
extent_of_documents-loop-document-preserved t c =
    elim c.if-accepts.branch [
      | extent_of_documents-then-accepts w ↦ subst (λ x. IsCapped x (extent_by_approval (document_extent c.args.approvals.now c.args.levels) c.args.element.now (take (c.loop-document.document-index + 1) c.args.approvals.now))) (sym w.extent-is) (capped_entered c.args.approvals.now c.args.levels c.if-levels-eq0.false c.args.element.now c.loop-document.extent w.extent_of_elements.result w.with_move.result w.or-extent.result c.loop-document.document-index c.document-item.result c.loop-document-test.true c.document-item.is (sym c.accepts.ensures ∙ w.if-accepts.true) c.loop-document.invariant w.extent_of_elements.ensures w.with_move.ensures.paths w.with_move.ensures.moves w.or-extent.ensures.paths w.or-extent.ensures.moves)
      | extent_of_documents-else-accepts w ↦ subst (λ x. IsCapped x (extent_by_approval (document_extent c.args.approvals.now c.args.levels) c.args.element.now (take (c.loop-document.document-index + 1) c.args.approvals.now))) (sym w.extent-is) (capped_passed c.args.approvals.now c.args.levels c.if-levels-eq0.false c.args.element.now c.loop-document.extent c.loop-document.document-index c.document-item.result c.loop-document-test.true c.document-item.is (sym c.accepts.ensures ∙ w.if-accepts.false) c.loop-document.invariant)
    ]

pub extent_of_documents-returns : goal.extent_of_documents-returns
extent_of_documents-returns t c =
    subst (λ xs. IsCapped c.loop-document.extent (extent_by_approval (document_extent c.args.approvals.now c.args.levels) c.args.element.now xs)) (take_all c.loop-document.document-index c.args.approvals.now c.loop-document-test.false) c.loop-document.invariant

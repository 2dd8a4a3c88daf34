use Rattle.std.proofs.Common.{◌≡◌, ◌≢◌, ◌+◌, ◌-◌, ◌*◌, ◌<◌, ◌++◌, [], ◌∷◌, map, length, take, codes, subst, refl, sym, ap, ◌∙◌, arith}
use Rattle.std.proofs.lemmas.List.{append-nil, take_all}
use Rattle.std.proofs.lemmas.Result.{on_ok_weaker}
use Rattle.json.specs.Print.{quoted}
use Rattle.tpol_tree.specs.declared.closed.ClosedBranch.{ClosedBranch}
use Rattle.tpol_digest.proofs.Weights.{weight, weight_of_element, weight_of_branches, greatest, weight-lt-greatest}
use Rattle.tpol_lines.specs.declared.pen.Pen.{Pen}
use Rattle.tpol_lines.specs.PathLine.{assertion_kind}
use Rattle.tpol_lines.specs.Texts.{of_choice, of_kind, join, both, element_list_texts, element_texts, branch_texts, document_texts, approval_texts, step_texts, texts_of, texts_ahead, Writes}
use Rattle.tpol_digest.proofs.Shares.{share, share_some, entered_lighter}
use Rattle.tpol_digest.proofs.Images.{both-append, both-one, both-join, both_assoc, both-closed, both-first_none, of_more, of_assertion, of_or, of_key, of_index, documents_more, document_entered, document_passed, no_documents}
use Rattle.tpol_digest.specs.Images.{document_images}
use Rattle.tpol_lines.proofs.TextLaws.{texts, writes_then, writes_nothing, kind_left_out, kind_written, choice_written, line_written}
use Rattle.tpol_lines.proofs.path_lines.+path_lines.Goals as goal
use Rattle.tpol_lines.proofs.path_lines.+path_lines.Goals.{write_element-in-Authorize, write_element-in-AuthorizeNv, write_approvals-then-accepts+in_ok-push_name+in_ok-write_elements, write_approvals-else-accepts, write_approvals-then-levels-gt0+else-loop-document-test, write_approvals-else-levels-gt0}

-- ---- the end

pub write_ahead-write_elements-requires : goal.write_ahead-write_elements-requires
write_ahead-write_elements-requires t c = (omega (arith, rw c.in-After.is at c.decreases), tt)

pub write_approvals-write_elements-requires : goal.write_approvals-write_elements-requires
write_approvals-write_elements-requires t c =
    let documents = c.args.shelf.now.approvals.now in
    let document = c.document-item.result in
    let light = weight-lt-greatest documents c.loop-document.document-index document c.loop-document-test.true in
    let lighter : weight document.closed.elements < greatest documents = subst (λ x. weight x.closed.elements < greatest documents) (sym c.document-item.is) light in
    (omega (arith, entered_lighter documents c.args.levels (weight document.closed.elements) (omega (arith, c.if-levels-gt0.true)) lighter, c.decreases), tt)

pub write_element-write_elements-requires : goal.write_element-write_elements-requires
write_element-write_elements-requires t c =
    (omega (arith, rw c.in-Assert.is at c.decreases, share_some c.args.shelf.now.approvals.now c.args.levels), tt)

pub write_element-write_elements-requires-in-Assert : goal.write_element-write_elements-requires-in-Assert
write_element-write_elements-requires-in-Assert t c =
    (omega (arith, rw c.in-Assert.is at c.decreases, share_some c.args.shelf.now.approvals.now c.args.levels), tt)

pub write_elements-write_ahead-requires : goal.write_elements-write_ahead-requires
write_elements-write_ahead-requires t c =
    (omega (arith, rw c.in-End.is at c.decreases, share_some c.args.shelf.now.approvals.now c.args.levels), tt)

pub write_element-write_branches-requires : goal.write_element-write_branches-requires
write_element-write_branches-requires t c =
    (omega (arith, rw c.in-Or.is at c.decreases, share_some c.args.shelf.now.approvals.now c.args.levels), tt)

pub write_element-write_approvals-requires : goal.write_element-write_approvals-requires
write_element-write_approvals-requires t c =
    let some = share_some c.args.shelf.now.approvals.now c.args.levels in
    elim c.match-element.branch [
      | write_element-in-Authorize w ↦ (omega (arith, rw w.in-Authorize.is at c.decreases, some), tt)
      | write_element-in-AuthorizeNv w ↦ (omega (arith, rw w.in-AuthorizeNv.is at c.decreases, some), tt)
    ]

pub write_branches-write_branches-requires : goal.write_branches-write_branches-requires
write_branches-write_branches-requires t c =
    let s = share c.args.shelf.now.approvals.now c.args.levels in
    let same = ap (λ b. weight_of_branches b * s) c.deref-in-More-2.ensures in
    (omega (arith, rw c.in-More.is at c.decreases, same, share_some c.args.shelf.now.approvals.now c.args.levels), tt)

pub write_branches-write_elements-requires : goal.write_branches-write_elements-requires
write_branches-write_elements-requires t c =
    let s = share c.args.shelf.now.approvals.now c.args.levels in
    let same = ap (λ (b : ClosedBranch). weight b.policy.elements * s) c.deref-in-More.ensures in
    (omega (arith, rw c.in-More.is at c.decreases, same, share_some c.args.shelf.now.approvals.now c.args.levels), tt)

pub write_elements-write_element-requires : goal.write_elements-write_element-requires
write_elements-write_element-requires t c =
    let s = share c.args.shelf.now.approvals.now c.args.levels in
    let first = ap (λ e. weight_of_element e * s) c.deref.ensures in
    let rest = ap (λ e. weight e * s) c.deref-in-More.ensures in
    (omega (arith, rw c.in-More.is at c.decreases, first, rest, share_some c.args.shelf.now.approvals.now c.args.levels), tt)

pub write_approvals-write_ahead-requires : goal.write_approvals-write_ahead-requires
write_approvals-write_ahead-requires t c =
    (omega (arith, c.decreases, share_some c.args.shelf.now.approvals.now c.args.levels), tt)

-- ---- what is written

pub write_ahead-returns-in-Nothing : goal.write_ahead-returns-in-Nothing
write_ahead-returns-in-Nothing t c =
    rw c.in-Nothing.is (on_ok_weaker c.write.result (λ e. line_written c.args.shelf.now.form c.args.pen.now c.write.new.self e c.write.ensures.choices c.write.ensures.kinds) c.write.ensures.lines)

pub write_ahead-returns-in_ok-write_elements-in-After : goal.write_ahead-returns-in_ok-write_elements-in-After
write_ahead-returns-in_ok-write_elements-in-After t c =
    let documents = c.args.shelf.now.approvals.now in
    let after : Pen = record { lines = c.write_elements-in-After.new.pen.lines; choices = c.write_elements-in-After.new.pen.choices; kinds = c.truncate.new.self } in
    rw c.in-After.is (kind_written c.args.shelf.now.form c.args.pen.now c.push_kind.new.self c.write_elements-in-After.new.pen after c.in-After.kind.now (both (element_list_texts documents c.in-After.levels c.in-After.rest.now) (texts_ahead documents c.in-After.ahead.now)) c.len-kept.result c.in_ok-push_kind-in-After.ensures.lines c.in_ok-push_kind-in-After.ensures.choices c.in_ok-push_kind-in-After.ensures.kinds c.in_ok-write_elements-in-After.ensures (c.len-kept.ensures ∙ c.args.pen.now.kinds.ok.0) refl refl c.truncate.ensures.items)

pub write_ahead-returns-in-Label : goal.write_ahead-returns-in-Label
write_ahead-returns-in-Label t c =
    let behind = both (element_list_texts c.args.shelf.now.approvals.now c.in-After.levels c.in-After.rest.now) (texts_ahead c.args.shelf.now.approvals.now c.in-After.ahead.now) in
    rw c.in-After.is (on_ok_weaker c.write_elements.result (λ g. kind_left_out c.args.shelf.now.form c.args.pen.now c.write_elements.new.pen c.in-After.kind.now behind c.in-Label.is g) c.write_elements.ensures)

pub write_branches-returns-in-End : goal.write_branches-returns-in-End
write_branches-returns-in-End t c = rw c.in-End.is (writes_nothing c.args.shelf.now.form c.args.pen.now)

pub write_branches-returns-in_ok-write_elements-in-More : goal.write_branches-returns-in_ok-write_elements-in-More
write_branches-returns-in_ok-write_elements-in-More t c =
    let documents = c.args.shelf.now.approvals.now in
    let levels = c.args.levels in
    let branch = c.in-More.branch.value in
    let rest = c.in-More.rest.value in
    let ahead = texts_ahead documents c.args.ahead.now in
    let middle : Pen = record { lines = c.write_elements.new.pen.lines; choices = c.truncate.new.self; kinds = c.write_elements.new.pen.kinds } in
    let name = c.as_str.ensures ∙ ap (λ (b : ClosedBranch). b.name) c.deref.ensures in
    let pushed = c.in_ok-push_name-in-More.ensures.choices ∙ ap (λ n. c.args.pen.now.choices.items ++ 47 ∷ quoted n) name in
    let inner = subst (λ (b : ClosedBranch). Writes c.args.shelf.now.form c.push_name.new.self c.write_elements.new.pen (both (element_list_texts documents levels b.policy.elements) ahead)) c.deref-in-More.ensures c.in_ok-write_elements-in-More.ensures in
    let first = choice_written c.args.shelf.now.form c.args.pen.now c.push_name.new.self c.write_elements.new.pen middle (quoted branch.name) (both (element_list_texts documents levels branch.policy.elements) ahead) c.len-kept.result c.in_ok-push_name-in-More.ensures.lines c.in_ok-push_name-in-More.ensures.kinds pushed inner (c.len-kept.ensures ∙ c.args.pen.now.choices.ok.0) refl refl c.truncate.ensures.items in
    let firsts = map (join (of_choice (quoted branch.name))) (element_list_texts documents levels branch.policy.elements) in
    let same : map (join (of_choice (quoted branch.name))) (both (element_list_texts documents levels branch.policy.elements) ahead) ++ both (branch_texts documents levels rest) ahead ≡ both (firsts ++ branch_texts documents levels rest) ahead =
    ap (λ l. l ++ both (branch_texts documents levels rest) ahead) (sym (both-join texts (of_choice (quoted branch.name)) (element_list_texts documents levels branch.policy.elements) ahead)) ∙ sym (both-append texts firsts (branch_texts documents levels rest) ahead) in
    rw c.in-More.is (on_ok_weaker c.write_branches.result (λ h. subst (Writes c.args.shelf.now.form c.args.pen.now c.write_branches.new.pen) same (writes_then c.args.shelf.now.form c.args.pen.now middle c.write_branches.new.pen (map (join (of_choice (quoted branch.name))) (both (element_list_texts documents levels branch.policy.elements) ahead)) (both (branch_texts documents levels rest) ahead) first (subst (λ r. Writes c.args.shelf.now.form middle c.write_branches.new.pen (both (branch_texts documents levels r) ahead)) c.deref-in-More-2.ensures h))) c.write_branches.ensures)

pub write_element-returns-in-Assert : goal.write_element-returns-in-Assert
write_element-returns-in-Assert t c =
    let documents = c.args.shelf.now.approvals.now in
    let levels = c.args.levels in
    let behind = both (element_list_texts documents levels c.args.rest.now) (texts_ahead documents c.args.ahead.now) in
    let kind = assertion_kind c.in-Assert.assertion in
    let after : Pen = record { lines = c.write_elements-in-Assert.new.pen.lines; choices = c.write_elements-in-Assert.new.pen.choices; kinds = c.truncate.new.self } in
    let pushed = c.in_ok-push_kind-in-Assert.ensures.kinds ∙ ap (λ k. c.args.pen.now.kinds.items ++ 44 ∷ k) c.assertion_kind.ensures in
    let same : map (join (of_kind kind)) behind ≡ both (element_texts documents levels c.args.element.now) behind =
    sym (both-one texts (of_kind kind) behind) ∙ ap (λ l. both l behind) (sym (of_assertion texts documents levels c.in-Assert.assertion)) ∙ ap (λ e. both (element_texts documents levels e) behind) (sym c.in-Assert.is) in
    subst (Writes c.args.shelf.now.form c.args.pen.now after) same (kind_written c.args.shelf.now.form c.args.pen.now c.push_kind.new.self c.write_elements-in-Assert.new.pen after kind behind c.len-kept.result c.in_ok-push_kind-in-Assert.ensures.lines c.in_ok-push_kind-in-Assert.ensures.choices pushed c.in_ok-write_elements-in-Assert.ensures (c.len-kept.ensures ∙ c.args.pen.now.kinds.ok.0) refl refl c.truncate.ensures.items)

pub write_element-returns-in-Label : goal.write_element-returns-in-Label
write_element-returns-in-Label t c =
    let documents = c.args.shelf.now.approvals.now in
    let levels = c.args.levels in
    let behind = both (element_list_texts documents levels c.args.rest.now) (texts_ahead documents c.args.ahead.now) in
    let kind = assertion_kind c.in-Assert.assertion in
    let same : map (join (of_kind kind)) behind ≡ both (element_texts documents levels c.args.element.now) behind =
    sym (both-one texts (of_kind kind) behind) ∙ ap (λ l. both l behind) (sym (of_assertion texts documents levels c.in-Assert.assertion)) ∙ ap (λ e. both (element_texts documents levels e) behind) (sym c.in-Assert.is) in
    on_ok_weaker c.write_elements.result (λ g. subst (Writes c.args.shelf.now.form c.args.pen.now c.write_elements.new.pen) same (kind_left_out c.args.shelf.now.form c.args.pen.now c.write_elements.new.pen kind behind c.in-Label.is g)) c.write_elements.ensures

pub write_element-returns-in-Or : goal.write_element-returns-in-Or
write_element-returns-in-Or t c =
    let documents = c.args.shelf.now.approvals.now in
    let levels = c.args.levels in
    let behind = both (element_list_texts documents levels c.args.rest.now) (texts_ahead documents c.args.ahead.now) in
    let inner = branch_texts documents levels c.in-Or.branches in
    let same : both inner (map (join (of_kind (codes "Or"))) behind) ≡ both (element_texts documents levels c.args.element.now) behind =
    sym (both-closed texts (of_kind (codes "Or")) inner behind) ∙ ap (λ l. both l behind) (sym (of_or texts documents levels c.in-Or.branches)) ∙ ap (λ e. both (element_texts documents levels e) behind) (sym c.in-Or.is) in
    on_ok_weaker c.write_branches.result (λ g. subst (Writes c.args.shelf.now.form c.args.pen.now c.write_branches.new.pen) same g) c.write_branches.ensures

pub write_element-returns : goal.write_element-returns
write_element-returns t c =
    let documents = c.args.shelf.now.approvals.now in
    let levels = c.args.levels in
    let behind = both (element_list_texts documents levels c.args.rest.now) (texts_ahead documents c.args.ahead.now) in
    let inner = approval_texts documents levels c.args.element.now in
    let closed : both inner (map (join (of_kind c.match-element.kind.now)) behind) ≡ both (element_texts documents levels c.args.element.now) behind =
    elim c.match-element.branch [
      | write_element-in-Authorize w ↦
          let kind = ap (λ k. k.now) w.kind-is in
          ap (λ k. both inner (map (join (of_kind k)) behind)) kind
          ∙ sym (both-closed texts (of_kind (codes "Approve")) inner behind)
          ∙ ap (λ l. both l behind) (ap (λ e. map (λ t. join t (of_kind (codes "Approve"))) (approval_texts documents levels e)) w.in-Authorize.is ∙ sym (of_key texts documents levels w.in-Authorize.key w.in-Authorize.policy_ref) ∙ ap (element_texts documents levels) (sym w.in-Authorize.is))
      | write_element-in-AuthorizeNv w ↦
          let kind = ap (λ k. k.now) w.kind-is in
          ap (λ k. both inner (map (join (of_kind k)) behind)) kind
          ∙ sym (both-closed texts (of_kind (codes "ApproveNv")) inner behind)
          ∙ ap (λ l. both l behind) (ap (λ e. map (λ t. join t (of_kind (codes "ApproveNv"))) (approval_texts documents levels e)) w.in-AuthorizeNv.is ∙ sym (of_index texts documents levels w.in-AuthorizeNv.index) ∙ ap (element_texts documents levels) (sym w.in-AuthorizeNv.is))
    ] in
    on_ok_weaker c.write_approvals.result (λ g. subst (Writes c.args.shelf.now.form c.args.pen.now c.write_approvals.new.pen) closed g) c.write_approvals.ensures

pub write_elements-returns-in-End : goal.write_elements-returns-in-End
write_elements-returns-in-End t c =
    let ahead = texts_ahead c.args.shelf.now.approvals.now c.args.ahead.now in
    rw c.in-End.is (on_ok_weaker c.write_ahead.result (λ g. subst (Writes c.args.shelf.now.form c.args.pen.now c.write_ahead.new.pen) (sym (both-first_none texts ahead)) g) c.write_ahead.ensures)

pub write_elements-returns-in-More : goal.write_elements-returns-in-More
write_elements-returns-in-More t c =
    let documents = c.args.shelf.now.approvals.now in
    let levels = c.args.levels in
    let element = c.in-More.element.value in
    let rest = c.in-More.rest.value in
    let ahead = texts_ahead documents c.args.ahead.now in
    let same : both (element_texts documents levels c.deref.result.now) (both (element_list_texts documents levels c.deref-in-More.result.now) ahead) ≡ both (element_list_texts documents levels c.args.elements.now) ahead =
    ap (λ e. both (element_texts documents levels e) (both (element_list_texts documents levels c.deref-in-More.result.now) ahead)) c.deref.ensures
    ∙ ap (λ e. both (element_texts documents levels element) (both (element_list_texts documents levels e) ahead)) c.deref-in-More.ensures
    ∙ sym (both_assoc texts (element_texts documents levels element) (element_list_texts documents levels rest) ahead)
    ∙ ap (λ l. both l ahead) (sym (of_more texts documents levels element rest))
    ∙ ap (λ e. both (element_list_texts documents levels e) ahead) (sym c.in-More.is) in
    on_ok_weaker c.write_element.result (λ g. subst (Writes c.args.shelf.now.form c.args.pen.now c.write_element.new.pen) same g) c.write_element.ensures

-- ---- the documents

pub write_approvals-loop-document-init : goal.write_approvals-loop-document-init
write_approvals-loop-document-init t c = writes_nothing c.args.shelf.now.form c.args.pen.now

pub write_approvals-loop-document-preserved : goal.write_approvals-loop-document-preserved
write_approvals-loop-document-preserved t c =
    let documents = c.args.shelf.now.approvals.now in
    let levels = c.args.levels in
    let element = c.args.element.now in
    let document = c.document-item.result in
    let i = c.loop-document.document-index in
    let ahead = texts_ahead documents c.args.ahead.now in
    let level : levels ≢ 0 = omega (arith, c.if-levels-gt0.true) in
    let done = document_texts documents levels element (take i documents) in
    let more = documents_more texts documents levels element i document c.loop-document-test.true c.document-item.is in
    elim c.if-accepts.branch [
      | write_approvals-then-accepts+in_ok-push_name+in_ok-write_elements w ↦
          let inner = element_list_texts documents (levels - 1) document.closed.elements in
          let name = quoted document.document in
          let kept = c.len-kept.ensures ∙ c.args.pen.now.choices.ok.0 ∙ ap length (sym c.loop-document.invariant.choices) in
          let pushed = w.in_ok-push_name.ensures.choices ∙ ap (λ n. c.loop-document.pen.choices.items ++ 47 ∷ 64 ∷ quoted n) w.as_str.ensures in
          let after : Pen = record { lines = w.write_elements.new.pen.lines; choices = w.truncate.new.self; kinds = w.write_elements.new.pen.kinds } in
          let wrote = choice_written c.args.shelf.now.form c.loop-document.pen w.push_name.new.self w.write_elements.new.pen after (64 ∷ name) (both inner ahead) c.len-kept.result w.in_ok-push_name.ensures.lines w.in_ok-push_name.ensures.kinds pushed w.in_ok-write_elements.ensures kept refl refl w.truncate.ensures.items in
          let entered = document_entered texts documents levels element document level (sym c.accepts.ensures ∙ w.if-accepts.true) in
          let same : both done ahead ++ map (join (of_choice (64 ∷ name))) (both inner ahead) ≡ both (document_texts documents levels element (take (i + 1) documents)) ahead =
          ap (λ l. both done ahead ++ l) (sym (both-join texts (of_choice (64 ∷ name)) inner ahead) ∙ ap (λ l. both l ahead) (sym entered))
          ∙ sym (both-append texts done (document_images texts_of join step_texts documents levels element document) ahead)
          ∙ ap (λ l. both l ahead) (sym more) in
          subst (λ p. Writes c.args.shelf.now.form c.args.pen.now p (both (document_texts documents levels element (take (i + 1) documents)) ahead)) (sym w.pen-is) (subst (Writes c.args.shelf.now.form c.args.pen.now after) same (writes_then c.args.shelf.now.form c.args.pen.now c.loop-document.pen after (both done ahead) (map (join (of_choice (64 ∷ name))) (both inner ahead)) c.loop-document.invariant wrote))
      | write_approvals-else-accepts w ↦
          let passed = document_passed texts documents levels element document (sym c.accepts.ensures ∙ w.if-accepts.false) in
          let same : both done ahead ≡ both (document_texts documents levels element (take (i + 1) documents)) ahead =
          ap (λ l. both l ahead) (sym (append-nil done) ∙ ap (λ l. done ++ l) (sym passed) ∙ sym more) in
          subst (λ p. Writes c.args.shelf.now.form c.args.pen.now p (both (document_texts documents levels element (take (i + 1) documents)) ahead)) (sym w.pen-is) (subst (Writes c.args.shelf.now.form c.args.pen.now c.loop-document.pen) same c.loop-document.invariant)
    ]

pub write_approvals-returns : goal.write_approvals-returns
write_approvals-returns t c =
    let documents = c.args.shelf.now.approvals.now in
    let levels = c.args.levels in
    let element = c.args.element.now in
    let ahead = texts_ahead documents c.args.ahead.now in
    let whole = document_texts documents levels element documents in
    let before = c.if-levels-gt0.pen in
    let all : Writes c.args.shelf.now.form c.args.pen.now before (both whole ahead) =
    elim c.if-levels-gt0.branch [
      | write_approvals-then-levels-gt0+else-loop-document-test w ↦ subst (λ p. Writes c.args.shelf.now.form c.args.pen.now p (both whole ahead)) (sym w.pen-is) (subst (λ l. Writes c.args.shelf.now.form c.args.pen.now w.loop-document.pen (both (document_texts documents levels element l) ahead)) (take_all w.loop-document.document-index documents w.loop-document-test.false) w.loop-document.invariant)
      | write_approvals-else-levels-gt0 w ↦ subst (λ p. Writes c.args.shelf.now.form c.args.pen.now p (both whole ahead)) (sym w.pen-is) (subst (Writes c.args.shelf.now.form c.args.pen.now c.args.pen.now) (ap (λ l. both l ahead) (sym (no_documents texts documents levels element w.if-levels-gt0.false))) (writes_nothing c.args.shelf.now.form c.args.pen.now))
    ] in
    let kept = c.len-kept.ensures ∙ c.args.pen.now.choices.ok.0 ∙ ap length (sym all.choices) in
    let after : Pen = record { lines = c.write_ahead.new.pen.lines; choices = c.truncate-2.new.self; kinds = c.write_ahead.new.pen.kinds } in
    let outside = choice_written c.args.shelf.now.form before c.push_outside.new.self c.write_ahead.new.pen after (codes "@*") ahead c.len-kept.result c.in_ok-push_outside.ensures.lines c.in_ok-push_outside.ensures.kinds c.in_ok-push_outside.ensures.choices c.in_ok-write_ahead.ensures kept refl refl c.truncate-2.ensures.items in
    let same : both whole ahead ++ map (join (of_choice (codes "@*"))) ahead ≡ both (approval_texts documents levels element) ahead =
    ap (λ l. both whole ahead ++ l) (sym (both-one texts (of_choice (codes "@*")) ahead)) ∙ sym (both-append texts whole (of_choice (codes "@*") ∷ []) ahead) in
    subst (Writes c.args.shelf.now.form c.args.pen.now after) same (writes_then c.args.shelf.now.form c.args.pen.now before after (both whole ahead) (map (join (of_choice (codes "@*"))) ahead) all outside)

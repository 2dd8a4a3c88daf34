use Rattle.std.proofs.Common.{◌≡◌, ◌+◌, ◌++◌, ◌∷◌, [], ℕ, List, Bor, codes, map, ap, sym, ◌∙◌}
use Rattle.std.proofs.lemmas.Result.{on_ok_weaker}
use Rattle.tpol_base.specs.declared.digest.Digest32.{Digest32}
use Rattle.tpol_digest.specs.Digest.{digest_at_element}
use Rattle.tpol_fill.specs.Filling.{filled_branches, filled_element, filled_elements}
use Rattle.tpol_fill.specs.Groups.{grouped}
use Rattle.tpol_json.specs.declared.place.Place.{Place}
use Rattle.tpol_json.specs.Places.{at_item, at_member}
use Rattle.tpol_marks.proofs.Branches.{or_same}
use Rattle.tpol_marks.proofs.Walked.{first_same, rest_same, digest_same, added}
use Rattle.tpol_marks.specs.Marks.{marks_of_branches, marks_of_elements, marks_within, mark_of}
use Rattle.tpol_marks.specs.declared.marks.Mark.{Mark}
use Rattle.tpol_tree.specs.ClosedErased.{erased_element, erased_elements}
use Rattle.tpol_tree.specs.declared.closed.ClosedElement.{ClosedElement}
use Rattle.tpol_tree.specs.declared.closed.ClosedElements.{ClosedElements}
use Rattle.tpol_tree.specs.declared.policy.Element.{Element}
use Rattle.tpol_tree.specs.declared.policy.Elements.{Elements}
use Rattle.tpol_marks.proofs.marks.+marks.Goals as goal

pub push_elements-returns-in-Some : goal.push_elements-returns-in-Some
push_elements-returns-in-Some t c = λ sight same.
    let next = c.args.next.now in
    let before : Digest32 = next.before in
    let place = at_item next.list.now next.index in
    let element = c.in-More.element.value in
    let rest = c.in-More.rest.value in
    let first = c.in-More-closed.first.value in
    let others = c.in-More-closed.others.value in
    let marks : List Mark = c.args.marks.now in
    let whole = ap erased_elements (sym c.in-More-closed.is) ∙ same ∙ ap (filled_elements sight) c.in-More.is in
    let one : erased_element first ≡ filled_element sight element =
    first_same (erased_element first) (filled_element sight element) (erased_elements others) (filled_elements sight rest) whole in
    let behind : erased_elements others ≡ filled_elements sight rest =
    rest_same (erased_element first) (filled_element sight element) (erased_elements others) (filled_elements sight rest) whole in
    let within : c.push_within.new.marks ≡ marks ++ marks_within sight place element before =
    c.in_ok-push_within-in-More-closed.ensures sight (ap erased_element c.deref-in-More-closed.ensures ∙ one ∙ ap (filled_element sight) (sym c.deref.ensures))
    ∙ ap (λ (e : Element). marks ++ marks_within sight place e before) c.deref.ensures in
    let after : c.digest_after_element-after.result ≡ digest_at_element (filled_element sight element) before =
    c.digest_after_element-after.ensures ∙ ap (λ (e : ClosedElement). digest_at_element e before) c.deref-in-More-closed-2.ensures ∙ digest_same sight first element before one in
    let mark : Mark = record { place = c.in_ok-place-in-More-closed.place; digest = c.digest_after_element-after.result } in
    let mark_is : mark ≡ mark_of sight place element before =
    ap (λ (p : Place). record { place = p; digest = c.digest_after_element-after.result }) (c.in_ok-place-in-More-closed.ensures ∙ c.item.ensures)
    ∙ ap (λ (d : Digest32). record { place = place; digest = d }) after in
    let pushed : c.push.new.self ≡ (marks ++ marks_within sight place element before) ++ mark_of sight place element before ∷ [] =
    c.in_ok-push-in-More-closed.ensures.ok ∙ ap (λ l. l ++ mark ∷ []) within ∙ ap (λ m. (marks ++ marks_within sight place element before) ++ m ∷ []) mark_is in
    let later = c.push_elements.ensures sight (ap erased_elements c.deref-in-More-closed-4.ensures ∙ behind ∙ ap (filled_elements sight) (sym c.deref-in-More-closed-3.ensures)) in
    let following : marks_of_elements sight next.list.now c.in-Some.index c.deref-in-More-closed-3.result.now c.digest_after_element-after.result ≡ marks_of_elements sight next.list.now (next.index + 1) rest (digest_at_element (filled_element sight element) before) =
    ap (λ (n : ℕ). marks_of_elements sight next.list.now n c.deref-in-More-closed-3.result.now c.digest_after_element-after.result) c.in-Some.ensures.1
    ∙ ap (λ (es : Elements). marks_of_elements sight next.list.now (next.index + 1) es c.digest_after_element-after.result) c.deref-in-More-closed-3.ensures
    ∙ ap (λ (d : Digest32). marks_of_elements sight next.list.now (next.index + 1) rest d) after in
    let ends = marks_of_elements sight next.list.now (next.index + 1) rest (digest_at_element (filled_element sight element) before) in
    on_ok_weaker c.push_elements.result (λ is.
    is
    ∙ ap (λ l. l ++ marks_of_elements sight next.list.now c.in-Some.index c.deref-in-More-closed-3.result.now c.digest_after_element-after.result) pushed
    ∙ ap (λ l. ((marks ++ marks_within sight place element before) ++ mark_of sight place element before ∷ []) ++ l) following
    ∙ added marks (marks_within sight place element before) (mark_of sight place element before ∷ []) ends
    ∙ ap (λ (es : Elements). marks ++ marks_of_elements sight next.list.now next.index es before) (sym c.in-More.is)) later

pub push_within-returns : goal.push_within-returns
push_within-returns t c = λ sight same.
    let next = c.args.next.now in
    let before : Digest32 = next.before in
    let place = at_item next.list.now next.index in
    let marks : List Mark = c.args.marks.now in
    let branches = c.in-Or.branches in
    let whole = ap erased_element (sym c.in-Or-closed.is) ∙ same ∙ ap (filled_element sight) c.in-Or.is in
    let groups = or_same c.in-Or-closed.groups (grouped (filled_branches sight branches)) whole in
    let lists = c.in_ok-lists.ensures (filled_branches sight branches) groups (c.in_ok-count.ensures sight) in
    let given = ap (λ l. map (λ (elements : Bor ClosedElements). erased_elements elements.now) l) c.as_slice.ensures.value ∙ lists in
    let list = c.member-list.ensures ∙ ap (λ (p : Place). at_member p (codes "branches")) c.item-place.ensures in
    on_ok_weaker c.push_branches.result (λ is.
    is
    ∙ ap (λ (p : Place). marks ++ marks_of_branches sight p 0 branches before) list
    ∙ ap (λ (e : Element). marks ++ marks_within sight place e before) (sym c.in-Or.is)) (c.push_branches.ensures sight given)

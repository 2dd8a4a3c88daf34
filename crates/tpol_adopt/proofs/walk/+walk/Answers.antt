use Rattle.std.proofs.Common.{◌≡◌, [], ◌∷◌, ◌++◌, arith, string_bytes, option_map, sym, ap, ◌∙◌, subst, append_assoc}
use Rattle.std.specs.List.Sorted.{IsStrictlySortedBy}
use Rattle.std.specs.Map.{keys_of}
use Rattle.std.specs.String.{string_cmp}
use Rattle.serde_json.specs.View.{items_view, members_view, view}
use Rattle.serde_json.proofs.Views.{Entry}
use Rattle.tpol_adopt.specs.Normal.{normal_items, with_member}
use Rattle.tpol_adopt.proofs.Walks.{inner_kept, items_end, kept_member, normal_members-last, plain_kept}
use Rattle.tpol_adopt.proofs.walk.+walk.Goals as goal
use Rattle.tpol_adopt.proofs.walk.+walk.Goals.{members_within-in-Inner+in_ok-within-in-Inner, members_within-in_default+in_ok-member-in_default}

pub items_within-returns : goal.items_within-returns
items_within-returns t c =
    let l = c.loop-item in
    subst (λ items. items_view l.kept.items ≡ normal_items c.args.part (items_view items)) c.deref-item-items.ensures.value
    (items_end c.args.part l.kept.items c.deref-item-items.result.now l.item-index l.invariant (omega arith))

pub members_within-loop-name-preserved : goal.members_within-loop-name-preserved
members_within-loop-name-preserved t c =
    let l = c.loop-name in
    let done = l.invariant.0 in
    let e : Entry = (c.in-Some.name.now, c.in-Some.member.now) in
    let left = c.next.new.self in
    let whole = view c.args.whole.now in
    let all : c.args.members.now.entries ≡ done ++ e ∷ left = l.invariant.1 ∙ ap (λ es. done ++ es) c.in-Some.ensures.steps in
    let last = normal_members-last c.args.part whole done e left (subst (λ es. IsStrictlySortedBy string_cmp (keys_of es)) all c.iter-name-items.ensures.ordered) in
    let kept : option_map view c.match-member_rule.member ≡ kept_member c.args.part whole (string_bytes e.0) (view e.1) =
    elim c.match-member_rule.branch [
      | members_within-in-Inner+in_ok-within-in-Inner w ↦
          inner_kept c.args.part whole (string_bytes e.0) c.as_str.result.now (view e.1) c.member_rule.result w.in-Inner.inner w.in_ok-within-in-Inner.field-0 c.match-member_rule.member c.member_rule.ensures c.as_str.ensures.value w.in-Inner.is w.in_ok-within-in-Inner.ensures w.member-is
      | members_within-in_default+in_ok-member-in_default w ↦
          plain_kept c.args.part whole (string_bytes e.0) c.as_str.result.now (view e.1) c.member_rule.result w.in_ok-member-in_default.member c.match-member_rule.member c.member_rule.ensures c.as_str.ensures.value w.in_default.not-Inner w.in_ok-member-in_default.ensures w.member-is
    ] in (
      done ++ e ∷ [],
      all ∙ sym (append_assoc done (e ∷ []) left),
      c.in_ok-put_member.ensures
          ∙ ap (λ name. with_member name (option_map view c.match-member_rule.member) (members_view l.kept.entries)) c.as_str-in-loop-name.ensures.value
          ∙ ap (λ o. with_member (string_bytes e.0) o (members_view l.kept.entries)) kept
          ∙ ap (with_member (string_bytes e.0) (kept_member c.args.part whole (string_bytes e.0) (view e.1))) l.invariant.2
          ∙ sym last,
    )

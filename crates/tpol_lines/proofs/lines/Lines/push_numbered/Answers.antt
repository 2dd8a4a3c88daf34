use Rattle.std.proofs.Common.{◌≡◌, ◌++◌, ◌∷◌, [], List, ℕ, suc, ap, sym, subst, ◌∙◌, append_assoc, arith}
use Rattle.hex.specs.Hex.{encode_lower}
use Rattle.tpol_lines.specs.Lines.{line_of}
use Rattle.tpol_lines.proofs.WholeLines.{line_added, lines_with, on_any_error, tail_at, tails_added, tails_with}
use Rattle.tpol_lines.specs.Whole.{HaveTails, tail_of, whole_lines}
use Rattle.tpol_lines.proofs.lines.Lines.push_numbered.Goals as goal

pub invariant_of-self-in_err-push : goal.invariant_of-self-in_err-push
invariant_of-self-in_err-push c =
    let tails = c.keep.new.self in
    let kept = tails_with c.self.inside.tails tails c.as_slice.result.now c.in_ok-keep.ensures.texts c.self.inside.tail_numbers.items c.self.inside.heads c.self.invariant in
    subst (λ l. HaveTails tails l c.push.new.self) (sym c.in_ok-reserve.ensures.items)
    (subst (λ l. HaveTails tails c.self.inside.tail_numbers.items l) (sym c.in_err-push.ensures.err) kept)

pub returns-in_err-push-clause-err : goal.returns-in_err-push-clause-err
returns-in_err-push-clause-err c =
    let tails = c.keep.new.self in
    let numbers = c.self.inside.tail_numbers.items in
    let heads = c.self.inside.heads in
    let same : whole_lines tails c.reserve.new.self.items c.push.new.self ≡ c.args.self.now =
    ap (λ l. whole_lines tails l c.push.new.self) c.in_ok-reserve.ensures.items
    ∙ ap (whole_lines tails numbers) c.in_err-push.ensures.err
    ∙ lines_with c.self.inside.tails tails c.as_slice.result.now c.in_ok-keep.ensures.texts numbers heads c.self.invariant
    ∙ c.self.view_is in
    on_any_error c.from_residual-in_err-push.result same

pub invariant_of-self-2 : goal.invariant_of-self-2
invariant_of-self-2 c =
    let tails = c.keep.new.self in
    let same = c.in_ok-keep.ensures.texts in
    let numbers = c.self.inside.tail_numbers.items in
    let heads = c.self.inside.heads in
    let kept = tails_with c.self.inside.tails tails c.as_slice.result.now same numbers heads c.self.invariant in
    let view = lines_with c.self.inside.tails tails c.as_slice.result.now same numbers heads c.self.invariant ∙ c.self.view_is in
    tails_added tails numbers heads c.args.self.now view kept c.push_reserved.new.self.items c.push.new.self c.len.result c.args.number.now
    (c.push_reserved.ensures.items ∙ ap (λ l. l ++ c.len.result ∷ []) c.in_ok-reserve.ensures.items) c.in_ok-push.ensures.ok (omega (arith, c.len.ensures))

pub returns-clause-ok : goal.returns-clause-ok
returns-clause-ok c =
    let tails = c.keep.new.self in
    let same = c.in_ok-keep.ensures.texts in
    let numbers = c.self.inside.tail_numbers.items in
    let heads = c.self.inside.heads in
    let kept = tails_with c.self.inside.tails tails c.as_slice.result.now same numbers heads c.self.invariant in
    let view = lines_with c.self.inside.tails tails c.as_slice.result.now same numbers heads c.self.invariant ∙ c.self.view_is in
    let behind : List ℕ = c.args.behind.now ++ encode_lower c.args.reply.now in
    let tail : c.as_slice.result.now ≡ line_of behind = c.as_slice.ensures.value ∙ c.in_ok-push_tail.ensures ∙ ap (λ l. l ++ line_of behind) c.clear.ensures.items in
    let number : c.len.result ≡ suc c.in_ok-keep.field-0 = omega (arith, c.len.ensures, c.in_ok-keep.ensures.last) in
    let its_tail : tail_of tails c.len.result ≡ line_of behind = ap (tail_of tails) number ∙ tail_at tails c.in_ok-keep.field-0 c.as_slice.result.now c.in_ok-keep.ensures.kept ∙ tail in
    line_added tails numbers heads c.args.self.now view kept c.push_reserved.new.self.items c.push.new.self c.len.result c.args.number.now
    (c.push_reserved.ensures.items ∙ ap (λ l. l ++ c.len.result ∷ []) c.in_ok-reserve.ensures.items) c.in_ok-push.ensures.ok
    ∙ ap (λ l. c.args.self.now ++ (c.args.number.now ++ l) ∷ []) its_tail
    ∙ ap (λ l. c.args.self.now ++ l ∷ []) (sym (append_assoc c.args.number.now behind (10 ∷ [])))

use Rattle.std.proofs.Common.{◌<◌, ◌≡◌, ◌++◌, length, get_or, ap, sym, ◌∙◌, arith}
use Rattle.tpol_lines.proofs.WholeLines.{its_tail, length-numbers, length-whole, no_tail, number_within, whole_at}
use Rattle.tpol_lines.specs.Whole.{tail_of}
use Rattle.tpol_lines.proofs.lines.Lines.parts.Goals.{in-None, in-Some}
use Rattle.tpol_lines.proofs.lines.Lines.parts.Goals as goal

pub index-requires : goal.index-requires
index-requires c =
    let heads = length-whole c.self.inside.tails c.self.inside.tail_numbers.items c.self.inside.heads c.self.invariant in
    let numbers = length-numbers c.self.inside.tails c.self.inside.tail_numbers.items c.self.inside.heads c.self.invariant in
    omega (arith, c.requires, ap length c.self.view_is, heads, numbers, c.self.inside.tail_numbers.ok.0)

pub get-tail-requires : goal.get-tail-requires
get-tail-requires c =
    let heads = length-whole c.self.inside.tails c.self.inside.tail_numbers.items c.self.inside.heads c.self.invariant in
    let within : c.args.index < length c.self.inside.heads = omega (arith, c.requires, ap length c.self.view_is, heads) in
    let number = number_within c.self.inside.tails c.self.inside.tail_numbers.items c.self.inside.heads c.args.index c.index.result.now c.self.invariant within c.index.ensures in
    omega (arith, number, c.in-Some.ensures.0, c.in-Some.ensures.1)

pub get-requires : goal.get-requires
get-requires c =
    omega (arith, c.requires, ap length c.self.view_is, length-whole c.self.inside.tails c.self.inside.tail_numbers.items c.self.inside.heads c.self.invariant)

pub returns : goal.returns
returns c =
    let tails = c.self.inside.tails in
    let numbers = c.self.inside.tail_numbers.items in
    let heads = c.self.inside.heads in
    let number = c.index.result.now in
    let count = length-whole tails numbers heads c.self.invariant in
    let within : c.args.index < length heads = omega (arith, c.requires, ap length c.self.view_is, count) in
    let tail : c.match-checked_sub.tail.now ≡ tail_of tails number = elim c.match-checked_sub.branch [ in-None w ↦ ap (λ lent. lent.now) w.tail-is ∙ sym (no_tail tails number w.in-None.ensures) | in-Some w ↦ ap (λ lent. lent.now) w.tail-is ∙ its_tail tails number w.in-Some.place w.get-tail.result.now w.in-Some.ensures.0 w.in-Some.ensures.1 (number_within tails numbers heads c.args.index number c.self.invariant within c.index.ensures) w.get-tail.ensures ] in
    let whole = c.get.result.now ++ c.match-checked_sub.tail.now in
    ap (λ l. c.get.result.now ++ l) tail
    ∙ whole_at tails numbers heads c.args.index number c.get.result.now whole c.self.invariant within c.index.ensures c.get.ensures
    ∙ ap (λ l. get_or l c.args.index whole) c.self.view_is

use Rattle.std.proofs.Common.{◌++◌, ◌∷◌, [], List, ℕ, ap, ◌∙◌, append-nil, arith}
use Rattle.std.specs.List.{flat_map}
use Rattle.tpol_lines.proofs.WholeLines.{line_added, tails_added}
use Rattle.tpol_lines.proofs.lines.Lines.push_pieces.Goals as goal

pub invariant_of-self-2 : goal.invariant_of-self-2
invariant_of-self-2 c =
    tails_added c.self.inside.tails c.self.inside.tail_numbers.items c.self.inside.heads _ c.self.view_is c.self.invariant c.push_reserved.new.self.items c.push_pieces.new.self 0 _
    (c.push_reserved.ensures.items ∙ ap (λ l. l ++ 0 ∷ []) c.in_ok-reserve.ensures.items) c.in_ok-push_pieces.ensures.ok (omega arith)

pub returns-clause-ok : goal.returns-clause-ok
returns-clause-ok c =
    let joined : List ℕ = flat_map (λ piece. piece.now) c.args.pieces.now in
    line_added c.self.inside.tails c.self.inside.tail_numbers.items c.self.inside.heads c.args.self.now c.self.view_is c.self.invariant c.push_reserved.new.self.items c.push_pieces.new.self 0 joined
    (c.push_reserved.ensures.items ∙ ap (λ l. l ++ 0 ∷ []) c.in_ok-reserve.ensures.items) c.in_ok-push_pieces.ensures.ok
    ∙ ap (λ l. c.args.self.now ++ l ∷ []) (append-nil joined)

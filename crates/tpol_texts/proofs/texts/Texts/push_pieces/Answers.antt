use Rattle.std.proofs.Common.{◌++◌, ◌∷◌, [], List, ℕ, Bor, ap, ◌∙◌, arith}
use Rattle.std.proofs.lemmas.List.{take_all}
use Rattle.std.specs.List.{flat_map}
use Rattle.std.specs.Prelude.{vec_items}
use Rattle.tpol_texts.proofs.Cuts.{ends_added, line_added}
use Rattle.tpol_texts.proofs.texts.Texts.push_pieces.Goals as goal

abbrev joined : List (Bor (List ℕ)) → List ℕ
joined pieces = flat_map (λ piece. piece.now) pieces

pub invariant_of-self-2 : goal.invariant_of-self-2
invariant_of-self-2 c =
    let bytes = c.loop-piece.self-inside.bytes in
    let ends = c.push_reserved.ensures.items ∙ ap (λ l. l ++ c.len.result ∷ []) (ap vec_items c.loop-piece.invariant.ends ∙ c.in_ok-reserve.ensures.items) in
    ends_added c.self.inside.ends.items c.self.inside.bytes.items _ c.push_reserved.new.self.items bytes.items c.len.result c.self.invariant c.loop-piece.invariant.bytes (c.len.ensures ∙ bytes.ok.0) ends

pub returns-clause-ok : goal.returns-clause-ok
returns-clause-ok c =
    let bytes = c.loop-piece.self-inside.bytes in
    let pieces = c.args.pieces.now in
    let ends = c.push_reserved.ensures.items ∙ ap (λ l. l ++ c.len.result ∷ []) (ap vec_items c.loop-piece.invariant.ends ∙ c.in_ok-reserve.ensures.items) in
    let whole = c.loop-piece.invariant.bytes ∙ ap (λ l. c.self.inside.bytes.items ++ joined l) (take_all c.loop-piece.piece-index pieces (omega (arith, c.loop-piece-test.false))) in
    line_added c.self.inside.ends.items c.self.inside.bytes.items (joined pieces) c.push_reserved.new.self.items bytes.items c.len.result c.self.invariant whole (c.len.ensures ∙ bytes.ok.0) ends
    ∙ ap (λ l. l ++ joined pieces ∷ []) c.self.view_is

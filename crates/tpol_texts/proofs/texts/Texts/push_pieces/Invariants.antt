use Rattle.std.proofs.Common.{◌≡◌, ◌++◌, take}
use Rattle.std.specs.List.{flat_map}
use Rattle.tpol_texts.proofs.texts.Texts.push_pieces.Given as goal

-- the pieces so far stand behind all lines
abbrev pub invariant-loop-piece : goal.invariant-loop-piece
invariant-loop-piece l = record {
  bytes : l.self-inside.bytes.items ≡ l.initial.self-inside.bytes.items ++ flat_map (λ piece. piece.now) (take l.piece-index l.pieces);
  ends : l.self-inside.ends ≡ l.initial.self-inside.ends;
}

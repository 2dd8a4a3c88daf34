-- What stands in the way at the end of a track.
use Rattle.std.proofs.Common.{◌≡◌, ◌+◌, ◌-◌, ◌^◌, ◌≤◌, List, [], ◌∷◌, fold, length, Option, Some, None, Result, Ok, Err, refl, ap, ◌∙◌, arith}
use Rattle.std.specs.Prelude.{is_none, is_ok}
use Rattle.tpm_rules.specs.Rule.{Breaks, or_else}
use Rattle.tpol_tree.specs.declared.closed.ClosedElement.{ClosedElement}
use Rattle.tpol_tree.specs.declared.closed.ClosedElement.TheVariants.{Assert, Or, Authorize, AuthorizeNv}
use Rattle.tpol_tree.specs.declared.path.Move.{Move}
use Rattle.tpol_tree.specs.declared.path.Path.{Path}
use Rattle.tpol_digest.specs.Paths.{outside_path, outside_paths}
use Rattle.tpol_choose.specs.Blocks.{block_of, block_on, moves_block, whole_block}
use Rattle.tpol_choose.specs.Clients.{Client}
use Rattle.tpol_choose.specs.Goals.{goal_block}
use Rattle.tpol_choose.specs.Moves.{move_block}
use Rattle.tpol_choose.specs.Outside.{outside_move}
use Rattle.tpol_choose.specs.Tracks.{TrackState, block_at_end, counted, fresh_track, track_after, track_along}

-- the call answers by the rule
pub answers : {T E : Type 0} (result : Result T E) (rule : Option E) → Breaks result rule → is_ok result ≡ is_none rule
answers (Ok x) None h = refl
answers (Ok x) (Some e) h = cc
answers (Err e) None h = cc
answers (Err e) (Some f) h = refl

or_else_assoc : {A : Type 0} (a b c : Option A) → or_else (or_else a b) c ≡ or_else a (or_else b c)
or_else_assoc (Some x) b c = refl
or_else_assoc None b c = refl

-- the moves of a track, of which there are few, and then the goal
ends : (client : Client) (track : TrackState) (moves : List Move) → track.done + length moves ≤ 2 ^ 32 - 1 → or_else (fold (track_after client) track moves).block (block_of 0 (goal_block client (fold (track_after client) track moves).session)) ≡ or_else track.block (moves_block client (track.done + 1) track.session moves)
ends client track [] few = refl
ends client track (act ∷ rest) few =
    let next = track_after client track act in
    let n : counted track.done ≡ track.done + 1 = omega arith in
    ends client next rest (omega arith)
    ∙ or_else_assoc track.block (block_of (counted track.done) (move_block client track.session act)) (moves_block client (counted track.done + 1) next.session rest)
    ∙ ap (λ k. or_else track.block (or_else (block_of k (move_block client track.session act)) (moves_block client (k + 1) next.session rest))) n

pub path_ends : (client : Client) (way : Path) → length way.moves ≤ 512 → block_at_end client (track_along client (fresh_track client) way) ≡ block_on client way
path_ends client way few =
    ap (or_else (whole_block client.sight way.outside)) (ends client (fresh_track client) way.moves (omega arith))

-- the way by a policy that no listed document has
pub outside_is : (element : ClosedElement) (act : Move) → Some act ≡ outside_move element → outside_path act ∷ [] ≡ outside_paths element
outside_is (Assert assertion) act e = cc
outside_is (Or branches) act e = cc
outside_is (Authorize key policy_ref) act e = cc
outside_is (AuthorizeNv index) act e = cc

-- Moves that nothing stands in the way of.
use Rattle.std.proofs.Common.{◌≡◌, ℕ, suc, ◌+◌, ◌<◌, ◌≤◌, List, [], ◌∷◌, ◌++◌, Some, None, drop, take, get_or, length, refl, sym, ap, ◌∙◌, add-one, drop-cons}
use Rattle.std.proofs.lemmas.List.{drop_all, take_more}
use Rattle.std.proofs.lemmas.List.Sums.{fold_push}
use Rattle.tpm_bindings.specs.State.{SessionState}
use Rattle.tpm_rules.specs.declared.standing.Standing.{Standing}
use Rattle.tpm_rules.specs.Rule.{or_else}
use Rattle.tpm_rules.specs.Standing.{standing_of}
use Rattle.tpol_tree.specs.declared.path.Move.{Move}
use Rattle.tpol_choose.specs.declared.block.Block.{Block}
use Rattle.tpol_choose.specs.Blocks.{block_of, moves_block}
use Rattle.tpol_choose.specs.Clients.{Client}
use Rattle.tpol_choose.specs.Facts.{fresh_session, session_after, session_along}
use Rattle.tpol_choose.specs.Goals.{goal_block}
use Rattle.tpol_choose.specs.Moves.{move_block}

-- the session after so many moves
abbrev pub session_at : Client → List Move → ℕ → SessionState
session_at client moves n = session_along client.sight (fresh_session client.sight) (take n moves)

-- so many moves were made, and what stands in the way of all stands in the way of the rest
pub record IsOnWay (client : Client) (moves : List Move) (n : ℕ) (session : Standing) : Type 0 where
  pub stands : session ≡ standing_of (session_at client moves n)
  pub start : session.start ≡ client.sight.time
  pub block : moves_block client 1 (fresh_session client.sight) moves ≡ moves_block client (n + 1) (session_at client moves n) (drop n moves)

pub begins : (client : Client) (moves : List Move) (session : Standing) → session ≡ standing_of (fresh_session client.sight) → IsOnWay client moves 0 session
begins client moves session e = record { stands = e; start = ap (λ s. s.start) e; block = refl }

pub session_more : (client : Client) (moves : List Move) (n : ℕ) (act : Move) → n < length moves → act ≡ get_or moves n act → session_at client moves (n + 1) ≡ session_after client.sight (session_at client moves n) act
session_more client moves n act h e =
    ap (session_along client.sight (fresh_session client.sight)) (take_more moves n act h ∙ ap (λ a. take n moves ++ a ∷ []) (sym e))
    ∙ fold_push (session_after client.sight) (fresh_session client.sight) (take n moves) act

-- what stands in the way of the rest is what stands in the way of the next move, or else behind it
next_block : (client : Client) (moves : List Move) (n : ℕ) (act : Move) (session : Standing) → n < length moves → act ≡ get_or moves n act → IsOnWay client moves n session → moves_block client 1 (fresh_session client.sight) moves ≡ or_else (block_of (n + 1) (move_block client (session_at client moves n) act)) (moves_block client (n + 1 + 1) (session_after client.sight (session_at client moves n) act) (drop (n + 1) moves))
next_block client moves n act session h e way =
    let split : drop n moves ≡ act ∷ drop (n + 1) moves =
    drop-cons moves n act h ∙ ap (λ a. a ∷ drop (suc n) moves) (sym e) ∙ ap (λ k. act ∷ drop k moves) (sym (add-one n)) in
    way.block ∙ ap (moves_block client (n + 1) (session_at client moves n)) split

pub goes_on : (client : Client) (moves : List Move) (n : ℕ) (act : Move) (session after : Standing) → n < length moves → act ≡ get_or moves n act → IsOnWay client moves n session → block_of (n + 1) (move_block client (session_at client moves n) act) ≡ None → after ≡ standing_of (session_after client.sight (session_at client moves n) act) → IsOnWay client moves (n + 1) after
goes_on client moves n act session after h e way free stands = record {
  stands = stands ∙ ap standing_of (sym (session_more client moves n act h e));
  start = ap (λ s. s.start) stands ∙ ap (λ s. s.start) (sym way.stands) ∙ way.start;
  block =
      next_block client moves n act session h e way
      ∙ ap (λ b. or_else b (moves_block client (n + 1 + 1) (session_after client.sight (session_at client moves n) act) (drop (n + 1) moves))) free
      ∙ ap (λ s. moves_block client (n + 1 + 1) s (drop (n + 1) moves)) (sym (session_more client moves n act h e));
}

pub is_stopped : (client : Client) (moves : List Move) (n : ℕ) (act : Move) (session : Standing) (block : Block) → n < length moves → act ≡ get_or moves n act → IsOnWay client moves n session → block_of (n + 1) (move_block client (session_at client moves n) act) ≡ Some block → moves_block client 1 (fresh_session client.sight) moves ≡ Some block
is_stopped client moves n act session block h e way stop =
    next_block client moves n act session h e way
    ∙ ap (λ b. or_else b (moves_block client (n + 1 + 1) (session_after client.sight (session_at client moves n) act) (drop (n + 1) moves))) stop

pub is_whole : (client : Client) (moves : List Move) (n : ℕ) (session : Standing) → length moves ≤ n → IsOnWay client moves n session → moves_block client 1 (fresh_session client.sight) moves ≡ block_of 0 (goal_block client (session_at client moves n))
is_whole client moves n session h way =
    way.block ∙ ap (moves_block client (n + 1) (session_at client moves n)) (drop_all n moves h)

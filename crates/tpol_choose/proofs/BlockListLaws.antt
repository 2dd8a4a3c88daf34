-- The blocks of ways that are made of parts.
use Rattle.std.proofs.Common.{◌≡◌, ◌≢◌, ℕ, ◌-◌, ◌≤◌, ◌++◌, List, [], ◌∷◌, map, length, Option, Some, refl, sym, ap, ◌∙◌}
use Rattle.std.specs.List.{AllByRecursion}
use Rattle.std.proofs.lemmas.List.{append-nil, append_assoc}
use Rattle.tpol_base.specs.declared.digest.Digest32.{Digest32}
use Rattle.tpol_digest.specs.Digest.{zero_digest}
use Rattle.tpol_digest.specs.Paths.{approval_of, between, document_paths, followed_by, outside_path, outside_paths, path_of_move, paths_by_approval, product}
use Rattle.tpol_digest.specs.Positions.{element_list_ways, path_of_step}
use Rattle.tpol_digest.proofs.Documents.{document_paths-some}
use Rattle.tpol_digest.proofs.Positions.{part}
use Rattle.tpol_tree.specs.declared.closed.ClosedElement.{ClosedElement}
use Rattle.tpol_tree.specs.declared.path.ApprovedDoc.{ApprovedDoc}
use Rattle.tpol_tree.specs.declared.path.Move.{Move}
use Rattle.tpol_tree.specs.declared.path.Path.{Path}
use Rattle.tpol_tree.specs.declared.path.PathStep.{PathStep}
use Rattle.tpol_tree.specs.declared.path.PathStep.TheVariants.{Document}
use Rattle.tpol_choose.specs.declared.block.Block.{Block}
use Rattle.tpol_choose.specs.Blocks.{block_on}
use Rattle.tpol_choose.specs.Clients.{Client}
use Rattle.tpol_choose.specs.Outside.{outside_move}
use Rattle.tpol_choose.specs.BlockLists.{block_at_the_end, blocks_of}
use Rattle.tpol_choose.specs.Tracks.{TrackState, fresh_track, gone_outside, track_after, track_along}
use Rattle.tpol_choose.proofs.Ends.{outside_is, path_ends}
use Rattle.tpol_choose.proofs.Going.{along_both, along_between, along_closed, along_move, along_outside}

module _ (client : Client) (behind : TrackState → List (Option Block)) where
  pub blocks_append : (track : TrackState) (xs ys : List Path) → blocks_of client behind track (xs ++ ys) ≡ blocks_of client behind track xs ++ blocks_of client behind track ys
  blocks_append track [] ys = refl
  blocks_append track (x ∷ xs) ys =
      ap (λ l. behind (track_along client track x) ++ l) (blocks_append track xs ys)
      ∙ sym (append_assoc (behind (track_along client track x)) (blocks_of client behind track xs) (blocks_of client behind track ys))

  pub blocks_one : (track : TrackState) (way : Path) → blocks_of client behind track (way ∷ []) ≡ behind (track_along client track way)
  blocks_one track way = append-nil (behind (track_along client track way))

  pub blocks_one_move : (track : TrackState) (act : Move) → blocks_of client behind track (path_of_move act ∷ []) ≡ behind (track_after client track act)
  blocks_one_move track act = blocks_one track (path_of_move act) ∙ ap behind (sym (along_move client track act))

  blocks_followed : (track : TrackState) (a : Path) (ways : List Path) → blocks_of client behind track (map (followed_by a) ways) ≡ blocks_of client behind (track_along client track a) ways
  blocks_followed track a [] = refl
  blocks_followed track a (way ∷ ways) =
      ap (λ t. behind t ++ blocks_of client behind track (map (followed_by a) ways)) (sym (along_both client track a way))
      ∙ ap (λ l. behind (track_along client (track_along client track a) way) ++ l) (blocks_followed track a ways)

  pub blocks_product : (track : TrackState) (xs ys : List Path) → blocks_of client behind track (product xs ys) ≡ blocks_of client (λ t. blocks_of client behind t ys) track xs
  blocks_product track [] ys = refl
  blocks_product track (x ∷ xs) ys =
      blocks_append track (map (followed_by x) ys) (product xs ys)
      ∙ ap (λ l. l ++ blocks_of client behind track (product xs ys)) (blocks_followed track x ys)
      ∙ ap (λ l. blocks_of client behind (track_along client track x) ys ++ l) (blocks_product track xs ys)

  -- ways whose ends give the same
  pub blocks_same : (others : TrackState → List (Option Block)) → ((t : TrackState) → behind t ≡ others t) → (track : TrackState) (ways : List Path) → blocks_of client behind track ways ≡ blocks_of client others track ways
  blocks_same others same track [] = refl
  blocks_same others same track (way ∷ ways) =
      ap (λ l. l ++ blocks_of client behind track ways) (same (track_along client track way))
      ∙ ap (λ l. others (track_along client track way) ++ l) (blocks_same others same track ways)

  pub blocks_by_step : (track : TrackState) (step : PathStep) (ways : List Path) → blocks_of client behind track (map (followed_by (path_of_step step)) ways) ≡ blocks_of client behind track ways
  blocks_by_step track step [] = refl
  blocks_by_step track step (way ∷ ways) =
      ap (λ l. behind (track_along client track way) ++ l) (blocks_by_step track step ways)

  pub blocks_by_move : (track : TrackState) (act : Move) (ways : List Path) → blocks_of client behind track (map (λ way. followed_by way (path_of_move act)) ways) ≡ blocks_of client (λ t. behind (track_after client t act)) track ways
  blocks_by_move track act [] = refl
  blocks_by_move track act (way ∷ ways) =
      ap (λ t. behind t ++ blocks_of client behind track (map (λ x. followed_by x (path_of_move act)) ways)) (sym (along_closed client track act way))
      ∙ ap (λ l. behind (track_after client (track_along client track way) act) ++ l) (blocks_by_move track act ways)

  pub blocks_between : (track : TrackState) (step : PathStep) (act : Move) (ways : List Path) → blocks_of client behind track (map (between step act) ways) ≡ blocks_of client (λ t. behind (track_after client t act)) track ways
  blocks_between track step act [] = refl
  blocks_between track step act (way ∷ ways) =
      ap (λ t. behind t ++ blocks_of client behind track (map (between step act) ways)) (sym (along_between client track step act way))
      ∙ ap (λ l. behind (track_after client (track_along client track way) act) ++ l) (blocks_between track step act ways)

  -- the ways of a document, each before the move that uses its approval
  pub blocks_entered : (documents : List ApprovedDoc) (levels : ℕ) (element : ClosedElement) (document : ApprovedDoc) (act : Move) (d : Digest32) (track : TrackState) → levels ≢ 0 → Some act ≡ approval_of element document → d ≡ zero_digest → blocks_of client behind track (part documents levels element document) ≡ blocks_of client (λ t. behind (track_after client t act)) track (element_list_ways documents (levels - 1) document.closed.elements d)
  blocks_entered documents levels element document act d track level asks e =
      ap (λ o. blocks_of client behind track (paths_by_approval o document (document_paths documents levels document))) (sym asks)
      ∙ ap (λ l. blocks_of client behind track (map (between (Document document.document) act) l)) (document_paths-some documents levels document level)
      ∙ blocks_between track (Document document.document) act (element_list_ways documents (levels - 1) document.closed.elements zero_digest)
      ∙ ap (λ x. blocks_of client (λ t. behind (track_after client t act)) track (element_list_ways documents (levels - 1) document.closed.elements x)) (sym e)

  -- the way by a policy that no listed document has
  pub blocks_outside : (track : TrackState) (element : ClosedElement) (act : Move) → Some act ≡ outside_move element → blocks_of client behind track (outside_paths element) ≡ behind (gone_outside (track_after client track act))
  blocks_outside track element act e =
      ap (blocks_of client behind track) (sym (outside_is element act e))
      ∙ blocks_one track (outside_path act)
      ∙ ap behind (sym (along_outside client track act))

-- of a whole policy, whose ways are short
pub blocks_all : (client : Client) (ways : List Path) → AllByRecursion (λ way. length way.moves ≤ 512) ways → blocks_of client (block_at_the_end client) (fresh_track client) ways ≡ map (block_on client) ways
blocks_all client [] short = refl
blocks_all client (way ∷ ways) short =
    ap (λ b. b ∷ blocks_of client (block_at_the_end client) (fresh_track client) ways) (path_ends client way short.0)
    ∙ ap (λ l. block_on client way ∷ l) (blocks_all client ways short.1)

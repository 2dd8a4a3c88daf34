-- The way at an index, part by part, as a track goes it.
use Rattle.std.proofs.Common.{◌≡◌, ℕ, zero, suc, ◌+◌, ◌*◌, ◌<◌, ◌++◌, Bool, true, false, List, [], ◌∷◌, map, fold, length, get_or, refl, sym, ap, ◌∙◌, subst, length-append, arith}
use Rattle.std.specs.Prelude.{◌||◌}
use Rattle.std.proofs.lemmas.List.{length-map}
use Rattle.std.proofs.lemmas.List.Sums.{fold-append, fold_push}
use Rattle.tpol_base.specs.declared.digest.Digest32.{Digest32}
use Rattle.tpol_tree.specs.declared.closed.ClosedBranches.{ClosedBranches}
use Rattle.tpol_tree.specs.declared.closed.ClosedBranches.TheVariants.{More' as MoreBranches', End as EndBranches}
use Rattle.tpol_tree.specs.declared.closed.ClosedElement.{ClosedElement}
use Rattle.tpol_tree.specs.declared.path.ApprovedDoc.{ApprovedDoc}
use Rattle.tpol_tree.specs.declared.path.Move.{Move}
use Rattle.tpol_tree.specs.declared.path.Path.{Path}
use Rattle.tpol_tree.specs.declared.path.PathStep.{PathStep}
use Rattle.tpol_tree.specs.declared.path.PathStep.TheVariants.{Branch}
use Rattle.tpol_digest.specs.Paths.{approved_paths, between, document_paths, empty_path, followed_by, outside_path, outside_paths, path_of_move, product}
use Rattle.tpol_digest.specs.Positions.{GoesOn, approval_ways, branch_ways, element_list_ways, path_of_step}
use Rattle.tpol_digest.proofs.Positions.{before_document, goes_first, goes_in_document, goes_later, goes_outside, part}
use Rattle.tpol_digest.proofs.Products.{or_false}
use Rattle.tpol_digest.proofs.Walks.{path_at-map, path_at-product}
use Rattle.tpol_choose.specs.declared.track.Track.{Track}
use Rattle.tpol_choose.specs.Clients.{Client}
use Rattle.tpol_choose.specs.Tracks.{Goes, IsTrack, TrackState, gone_outside, track_after, track_along}

module _ (client : Client) where
  -- the moves alone
  abbrev moved : TrackState → List Move → TrackState
  moved track moves = fold (track_after client) track moves

  -- whether a track went outside does not matter to its moves
  with_outside : (outside : Bool) (track : TrackState) (moves : List Move) → moved (record track { outside = outside }) moves ≡ record (moved track moves) { outside = outside }
  with_outside outside track [] = refl
  with_outside outside track (act ∷ rest) = with_outside outside (track_after client track act) rest

  or_assoc : (a b c : Bool) → ((a || b) || c) ≡ (a || (b || c))
  or_assoc true b c = refl
  or_assoc false b c = refl

  -- one path and then another
  pub along_both : (track : TrackState) (a b : Path) → track_along client (track_along client track a) b ≡ track_along client track (followed_by a b)
  along_both track a b =
      ap (λ (x : TrackState). record x { outside = (track.outside || a.outside) || b.outside }) (with_outside (track.outside || a.outside) (moved track a.moves) b.moves)
      ∙ ap (λ (x : TrackState). record x { outside = (track.outside || a.outside) || b.outside }) (sym (fold-append (track_after client) track a.moves b.moves))
      ∙ ap (λ o. record (moved track (a.moves ++ b.moves)) { outside = o }) (or_assoc track.outside a.outside b.outside)

  -- a path and one more move
  pub along_between : (track : TrackState) (step : PathStep) (act : Move) (way : Path) → track_after client (track_along client track way) act ≡ track_along client track (between step act way)
  along_between track step act way =
      ap (λ (x : TrackState). record x { outside = track.outside || way.outside }) (sym (fold_push (track_after client) track way.moves act))

  pub along_closed : (track : TrackState) (act : Move) (way : Path) → track_after client (track_along client track way) act ≡ track_along client track (followed_by way (path_of_move act))
  along_closed track act way =
      ap (λ (x : TrackState). record x { outside = track.outside || way.outside }) (sym (fold_push (track_after client) track way.moves act))
      ∙ ap (λ o. record (moved track (way.moves ++ act ∷ [])) { outside = track.outside || o }) (sym (or_false way.outside))

  pub along_move : (track : TrackState) (act : Move) → track_after client track act ≡ track_along client track (path_of_move act)
  along_move track act = ap (λ o. record (track_after client track act) { outside = o }) (sym (or_false track.outside))

  or_true : (b : Bool) → (b || true) ≡ true
  or_true true = refl
  or_true false = refl

  pub along_outside : (track : TrackState) (act : Move) → gone_outside (track_after client track act) ≡ track_along client track (outside_path act)
  along_outside track act = ap (λ o. record (track_after client track act) { outside = o }) (sym (or_true track.outside))

  pub along_nothing : (track : TrackState) → track ≡ track_along client track empty_path
  along_nothing track = ap (λ o. record track { outside = o }) (sym (or_false track.outside))

  -- ---- the way at an index of a list that is made of parts

  pub go_one : (track : TrackState) (lent : Track) (way : Path) (state : TrackState) (i : ℕ) → i < 1 → IsTrack lent state → state ≡ track_along client track way → Goes client track (way ∷ []) i lent
  go_one track lent way state zero h is e = record { way = way; is_there = refl; follows = subst (IsTrack lent) e is }
  go_one track lent way state (suc i) h is e = absurd (omega arith)

  pub go_through : (track : TrackState) (middle lent : Track) (xs ys : List Path) (i j k : ℕ) → Goes client track xs i middle → ((state : TrackState) → IsTrack middle state → Goes client state ys j lent) → k ≡ i * length ys + j → Goes client track (product xs ys) k lent
  go_through track middle lent xs ys i j k g next e =
      let h = next (track_along client track g.way) g.follows in
      record {
        way = followed_by g.way h.way;
        is_there = path_at-product xs ys i j k g.way h.way g.is_there h.is_there e;
        follows = subst (IsTrack lent) (along_both track g.way h.way) h.follows;
      }

  pub go_by_step : (track : TrackState) (lent : Track) (step : PathStep) (ways : List Path) (i : ℕ) → Goes client track ways i lent → Goes client track (map (followed_by (path_of_step step)) ways) i lent
  go_by_step track lent step ways i g = record {
    way = followed_by (path_of_step step) g.way;
    is_there = path_at-map (followed_by (path_of_step step)) ways i g.way g.is_there;
    follows = g.follows;
  }

  pub go_by_move : (track : TrackState) (inner lent : Track) (act : Move) (ways : List Path) (i : ℕ) → Goes client track ways i inner → ((state : TrackState) → IsTrack inner state → IsTrack lent (track_after client state act)) → Goes client track (map (λ way. followed_by way (path_of_move act)) ways) i lent
  go_by_move track inner lent act ways i g after = record {
    way = followed_by g.way (path_of_move act);
    is_there = path_at-map (λ way. followed_by way (path_of_move act)) ways i g.way g.is_there;
    follows = subst (IsTrack lent) (along_closed track act g.way) (after (track_along client track g.way) g.follows);
  }

  pub go_between : (track : TrackState) (inner lent : Track) (step : PathStep) (act : Move) (ways : List Path) (i : ℕ) → Goes client track ways i inner → ((state : TrackState) → IsTrack inner state → IsTrack lent (track_after client state act)) → Goes client track (map (between step act) ways) i lent
  go_between track inner lent step act ways i g after = record {
    way = between step act g.way;
    is_there = path_at-map (between step act) ways i g.way g.is_there;
    follows = subst (IsTrack lent) (along_between track step act g.way) (after (track_along client track g.way) g.follows);
  }

  -- ---- as a path goes on from nothing

  pub alone : (track : TrackState) (lent : Track) (ways : List Path) (i : ℕ) (g : Goes client track ways i lent) → GoesOn empty_path ways i (followed_by empty_path g.way)
  alone track lent ways i g = record { way = g.way; is_there = g.is_there; follows = refl }

  pub along : (track : TrackState) (lent : Track) (way : Path) (ways : List Path) (i : ℕ) → IsTrack lent (track_along client track way) → GoesOn empty_path ways i (followed_by empty_path way) → Goes client track ways i lent
  along track lent way ways i is g = record {
    way = g.way;
    is_there = g.is_there;
    follows = subst (λ (w : Path). IsTrack lent (track_along client track w)) g.follows is;
  }

  pub go_first : (track : TrackState) (lent : Track) (xs ys : List Path) (i : ℕ) → Goes client track xs i lent → Goes client track (xs ++ ys) i lent
  go_first track lent xs ys i g =
      along track lent g.way (xs ++ ys) i g.follows (goes_first empty_path (followed_by empty_path g.way) xs ys i (alone track lent xs i g))

  pub go_later : (track : TrackState) (lent : Track) (xs ys : List Path) (i j : ℕ) → j ≡ length xs + i → Goes client track ys i lent → Goes client track (xs ++ ys) j lent
  go_later track lent xs ys i j e g =
      along track lent g.way (xs ++ ys) j g.follows (goes_later empty_path (followed_by empty_path g.way) xs ys i j e (alone track lent ys i g))

  module _ (documents : List ApprovedDoc) (levels : ℕ) (element : ClosedElement) where
    pub go_in_document : (track : TrackState) (lent : Track) (i left : ℕ) (document : ApprovedDoc) → i < length documents → document ≡ get_or documents i document → Goes client track (part documents levels element document) left lent → Goes client track (approved_paths (document_paths documents levels) documents element) (length (before_document documents levels element i) + left) lent
    go_in_document track lent i left document inside is g =
        along track lent g.way (approved_paths (document_paths documents levels) documents element) (length (before_document documents levels element i) + left) g.follows (goes_in_document documents levels element empty_path (followed_by empty_path g.way) i left document inside is (alone track lent (part documents levels element document) left g))

    pub go_to_outside : (track : TrackState) (lent : Track) (index left : ℕ) → index ≡ length (approved_paths (document_paths documents levels) documents element) + left → index < length (approval_ways documents levels element) → Goes client track (outside_paths element) 0 lent → Goes client track (approval_ways documents levels element) index lent
    go_to_outside track lent index left e inside g =
        along track lent g.way (approval_ways documents levels element) index g.follows (goes_outside documents levels element empty_path (followed_by empty_path g.way) index left e inside (alone track lent (outside_paths element) 0 g))

-- the number of ways through branches does not depend on their positions
pub branch_ways-count : (documents : List ApprovedDoc) (levels : ℕ) (branches : ClosedBranches) (p q : ℕ) (d : Digest32) → length (branch_ways documents levels branches p d) ≡ length (branch_ways documents levels branches q d)
branch_ways-count documents levels EndBranches p q d = refl
branch_ways-count documents levels (MoreBranches' b name elements r rest) p q d =
    let ways = element_list_ways documents levels elements d in
    let others = branch_ways-count documents levels rest (p + 1) (q + 1) d in
    length-append (map (followed_by (path_of_step (Branch p name))) ways) (branch_ways documents levels rest (p + 1) d)
    ∙ ap (λ n. n + length (branch_ways documents levels rest (p + 1) d)) (length-map ways (followed_by (path_of_step (Branch p name))))
    ∙ ap (λ n. length ways + n) others
    ∙ ap (λ n. n + length (branch_ways documents levels rest (q + 1) d)) (sym (length-map ways (followed_by (path_of_step (Branch q name)))))
    ∙ sym (length-append (map (followed_by (path_of_step (Branch q name))) ways) (branch_ways documents levels rest (q + 1) d))

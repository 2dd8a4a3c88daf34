-- What a list of elements begins with leads to the same blocks and to the same find, and the rest is no larger than
-- the list.
use Rattle.std.proofs.Common.{◌≡◌, ℕ, ◌*◌, ◌≤◌, List, Option, Some, None, subst, sym, ap, ◌∙◌, arith}
use Rattle.std.proofs.Math.Nat.{mul-le-mul_left}
use Rattle.tpol_base.specs.declared.digest.Digest32.{Digest32}
use Rattle.tpol_choose.specs.declared.ahead.Ahead.{Ahead}
use Rattle.tpol_choose.specs.declared.assert_move.AssertMove.{AssertMove}
use Rattle.tpol_choose.specs.BlockLists.{blocks_ahead, blocks_rest}
use Rattle.tpol_choose.specs.Clients.{Client}
use Rattle.tpol_choose.specs.Few.{HasFewBranches}
use Rattle.tpol_choose.specs.Leads.{leads}
use Rattle.tpol_choose.specs.Searches.{search_ahead, search_rest}
use Rattle.tpol_choose.specs.Tracks.{TrackState, after_first, track_after}
use Rattle.tpol_choose.proofs.BlockListLaws.{blocks_one_move, blocks_product}
use Rattle.tpol_choose.proofs.SearchLaws.{ways_one_move, ways_product}
use Rattle.tpol_digest.specs.Digest.{digest_after_assertion}
use Rattle.tpol_digest.specs.Positions.{element_list_ways, element_ways}
use Rattle.tpol_digest.proofs.Weights.{weight}
use Rattle.tpol_tree.specs.declared.closed.ClosedElement.TheVariants as closed
use Rattle.tpol_tree.specs.declared.closed.ClosedElements.{ClosedElements}
use Rattle.tpol_tree.specs.declared.closed.ClosedElements.TheVariants.{More', End}
use Rattle.tpol_tree.specs.declared.path.ApprovedDoc.{ApprovedDoc}
use Rattle.tpol_tree.specs.declared.path.Move.TheVariants.{Assert}

-- the blocks behind what it begins with
module _ (client : Client) (documents : List ApprovedDoc) (levels : ℕ) (ahead : Ahead) (track : TrackState) where
  pub lead_blocks : (first : Option AssertMove) (elements : ClosedElements) (d : Digest32) (rest : ClosedElements) (before : Digest32) → leads first elements d rest before → blocks_rest client documents levels rest before ahead (after_first client track first) ≡ blocks_rest client documents levels elements d ahead track
  lead_blocks None elements d rest before h =
      ap (λ r. blocks_rest client documents levels r before ahead track) h.0
      ∙ ap (λ x. blocks_rest client documents levels elements x ahead track) h.1
  lead_blocks (Some step) End d rest before h = absurd h
  lead_blocks (Some step) (More' p (closed.Assert assertion) q others) d rest before h =
      let after = digest_after_assertion assertion d in
      ap (λ r. blocks_rest client documents levels r before ahead (track_after client track (Assert step.assertion.now))) h.1
      ∙ ap (λ x. blocks_rest client documents levels others x ahead (track_after client track (Assert step.assertion.now))) h.2
      ∙ ap (λ a. blocks_rest client documents levels others after ahead (track_after client track (Assert a))) h.0
      ∙ sym (blocks_one_move client (blocks_rest client documents levels others after ahead) track (Assert assertion))
      ∙ sym (blocks_product client (blocks_ahead client documents ahead) track (element_ways documents levels (closed.Assert assertion) d) (element_list_ways documents levels others after))
  lead_blocks (Some step) (More' p (closed.Or branches) q others) d rest before h = absurd h
  lead_blocks (Some step) (More' p (closed.Authorize key policy_ref) q others) d rest before h = absurd h
  lead_blocks (Some step) (More' p (closed.AuthorizeNv index) q others) d rest before h = absurd h

-- the same of a search
module _ (client : Client) (documents : List ApprovedDoc) (levels : ℕ) (ahead : Ahead) (track : TrackState) (n : ℕ) where
  pub lead_search : (first : Option AssertMove) (elements : ClosedElements) (d : Digest32) (rest : ClosedElements) (before : Digest32) → leads first elements d rest before → search_rest client documents levels rest before ahead (after_first client track first) n ≡ search_rest client documents levels elements d ahead track n
  lead_search None elements d rest before h =
      ap (λ r. search_rest client documents levels r before ahead track n) h.0
      ∙ ap (λ x. search_rest client documents levels elements x ahead track n) h.1
  lead_search (Some step) End d rest before h = absurd h
  lead_search (Some step) (More' p (closed.Assert assertion) q others) d rest before h =
      let after = digest_after_assertion assertion d in
      ap (λ r. search_rest client documents levels r before ahead (track_after client track (Assert step.assertion.now)) n) h.1
      ∙ ap (λ x. search_rest client documents levels others x ahead (track_after client track (Assert step.assertion.now)) n) h.2
      ∙ ap (λ a. search_rest client documents levels others after ahead (track_after client track (Assert a)) n) h.0
      ∙ sym (ways_one_move client (search_rest client documents levels others after ahead) track n (Assert assertion))
      ∙ sym (ways_product client (search_ahead client documents ahead) track n (element_ways documents levels (closed.Assert assertion) d) (element_list_ways documents levels others after))
  lead_search (Some step) (More' p (closed.Or branches) q others) d rest before h = absurd h
  lead_search (Some step) (More' p (closed.Authorize key policy_ref) q others) d rest before h = absurd h
  lead_search (Some step) (More' p (closed.AuthorizeNv index) q others) d rest before h = absurd h

-- the rest has no more parts, and no OR with more branches
lead_less : (first : Option AssertMove) (elements : ClosedElements) (d : Digest32) (rest : ClosedElements) (before : Digest32) → leads first elements d rest before → weight rest ≤ weight elements
lead_less None elements d rest before h = let same = ap weight h.0 in omega (arith, same)
lead_less (Some step) End d rest before h = absurd h
lead_less (Some step) (More' p (closed.Assert assertion) q others) d rest before h =
    let same = ap weight h.1 in omega (arith, same)
lead_less (Some step) (More' p (closed.Or branches) q others) d rest before h = absurd h
lead_less (Some step) (More' p (closed.Authorize key policy_ref) q others) d rest before h = absurd h
lead_less (Some step) (More' p (closed.AuthorizeNv index) q others) d rest before h = absurd h

pub lead_lighter : (share : ℕ) (first : Option AssertMove) (elements : ClosedElements) (d : Digest32) (rest : ClosedElements) (before : Digest32) → leads first elements d rest before → weight rest * share ≤ weight elements * share
lead_lighter share first elements d rest before h =
    let less = mul-le-mul_left share (lead_less first elements d rest before h) in omega (arith, less)

pub lead_few : (first : Option AssertMove) (elements : ClosedElements) (d : Digest32) (rest : ClosedElements) (before : Digest32) → leads first elements d rest before → HasFewBranches elements → HasFewBranches rest
lead_few None elements d rest before h few = subst HasFewBranches (sym h.0) few
lead_few (Some step) End d rest before h few = absurd h
lead_few (Some step) (More' p (closed.Assert assertion) q others) d rest before h few = subst HasFewBranches (sym h.1) few.1
lead_few (Some step) (More' p (closed.Or branches) q others) d rest before h few = absurd h
lead_few (Some step) (More' p (closed.Authorize key policy_ref) q others) d rest before h few = absurd h
lead_few (Some step) (More' p (closed.AuthorizeNv index) q others) d rest before h few = absurd h

-- The blocks of the ways through a policy, on one walk through it.
use Rattle.std.specs.Prelude.{ℕ, List, [], ◌∷◌, ◌++◌, Option}
use Rattle.tpol_choose.specs.declared.ahead.Ahead.{Ahead}
use Rattle.tpol_choose.specs.declared.ahead.Ahead.TheVariants.{Nothing, After'}
use Rattle.tpol_choose.specs.declared.block.Block.{Block}
use Rattle.tpol_base.specs.declared.digest.Digest32.{Digest32}
use Rattle.tpol_choose.specs.Acts.{move_of}
use Rattle.tpol_choose.specs.Clients.{Client}
use Rattle.tpol_choose.specs.Tracks.{TrackState, after_first, block_at_end, track_after, track_along}
use Rattle.tpol_digest.specs.Positions.{element_list_ways}
use Rattle.tpol_tree.specs.declared.closed.ClosedElements.{ClosedElements}
use Rattle.tpol_tree.specs.declared.path.ApprovedDoc.{ApprovedDoc}
use Rattle.tpol_tree.specs.declared.path.Path.{Path}

-- the ways that a track may take, one after another, where `behind` gives those at the end of one
abbrev pub blocks_of : Client → (TrackState → List (Option Block)) → TrackState → List Path → List (Option Block)
blocks_of client behind track [] = []
blocks_of client behind track (way ∷ ways) =
    behind (track_along client track way) ++ blocks_of client behind track ways

-- the end of a whole way
abbrev pub block_at_the_end : Client → TrackState → List (Option Block)
block_at_the_end client track = block_at_end client track ∷ []

-- what comes behind a branch or a document
abbrev pub blocks_ahead : Client → List ApprovedDoc → Ahead → TrackState → List (Option Block)
blocks_ahead client documents Nothing track = block_at_the_end client track
blocks_ahead client documents (After' act first rest before levels p ahead) track =
    blocks_of client (blocks_ahead client documents ahead) (after_first client (track_after client track (move_of act)) first) (element_list_ways documents levels rest.now before.digest)

-- the rest of a list, where d is the digest before, and what comes behind it
abbrev pub blocks_rest : Client → List ApprovedDoc → ℕ → ClosedElements → Digest32 → Ahead → TrackState → List (Option Block)
blocks_rest client documents levels rest d ahead track =
    blocks_of client (blocks_ahead client documents ahead) track (element_list_ways documents levels rest d)

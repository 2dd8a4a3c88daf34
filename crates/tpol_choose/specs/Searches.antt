-- What a walk through a policy that looks for a way comes to.
use Rattle.std.specs.Prelude.{ℕ, zero, suc, ◌+◌, ◌≤◌, min, is_none, if◌then◌else◌, List, [], ◌∷◌, ⊤}
use Rattle.tpol_choose.specs.declared.ahead.Ahead.{Ahead}
use Rattle.tpol_choose.specs.declared.ahead.Ahead.TheVariants.{Nothing, After'}
use Rattle.tpol_choose.specs.declared.searching.Search.{Search}
use Rattle.tpol_choose.specs.declared.searching.Search.TheVariants.{Found, Passed}
use Rattle.tpol_base.specs.declared.digest.Digest32.{Digest32}
use Rattle.tpol_choose.specs.Acts.{move_of}
use Rattle.tpol_choose.specs.Clients.{Client}
use Rattle.tpol_choose.specs.Tracks.{TrackState, after_first, block_at_end, track_after, track_along}
use Rattle.tpol_digest.specs.Positions.{element_list_ways}
use Rattle.tpol_tree.specs.declared.closed.ClosedElements.{ClosedElements}
use Rattle.tpol_tree.specs.declared.path.ApprovedDoc.{ApprovedDoc}
use Rattle.tpol_tree.specs.declared.path.Path.{Path}

-- so many more ways are passed, counted to 65,537
abbrev pub passed_more : ℕ → ℕ → ℕ
passed_more passed zero = passed
passed_more passed (suc ways) = min (passed + suc ways) 65537

abbrev pub IsCounted : Search → Type 0
IsCounted (Found index) = index ≤ 65537
IsCounted (Passed passed) = ⊤

-- a search goes on where nothing is found
abbrev pub go_on : Search → (ℕ → Search) → Search
go_on (Found index) next = Found index
go_on (Passed passed) next = next passed

-- the ways that a track may take, one after another, where `behind` searches on at the end of one
abbrev pub search_ways : Client → (TrackState → ℕ → Search) → TrackState → ℕ → List Path → Search
search_ways client behind track passed [] = Passed passed
search_ways client behind track passed (way ∷ ways) =
    go_on (behind (track_along client track way) passed) (λ more. search_ways client behind track more ways)

-- the end of a whole way
abbrev pub search_end : Client → TrackState → ℕ → Search
search_end client track passed =
    if is_none (block_at_end client track) then Found passed else Passed (passed_more passed 1)

-- what comes behind a branch or a document
abbrev pub search_ahead : Client → List ApprovedDoc → Ahead → TrackState → ℕ → Search
search_ahead client documents Nothing track passed = search_end client track passed
search_ahead client documents (After' act first rest before levels p ahead) track passed =
    search_ways client (search_ahead client documents ahead) (after_first client (track_after client track (move_of act)) first) passed (element_list_ways documents levels rest.now before.digest)

-- the rest of a list, where d is the digest before, and what comes behind it
abbrev pub search_rest : Client → List ApprovedDoc → ℕ → ClosedElements → Digest32 → Ahead → TrackState → ℕ → Search
search_rest client documents levels rest d ahead track passed =
    search_ways client (search_ahead client documents ahead) track passed (element_list_ways documents levels rest d)

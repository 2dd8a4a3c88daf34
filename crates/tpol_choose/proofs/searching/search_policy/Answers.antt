use Rattle.std.proofs.Common.{◌≡◌, ap, ◌∙◌, arith}
use Rattle.tpol_digest.specs.Paths.{paths_of}
use Rattle.tpol_choose.specs.Lent.{client_of_lent}
use Rattle.tpol_choose.specs.Searches.{search_end, search_ways}
use Rattle.tpol_choose.specs.Tracks.{fresh_track}
use Rattle.tpol_choose.proofs.Counts.{whole_ways}
use Rattle.tpol_choose.proofs.SearchLaws.{is_counted}
use Rattle.tpol_choose.proofs.searching.search_policy.Goals as goal

pub returns : goal.returns
returns c =
    let client = client_of_lent c.args.walk.now.client.now in
    let documents = c.args.walk.now.approvals.now in
    let paths = paths_of c.args.policy.now documents in
    let found : c.search_elements.result ≡ search_ways client (search_end client) (fresh_track client) 0 paths =
    c.search_elements.ensures (fresh_track client) c.new-track.ensures
    ∙ ap (search_ways client (search_end client) (fresh_track client) 0) (whole_ways documents c.args.walk.now.levels c.args.policy.now c.args.before.digest c.requires.levels c.requires.start) in
    record { found = found; counted = is_counted client (fresh_track client) 0 paths c.search_elements.result (omega arith) found }

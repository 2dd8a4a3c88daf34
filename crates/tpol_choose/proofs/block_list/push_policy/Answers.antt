use Rattle.std.proofs.Common.{◌++◌, ◌≤◌, length, ap, ◌∙◌}
use Rattle.std.proofs.lemmas.List.Elements.{recursion_from_All}
use Rattle.std.proofs.lemmas.Result.{on_ok_weaker}
use Rattle.tpol_digest.specs.Paths.{paths_of}
use Rattle.tpol_tree.specs.declared.path.Path.{Path}
use Rattle.tpol_choose.specs.Lent.{client_of_lent}
use Rattle.tpol_choose.specs.BlockLists.{block_at_the_end, blocks_of}
use Rattle.tpol_choose.specs.Tracks.{fresh_track}
use Rattle.tpol_choose.proofs.Counts.{whole_ways}
use Rattle.tpol_choose.proofs.BlockListLaws.{blocks_all}
use Rattle.tpol_choose.proofs.block_list.push_policy.Goals as goal

pub returns : goal.returns
returns c =
    let client = client_of_lent c.args.walk.now.client.now in
    let documents = c.args.walk.now.approvals.now in
    let paths = paths_of c.args.policy.now documents in
    let blocks = c.args.found.now.items in
    on_ok_weaker c.push_elements.result (λ e. e
    ∙ ap (λ w. blocks ++ blocks_of client (block_at_the_end client) (fresh_track client) w) (whole_ways documents c.args.walk.now.levels c.args.policy.now c.start.result.digest c.requires.levels c.start.ensures.digest)
    ∙ ap (λ l. blocks ++ l) (blocks_all client paths (recursion_from_All (λ (path : Path). length path.moves ≤ 512) paths c.requires.within.short))) (c.push_elements.ensures (fresh_track client) c.new-track.ensures)

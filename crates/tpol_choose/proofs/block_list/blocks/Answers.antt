use Rattle.std.proofs.Common.{◌++◌, map, ap, ◌∙◌}
use Rattle.tpol_choose.specs.Blocks.{block_on, client_of, first_block}
use Rattle.tpol_choose.specs.Clients.{Client}
use Rattle.tpol_digest.specs.Paths.{paths_of}
use Rattle.tpol_choose.proofs.block_list.blocks.Goals as goal

pub returns : goal.returns
unfolding first_block
returns c =
    let client = client_of c.args.sight.now c.args.grants.now c.args.goal.now c.args.locality in
    c.in_ok-push_policy.ensures
    ∙ ap (λ (one : Client). c.new-blocks.result.items ++ map (block_on one) (paths_of c.args.policy.now c.as_slice.result.now)) c.new-client.ensures
    ∙ ap (λ l. l ++ map (block_on client) (paths_of c.args.policy.now c.as_slice.result.now)) c.new-blocks.ensures.items
    ∙ ap (λ l. map (block_on client) (paths_of c.args.policy.now l)) c.as_slice.ensures

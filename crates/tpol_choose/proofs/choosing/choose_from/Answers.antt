use Rattle.std.proofs.Common.{◌≡◌, ◌+◌, ◌≤◌, length, sym, ap, ◌∙◌, arith}
use Rattle.std.specs.Prelude.{is_none}
use Rattle.std.proofs.lemmas.List.Elements.{recursion_from_All}
use Rattle.tpol_choose.specs.Blocks.{block_on, chosen_path, client_of, first_block}
use Rattle.tpol_choose.specs.Clients.{Client}
use Rattle.tpol_choose.specs.Searches.{search_end, search_ways}
use Rattle.tpol_choose.specs.Tracks.{fresh_track}
use Rattle.tpol_choose.proofs.SearchLaws.{first_found, position_of, without_session}
use Rattle.tpol_choose.proofs.choosing.choose_from.Goals as goal
use Rattle.tpol_digest.proofs.Walks.{first_path-none}
use Rattle.tpol_digest.specs.Paths.{paths_of}
use Rattle.tpol_digest.specs.Walks.{first_path}
use Rattle.tpol_tree.specs.declared.path.Path.{Path}

pub returns-then-sight-eq0 : goal.returns-then-sight-eq0
unfolding chosen_path first_block
returns-then-sight-eq0 c =
    let paths = paths_of c.args.policy.now c.args.approvals.now in
    let client = client_of c.args.sight.now c.args.grants.now c.args.goal.now c.args.locality in
    sym (first_path-none (λ path. is_none (block_on client path)) (without_session client c.if-sight-eq0.true) 1 paths)

pub returns-in-Found : goal.returns-in-Found
unfolding chosen_path first_block
returns-in-Found c =
    let policy = c.args.policy.now in
    let approvals = c.args.approvals.now in
    let paths = paths_of policy approvals in
    let client = client_of c.args.sight.now c.args.grants.now c.args.goal.now c.args.locality in
    let found = sym c.in-Found.is ∙ c.search_policy.ensures.found ∙ ap (λ (one : Client). search_ways one (search_end one) (fresh_track one) 0 (paths_of policy c.as_slice.result.now)) c.new-client.ensures ∙ ap (λ l. search_ways client (search_end client) (fresh_track client) 0 (paths_of policy l)) c.as_slice.ensures in
    let one : 0 + 1 ≡ 1 = omega arith in
    let few : 0 + length paths ≤ 65537 = omega (arith, c.requires.within.few) in
    ap position_of found ∙ first_found client 0 paths few (recursion_from_All (λ (path : Path). length path.moves ≤ 512) paths c.requires.within.short) ∙ ap (λ n. first_path (λ path. is_none (block_on client path)) n paths) one

pub returns-in-Passed : goal.returns-in-Passed
unfolding chosen_path first_block
returns-in-Passed c =
    let policy = c.args.policy.now in
    let approvals = c.args.approvals.now in
    let paths = paths_of policy approvals in
    let client = client_of c.args.sight.now c.args.grants.now c.args.goal.now c.args.locality in
    let found = sym c.in-Passed.is ∙ c.search_policy.ensures.found ∙ ap (λ (one : Client). search_ways one (search_end one) (fresh_track one) 0 (paths_of policy c.as_slice.result.now)) c.new-client.ensures ∙ ap (λ l. search_ways client (search_end client) (fresh_track client) 0 (paths_of policy l)) c.as_slice.ensures in
    let one : 0 + 1 ≡ 1 = omega arith in
    let few : 0 + length paths ≤ 65537 = omega (arith, c.requires.within.few) in
    ap position_of found ∙ first_found client 0 paths few (recursion_from_All (λ (path : Path). length path.moves ≤ 512) paths c.requires.within.short) ∙ ap (λ n. first_path (λ path. is_none (block_on client path)) n paths) one

use Rattle.std.proofs.Common.{◌≡◌, ◌≤◌, Some, length, sym, ap, ◌∙◌, subst, arith}
use Rattle.std.specs.Prelude.{IfSome}
use Rattle.std.specs.List.{slice_get}
use Rattle.tpm_rules.specs.Rule.{Breaks}
use Rattle.tpol_digest.specs.Paths.{paths_of}
use Rattle.tpol_digest.proofs.Positions.{found_has}
use Rattle.tpol_tree.specs.declared.path.Path.{Path}
use Rattle.tpol_choose.specs.Blocks.{first_block}
use Rattle.tpol_choose.specs.Lent.{client_of_lent}
use Rattle.tpol_choose.specs.Tracks.{fresh_track, track_along}
use Rattle.tpol_choose.proofs.Counts.{whole_counted, whole_ways}
use Rattle.tpol_choose.proofs.Ends.{path_ends}
use Rattle.tpol_choose.proofs.at_position.block_at_index.Goals as goal

pub go_elements-track-requires-clause-counted : goal.go_elements-track-requires-clause-counted
go_elements-track-requires-clause-counted c =
    whole_counted c.args.walk.now.approvals.now c.args.walk.now.levels c.args.policy.now c.count_ways-count.result c.zero_digest.result c.requires.levels c.zero_digest.ensures c.requires.within c.count_ways-count.ensures.ways

pub go_elements-track-requires-clause-few : goal.go_elements-track-requires-clause-few
go_elements-track-requires-clause-few c =
    let documents = c.args.walk.now.approvals.now in
    let counted = whole_counted documents c.args.walk.now.levels c.args.policy.now c.count_ways-count.result c.zero_digest.result c.requires.levels c.zero_digest.ensures c.requires.within c.count_ways-count.ensures.ways in
    let same = ap length (whole_ways documents c.args.walk.now.levels c.args.policy.now c.zero_digest.result c.requires.levels c.zero_digest.ensures) in
    omega (arith, counted, same, c.requires.within.few)

pub go_elements-track-requires-clause-inside : goal.go_elements-track-requires-clause-inside
go_elements-track-requires-clause-inside c =
    let documents = c.args.walk.now.approvals.now in
    let counted = whole_counted documents c.args.walk.now.levels c.args.policy.now c.count_ways-count.result c.zero_digest.result c.requires.levels c.zero_digest.ensures c.requires.within c.count_ways-count.ensures.ways in
    let same = ap length (whole_ways documents c.args.walk.now.levels c.args.policy.now c.zero_digest.result c.requires.levels c.zero_digest.ensures) in
    omega (arith, counted, same, c.requires.inside)

pub returns : goal.returns
unfolding first_block
returns c =
    let client = client_of_lent c.args.walk.now.client.now in
    let documents = c.args.walk.now.approvals.now in
    let paths = paths_of c.args.policy.now documents in
    let index = c.args.index in
    let gone = c.go_elements-track.ensures (fresh_track client) c.new-track.ensures in
    let there : slice_get paths index ≡ Some gone.way = ap (λ l. slice_get l index) (sym (whole_ways documents c.args.walk.now.levels c.args.policy.now c.zero_digest.result c.requires.levels c.zero_digest.ensures)) ∙ gone.is_there in
    let short = found_has (λ (path : Path). length path.moves ≤ 512) paths index gone.way c.requires.within.short there in
    subst (λ found. IfSome found (λ path. Breaks c.end.result (first_block path client.sight client.grants client.goal client.locality))) (sym there) (subst (Breaks c.end.result) (path_ends client gone.way short) (c.end.ensures (track_along client (fresh_track client) gone.way) gone.follows))

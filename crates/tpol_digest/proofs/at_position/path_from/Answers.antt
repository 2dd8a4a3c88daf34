use Rattle.std.proofs.Common.{◌≡◌, ◌-◌, Some, length, subst, ap, arith}
use Rattle.std.specs.Prelude.{IsTrue}
use Rattle.std.specs.List.{list_any, slice_get}
use Rattle.tpol_digest.specs.Digest.{zero_digest, digest_of_moves, policy_digest}
use Rattle.tpol_digest.specs.Paths.{is_outside, paths_of, BeginsWithZeroApproval}
use Rattle.tpol_digest.specs.Positions.{element_list_ways}
use Rattle.tpol_digest.specs.Sound.{IsSound}
use Rattle.tpol_digest.proofs.Meeting.{paths_of_meet}
use Rattle.tpol_digest.proofs.OutsideFirst.{paths_of_first}
use Rattle.tpol_digest.proofs.OutsideSteps.{paths_of_tell}
use Rattle.tpol_digest.proofs.Positions.{found_path, found_has}
use Rattle.tpol_digest.proofs.Refusals.{counted_paths}
use Rattle.tpol_digest.proofs.Soundness.{paths_of_sound}
use Rattle.tpol_digest.proofs.at_position.path_from.Goals as goal

pub push_from_zero-requires-clause-counted : goal.push_from_zero-requires-clause-counted
push_from_zero-requires-clause-counted c =
    let policy = c.args.policy.now in
    let approvals = c.args.approvals.now in
    let counted = counted_paths policy approvals c.as_slice.result.now c.as_slice.ensures c.extent-extent.result c.extent-extent.ensures in
    let same = ap (λ l. length (element_list_ways l 4 policy.elements zero_digest)) c.as_slice.ensures in
    omega (arith, counted, c.requires.within.few, same)

pub push_from_zero-requires-clause-few : goal.push_from_zero-requires-clause-few
push_from_zero-requires-clause-few c =
    let counted = counted_paths c.args.policy.now c.args.approvals.now c.as_slice.result.now c.as_slice.ensures c.extent-extent.result c.extent-extent.ensures in
    omega (arith, counted, c.requires.within.few)

pub push_from_zero-requires-clause-inside : goal.push_from_zero-requires-clause-inside
push_from_zero-requires-clause-inside c =
    let counted = counted_paths c.args.policy.now c.args.approvals.now c.as_slice.result.now c.as_slice.ensures c.extent-extent.result c.extent-extent.ensures in
    omega (arith, counted, c.requires.within.few, c.requires.positions.0, c.requires.positions.1, c.from-index.ensures)

pub returns-clause-path : goal.returns-clause-path
returns-clause-path c =
    let policy = c.args.policy.now in
    let approvals = c.args.approvals.now in
    let path = c.push_from_zero.new.path in
    let found = found_path c.in_ok-path.path path (element_list_ways c.as_slice.result.now 4 policy.elements zero_digest) c.from-index.result c.in_ok-path.ensures c.in_ok-push_from_zero.ensures in
    let same = ap (λ l. element_list_ways l 4 policy.elements zero_digest) c.as_slice.ensures in
    subst (λ i. slice_get (paths_of policy approvals) i ≡ Some path) c.from-index.ensures (subst (λ ways. slice_get ways c.from-index.result ≡ Some path) same found)

pub returns-clause-outside : goal.returns-clause-outside
returns-clause-outside c =
    found_has (λ path. path.outside ≡ list_any is_outside path.steps) (paths_of c.args.policy.now c.args.approvals.now) (c.args.position - 1) c.push_from_zero.new.path (paths_of_tell c.args.policy.now c.args.approvals.now) (returns-clause-path c)

pub returns-clause-digest : goal.returns-clause-digest
returns-clause-digest c =
    found_has (λ path. digest_of_moves path.moves ≡ policy_digest c.args.policy.now) (paths_of c.args.policy.now c.args.approvals.now) (c.args.position - 1) c.push_from_zero.new.path (paths_of_meet c.args.policy.now c.args.approvals.now) (returns-clause-path c)

pub returns-clause-sound : goal.returns-clause-sound
returns-clause-sound c = λ well.
    found_has (λ path. IsSound path.moves) (paths_of c.args.policy.now c.args.approvals.now) (c.args.position - 1) c.push_from_zero.new.path (paths_of_sound c.args.policy.now c.args.approvals.now well) (returns-clause-path c)

pub returns-clause-outside_first : goal.returns-clause-outside_first
returns-clause-outside_first c = λ well.
    found_has (λ path. IsTrue path.outside → BeginsWithZeroApproval path.moves) (paths_of c.args.policy.now c.args.approvals.now) (c.args.position - 1) c.push_from_zero.new.path (paths_of_first c.args.policy.now c.args.approvals.now well) (returns-clause-path c)

use Rattle.std.proofs.Common.{◌≡◌, ℕ, ◌-◌, ◌<◌, ◌++◌, min, append_assoc, List, [], length, ap, subst, ◌∙◌, arith}
use Rattle.std.specs.List.{slice_get}
use Rattle.std.specs.Prelude.{Some}
use Rattle.tpol_tree.specs.declared.path.Path.{Path}
use Rattle.tpol_tree.specs.declared.path.ApprovedDoc.{ApprovedDoc}
use Rattle.tpol_tree.specs.declared.closed.Closed.{Closed}
use Rattle.tpol_digest.specs.Digest.{zero_digest}
use Rattle.tpol_digest.specs.Limits.{AreWithinLimits}
use Rattle.tpol_digest.specs.Paths.{paths_of}
use Rattle.tpol_cert.specs.Certificates.{certificate_of, digests_along}
use Rattle.tpol_cert.specs.Going.{GoesOn}
use Rattle.tpol_cert.specs.Choices.{choices_of, element_list_choices}
use Rattle.tpol_cert.specs.Spelling.{magic, spelled, spelled_choices, spelled_digests}
use Rattle.tpol_cert.specs.declared.choice.Choice.{Choice}
use Rattle.tpol_cert.proofs.Along.{length-digests_along}
use Rattle.tpol_cert.proofs.Beside.{beside-at, choices_beside}
use Rattle.tpol_cert.proofs.Fitting.{as_many, short}
use Rattle.tpol_cert.proofs.Going.{counted}
use Rattle.tpol_cert.proofs.certifying.certify.Goals as goal

few_steps : (policy : Closed) (approvals : List ApprovedDoc) (index : ℕ) (choices : List Choice) (path : Path) → AreWithinLimits (paths_of policy approvals) → slice_get (paths_of policy approvals) index ≡ Some path → GoesOn [] (choices_of policy approvals) index choices → length choices < 65536
few_steps policy approvals index choices path within is g =
    let all = beside-at (choices_of policy approvals) (paths_of policy approvals) index g.choices path (choices_beside policy approvals) g.is_there is in
    omega (arith, all.closed, short policy approvals index path within is, ap length g.follows)

-- the ways of the policy, as they were counted for the walk
all_counted : (policy : Closed) (approvals lent : List ApprovedDoc) (count : ℕ) → lent ≡ approvals → AreWithinLimits (paths_of policy approvals) → count ≡ min (length (element_list_choices lent 4 policy.elements)) 65537 → (count ≡ length (element_list_choices lent 4 policy.elements)) × (count ≡ length (paths_of policy approvals))
all_counted policy approvals lent count same within h =
    let many = as_many policy approvals in
    let ways = ap (λ l. length (element_list_choices l 4 policy.elements)) same in
    (omega (arith, many, ways, h, within.few), omega (arith, many, ways, h, within.few))

pub push_elements-requires-clause-counted : goal.push_elements-requires-clause-counted
push_elements-requires-clause-counted c =
    let lent = c.as_slice.result.now in
    let policy = c.args.policy.now in
    (all_counted policy c.args.approvals.now lent c.count_ways-count.result c.as_slice.ensures c.requires.within (counted lent 4 policy.elements c.count_ways-count.result c.count_ways-count.ensures.ways)).0

pub push_elements-requires-clause-few : goal.push_elements-requires-clause-few
push_elements-requires-clause-few c =
    let lent = c.as_slice.result.now in
    let policy = c.args.policy.now in
    let all = all_counted policy c.args.approvals.now lent c.count_ways-count.result c.as_slice.ensures c.requires.within (counted lent 4 policy.elements c.count_ways-count.result c.count_ways-count.ensures.ways) in
    omega (arith, all.1, c.requires.within.few)

pub push_elements-requires-clause-inside : goal.push_elements-requires-clause-inside
push_elements-requires-clause-inside c =
    let lent = c.as_slice.result.now in
    let policy = c.args.policy.now in
    let all = all_counted policy c.args.approvals.now lent c.count_ways-count.result c.as_slice.ensures c.requires.within (counted lent 4 policy.elements c.count_ways-count.result c.count_ways-count.ensures.ways) in
    omega (arith, all.1, c.from-index.ensures, c.requires.positions.0, c.requires.positions.1)

-- what the walk found
found : (policy : Closed) (approvals lent : List ApprovedDoc) (position index : ℕ) (before choices : List Choice) → before ≡ [] → lent ≡ approvals → index ≡ position - 1 → GoesOn before (element_list_choices lent 4 policy.elements) index choices → GoesOn [] (choices_of policy approvals) (position - 1) choices
found policy approvals lent position index before choices none same is g =
    subst (λ b. GoesOn b (choices_of policy approvals) (position - 1) choices) none
    (subst (λ l. GoesOn before (element_list_choices l 4 policy.elements) (position - 1) choices) same
    (subst (λ i. GoesOn before (element_list_choices lent 4 policy.elements) i choices) is g))

-- the bytes, as they were written
written : (start first bytes : List ℕ) (choices : List Choice) (path : Path) → start ≡ magic → first ≡ start ++ spelled_choices choices → bytes ≡ first ++ spelled_digests (digests_along zero_digest path.moves) → bytes ≡ spelled (certificate_of choices path)
written start first bytes choices path e f g =
    g ∙ ap (λ l. l ++ spelled_digests (digests_along zero_digest path.moves)) (f ∙ ap (λ l. l ++ spelled_choices choices) e)
    ∙ append_assoc magic (spelled_choices choices) (spelled_digests (digests_along zero_digest path.moves))

pub write_choices-requires : goal.write_choices-requires
write_choices-requires c =
    let way = found c.args.policy.now c.args.approvals.now c.as_slice.result.now c.args.path c.from-index.result c.new-choices.result c.push_elements.new.choices c.new-choices.ensures c.as_slice.ensures c.from-index.ensures c.in_ok-push_elements.ensures in
    let few = few_steps c.args.policy.now c.args.approvals.now (c.args.path - 1) c.push_elements.new.choices c.in_ok-way.way c.requires.within c.in_ok-way.ensures.path way in
    record { few = omega (arith, few, ap length c.as_slice-2.ensures) }

pub write_digests-requires : goal.write_digests-requires
write_digests-requires c =
    let few = short c.args.policy.now c.args.approvals.now (c.args.path - 1) c.in_ok-way.way c.requires.within c.in_ok-way.ensures.path in
    record { few = omega (arith, few, ap length c.as_slice-3.ensures) }

pub returns : goal.returns
returns c =
    let way = found c.args.policy.now c.args.approvals.now c.as_slice.result.now c.args.path c.from-index.result c.new-choices.result c.push_elements.new.choices c.new-choices.ensures c.as_slice.ensures c.from-index.ensures c.in_ok-push_elements.ensures in
    let path = c.in_ok-way.way in
    let start = c.in_ok-extend_from_slice.ensures.ok ∙ ap (λ l. l ++ magic) c.new-bytes.ensures in
    let first = c.in_ok-write_choices.ensures ∙ ap (λ l. c.extend_from_slice.new.self ++ spelled_choices l) (c.as_slice-2.ensures ∙ way.follows) in
    let second = c.in_ok-write_digests.ensures ∙ ap (λ l. c.write_choices.new.bytes ++ spelled_digests (digests_along zero_digest l)) c.as_slice-3.ensures in
    record {
      certifies = record {
        choices = way.choices;
        path = path;
        counted = c.requires.positions.0;
        chosen = way.is_there;
        is_there = c.in_ok-way.ensures.path;
        fits = record {
          steps = omega (arith, few_steps c.args.policy.now c.args.approvals.now (c.args.path - 1) c.push_elements.new.choices path c.requires.within c.in_ok-way.ensures.path way, ap length way.follows);
          numbers = way.fits;
          digests = omega (arith, short c.args.policy.now c.args.approvals.now (c.args.path - 1) path c.requires.within c.in_ok-way.ensures.path, length-digests_along zero_digest path.moves);
        };
        spells = written c.extend_from_slice.new.self c.write_choices.new.bytes c.write_digests.new.bytes way.choices path start first second;
      };
    }

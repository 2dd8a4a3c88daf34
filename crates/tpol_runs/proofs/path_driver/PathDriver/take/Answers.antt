use Rattle.std.proofs.Common.{◌≡◌, ◌-◌, ◌++◌, ◌∷◌, [], ap, arith, length, length-append, List, ℕ, subst, take, ◌∙◌}
use Rattle.std.proofs.Math.Seq.{take-append_seam}
use Rattle.std.specs.Vec.{vec_len}
use Rattle.tpol_driver.specs.Driving.{earned_by, hears}
use Rattle.tpol_runs.specs.Courses.{driven_on}
use Rattle.tpol_runs.specs.Earned.{with_counts}
use Rattle.tpol_runs.specs.PathBehind.{IsPathBehind}
use Rattle.tpol_runs.specs.State.{driven_of, driving_of}
use Rattle.tpol_runs.specs.Underway.{Driven}
use Rattle.tpol_runs.proofs.Counted.{behind_reply, few_earned, next_earned}
use Rattle.tpol_runs.proofs.path_driver.PathDriver.take.Goals as goal

pub behind-requires : goal.behind-requires
behind-requires c =
    let driving = driving_of c.self.inside.state in
    let more = earned_by driving.plan driving.standing c.args.reply.now in
    let now = next_earned driving.plan (driving.earned ++ more) (hears driving.plan driving.standing c.args.reply.now) c.in-Ok-take.next c.in-Ok-take.ensures.next in
    omega (
      arith,
      ap length now ∙ length-append driving.earned more,
      ap length c.in-Ok.ensures.items ∙ length-append c.self.inside.counts.items (c.args.reset_count ∷ []),
      few_earned driving.plan driving.standing c.args.reply.now,
      c.self.invariant,
    )

pub returns-in-Ok-take-clause-behind : goal.returns-in-Ok-take-clause-behind
returns-in-Ok-take-clause-behind c =
    let driving = driving_of c.self.inside.state in
    let reply = c.args.reply.now in
    let after = hears driving.plan driving.standing reply in
    let earned = driving.earned ++ earned_by driving.plan driving.standing reply in
    let behind = c.behind.result in
    let P : List ℕ → Type 0 = λ counts. IsPathBehind (record { plan = driving.plan; standing = after; earned = with_counts earned counts }) behind in
    let now = subst P c.in-Ok.ensures.items (c.behind.ensures driving.plan earned after c.in-Ok-take.ensures.next) in
    subst (λ (driven : Driven). IsPathBehind (driven_on driven c.args.reset_count reply) behind) c.self.view_is
    (behind_reply driving c.self.inside.counts.items c.args.reset_count reply behind c.self.invariant now)

pub returns-in-Err-take-clause-back : goal.returns-in-Err-take-clause-back
returns-in-Err-take-clause-back c =
    let counts = c.self.inside.counts.items in
    let one : List ℕ = c.args.reset_count ∷ [] in
    let many : vec_len c.push.new.self - 1 ≡ length counts = omega (arith, c.push.new.self.ok, ap length c.in-Ok.ensures.items ∙ length-append counts one) in
    let same : c.pop.new.self.items ≡ counts =
    c.pop.ensures.rest ∙ (ap (λ n. take n c.push.new.self.items) many ∙ (ap (take (length counts)) c.in-Ok.ensures.items ∙ take-append_seam counts one)) in
    ap (λ state. driven_of state c.pop.new.self.items) c.in-Err-take.ensures.back ∙ (ap (driven_of c.self.inside.state) same ∙ c.self.view_is)

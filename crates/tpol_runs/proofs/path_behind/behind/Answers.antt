use Rattle.std.proofs.Common.{◌≡◌, None, ap, length, subst, sym, take, ◌∙◌}
use Rattle.tpol_driver.specs.States.{IsNext}
use Rattle.tpol_runs.specs.Courses.{sighted_end}
use Rattle.tpol_runs.specs.Earned.{with_counts}
use Rattle.tpol_runs.specs.State.{driven_of, earned_of_next}
use Rattle.tpol_runs.specs.declared.state.State.{State}
use Rattle.tpol_runs.proofs.Counted.{ends_there, goes_there}
use Rattle.tpol_runs.proofs.path_behind.behind.Goals as goal
use Rattle.tpol_runs.proofs.path_behind.behind.Goals.{in-Asserting, in-Ready, in-Closing}

pub returns-in-Over : goal.returns-in-Over
returns-in-Over c = λ plan earned standing next.
    let h = subst (IsNext plan earned standing) c.in-Over.is next in
    let cut = c.as_slice.ensures.value ∙ c.truncate.ensures.items ∙ ap (λ n. take n c.args.counts.items) (c.earned_count.ensures ∙ ap (λ x. length (earned_of_next x)) c.in-Over.is) in
    ends_there standing c.in-Over.over.end earned c.in-Over.over.earned c.args.counts.items c.as_slice.result.now c.ended.result h.0 h.1 cut c.ended.ensures

pub returns : goal.returns
returns c = λ plan earned standing next.
    let counts = c.args.counts.items in
    let cut = c.truncate.new.self.items in
    let P : State → Type 0 = λ state. (driven_of state cut ≡ record { plan = plan; standing = standing; earned = with_counts earned counts }) × (sighted_end (with_counts earned counts) standing ≡ None) in
    let first = c.truncate.ensures.items ∙ ap (λ n. take n counts) c.earned_count.ensures in
    elim c.match-next.branch [
      | in-Asserting w ↦
          let h = subst (IsNext plan earned standing) w.in-Asserting.is next in
          subst P (sym w.state-is) (goes_there plan earned standing w.in-Asserting.asserting counts cut h.0 h.1 (first ∙ ap (λ x. take (length (earned_of_next x)) counts) w.in-Asserting.is))
      | in-Ready w ↦
          let h = subst (IsNext plan earned standing) w.in-Ready.is next in
          subst P (sym w.state-is) (goes_there plan earned standing w.in-Ready.ready counts cut h.0 h.1 (first ∙ ap (λ x. take (length (earned_of_next x)) counts) w.in-Ready.is))
      | in-Closing w ↦
          let h = subst (IsNext plan earned standing) w.in-Closing.is next in
          subst P (sym w.state-is) (goes_there plan earned standing w.in-Closing.closing counts cut h.0 h.1 (first ∙ ap (λ x. take (length (earned_of_next x)) counts) w.in-Closing.is))
    ]

use Rattle.std.proofs.Common.{◌≤◌, ◌+◌, ◌*◌, length, subst, sym, ◌∙◌}
use Rattle.std.proofs.lemmas.List.{length-map}
use Rattle.tpol_driver.specs.Blind as blind
use Rattle.tpol_driver.specs.Blind.{blind_stands_after, most_blind}
use Rattle.tpol_driver.specs.Driving.{Starting, stands_after}
use Rattle.tpol_runs.specs.Courses.{begun, begun_blind, bytes_of}
use Rattle.tpol_runs.specs.Earned.{earned_from}
use Rattle.tpol_runs.proofs.Driven.{blind_over_is_none, driven_blindly, driven_on_path, over_is_none}
use Rattle.tpol_runs.proofs.laws.runs_end.Goals as goal

pub returns : goal.returns
returns c = record {
  on_path = λ client locality plan replies few.
      driven_on_path (begun client locality plan) plan Starting replies
      ∙ over_is_none (begun client locality plan) plan (stands_after plan (bytes_of replies)) (earned_from plan Starting replies)
      (c.driving_ends.ensures plan (bytes_of replies) (subst (λ n. 2 * length plan.path.moves + 3 ≤ n) (sym (length-map replies (λ reply. reply.1))) few));
  blind = λ client locality policy plan replies some few.
      driven_blindly (begun_blind client locality policy plan) policy plan blind.Starting replies
      ∙ blind_over_is_none (begun_blind client locality policy plan) policy plan (blind_stands_after plan (bytes_of replies))
      (c.blind_driving_ends.ensures plan (bytes_of replies) some (subst (λ n. most_blind plan ≤ n) (sym (length-map replies (λ reply. reply.1))) few));
}

use Rattle.std.proofs.Common.{ap, ◌∙◌}
use Rattle.tpol_driver.specs.Blind as blind
use Rattle.tpol_driver.specs.Blind.{blind_stands_after}
use Rattle.tpol_driver.specs.Driving.{Starting, stands_after}
use Rattle.tpol_runs.specs.Courses.{begun, begun_blind, bytes_of, next_of}
use Rattle.tpol_runs.specs.Earned.{earned_from}
use Rattle.tpol_runs.specs.Underway.{Blind, Sighted}
use Rattle.tpol_runs.proofs.Driven.{driven_blindly, driven_on_path, sends_step}
use Rattle.tpol_runs.proofs.laws.runs_are_driven.Goals as goal

pub returns : goal.returns
returns c = record {
  stands = λ client locality plan replies. driven_on_path (begun client locality plan) plan Starting replies;
  drives = λ client locality plan replies.
      ap next_of (driven_on_path (begun client locality plan) plan Starting replies)
      ∙ sends_step (begun client locality plan) (Sighted (record { plan = plan; standing = stands_after plan (bytes_of replies); earned = earned_from plan Starting replies }));
  stands_blind = λ client locality policy plan replies.
      driven_blindly (begun_blind client locality policy plan) policy plan blind.Starting replies;
  drives_blind = λ client locality policy plan replies.
      ap next_of (driven_blindly (begun_blind client locality policy plan) policy plan blind.Starting replies)
      ∙ sends_step (begun_blind client locality policy plan) (Blind policy (record { plan = plan; standing = blind_stands_after plan (bytes_of replies) }));
}

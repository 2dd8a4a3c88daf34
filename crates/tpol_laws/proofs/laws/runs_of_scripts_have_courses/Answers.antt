use Rattle.tpol_laws.proofs.Courses.{has-course}
use Rattle.tpol_laws.proofs.Printed.{script-begun, script-digest, script-run}
use Rattle.tpol_laws.proofs.laws.runs_of_scripts_have_courses.Goals as goal

pub returns : goal.returns
returns c = record {
  begun = λ staged run position is on. script-begun staged run is position on;
  complete = λ staged run position is on. script-run staged run is position on;
  course = λ staged run position is on. has-course staged run is position on;
  digest = λ staged run position session document is on found apart asks stands.
      script-digest staged run is position on session document found apart asks stands;
}

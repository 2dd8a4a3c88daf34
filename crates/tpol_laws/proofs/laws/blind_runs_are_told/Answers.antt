use Rattle.tpol_laws.proofs.BegunBlindly.{begins-blindly}
use Rattle.tpol_laws.proofs.ToldBlind.{over-behind, served-blindly, served-only-told, to-end-enough, told-in-report}
use Rattle.tpol_laws.proofs.laws.blind_runs_are_told.Goals as goal

pub returns : goal.returns
returns c = record {
  begins = λ staged run is blind. begins-blindly staged run is blind;
  served_on = λ staged run position is blind short alone chosen enough. served-blindly staged run is blind c.mirrored.ensures short alone position chosen enough;
  only = λ staged run is blind short alone told. served-only-told staged run is blind c.mirrored.ensures short alone told;
  ends = λ staged run is blind alone enough. over-behind staged run is blind c.blind_driving_ends.ensures alone enough;
  to_end = λ staged run before after position is blind own. to-end-enough staged run is blind before after own position;
  in_report = told-in-report;
}

use Rattle.tpol_digest.proofs.Meeting.{paths_of_meet}
use Rattle.tpol_digest.proofs.Soundness.{paths_of_sound}
use Rattle.tpol_digest.proofs.laws.all_paths_meet.Goals as goal

pub returns : goal.returns
returns c = record {
  digest = paths_of_meet;
  sound = paths_of_sound;
}

use Rattle.tpol_cert.specs.Choices.{choices_of}
use Rattle.tpol_cert.proofs.Apart.{choices_part}
use Rattle.tpol_cert.proofs.Beside.{choices_beside}
use Rattle.tpol_cert.proofs.ChoicesErased.{choices_ignore_boxes}
use Rattle.tpol_cert.proofs.Following.{part_apart}
use Rattle.tpol_cert.proofs.laws.choices_are_steps.Goals as goal

pub returns : goal.returns
returns c = record {
  steps = choices_beside;
  apart = λ policy approvals m n choices more is at. part_apart (choices_of policy approvals) m n choices more (choices_part policy approvals) is at;
  boxes = choices_ignore_boxes;
}

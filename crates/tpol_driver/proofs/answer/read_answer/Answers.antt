use Rattle.std.proofs.Common.{rules}
use Rattle.tpol_driver.proofs.Answered.{whole_ticket}
use Rattle.tpol_driver.proofs.answer.read_answer.Goals as goal

pub returns-in-Ok : goal.returns-in-Ok
returns-in-Ok c = record {
  whole = whole_ticket c.in-Ok.reply c.in-Ok.auth c.in-Ok.ensures.found.fits;
  answer = search rules;
}

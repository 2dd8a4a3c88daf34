use Rattle.tpol_laws.proofs.TicketsGiven.{told-in}
use Rattle.tpol_laws.proofs.TicketsTaken.{given-ticket, verified-in-journal}
use Rattle.tpol_laws.proofs.journal_tickets.journals_tell_tickets.Goals as goal

pub returns : goal.returns
returns c = record {
  told = λ setup journal it legal bytes early timed. told-in setup journal it legal bytes early timed;
  given = λ setup journal it given is. given-ticket setup journal it given is;
  verified = λ setup journal it key digest signature ticket legal bytes same. verified-in-journal setup journal it key digest signature ticket legal bytes same;
}

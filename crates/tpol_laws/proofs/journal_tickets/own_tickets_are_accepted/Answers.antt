use Rattle.tpol_laws.proofs.TicketsTaken.{approval-accepted, given-accepted, given-read, ticket-accepted}
use Rattle.tpol_laws.proofs.journal_tickets.own_tickets_are_accepted.Goals as goal

pub returns : goal.returns
returns c = record {
  tickets = λ setup journal it own deadline cp_hash policy_ref name ticket legal same. ticket-accepted setup journal it own deadline cp_hash policy_ref name ticket legal same;
  approvals = λ setup journal it own approved policy_ref key ticket legal same. approval-accepted setup journal it own approved policy_ref key ticket legal same;
  can_be_sent = λ setup journal it given own is bytes early takes. given-read setup journal it given is bytes early own takes;
  come_back = λ setup journal it given own locality is bytes early quiet takes before. given-accepted setup journal it given is bytes early own locality quiet takes before;
}

use Rattle.tpol_laws.proofs.Begun.{tickets-usable}
use Rattle.tpol_laws.proofs.KeptTickets.{all-genuine}
use Rattle.tpol_laws.proofs.laws.kept_tickets_are_genuine.Goals as goal

pub returns : goal.returns
returns c = record {
  kept = λ staged happening is. all-genuine staged is happening;
  given = λ staged run is. tickets-usable staged run is;
}

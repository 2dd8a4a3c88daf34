-- What the code lends.
use Rattle.tpm_rules.specs.EntityView.{entity_of}
use Rattle.tpol_choose.specs.declared.client.Client.{Client as LentClient}
use Rattle.tpol_choose.specs.declared.entity_at.EntityAt.{EntityAt as LentEntityAt}
use Rattle.tpol_choose.specs.Clients.{Client}
use Rattle.tpol_choose.specs.Entities.{EntityAt}

abbrev pub client_of_lent : LentClient → Client
client_of_lent client = record {
  sight = client.sight.now;
  grants = client.grants.now;
  goal = client.goal.now;
  locality = client.locality;
}

abbrev pub entity_of_lent : LentEntityAt → EntityAt
entity_of_lent found = record { handle = found.handle; entity = entity_of found.entity }

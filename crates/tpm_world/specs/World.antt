-- What a machine has beside its policy sessions, and what it shows of it.
use Rattle.std.specs.Prelude.{◌≡◌, ℕ, ◌≤◌, ◌^◌, Bool, List, length}
use Rattle.tpol_base.specs.declared.digest.Digest32.{Digest32}
use Rattle.tpol_name.specs.declared.entries.IndexEntry.{IndexEntry}
use Rattle.tpol_name.specs.declared.entries.ObjectEntry.{ObjectEntry}
use Rattle.tpol_name.specs.declared.setup.Setup.{Setup}
use Rattle.tpol_name.specs.declared.sight.Sight.{Sight}
use Rattle.tpol_name.specs.Setups.{AreEntities}
use Rattle.tpm_pcr.specs.declared.clock.Clock.{Clock}
use Rattle.tpm_pcr.specs.Bank.{Bank}

-- the values of a setup as they are now; time is in milliseconds
pub record WorldState : Type 0 where
  pub seed : Digest32
  pub owner : List ℕ
  pub endorsement : List ℕ
  pub lockout : List ℕ
  pub objects : List ObjectEntry
  pub indices : List IndexEntry
  pub pcrs : Bank
  pub time : ℕ
  pub reset_count : ℕ
  pub restart_count : ℕ
  pub safe : Bool
  pub presence : Bool

-- what a machine has that just started
abbrev pub world_of : Setup → WorldState
world_of setup = record {
  seed = setup.seed;
  owner = setup.owner;
  endorsement = setup.endorsement;
  lockout = setup.lockout;
  objects = setup.objects;
  indices = setup.indices;
  pcrs = record { values = setup.pcrs; counter = setup.pcr_counter };
  time = setup.time;
  reset_count = setup.reset_count;
  restart_count = setup.restart_count;
  safe = setup.safe;
  presence = setup.presence;
}

-- what a machine shows that can still start so many sessions
abbrev pub sight_of : WorldState → ℕ → Sight
sight_of world free = record {
  objects = world.objects;
  indices = world.indices;
  owner = world.owner;
  endorsement = world.endorsement;
  lockout = world.lockout;
  pcrs = world.pcrs.values;
  pcr_counter = world.pcrs.counter;
  time = world.time;
  reset_count = world.reset_count;
  restart_count = world.restart_count;
  safe = world.safe;
  presence = world.presence;
  free_sessions = free;
}

-- its clock
abbrev pub clock_of : WorldState → Clock
clock_of world = record {
  time = world.time;
  reset_count = world.reset_count;
  restart_count = world.restart_count;
  safe = world.safe;
}

-- what always holds: there are 24 PCRs, the time leaves room for deadlines, and the entities are those of a
-- scene
pub record IsWorld (world : WorldState) : Type 0 where
  pub pcrs : length world.pcrs.values ≡ 24
  pub time : world.time ≤ 2 ^ 63
  pub entities : AreEntities world.objects world.indices

-- What contracts see of the code's `World`, and what always holds of it.
use Rattle.std.specs.Prelude.{◌≡◌, map}
use Rattle.tpol_name.specs.Areas.{index_name, object_name, with_written}
use Rattle.tpm_world.specs.declared.world.World.TheInside.{Inside}
use Rattle.tpm_world.specs.World.{IsWorld, WorldState}

abbrev pub state_of : Inside → WorldState
state_of w = record {
  seed = w.seed;
  owner = w.owner;
  endorsement = w.endorsement;
  lockout = w.lockout;
  objects = w.objects;
  indices = w.indices;
  pcrs = w.pcrs;
  time = w.time;
  reset_count = w.reset_count;
  restart_count = w.restart_count;
  safe = w.safe;
  presence = w.presence;
}

-- it is a world, and keeps the Names of its objects and the Names that its indices have once they are written
pub record IsSound (w : Inside) : Type 0 where
  pub world : IsWorld (state_of w)
  pub object_names : w.object_names ≡ map (λ object. object_name object.public) w.objects
  pub index_names : w.index_names ≡ map (λ index. index_name (with_written index.public)) w.indices

-- What a machine shows after its events.
use Rattle.std.specs.Prelude.{List}
use Rattle.tpol_name.specs.declared.setup.Setup.{Setup}
use Rattle.tpol_name.specs.declared.sight.Sight.{Sight}
use Rattle.tpm_session.specs.Slots.{bits_of, free_count}
use Rattle.tpm_world.specs.World.{sight_of}
use Rattle.tpm_engine.specs.declared.event.Event.{Event}
use Rattle.tpm_engine.specs.Tables.{TableState}
use Rattle.tpm_engine.specs.Views.{view_of}

-- the world, and how many slots have neither a live nor a saved session
abbrev pub sight_of_tables : TableState → Sight
sight_of_tables tables = sight_of tables.world (free_count tables.sessions (bits_of tables.saved))

unfoldable pub sight_after : Setup → List Event → Sight
sight_after setup past = sight_of_tables (view_of setup past)

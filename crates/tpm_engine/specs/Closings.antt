-- The end of the use of a policy session that authorized a command.
use Rattle.std.specs.Prelude.{◌==◌, [], Option, Some, None, option_map, option_and_then, if◌then◌else◌}
use Rattle.tpol_base.specs.Handle.{rs_pw}
use Rattle.tpol_wire.specs.declared.auth_area.AuthArea.{AuthArea}
use Rattle.tpol_wire.specs.declared.command.Command.{Command}
use Rattle.tpm_session.specs.Slots.{state_at}
use Rattle.tpol_wire.specs.Handles.{area_of}
use Rattle.tpm_engine.specs.declared.closing_use.Closing.{Closing}
use Rattle.tpm_engine.specs.declared.opened.Opened.{Opened}
use Rattle.tpm_engine.specs.Authorization.{authorized_handle}
use Rattle.tpm_engine.specs.Deeds.{SessionUse, continues}
use Rattle.tpm_engine.specs.Tables.{TableState}

-- the use that an area makes of a policy session; none where it stands for a password
abbrev pub closing_of_area : Command → AuthArea → Option Closing
closing_of_area command area =
    if area.session == rs_pw then None
    else Some (record { session = area.session; keep = continues area.attributes; entity = authorized_handle command; facts = [] })

abbrev pub closing_of : Command → Option Closing
closing_of command = option_and_then (closing_of_area command) (area_of command)

abbrev pub use_of_closing : Closing → SessionUse
use_of_closing closing = record { session = closing.session; keep = closing.keep }

-- what it opened: the entity, with the facts of the session
abbrev pub opened_by_one : TableState → Closing → Option Opened
opened_by_one tables closing =
    option_map (λ state. record { entity = closing.entity; facts = state.facts }) (state_at tables.sessions closing.session)

abbrev pub opened_by : TableState → Option Closing → Option Opened
opened_by tables closing = option_and_then (opened_by_one tables) closing

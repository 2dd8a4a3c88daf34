-- When a track can not end well any more: what a session's facts ask for, a later fact does not take back.
use Rattle.std.specs.Prelude.{Bool, not, ◌&&◌, ◌||◌, List}
use Rattle.tpol_base.specs.CommandCode.{number_of_code}
use Rattle.tpol_goal.specs.Goals.{code_of_goal}
use Rattle.tpol_tree.specs.declared.facts.Fact.{Fact}
use Rattle.tpm_bindings.specs.Facts.{allows_locality, asks_presence, every_code, is_in_time}
use Rattle.tpol_choose.specs.Clients.{Client}
use Rattle.tpol_choose.specs.Tracks.{TrackState, is_lost}

-- whether the client meets every deadline, every command code, every set of localities and physical presence
-- that the facts ask for
abbrev pub meets : Client → List Fact → Bool
meets client facts =
    is_in_time facts client.sight.time
    && (every_code facts (number_of_code (code_of_goal client.goal))
    && (allows_locality facts client.locality && (not (asks_presence facts) || client.sight.presence)))

-- something stands in the way of each path that goes on from here
abbrev pub is_hopeless : Client → TrackState → Bool
is_hopeless client track = is_lost track || not (meets client track.session.facts)

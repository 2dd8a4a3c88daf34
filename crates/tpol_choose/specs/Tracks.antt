-- How far a path was gone, and what stood in its way.
use Rattle.std.specs.Prelude.{◌≡◌, ℕ, ◌+◌, ◌-◌, ◌^◌, min, Bool, true, false, ◌||◌, List, fold, Option, Some, None, is_some}
use Rattle.std.specs.List.{slice_get}
use Rattle.tpm_bindings.specs.State.{SessionState}
use Rattle.tpm_rules.specs.Rule.{or_else}
use Rattle.tpm_rules.specs.Standing.{standing_of}
use Rattle.tpol_choose.specs.declared.assert_move.AssertMove.{AssertMove}
use Rattle.tpol_choose.specs.declared.block.Block.{Block}
use Rattle.tpol_choose.specs.declared.track.Track.{Track}
use Rattle.tpol_choose.specs.Blocks.{block_of, whole_block}
use Rattle.tpol_choose.specs.Clients.{Client}
use Rattle.tpol_choose.specs.Facts.{fresh_session, session_after}
use Rattle.tpol_choose.specs.Goals.{goal_block}
use Rattle.tpol_choose.specs.Moves.{move_block}
use Rattle.tpol_tree.specs.declared.path.Move.{Move}
use Rattle.tpol_tree.specs.declared.path.Move.TheVariants.{Assert}
use Rattle.tpol_tree.specs.declared.path.Path.{Path}

-- the session, the number of its moves, the first thing that stood in the way, and whether it went outside
pub record TrackState : Type 0 where
  pub session : SessionState
  pub done : ℕ
  pub block : Option Block
  pub outside : Bool

abbrev pub fresh_track : Client → TrackState
fresh_track client = record { session = fresh_session client.sight; done = 0; block = None; outside = false }

-- one move further; the count of moves stays within 32 bits
abbrev pub counted : ℕ → ℕ
counted done = min (done + 1) (2 ^ 32 - 1)

abbrev pub block_with : Client → TrackState → ℕ → Move → Option Block
block_with client track number act = or_else track.block (block_of number (move_block client track.session act))

abbrev pub track_after : Client → TrackState → Move → TrackState
track_after client track act = record {
  session = session_after client.sight track.session act;
  done = counted track.done;
  block = block_with client track (counted track.done) act;
  outside = track.outside;
}

-- by the assertion that comes next, if one does
abbrev pub after_first : Client → TrackState → Option AssertMove → TrackState
after_first client track None = track
after_first client track (Some step) = track_after client track (Assert step.assertion.now)

-- a whole path further
abbrev pub track_along : Client → TrackState → Path → TrackState
track_along client track path =
    record (fold (track_after client) track path.moves) { outside = track.outside || path.outside }

-- by a policy that no listed document has
abbrev pub gone_outside : TrackState → TrackState
gone_outside track = record track { outside = true }

-- something stands in the way already
abbrev pub is_lost : TrackState → Bool
is_lost track = track.outside || is_some track.block

-- what stands in the way of the whole path, at its end
abbrev pub block_at_end : Client → TrackState → Option Block
block_at_end client track =
    or_else (whole_block client.sight track.outside)
    (or_else track.block (block_of 0 (goal_block client track.session)))

-- the track that the code keeps
pub record IsTrack (lent : Track) (track : TrackState) : Type 0 where
  pub session : lent.session ≡ standing_of track.session
  pub done : lent.done ≡ track.done
  pub block : lent.block ≡ track.block
  pub outside : lent.outside ≡ track.outside

-- it goes on by the way at an index, from 0
pub record Goes (client : Client) (before : TrackState) (ways : List Path) (index : ℕ) (after : Track) : Type 0 where
  pub way : Path
  pub is_there : slice_get ways index ≡ Some way
  pub follows : IsTrack after (track_along client before way)

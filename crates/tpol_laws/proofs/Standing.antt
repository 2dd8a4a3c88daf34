-- Where a run stands while only its own turns come: its session has the facts that its path was judged by, in the
-- world that the path was chosen in.
use Rattle.std.proofs.Common.{◌≡◌, ℕ, true, List}
use Rattle.std.specs.Prelude.{None}
use Rattle.tpol_base.specs.CommandCode.{number_of_code}
use Rattle.tpol_choose.specs.Blocks.{client_of}
use Rattle.tpol_choose.specs.Clients.{Client}
use Rattle.tpol_choose.specs.Facts.{fresh_session, session_along}
use Rattle.tpol_choose.specs.Goals.{goal_block}
use Rattle.tpol_driver.specs.declared.end.End.TheVariants as ends
use Rattle.tpol_driver.specs.declared.session.Session.{Session}
use Rattle.tpol_driver.specs.Answers.{answer_of}
use Rattle.tpol_driver.specs.Driving.{goal_heard}
use Rattle.tpol_driver.specs.GoalUse.{goal_command}
use Rattle.tpol_tree.specs.declared.path.Move.{Move}
use Rattle.tpol_wire.specs.Commands.{code_of_command}
use Rattle.tpol_wire.specs.ReplyReading.{reply_reading}
use Rattle.tpm_bindings.specs.State.{SessionState}
use Rattle.tpm_session.specs.Slots.{IsSlotHandle}
use Rattle.tpm_engine.specs.declared.event.Event.{Event}
use Rattle.tpm_engine.specs.Sights.{sight_after}
use Rattle.tpm_engine.specs.Views.{is_held, sequence_of, session_state, world_at}
use Rattle.tpol_laws.specs.Acts.{Run, answer_in}
use Rattle.tpol_laws.specs.GoalBytes.{goal_bytes}
pub use Rattle.tpol_laws.proofs.Binds.{AreAlike, bind_of, bound_assertion, bound_move}

-- ---- where the run stands

-- After these events, the first of which lie before the run's begin: the session is live, its nonce is the one
-- that the driver knows, it is like the one that was judged, which starts at the time of the begin, and the world is as it
-- was.
pub record Stands (run : Run) (first past : List Event) (session : Session) (chosen : SessionState) : Type 0 where
  pub slot : IsSlotHandle session.handle
  pub held : is_held past session.handle ≡ true
  pub unsaved : sequence_of past session.handle ≡ None
  pub nonce : (session_state run.setup past session.handle).nonce ≡ session.nonce
  pub alike : AreAlike (session_state run.setup past session.handle) chosen
  pub since : chosen.start ≡ (sight_after run.setup first).time
  pub world : world_at run.setup past ≡ world_at run.setup first

-- who judged the path, at the begin
abbrev pub chooser_of : Run → List Event → Client
chooser_of run first = client_of (sight_after run.setup first) run.plan.grants run.plan.goal run.locality

-- the session that the chooser has behind these moves
abbrev pub judged_after : Run → List Event → List Move → SessionState
judged_after run first moves = session_along (sight_after run.setup first) (fresh_session (sight_after run.setup first)) moves

-- ---- the goal

-- the end that the run hears of, as its command with this number, with what the goal gives
abbrev pub IsServed : Run → List Event → Session → ℕ → Type 0
IsServed run past session sent =
    goal_heard run.plan sent (answer_of (reply_reading (number_of_code (code_of_command (goal_command run.plan session sent)))
    (answer_in run past (goal_command run.plan session sent)).reply)) ≡ ends.Served (goal_bytes (world_at run.setup past) run.plan.goal)

-- before its goal, which nothing blocks, the run is served
abbrev pub ServesGoal : Run → List Event → Type 0
ServesGoal run first =
    (past : List Event) (session : Session) (sent : ℕ)
    → Stands run first past session (judged_after run first run.plan.path.moves)
    → goal_block (chooser_of run first) (judged_after run first run.plan.path.moves) ≡ None
    → IsServed run past session sent

-- Blind runs, which try one path after another on the machine itself: what becomes of one where only its own turns
-- come.
use Rattle.std.specs.Prelude.{◌≡◌, ◌≤◌, ◌<◌, ℕ, zero, suc, All, List, ◌∷◌, filter, length, map, take}
use Rattle.std.specs.List.{sum_by}
use Rattle.tpm_engine.specs.declared.event.Event.{Event}
use Rattle.tpm_engine.specs.Events.{event_of}
use Rattle.tpm_engine.specs.Legal.{answer_to}
use Rattle.tpol_digest.specs.Laws.{MoveHasBounds}
use Rattle.tpol_driver.specs.declared.blind_plan.BlindPlan.{BlindPlan}
use Rattle.tpol_driver.specs.Blind.{Again, BlindDrive, BlindStanding, Closing, Ends, Over, Sends, Starting, Trying, blind_hears, blind_sends, is_tried, plan_at}
use Rattle.tpol_driver.specs.Driving.{Moving}
use Rattle.tpol_goal.specs.Goals.{IsGoal, IsGoalAmong}
use Rattle.tpol_goal.specs.Grants.{IsGrants}
use Rattle.tpol_laws.specs.Acts.{Run}
use Rattle.tpol_laws.specs.Chances.{IsByChance}
use Rattle.tpol_laws.specs.PathCommands.{commands_along}
use Rattle.tpol_name.specs.declared.setup.Setup.{Setup}
use Rattle.tpol_name.specs.Directories.{directory_of}
use Rattle.tpol_name.specs.Setups.{IsSetup}
use Rattle.tpol_wire.specs.Commands.{spelling}

-- a blind run: what the machine started from, the client that sends the run's commands, from which locality, and
-- what it is to do
pub record BlindRun : Type 0 where
  pub setup : Setup
  pub client : ℕ
  pub locality : ℕ
  pub plan : BlindPlan

-- how far it is: the machine's events, newest first, and where the driver stands
pub record BlindCourse : Type 0 where
  pub past : List Event
  pub standing : BlindStanding

-- a run that begins after these events
abbrev pub blind_begun : List Event → BlindCourse
blind_begun past = record { past = past; standing = Starting }

-- the run after the machine has executed what the driver sends, and the driver has heard the reply; a run that is
-- over does nothing
abbrev pub blind_turned : BlindRun → BlindCourse → BlindDrive → BlindCourse
blind_turned run course (Sends command) =
    let answered = answer_to run.setup course.past run.locality (spelling command) in
    record {
      past = event_of run.client run.locality (spelling command) answered ∷ course.past;
      standing = blind_hears run.plan course.standing answered.reply;
    }
blind_turned run course (Ends end) = course

abbrev pub after_blind_turn : BlindRun → BlindCourse → BlindCourse
after_blind_turn run course = blind_turned run course (blind_sends run.plan course.standing)

-- after as many turns of its own
unfoldable pub blind_turns : BlindRun → ℕ → BlindCourse → BlindCourse
blind_turns run zero course = course
blind_turns run (suc turns) course = blind_turns run turns (after_blind_turn run course)

-- The machine starts from a scene, and the plan has the scene's directory and grants. Each of its paths has at most
-- 512 moves, each within the bounds of the wire. The goal's fields fit into its command, which is one on the scene's
-- entities.
pub record IsBlindBegun (run : BlindRun) : Type 0 where
  pub setup : IsSetup run.setup
  pub directory : run.plan.directory ≡ directory_of run.setup
  pub grants : IsGrants run.plan.grants
  pub moves : All (λ path. All MoveHasBounds path.moves) run.plan.paths
  pub short : All (λ path. length path.moves ≤ 512) run.plan.paths
  pub fits : IsGoal run.plan.goal
  pub among : IsGoalAmong (map (λ o. o.handle) run.setup.objects) (map (λ i. i.public.index) run.setup.indices) run.plan.goal

-- how many commands it has at most until it is served on the path at this position, from 1: of each path that is tried
-- up to there those of its moves and its goal, the start of the session, and the PolicyRestart between two of them
abbrev pub most_to : BlindPlan → ℕ → ℕ
most_to plan position = sum_by commands_along (filter (is_tried plan) (take position plan.paths))

-- the same machine and client with the plan of the path at this place, from 0
abbrev pub run_of_try : BlindRun → ℕ → Run
run_of_try run place =
    record { setup = run.setup; client = run.client; locality = run.locality; plan = plan_at run.plan place }

abbrev pub BlindChanceAt : BlindRun → List Event → BlindStanding → Type 0
BlindChanceAt run past Starting = ⊥
BlindChanceAt run past (Trying session sent place ticket done tries) =
    IsByChance (run_of_try run place) (record { past = past; standing = Moving session sent ticket done })
BlindChanceAt run past (Again session sent place tries) = ⊥
BlindChanceAt run past (Closing session end) = ⊥
BlindChanceAt run past (Over end) = ⊥

-- what the run sends next has an HMAC that is right by chance
abbrev pub IsBlindChance : BlindRun → BlindCourse → Type 0
IsBlindChance run course = BlindChanceAt run course.past course.standing

-- within as many turns a run that begins after these events sends such an HMAC
abbrev pub HasBlindChance : BlindRun → ℕ → List Event → Type 0
HasBlindChance run turns past =
    (before : ℕ) × (before < turns) × IsBlindChance run (blind_turns run before (blind_begun past))

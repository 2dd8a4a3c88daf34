-- Blind driving: the complete paths are tried in order, each as driving says of its path alone, but all in one session
-- (PolicyRestart stands between two), and with numbers of commands that go on from try to try.
use Rattle.std.specs.Prelude.{ℕ, ◌+◌, ◌*◌, Bool, false, List, [], drop, filter, length, position, replicate, slice_get, slice_set, Option, Some, None, option_map, unwrap_or}
use Rattle.std.specs.List.{fold, sum_by}
use Rattle.tpol_base.specs.CommandCode.{number_of_code}
use Rattle.tpol_driver.specs.declared.answer.Answer.{Answer}
use Rattle.tpol_driver.specs.declared.answer.Answer.TheVariants.{Done, Denied, Malformed}
use Rattle.tpol_driver.specs.declared.blind_end.BlindEnd.{BlindEnd}
use Rattle.tpol_driver.specs.declared.blind_end.BlindEnd.TheVariants as blind_ends
use Rattle.tpol_driver.specs.declared.blind_end.Tried.{Tried}
use Rattle.tpol_driver.specs.declared.blind_end.Tried.TheVariants.{Skipped, Refused}
use Rattle.tpol_driver.specs.declared.blind_plan.BlindPlan.{BlindPlan}
use Rattle.tpol_driver.specs.declared.end.End.{End}
use Rattle.tpol_driver.specs.declared.end.End.TheVariants as ends
use Rattle.tpol_driver.specs.declared.end.Stage.TheVariants as stages
use Rattle.tpol_driver.specs.declared.plan.Plan.{Plan}
use Rattle.tpol_driver.specs.declared.session.Session.{Session}
use Rattle.tpol_driver.specs.declared.step.Heard.{Heard}
use Rattle.tpol_driver.specs.declared.step.Heard.TheVariants.{Verified, Accepted, Failed}
use Rattle.tpol_driver.specs.Answers.{answer_of}
use Rattle.tpol_driver.specs.Commands.{start_command}
use Rattle.tpol_driver.specs.Driving as driving
use Rattle.tpol_driver.specs.Driving.{Standing, goal_heard, move_heard, next_command}
use Rattle.tpol_driver.specs.Plans.{is_complete}
use Rattle.tpol_fields.specs.declared.ticket.Ticket.{Ticket}
use Rattle.tpol_tree.specs.declared.path.Move.{Move}
use Rattle.tpol_tree.specs.declared.path.Path.{Path}
use Rattle.tpol_wire.specs.declared.command.Command.{Command}
use Rattle.tpol_wire.specs.declared.command.Command.TheVariants as commands
use Rattle.tpol_wire.specs.declared.reply.Reply.{Reply}
use Rattle.tpol_wire.specs.declared.reply.Reply.TheVariants as replies
use Rattle.tpol_wire.specs.Commands.{code_of_command}
use Rattle.tpol_wire.specs.ReplyReading.{reply_reading}

-- ---- the paths that are tried

-- the plan of one path; a blind run shows no tickets
abbrev pub plan_along : BlindPlan → Path → Plan
plan_along plan path = record {
  path = path;
  goal = plan.goal;
  grants = plan.grants;
  directory = plan.directory;
  nonce_seed = plan.nonce_seed;
  tickets = [];
}

abbrev pub no_path : Path
no_path = record { steps = []; moves = []; outside = false }

-- the plan of the path at this place, from 0
abbrev pub plan_at : BlindPlan → ℕ → Plan
plan_at plan place = plan_along plan (unwrap_or (slice_get plan.paths place) no_path)

-- a path is tried where each of its commands can be made
abbrev pub is_tried : BlindPlan → Path → Bool
is_tried plan path = is_complete (plan_along plan path)

-- the place of the first such path from this place on
abbrev pub tried_from : BlindPlan → ℕ → Option ℕ
tried_from plan place = option_map (λ index. place + index) (position (is_tried plan) (drop place plan.paths))

-- the position of the first such path, from 1
abbrev pub first_complete : BlindPlan → Option ℕ
first_complete plan = option_map (λ index. index + 1) (position (is_tried plan) plan.paths)

-- where a blind run stands: before its start; on the path at a place, with the session, the number of the next
-- command, the place, the ticket of an approval that was verified, the count of moves that are done, and what became
-- of each path; before the PolicyRestart for the path at a place; before the end of its session, with the end that is
-- known; at its end
pub data BlindStanding : Type 0 where
  Starting : BlindStanding
  Trying : Session → ℕ → ℕ → Option Ticket → ℕ → List Tried → BlindStanding
  Again : Session → ℕ → ℕ → List Tried → BlindStanding
  Closing : ℕ → BlindEnd → BlindStanding
  Over : BlindEnd → BlindStanding

-- a blind run: its plan, and where it stands
pub record BlindDriving : Type 0 where
  pub plan : BlindPlan
  pub standing : BlindStanding

-- the next command, or the end
pub data BlindDrive : Type 0 where
  Sends : Command → BlindDrive
  Ends : BlindEnd → BlindDrive

-- ---- what is sent

abbrev pub blind_sends : BlindPlan → BlindStanding → BlindDrive
blind_sends plan Starting = Sends (start_command plan.nonce_seed)
blind_sends plan (Trying session sent place ticket done tries) =
    Sends (next_command (plan_at plan place) session sent ticket (slice_get (plan_at plan place).path.moves done))
blind_sends plan (Again session sent place tries) = Sends (commands.PolicyRestart session.handle)
blind_sends plan (Closing session end) = Sends (commands.FlushContext session)
blind_sends plan (Over end) = Ends end

-- the code by which the reply is read
abbrev pub blind_code_sent : BlindDrive → ℕ
blind_code_sent (Sends command) = number_of_code (code_of_command command)
blind_code_sent (Ends end) = 0

-- ---- what is heard

-- before any try each path counts as skipped
abbrev pub none_tried : BlindPlan → List Tried
none_tried plan = replicate (length plan.paths) Skipped

-- the first try begins with the session; where there is none the session is ended
abbrev pub first_try : BlindPlan → Session → Option ℕ → BlindStanding
first_try plan session None = Closing session.handle (blind_ends.NoBranch (none_tried plan))
first_try plan session (Some place) = Trying session 1 place None 0 (none_tried plan)

abbrev pub blind_started : BlindPlan → Reply → BlindStanding
blind_started plan (replies.StartAuthSession session nonce) =
    first_try plan (record { handle = session; nonce = nonce }) (tried_from plan 0)
blind_started plan reply = Over (blind_ends.BadReply stages.Start)

abbrev pub blind_start_heard : BlindPlan → Answer → BlindStanding
blind_start_heard plan (Done reply auth) = blind_started plan reply
blind_start_heard plan (Denied rc) = Over (blind_ends.Denied stages.Start rc)
blind_start_heard plan Malformed = Over (blind_ends.BadReply stages.Start)

-- behind a refused try the next path is tried, and behind the last one the session is ended
abbrev pub next_try : Session → ℕ → List Tried → Option ℕ → BlindStanding
next_try session sent tries None = Closing session.handle (blind_ends.NoBranch tries)
next_try session sent tries (Some place) = Again session sent place tries

-- a try ends as driving its path does: served, refused, or with what is no reply
abbrev pub tried : BlindPlan → Session → ℕ → ℕ → List Tried → End → BlindStanding
tried plan session sent place tries (ends.Served bytes) = Over (blind_ends.Served (place + 1) bytes)
tried plan session sent place tries (ends.Denied at rc) =
    next_try session sent (slice_set tries place (Refused at rc)) (tried_from plan (place + 1))
tried plan session sent place tries (ends.BadReply at) = Closing session.handle (blind_ends.BadReply at)

abbrev pub tries_on : BlindPlan → Session → ℕ → ℕ → ℕ → List Tried → Heard → BlindStanding
tries_on plan session sent place done tries (Verified ticket) =
    Trying session (sent + 1) place (Some ticket) done tries
tries_on plan session sent place done tries Accepted = Trying session (sent + 1) place None (done + 1) tries
tries_on plan session sent place done tries (Failed end) = tried plan session (sent + 1) place tries end

abbrev pub try_heard : BlindPlan → Session → ℕ → ℕ → Option Ticket → ℕ → List Tried → Option Move → Answer → BlindStanding
try_heard plan session sent place ticket done tries (Some act) answer =
    tries_on plan session sent place done tries (move_heard ticket act (done + 1) answer)
try_heard plan session sent place ticket done tries None answer =
    tried plan session (sent + 1) place tries (goal_heard (plan_at plan place) sent answer)

-- the session is as it was started, and the path at this place begins
abbrev pub restart_heard : Session → ℕ → ℕ → List Tried → Answer → BlindStanding
restart_heard session sent place tries (Done reply auth) = Trying session (sent + 1) place None 0 tries
restart_heard session sent place tries (Denied rc) = Closing session.handle (blind_ends.Denied stages.Restart rc)
restart_heard session sent place tries Malformed = Closing session.handle (blind_ends.BadReply stages.Restart)

-- the end that is known stays, whatever is answered to the closing of the session
abbrev pub blind_heard : BlindPlan → BlindStanding → Answer → BlindStanding
blind_heard plan Starting answer = blind_start_heard plan answer
blind_heard plan (Trying session sent place ticket done tries) answer =
    try_heard plan session sent place ticket done tries (slice_get (plan_at plan place).path.moves done) answer
blind_heard plan (Again session sent place tries) answer = restart_heard session sent place tries answer
blind_heard plan (Closing session end) answer = Over end
blind_heard plan (Over end) answer = Over end

-- the same of the bytes that came, read as a reply to what was sent
abbrev pub blind_hears : BlindPlan → BlindStanding → List ℕ → BlindStanding
blind_hears plan standing reply =
    blind_heard plan standing (answer_of (reply_reading (blind_code_sent (blind_sends plan standing)) reply))

-- ---- the whole run

-- where a blind run stands after these replies
abbrev pub blind_stands_after : BlindPlan → List (List ℕ) → BlindStanding
blind_stands_after plan replies = fold (blind_hears plan) Starting replies

-- what a blind run does after these replies
abbrev pub blind_drive : BlindPlan → List (List ℕ) → BlindDrive
blind_drive plan replies = blind_sends plan (blind_stands_after plan replies)

-- where a blind run stands, where driving the path at this place alone stands here after the command with this number
abbrev pub on_try : BlindPlan → Session → ℕ → ℕ → List Tried → Standing → BlindStanding
on_try plan session sent place tries driving.Starting = Starting
on_try plan session sent place tries (driving.Moving own number ticket done) = Trying own number place ticket done tries
on_try plan session sent place tries (driving.Closing handle end) = tried plan session (sent + 1) place tries end
on_try plan session sent place tries (driving.Over end) = tried plan session (sent + 1) place tries end

-- how many commands a try of this path has at most: two for each move and one for the goal, and the PolicyRestart or
-- the end of the session behind it
abbrev pub most_of_path : Path → ℕ
most_of_path path = 2 * length path.moves + 2

-- how many commands a blind run has at most: the start, and those of the paths that are tried
abbrev pub most_blind : BlindPlan → ℕ
most_blind plan = sum_by most_of_path (filter (is_tried plan) plan.paths) + 1

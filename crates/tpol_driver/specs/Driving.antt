-- Driving: the next command of a run, or its end, as a function of its plan and of the replies so far.
use Rattle.std.specs.Prelude.{ℕ, ◌+◌, Bool, true, false, ◌&&◌, List, [], ◌∷◌, ◌++◌, length, nat_lt, Option, Some, None, slice_get, if◌then◌else◌}
use Rattle.std.specs.List.{fold}
use Rattle.std.specs.Option.{option_map_or}
use Rattle.tpol_base.specs.CommandCode.{number_of_code}
use Rattle.tpol_driver.specs.declared.answer.Answer.{Answer}
use Rattle.tpol_driver.specs.declared.answer.Answer.TheVariants.{Done, Denied, Malformed}
use Rattle.tpol_driver.specs.declared.end.End.{End}
use Rattle.tpol_driver.specs.declared.end.End.TheVariants as ends
use Rattle.tpol_driver.specs.declared.end.Stage.{Stage}
use Rattle.tpol_driver.specs.declared.end.Stage.TheVariants as stages
use Rattle.tpol_driver.specs.declared.plan.Plan.{Plan}
use Rattle.tpol_driver.specs.declared.session.Session.{Session}
use Rattle.tpol_driver.specs.declared.step.Heard.{Heard}
use Rattle.tpol_driver.specs.declared.step.Heard.TheVariants.{Verified, Accepted, Failed}
use Rattle.tpol_driver.specs.declared.tickets.HeldTicket.{HeldTicket}
use Rattle.tpol_driver.specs.Answers.{answer_of}
use Rattle.tpol_driver.specs.Commands.{start_command}
use Rattle.tpol_driver.specs.GoalUse.{bytes_of_reply, goal_command, is_right_area}
use Rattle.tpol_driver.specs.Tickets.{command_on_path, earned_in}
use Rattle.tpol_driver.specs.Underway.{is_done, is_plain}
use Rattle.tpol_tree.specs.declared.path.Move.{Move}
use Rattle.tpol_tree.specs.declared.path.Move.TheVariants.{Approve}
use Rattle.tpol_wire.specs.declared.auth_area.ReplyAuth.{ReplyAuth}
use Rattle.tpol_wire.specs.declared.command.Command.{Command}
use Rattle.tpol_wire.specs.declared.command.Command.TheVariants as commands
use Rattle.tpol_wire.specs.declared.reply.Reply.{Reply}
use Rattle.tpol_wire.specs.declared.reply.Reply.TheVariants as replies
use Rattle.tpol_fields.specs.declared.ticket.Ticket.{Ticket}
use Rattle.tpol_wire.specs.Commands.{code_of_command}
use Rattle.tpol_wire.specs.ReplyReading.{reply_reading}

-- where a run stands: before its start; on its path, with the session, the number of the next command, the
-- ticket of an approval that was verified, and the count of moves that are done; before the end of its session,
-- with the end that is known; at its end
pub data Standing : Type 0 where
  Starting : Standing
  Moving : Session → ℕ → Option Ticket → ℕ → Standing
  Closing : ℕ → End → Standing
  Over : End → Standing

-- a run: its plan, where it stands, and the tickets that it has earned
pub record Driving : Type 0 where
  pub plan : Plan
  pub standing : Standing
  pub earned : List HeldTicket

-- the next command, or the end
pub data Drive : Type 0 where
  Sends : Command → Drive
  Ends : End → Drive

-- ---- what is sent

-- a move's command, and the goal's where no move is left
abbrev pub next_command : Plan → Session → ℕ → Option Ticket → Option Move → Command
next_command plan session sent ticket (Some act) = command_on_path plan session ticket act
next_command plan session sent ticket None = goal_command plan session sent

abbrev pub sends : Plan → Standing → Drive
sends plan Starting = Sends (start_command plan.nonce_seed)
sends plan (Moving session sent ticket done) =
    Sends (next_command plan session sent ticket (slice_get plan.path.moves done))
sends plan (Closing session end) = Sends (commands.FlushContext session)
sends plan (Over end) = Ends end

-- the code by which the reply is read
abbrev pub code_sent : Drive → ℕ
code_sent (Sends command) = number_of_code (code_of_command command)
code_sent (Ends end) = 0

-- ---- what is heard

-- a session that was started has no fact yet; the next command is the second
abbrev pub started : Reply → Standing
started (replies.StartAuthSession session nonce) =
    Moving (record { handle = session; nonce = nonce }) 1 None 0
started reply = Over (ends.BadReply stages.Start)

-- with no session known there is nothing to close
abbrev pub start_heard : Answer → Standing
start_heard (Done reply auth) = started reply
start_heard (Denied rc) = Over (ends.Denied stages.Start rc)
start_heard Malformed = Over (ends.BadReply stages.Start)

-- an approval by a key is verified before it is made
abbrev pub is_verification : Option Ticket → Move → Bool
is_verification None (Approve key policy_ref approved signature) = true
is_verification ticket act = false

-- the command that the reply is about, of the move at this place from 1
abbrev pub stage_of_move : Option Ticket → Move → ℕ → Stage
stage_of_move ticket act at = if is_verification ticket act then stages.Verify at else stages.Move at

abbrev pub verified : ℕ → Reply → Heard
verified at (replies.VerifySignature ticket) = Verified ticket
verified at reply = Failed (ends.BadReply (stages.Verify at))

abbrev pub move_heard : Option Ticket → Move → ℕ → Answer → Heard
move_heard ticket act at (Done reply auth) = if is_verification ticket act then verified at reply else Accepted
move_heard ticket act at (Denied rc) = Failed (ends.Denied (stage_of_move ticket act at) rc)
move_heard ticket act at Malformed = Failed (ends.BadReply (stage_of_move ticket act at))

-- a verified approval is made next; an accepted move is done; a failure ends the session
abbrev pub goes_on : Session → ℕ → ℕ → Heard → Standing
goes_on session sent done (Verified ticket) = Moving session (sent + 1) (Some ticket) done
goes_on session sent done Accepted = Moving session (sent + 1) None (done + 1)
goes_on session sent done (Failed end) = Closing session.handle end

-- the goal is served where the reply's authorization is right
abbrev pub goal_done : Plan → ℕ → Reply → Option ReplyAuth → End
goal_done plan sent reply None = ends.BadReply stages.Goal
goal_done plan sent reply (Some area) =
    if is_right_area plan sent reply area then ends.Served (bytes_of_reply reply) else ends.BadReply stages.Goal

abbrev pub goal_heard : Plan → ℕ → Answer → End
goal_heard plan sent (Done reply auth) = goal_done plan sent reply auth
goal_heard plan sent (Denied rc) = ends.Denied stages.Goal rc
goal_heard plan sent Malformed = ends.BadReply stages.Goal

-- a served goal has ended the session
abbrev pub after_goal : ℕ → End → Standing
after_goal session (ends.Served bytes) = Over (ends.Served bytes)
after_goal session end = Closing session end

abbrev pub heard_on_path : Plan → Session → ℕ → Option Ticket → ℕ → Option Move → Answer → Standing
heard_on_path plan session sent ticket done (Some act) answer =
    goes_on session sent done (move_heard ticket act (done + 1) answer)
heard_on_path plan session sent ticket done None answer = after_goal session.handle (goal_heard plan sent answer)

-- the end that is known stays, whatever is answered to the closing of the session
abbrev pub heard : Plan → Standing → Answer → Standing
heard plan Starting answer = start_heard answer
heard plan (Moving session sent ticket done) answer =
    heard_on_path plan session sent ticket done (slice_get plan.path.moves done) answer
heard plan (Closing session end) answer = Over end
heard plan (Over end) answer = Over end

-- the same of the bytes that came, read as a reply to what was sent
abbrev pub hears : Plan → Standing → List ℕ → Standing
hears plan standing reply =
    heard plan standing (answer_of (reply_reading (code_sent (sends plan standing)) reply))

-- the tickets that an answer earns: on the path, one to the command of a move
abbrev pub earned_after : Plan → Standing → Answer → List HeldTicket
earned_after plan (Moving session sent ticket done) answer = earned_in (slice_get plan.path.moves done) answer
earned_after plan _ answer = []

-- the same of the bytes that came
abbrev pub earned_by : Plan → Standing → List ℕ → List HeldTicket
earned_by plan standing reply =
    earned_after plan standing (answer_of (reply_reading (code_sent (sends plan standing)) reply))

-- whether a reply does no more than accept a plain move with another behind it
unfoldable pub accepts_plainly : Plan → Standing → List ℕ → Bool
accepts_plainly plan (Moving session sent ticket done) reply =
    nat_lt (done + 1) (length plan.path.moves) && option_map_or is_plain (slice_get plan.path.moves done) false
    && is_done (answer_of (reply_reading (code_sent (sends plan (Moving session sent ticket done))) reply))
accepts_plainly plan _ reply = false

-- ---- the whole run

-- where a run stands after these replies
abbrev pub stands_after : Plan → List (List ℕ) → Standing
stands_after plan replies = fold (hears plan) Starting replies

-- what a run does after these replies
abbrev pub drive : Plan → List (List ℕ) → Drive
drive plan replies = sends plan (stands_after plan replies)

-- the tickets that these replies earn from here on, in order
abbrev pub tickets_from : Plan → Standing → List (List ℕ) → List HeldTicket
tickets_from plan at [] = []
tickets_from plan at (reply ∷ rest) = earned_by plan at reply ++ tickets_from plan (hears plan at reply) rest

-- the tickets that a run has earned after these replies
abbrev pub tickets_after : Plan → List (List ℕ) → List HeldTicket
tickets_after plan replies = tickets_from plan Starting replies

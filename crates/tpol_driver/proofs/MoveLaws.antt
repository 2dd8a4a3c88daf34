-- A run on its path: the code of the command of a move, and what is heard of its reply.
use Rattle.std.proofs.Common.{◌≡◌, ℕ, ◌+◌, ◌∙◌, sym, ap, List, Option, Some, None, refl, slice_get}
use Rattle.std.specs.Option.{option_map_or}
use Rattle.tpol_base.specs.CommandCode.{number_of_code}
use Rattle.tpol_base.specs.declared.command_code.CommandCode.{CommandCode}
use Rattle.tpol_base.specs.declared.command_code.CommandCode.TheVariants as codes
use Rattle.tpol_base.specs.declared.digest.Digest32.{Digest32}
use Rattle.tpol_base.specs.declared.name.Name.{Name}
use Rattle.tpol_driver.specs.Answers.{answer_of}
use Rattle.tpol_driver.specs.Codes.{code_of_approval, code_of_assertion, code_of_move}
use Rattle.tpol_driver.specs.Commands.{approval_command, command_of_assertion, command_of_move}
use Rattle.tpol_driver.specs.Driving.{Standing, Moving, code_sent, earned_after, goes_on, heard, heard_on_path, move_heard, next_command, sends}
use Rattle.tpol_driver.specs.Tickets.{code_on_path, command_on_path, earned_in, ticket_command, ticket_for}
use Rattle.tpol_driver.specs.declared.answer.Answer.{Answer}
use Rattle.tpol_driver.specs.declared.plan.Plan.{Plan}
use Rattle.tpol_driver.specs.declared.session.Session.{Session}
use Rattle.tpol_driver.specs.declared.tickets.HeldTicket.{HeldTicket}
use Rattle.tpol_fields.specs.declared.ticket.Ticket.{Ticket}
use Rattle.tpol_goal.specs.declared.grants.Grants.{Grants}
use Rattle.tpol_name.specs.declared.entries.DirEntry.{DirEntry}
use Rattle.tpol_tree.specs.declared.closed.Assertion.{Assertion}
use Rattle.tpol_tree.specs.declared.closed.Assertion.TheVariants as assertions
use Rattle.tpol_tree.specs.declared.path.Move.{Move}
use Rattle.tpol_tree.specs.declared.path.Move.TheVariants.{Assert, Or, Approve, ApproveNv}
use Rattle.tpol_wire.specs.declared.command.Command.{Command}
use Rattle.tpol_wire.specs.Commands.{code_of_command}
use Rattle.tpol_wire.specs.ReplyReading.{reply_reading}

-- ---- the code of a move's command

code_of_assertion_command : (directory : List DirEntry) (grants : Grants) (session : Session) (assertion : Assertion) → code_of_command (command_of_assertion directory grants session assertion) ≡ code_of_assertion assertion
code_of_assertion_command directory grants session assertions.AuthValue = refl
code_of_assertion_command directory grants session assertion = refl

code_of_approval_command : (directory : List DirEntry) (session : Session) (ticket : Option Ticket) (key : Name) (policy_ref : List ℕ) (approved signature : Digest32)
    → code_of_command (approval_command directory session ticket key policy_ref approved signature) ≡ code_of_approval ticket
code_of_approval_command directory session None key policy_ref approved signature = refl
code_of_approval_command directory session (Some ticket) key policy_ref approved signature = refl

code_of_move_command : (directory : List DirEntry) (grants : Grants) (session : Session) (ticket : Option Ticket) (act : Move) → code_of_command (command_of_move directory grants session ticket act) ≡ code_of_move ticket act
code_of_move_command directory grants session ticket (Assert assertion) = code_of_assertion_command directory grants session assertion
code_of_move_command directory grants session ticket (Or digests) = refl
code_of_move_command directory grants session ticket (Approve key policy_ref approved signature) = code_of_approval_command directory session ticket key policy_ref approved signature
code_of_move_command directory grants session ticket (ApproveNv index approved) = refl

code_by_ticket : (session : Session) (held : Option HeldTicket) (command : Command) (code : CommandCode) → code_of_command command ≡ code
    → code_of_command (option_map_or (ticket_command session) held command) ≡ option_map_or (λ (h : HeldTicket). codes.PolicyTicket) held code
code_by_ticket session None command code is = is
code_by_ticket session (Some held) command code is = refl

pub code_of_path_command : (plan : Plan) (session : Session) (ticket : Option Ticket) (act : Move) → code_of_command (command_on_path plan session ticket act) ≡ code_on_path plan.tickets ticket act
code_of_path_command plan session ticket act =
    code_by_ticket session (ticket_for plan.tickets act) (command_of_move plan.directory plan.grants session ticket act) (code_of_move ticket act)
    (code_of_move_command plan.directory plan.grants session ticket act)

-- ---- its reply

pub answer_of_move : (plan : Plan) (session : Session) (sent : ℕ) (ticket : Option Ticket) (done : ℕ) (act : Move) (reply : List ℕ) → slice_get plan.path.moves done ≡ Some act
    → answer_of (reply_reading (number_of_code (code_on_path plan.tickets ticket act)) reply) ≡ answer_of (reply_reading (code_sent (sends plan (Moving session sent ticket done))) reply)
answer_of_move plan session sent ticket done act reply at =
    let F : CommandCode → Answer = λ code. answer_of (reply_reading (number_of_code code) reply) in
    let G : Option Move → Answer = λ left. answer_of (reply_reading (number_of_code (code_of_command (next_command plan session sent ticket left))) reply) in
    sym (ap G at ∙ ap F (code_of_path_command plan session ticket act))

pub heard_of_move : (plan : Plan) (session : Session) (sent : ℕ) (ticket : Option Ticket) (done : ℕ) (act : Move) (answer : Answer) → slice_get plan.path.moves done ≡ Some act
    → goes_on session sent done (move_heard ticket act (done + 1) answer) ≡ heard plan (Moving session sent ticket done) answer
heard_of_move plan session sent ticket done act answer at =
    let F : Option Move → Standing = λ left. heard_on_path plan session sent ticket done left answer in
    sym (ap F at)

pub earned_of_move : (plan : Plan) (session : Session) (sent : ℕ) (ticket : Option Ticket) (done : ℕ) (act : Move) (answer : Answer) → slice_get plan.path.moves done ≡ Some act
    → earned_in (Some act) answer ≡ earned_after plan (Moving session sent ticket done) answer
earned_of_move plan session sent ticket done act answer at =
    let F : Option Move → List HeldTicket = λ left. earned_in left answer in
    sym (ap F at)

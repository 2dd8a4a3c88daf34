-- A run ends: each reply leaves fewer commands than were left before.
use Rattle.std.proofs.Common.{◌≡◌, ℕ, ◌+◌, ◌-◌, ◌*◌, ◌<◌, ◌≤◌, true, List, [], ◌∷◌, length, Option, Some, None, slice_get, refl, arith}
use Rattle.std.proofs.lemmas.Option.{slice_get_within}
use Rattle.std.specs.List.{fold}
use Rattle.tpol_driver.specs.declared.answer.Answer.{Answer}
use Rattle.tpol_driver.specs.declared.answer.Answer.TheVariants.{Done, Denied, Malformed}
use Rattle.tpol_driver.specs.declared.end.End.{End}
use Rattle.tpol_driver.specs.declared.end.End.TheVariants as ends
use Rattle.tpol_driver.specs.declared.plan.Plan.{Plan}
use Rattle.tpol_driver.specs.declared.session.Session.{Session}
use Rattle.tpol_driver.specs.Driving.{Standing, Starting, Moving, Closing, Over, after_goal, goal_heard, goes_on, heard, heard_on_path, hears, move_heard, stands_after, start_heard, started, verified}
use Rattle.tpol_driver.specs.States.{is_over}
use Rattle.tpol_tree.specs.declared.path.Move.{Move}
use Rattle.tpol_tree.specs.declared.path.Move.TheVariants.{Approve}
use Rattle.tpol_wire.specs.declared.auth_area.ReplyAuth.{ReplyAuth}
use Rattle.tpol_wire.specs.declared.reply.Reply.{Reply}
use Rattle.tpol_wire.specs.declared.reply.Reply.TheVariants as replies
use Rattle.tpol_fields.specs.declared.ticket.Ticket.{Ticket}

-- how many commands are left at most, with so many moves left; with a ticket a move is left in each run, and
-- where none were, two commands would be
abbrev pub left_on : ℕ → Option Ticket → ℕ
left_on moves None = 2 * moves + 2
left_on moves (Some ticket) = 2 * moves + 1 + (1 - moves)

abbrev pub left : Plan → Standing → ℕ
left plan Starting = 2 * length plan.path.moves + 3
left plan (Moving session sent ticket done) = left_on (length plan.path.moves - done) ticket
left plan (Closing session end) = 1
left plan (Over end) = 0

-- ---- one reply

started_left : (plan : Plan) (reply : Reply) → left plan (started reply) ≤ 2 * length plan.path.moves + 2
started_left plan (replies.StartAuthSession session nonce) = omega arith
started_left plan reply = omega arith

start_left : (plan : Plan) (answer : Answer) → left plan (start_heard answer) ≤ 2 * length plan.path.moves + 2
start_left plan (Done reply auth) = started_left plan reply
start_left plan (Denied rc) = omega arith
start_left plan Malformed = omega arith

verified_left : (plan : Plan) (session : Session) (sent done at : ℕ) (reply : Reply) → done < length plan.path.moves
    → left plan (goes_on session sent done (verified at reply)) ≤ 2 * (length plan.path.moves - done) + 1
verified_left plan session sent done at (replies.VerifySignature ticket) before = omega arith
verified_left plan session sent done at reply before = omega arith

done_left : (plan : Plan) (session : Session) (sent : ℕ) (ticket : Option Ticket) (done : ℕ) (act : Move) (reply : Reply) (auth : Option ReplyAuth) → done < length plan.path.moves
    → left plan (goes_on session sent done (move_heard ticket act (done + 1) (Done reply auth))) + 1 ≤ left_on (length plan.path.moves - done) ticket
done_left plan session sent None done (Approve key policy_ref approved signature) reply auth before = omega (arith, verified_left plan session sent done (done + 1) reply before)
done_left plan session sent None done act reply auth before = omega arith
done_left plan session sent (Some ticket) done act reply auth before = omega arith

pub failed_left : (moves : ℕ) (ticket : Option Ticket) → 2 ≤ left_on moves ticket
failed_left moves None = omega arith
failed_left moves (Some ticket) = omega arith

move_left : (plan : Plan) (session : Session) (sent : ℕ) (ticket : Option Ticket) (done : ℕ) (act : Move) (answer : Answer) → done < length plan.path.moves
    → left plan (goes_on session sent done (move_heard ticket act (done + 1) answer)) + 1 ≤ left_on (length plan.path.moves - done) ticket
move_left plan session sent ticket done act (Done reply auth) before = done_left plan session sent ticket done act reply auth before
move_left plan session sent ticket done act (Denied rc) before = failed_left (length plan.path.moves - done) ticket
move_left plan session sent ticket done act Malformed before = failed_left (length plan.path.moves - done) ticket

goal_left : (plan : Plan) (session : ℕ) (end : End) → left plan (after_goal session end) ≤ 1
goal_left plan session (ends.Served bytes) = omega arith
goal_left plan session end = omega arith

pub path_left : (plan : Plan) (session : Session) (sent : ℕ) (ticket : Option Ticket) (done : ℕ) (act : Option Move) (answer : Answer) → slice_get plan.path.moves done ≡ act
    → left plan (heard_on_path plan session sent ticket done act answer) + 1 ≤ left_on (length plan.path.moves - done) ticket
path_left plan session sent ticket done (Some act) answer is = move_left plan session sent ticket done act answer (slice_get_within plan.path.moves done act is)
path_left plan session sent ticket done None answer is =
    omega (arith, goal_left plan session.handle (goal_heard plan sent answer), failed_left (length plan.path.moves - done) ticket)

heard_left : (plan : Plan) (standing : Standing) (answer : Answer) → left plan (heard plan standing answer) ≤ left plan standing - 1
heard_left plan Starting answer = omega (arith, start_left plan answer)
heard_left plan (Moving session sent ticket done) answer =
    omega (arith, path_left plan session sent ticket done (slice_get plan.path.moves done) answer refl)
heard_left plan (Closing session end) answer = omega arith
heard_left plan (Over end) answer = omega arith

-- ---- all replies

nothing_left : (plan : Plan) (standing : Standing) (replies : List (List ℕ)) → left plan standing ≤ length replies → left plan (fold (hears plan) standing replies) ≡ 0
nothing_left plan standing [] few = omega arith
nothing_left plan standing (reply ∷ rest) few =
    let falls : left plan (hears plan standing reply) ≤ left plan standing - 1 = heard_left plan standing _ in
    nothing_left plan (hears plan standing reply) rest (omega arith)

over_at_nothing : (plan : Plan) (standing : Standing) → left plan standing ≡ 0 → is_over standing ≡ true
over_at_nothing plan Starting nothing = absurd (omega arith)
over_at_nothing plan (Moving session sent None done) nothing = absurd (omega arith)
over_at_nothing plan (Moving session sent (Some ticket) done) nothing = absurd (omega arith)
over_at_nothing plan (Closing session end) nothing = absurd (omega arith)
over_at_nothing plan (Over end) nothing = refl

pub over_after_all : (plan : Plan) (replies : List (List ℕ)) → 2 * length plan.path.moves + 3 ≤ length replies → is_over (stands_after plan replies) ≡ true
over_after_all plan replies enough = over_at_nothing plan (stands_after plan replies) (nothing_left plan Starting replies enough)

-- the same with one reply to spare
pub over_at_last : (plan : Plan) (replies : List (List ℕ)) → 2 * length plan.path.moves + 4 ≤ length replies → is_over (stands_after plan replies) ≡ true
over_at_last plan replies enough = over_after_all plan replies (omega (arith, enough))

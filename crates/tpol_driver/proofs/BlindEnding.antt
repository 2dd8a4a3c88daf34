-- A blind run ends: each reply leaves fewer commands than were left before.
use Rattle.std.proofs.Common.{◌≡◌, ℕ, ◌+◌, ◌-◌, ◌*◌, ◌≤◌, subst, sym, true, List, [], ◌∷◌, length, Option, Some, None, is_some, slice_get, refl, arith}
use Rattle.std.specs.List.{fold}
use Rattle.tpol_driver.specs.declared.answer.Answer.{Answer}
use Rattle.tpol_driver.specs.declared.answer.Answer.TheVariants.{Done, Denied, Malformed}
use Rattle.tpol_driver.specs.declared.blind_end.Tried.{Tried}
use Rattle.tpol_driver.specs.declared.blind_plan.BlindPlan.{BlindPlan}
use Rattle.tpol_driver.specs.declared.end.End.{End}
use Rattle.tpol_driver.specs.declared.end.End.TheVariants as ends
use Rattle.tpol_driver.specs.declared.session.Session.{Session}
use Rattle.tpol_driver.specs.Blind.{BlindStanding, Starting, Trying, Again, Closing, Over, blind_code_sent, blind_hears, blind_sends, blind_stands_after, blind_start_heard, blind_started, first_complete, first_try, most_blind, next_try, on_try, plan_at, restart_heard, tried, tried_from}
use Rattle.tpol_driver.specs.Answers.{answer_of}
use Rattle.tpol_driver.specs.BlindStates.{is_blind_over}
use Rattle.tpol_driver.specs.Driving as driving
use Rattle.tpol_driver.specs.Driving.{Standing, hears}
use Rattle.tpol_driver.proofs.Ending.{failed_left, left, left_on, path_left}
use Rattle.tpol_driver.proofs.Mirror.{try_mirrored}
use Rattle.tpol_driver.proofs.TriedPaths.{is_first_from, most_at, most_from, some_from_front}
use Rattle.tpol_wire.specs.declared.reply.Reply.{Reply}
use Rattle.tpol_wire.specs.declared.reply.Reply.TheVariants as replies
use Rattle.tpol_fields.specs.declared.ticket.Ticket.{Ticket}
use Rattle.tpol_wire.specs.ReplyReading.{reply_reading}

-- how many commands are left at most
abbrev blind_left : BlindPlan → BlindStanding → ℕ
blind_left plan Starting = most_blind plan
blind_left plan (Trying session sent place ticket done tries) =
    left_on (length (plan_at plan place).path.moves - done) ticket + most_from plan (place + 1)
blind_left plan (Again session sent place tries) = most_at plan place + 1
blind_left plan (Closing session end) = 1
blind_left plan (Over end) = 0

-- ---- one reply

next_left : (plan : BlindPlan) (session : Session) (sent place : ℕ) (tries : List Tried) (found : Option ℕ) → tried_from plan place ≡ found
    → blind_left plan (next_try session sent tries found) ≤ most_from plan place + 1
next_left plan session sent place tries None is = omega arith
next_left plan session sent place tries (Some next) is = omega (arith, (is_first_from plan place next is).most)

tried_left : (plan : BlindPlan) (session : Session) (sent place : ℕ) (tries : List Tried) (end : End) → blind_left plan (tried plan session sent place tries end) ≤ most_from plan (place + 1) + 1
tried_left plan session sent place tries (ends.Served bytes) = omega arith
tried_left plan session sent place tries (ends.Denied at rc) = next_left plan session sent (place + 1) _ (tried_from plan (place + 1)) refl
tried_left plan session sent place tries (ends.BadReply at) = omega arith

-- where driving the path alone has fewer commands left, the blind run has
on_left : (plan : BlindPlan) (session : Session) (sent place : ℕ) (tries : List Tried) (most : ℕ) (standing : Standing)
    → left (plan_at plan place) standing + 1 ≤ most → 2 ≤ most → most ≤ 2 * length (plan_at plan place).path.moves + 2
    → blind_left plan (on_try plan session sent place tries standing) + 1 ≤ most + most_from plan (place + 1)
on_left plan session sent place tries most driving.Starting falls some few = absurd (omega arith)
on_left plan session sent place tries most (driving.Moving own number ticket done) falls some few = omega arith
on_left plan session sent place tries most (driving.Closing handle end) falls some few = omega (arith, tried_left plan session (sent + 1) place tries end)
on_left plan session sent place tries most (driving.Over end) falls some few = omega (arith, tried_left plan session (sent + 1) place tries end)

most_left : (moves done : ℕ) (ticket : Option Ticket) → left_on (moves - done) ticket ≤ 2 * moves + 2
most_left moves done None = omega arith
most_left moves done (Some ticket) = omega arith

try_left : (plan : BlindPlan) (session : Session) (sent place : ℕ) (ticket : Option Ticket) (done : ℕ) (tries : List Tried) (reply : List ℕ)
    → blind_left plan (blind_hears plan (Trying session sent place ticket done tries) reply) + 1 ≤ left_on (length (plan_at plan place).path.moves - done) ticket + most_from plan (place + 1)
try_left plan session sent place ticket done tries reply =
    let moves = length (plan_at plan place).path.moves in
    let falls = path_left (plan_at plan place) session sent ticket done (slice_get (plan_at plan place).path.moves done) _ refl in
    subst (λ (s : BlindStanding). blind_left plan s + 1 ≤ left_on (length (plan_at plan place).path.moves - done) ticket + most_from plan (place + 1))
    (sym (try_mirrored plan session sent place ticket done tries reply))
    (on_left plan session sent place tries (left_on (moves - done) ticket) (hears (plan_at plan place) (driving.Moving session sent ticket done) reply) falls
    (failed_left (moves - done) ticket) (most_left moves done ticket))

first_left : (plan : BlindPlan) (session : Session) (found : Option ℕ) → tried_from plan 0 ≡ found → (found ≡ None → ⊥) → blind_left plan (first_try plan session found) + 1 ≤ most_blind plan
first_left plan session None is some = absurd (some refl)
first_left plan session (Some place) is some = omega (arith, (is_first_from plan 0 place is).most)

started_left : (plan : BlindPlan) (reply : Reply) → (tried_from plan 0 ≡ None → ⊥) → blind_left plan (blind_started plan reply) + 1 ≤ most_blind plan
started_left plan (replies.StartAuthSession session nonce) some = first_left plan (record { handle = session; nonce = nonce }) (tried_from plan 0) refl some
started_left plan reply some = omega arith

start_left : (plan : BlindPlan) (answer : Answer) → (tried_from plan 0 ≡ None → ⊥) → blind_left plan (blind_start_heard plan answer) + 1 ≤ most_blind plan
start_left plan (Done reply auth) some = started_left plan reply some
start_left plan (Denied rc) some = omega arith
start_left plan Malformed some = omega arith

restart_left : (plan : BlindPlan) (session : Session) (sent place : ℕ) (tries : List Tried) (answer : Answer) → blind_left plan (restart_heard session sent place tries answer) ≤ most_at plan place
restart_left plan session sent place tries (Done reply auth) = omega arith
restart_left plan session sent place tries (Denied rc) = omega arith
restart_left plan session sent place tries Malformed = omega arith

heard_left : (plan : BlindPlan) (standing : BlindStanding) (reply : List ℕ) → (tried_from plan 0 ≡ None → ⊥) → blind_left plan (blind_hears plan standing reply) ≤ blind_left plan standing - 1
heard_left plan Starting reply some = omega (arith, start_left plan (answer_of (reply_reading (blind_code_sent (blind_sends plan Starting)) reply)) some)
heard_left plan (Trying session sent place ticket done tries) reply some = omega (arith, try_left plan session sent place ticket done tries reply)
heard_left plan (Again session sent place tries) reply some = omega (arith, restart_left plan session sent place tries (answer_of (reply_reading (blind_code_sent (blind_sends plan (Again session sent place tries))) reply)))
heard_left plan (Closing session end) reply some = omega arith
heard_left plan (Over end) reply some = omega arith

-- ---- all replies

nothing_left : (plan : BlindPlan) (at : BlindStanding) (replies : List (List ℕ)) → (tried_from plan 0 ≡ None → ⊥) → blind_left plan at ≤ length replies → blind_left plan (fold (blind_hears plan) at replies) ≡ 0
nothing_left plan at [] some few = omega arith
nothing_left plan at (reply ∷ rest) some few =
    let falls : blind_left plan (blind_hears plan at reply) ≤ blind_left plan at - 1 = heard_left plan at reply some in
    nothing_left plan (blind_hears plan at reply) rest some (omega arith)

over_at_nothing : (plan : BlindPlan) (standing : BlindStanding) → blind_left plan standing ≡ 0 → is_blind_over standing ≡ true
over_at_nothing plan Starting nothing = absurd (omega arith)
over_at_nothing plan (Trying session sent place None done tries) nothing = absurd (omega arith)
over_at_nothing plan (Trying session sent place (Some ticket) done tries) nothing = absurd (omega arith)
over_at_nothing plan (Again session sent place tries) nothing = absurd (omega arith)
over_at_nothing plan (Closing session end) nothing = absurd (omega arith)
over_at_nothing plan (Over end) nothing = refl

pub blind_over_after_all : (plan : BlindPlan) (replies : List (List ℕ)) → is_some (first_complete plan) ≡ true → most_blind plan ≤ length replies → is_blind_over (blind_stands_after plan replies) ≡ true
blind_over_after_all plan replies some enough =
    over_at_nothing plan (blind_stands_after plan replies) (nothing_left plan Starting replies (some_from_front plan some) enough)

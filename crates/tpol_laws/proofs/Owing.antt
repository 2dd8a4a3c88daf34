-- A run is not served before it has had as many turns as its path has commands, whatever others do.
use Rattle.std.proofs.Common.{◌≡◌, ◌≤◌, ◌<◌, ℕ, zero, suc, ◌+◌, List, [], ◌∷◌, drop, length, refl, ap, sym, subst, ◌∙◌, add-one, arith}
use Rattle.std.specs.Prelude.{⊤, Option, Some, None, slice_get}
use Rattle.std.proofs.lemmas.Option.{none-some, same_Some}
use Rattle.tpol_driver.specs.declared.end.End.{End}
use Rattle.tpol_driver.specs.declared.end.End.TheVariants as ends
use Rattle.tpol_driver.specs.declared.plan.Plan.{Plan}
use Rattle.tpol_driver.specs.declared.session.Session.{Session}
use Rattle.tpol_driver.specs.Answers.{answer_of, answer_of_reply}
use Rattle.tpol_driver.specs.Commands.{start_command}
use Rattle.tpol_driver.specs.Driving.{Closing, Moving, Over, Standing, Starting, code_sent, goes_on, heard, heard_on_path, hears, move_heard, next_command, sends, start_heard, started, verified}
use Rattle.tpol_fields.specs.declared.ticket.Ticket.{Ticket}
use Rattle.tpol_tree.specs.declared.path.Move.{Move}
use Rattle.tpol_tree.specs.declared.path.Move.TheVariants.{Assert, Or, Approve, ApproveNv}
use Rattle.tpol_wire.specs.declared.auth_area.ReplyAuth.{ReplyAuth}
use Rattle.tpol_wire.specs.declared.reply.Reply.{Reply}
use Rattle.tpol_wire.specs.declared.reply.Reply.TheVariants as replies
use Rattle.tpol_wire.specs.declared.command.Command.TheVariants as commands
use Rattle.tpol_wire.specs.ReplyReading.{reply_reading}
use Rattle.tpm_engine.specs.declared.event.Event.{Event}
use Rattle.tpol_laws.specs.Acts.{Act, Other, Run, Turn, after_acts, answer_in, begun, turns_in}
use Rattle.tpol_laws.specs.PathCommands.{commands_along, commands_of_move, commands_of_moves}

-- an end that is no service
abbrev IsUnserved : End → Type 0
IsUnserved (ends.Served bytes) = ⊥
IsUnserved end = ⊤

-- how many commands are left on the path: an approval that is verified has one of its two behind it
abbrev left : Plan → Option Ticket → ℕ → ℕ
left plan None done = commands_of_moves (drop done plan.path.moves) + 1
left plan (Some ticket) done = commands_of_moves (drop done plan.path.moves)

-- at least so many are left, or it is not served any more
abbrev Owes : Plan → ℕ → Standing → Type 0
Owes plan zero at = ⊤
Owes plan (suc n) Starting = suc n ≤ commands_along plan.path
Owes plan (suc n) (Moving session sent ticket done) = suc n ≤ left plan ticket done
Owes plan (suc n) (Closing session end) = IsUnserved end
Owes plan (suc n) (Over end) = IsUnserved end

-- ---- what a list of moves has behind so many

next : (moves : List Move) (done : ℕ) (act : Move) → slice_get moves done ≡ Some act → commands_of_moves (drop done moves) ≡ commands_of_move act + commands_of_moves (drop (suc done) moves)
next [] zero act is = absurd (none-some act is)
next [] (suc done) act is = absurd (none-some act is)
next (first ∷ rest) zero act is = ap (λ (m : Move). commands_of_move m + commands_of_moves rest) (same_Some first act is)
next (first ∷ rest) (suc done) act is = next rest done act is

more : (moves : List Move) (done : ℕ) (act : Move) → slice_get moves done ≡ Some act → commands_of_moves (drop done moves) ≡ commands_of_move act + commands_of_moves (drop (done + 1) moves)
more moves done act is = next moves done act is ∙ ap (λ n. commands_of_move act + commands_of_moves (drop n moves)) (sym (add-one done))

none-left : (moves : List Move) (done : ℕ) → slice_get moves done ≡ None → commands_of_moves (drop done moves) ≡ 0
none-left [] zero is = refl
none-left [] (suc done) is = refl
none-left (first ∷ rest) zero is = absurd (none-some first (sym is))
none-left (first ∷ rest) (suc done) is = none-left rest done is

at-most-two : (act : Move) → commands_of_move act ≤ 2
at-most-two (Assert assertion) = omega arith
at-most-two (Or digests) = omega arith
at-most-two (Approve key policy_ref approved signature) = omega arith
at-most-two (ApproveNv index approved) = omega arith

pub at-most-twice : (moves : List Move) → commands_of_moves moves ≤ length moves + length moves
at-most-twice [] = omega arith
at-most-twice (act ∷ rest) = omega (arith, at-most-two act, at-most-twice rest)

-- ---- what a reply leaves

-- one less of an end that stays
end-owes : (plan : Plan) (n : ℕ) (end : End) → IsUnserved end → Owes plan n (Over end)
end-owes plan zero end is = tt
end-owes plan (suc n) end is = is

started-owes : (plan : Plan) (n : ℕ) (reply : Reply) → suc n ≤ commands_along plan.path → Owes plan n (started reply)
started-owes plan zero reply enough = tt
started-owes plan (suc n) (replies.StartAuthSession session nonce) enough = omega (arith, enough)
started-owes plan (suc n) reply enough = tt

start-reply-owes : (plan : Plan) (n : ℕ) (reply : Reply) (auth : Option ReplyAuth) → suc n ≤ commands_along plan.path → Owes plan n (start_heard (answer_of_reply reply auth))
start-reply-owes plan zero reply auth enough = tt
start-reply-owes plan (suc n) (replies.Refused rc) auth enough = tt
start-reply-owes plan (suc n) reply auth enough = started-owes plan (suc n) reply enough

start-owes : (plan : Plan) (n : ℕ) (read : Option (Reply × Option ReplyAuth)) → suc n ≤ commands_along plan.path → Owes plan n (start_heard (answer_of read))
start-owes plan zero read enough = tt
start-owes plan (suc n) None enough = tt
start-owes plan (suc n) (Some found) enough = start-reply-owes plan (suc n) found.0 found.1 enough

verified-owes : (plan : Plan) (n : ℕ) (session : Session) (sent done at : ℕ) (reply : Reply) → suc (suc n) ≤ commands_of_moves (drop done plan.path.moves) + 1
    → Owes plan (suc n) (goes_on session sent done (verified at reply))
verified-owes plan n session sent done at (replies.VerifySignature ticket) enough = omega (arith, enough)
verified-owes plan n session sent done at reply enough = tt

reply-owes : (plan : Plan) (n : ℕ) (session : Session) (sent done : ℕ) (ticket : Option Ticket) (act : Move) (reply : Reply) (auth : Option ReplyAuth) → slice_get plan.path.moves done ≡ Some act → suc n ≤ left plan ticket done
    → Owes plan n (goes_on session sent done (move_heard ticket act (done + 1) (answer_of_reply reply auth)))
reply-owes plan zero session sent done ticket act reply auth at enough = tt
reply-owes plan (suc n) session sent done ticket act (replies.Refused rc) auth at enough = tt
reply-owes plan (suc n) session sent done None (Approve key policy_ref approved signature) reply auth at enough = verified-owes plan n session sent done (done + 1) reply enough
reply-owes plan (suc n) session sent done None (Assert assertion) reply auth at enough =
    let same : commands_of_moves (drop done plan.path.moves) ≡ 1 + commands_of_moves (drop (done + 1) plan.path.moves) = more plan.path.moves done (Assert assertion) at in omega (arith, enough, same)
reply-owes plan (suc n) session sent done None (Or digests) reply auth at enough =
    let same : commands_of_moves (drop done plan.path.moves) ≡ 1 + commands_of_moves (drop (done + 1) plan.path.moves) = more plan.path.moves done (Or digests) at in omega (arith, enough, same)
reply-owes plan (suc n) session sent done None (ApproveNv index approved) reply auth at enough =
    let same : commands_of_moves (drop done plan.path.moves) ≡ 1 + commands_of_moves (drop (done + 1) plan.path.moves) = more plan.path.moves done (ApproveNv index approved) at in omega (arith, enough, same)
reply-owes plan (suc n) session sent done (Some ticket) act reply auth at enough =
    omega (arith, enough, more plan.path.moves done act at, at-most-two act)

move-owes : (plan : Plan) (n : ℕ) (session : Session) (sent done : ℕ) (ticket : Option Ticket) (act : Move) (read : Option (Reply × Option ReplyAuth)) → slice_get plan.path.moves done ≡ Some act → suc n ≤ left plan ticket done
    → Owes plan n (goes_on session sent done (move_heard ticket act (done + 1) (answer_of read)))
move-owes plan zero session sent done ticket act read at enough = tt
move-owes plan (suc n) session sent done ticket act None at enough = tt
move-owes plan (suc n) session sent done ticket act (Some found) at enough = reply-owes plan (suc n) session sent done ticket act found.0 found.1 at enough

path-owes : (plan : Plan) (n : ℕ) (session : Session) (sent done : ℕ) (ticket : Option Ticket) (act : Option Move) (read : Option (Reply × Option ReplyAuth)) → slice_get plan.path.moves done ≡ act → suc n ≤ left plan ticket done
    → Owes plan n (heard_on_path plan session sent ticket done act (answer_of read))
path-owes plan n session sent done ticket (Some act) read at enough = move-owes plan n session sent done ticket act read at enough
path-owes plan zero session sent done ticket None read at enough = tt
path-owes plan (suc n) session sent done None None read at enough = absurd (omega (arith, enough, none-left plan.path.moves done at))
path-owes plan (suc n) session sent done (Some ticket) None read at enough = absurd (omega (arith, enough, none-left plan.path.moves done at))

heard-owes : (plan : Plan) (n : ℕ) (at : Standing) (read : Option (Reply × Option ReplyAuth)) → Owes plan (suc n) at → Owes plan n (heard plan at (answer_of read))
heard-owes plan n Starting read owes = start-owes plan n read owes
heard-owes plan n (Moving session sent ticket done) read owes = path-owes plan n session sent done ticket (slice_get plan.path.moves done) read refl owes
heard-owes plan n (Closing session end) read owes = end-owes plan n end owes
heard-owes plan n (Over end) read owes = end-owes plan n end owes

-- ---- whatever others do

one-less : (plan : Plan) (acts : List Act) (n : ℕ) (at : Standing) → Owes plan (turns_in acts + 1 + n) at → Owes plan (suc (turns_in acts + n)) at
one-less plan acts n at owes =
    let same : turns_in acts + 1 + n ≡ suc (turns_in acts + n) = omega arith in subst (λ k. Owes plan k at) same owes

owes-after : (run : Run) (acts : List Act) (past : List Event) (at : Standing) (n : ℕ) → Owes run.plan (turns_in acts + n) at → Owes run.plan n (after_acts run acts (record { past = past; standing = at })).standing
unfolding after_acts
owes-after run [] past at n owes =
    let same : 0 + n ≡ n = omega arith in subst (λ k. Owes run.plan k at) same owes
owes-after run (Other call ∷ acts) past at n owes = owes-after run acts _ at n owes
owes-after run (Turn ∷ acts) past Starting n owes =
    owes-after run acts _ (hears run.plan Starting (answer_in run past (start_command run.plan.nonce_seed)).reply) n
    (heard-owes run.plan (turns_in acts + n) Starting (reply_reading (code_sent (sends run.plan Starting)) (answer_in run past (start_command run.plan.nonce_seed)).reply)
    (one-less run.plan acts n Starting owes))
owes-after run (Turn ∷ acts) past (Moving session sent ticket done) n owes =
    let at = Moving session sent ticket done in
    let reply = (answer_in run past (next_command run.plan session sent ticket (slice_get run.plan.path.moves done))).reply in
    owes-after run acts _ (hears run.plan at reply) n
    (heard-owes run.plan (turns_in acts + n) at (reply_reading (code_sent (sends run.plan at)) reply) (one-less run.plan acts n at owes))
owes-after run (Turn ∷ acts) past (Closing session end) n owes =
    let at = Closing session end in
    let reply = (answer_in run past (commands.FlushContext session)).reply in
    owes-after run acts _ (hears run.plan at reply) n
    (heard-owes run.plan (turns_in acts + n) at (reply_reading (code_sent (sends run.plan at)) reply) (one-less run.plan acts n at owes))
owes-after run (Turn ∷ acts) past (Over end) n owes = owes-after run acts past (Over end) n (end-owes run.plan (turns_in acts + n) end (one-less run.plan acts n (Over end) owes))

pub never-sooner : (run : Run) (past : List Event) (acts : List Act) (bytes : List ℕ) → turns_in acts < commands_along run.plan.path → (after_acts run acts (begun past)).standing ≡ Over (ends.Served bytes) → ⊥
never-sooner run past acts bytes fewer served =
    let all : suc (turns_in acts) ≤ commands_along run.plan.path = omega (arith, fewer) in
    let same : suc (turns_in acts) ≡ turns_in acts + 1 = omega arith in
    let owes : Owes run.plan 1 (after_acts run acts (begun past)).standing = owes-after run acts past Starting 1 (subst (λ k. Owes run.plan k Starting) same all) in
    subst (Owes run.plan 1) served owes

-- nor does it close its session to end so
pub never-closing : (run : Run) (past : List Event) (acts : List Act) (session : ℕ) (bytes : List ℕ) → turns_in acts < commands_along run.plan.path → (after_acts run acts (begun past)).standing ≡ Closing session (ends.Served bytes) → ⊥
never-closing run past acts session bytes fewer closing =
    let all : suc (turns_in acts) ≤ commands_along run.plan.path = omega (arith, fewer) in
    let same : suc (turns_in acts) ≡ turns_in acts + 1 = omega arith in
    let owes : Owes run.plan 1 (after_acts run acts (begun past)).standing = owes-after run acts past Starting 1 (subst (λ k. Owes run.plan k Starting) same all) in
    subst (Owes run.plan 1) closing owes

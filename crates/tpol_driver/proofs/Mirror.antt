-- A blind run on one of its paths hears what driving that path alone hears.
use Rattle.std.proofs.Common.{◌≡◌, ℕ, ◌+◌, List, Option, Some, None, refl, slice_get}
use Rattle.tpol_driver.specs.declared.answer.Answer.{Answer}
use Rattle.tpol_driver.specs.declared.blind_end.Tried.{Tried}
use Rattle.tpol_driver.specs.declared.blind_plan.BlindPlan.{BlindPlan}
use Rattle.tpol_driver.specs.declared.end.End.{End}
use Rattle.tpol_driver.specs.declared.end.End.TheVariants as ends
use Rattle.tpol_driver.specs.declared.session.Session.{Session}
use Rattle.tpol_driver.specs.declared.step.Heard.{Heard}
use Rattle.tpol_driver.specs.declared.step.Heard.TheVariants.{Verified, Accepted, Failed}
use Rattle.tpol_driver.specs.Blind.{Trying, blind_hears, on_try, plan_at, tried, tries_on, try_heard}
use Rattle.tpol_driver.specs.Driving.{Moving, after_goal, goal_heard, goes_on, heard_on_path, hears, move_heard}
use Rattle.tpol_fields.specs.declared.ticket.Ticket.{Ticket}
use Rattle.tpol_tree.specs.declared.path.Move.{Move}

goes_mirrored : (plan : BlindPlan) (session : Session) (sent place done : ℕ) (tries : List Tried) (heard : Heard) → tries_on plan session sent place done tries heard ≡ on_try plan session sent place tries (goes_on session sent done heard)
goes_mirrored plan session sent place done tries (Verified ticket) = refl
goes_mirrored plan session sent place done tries Accepted = refl
goes_mirrored plan session sent place done tries (Failed end) = refl

goal_mirrored : (plan : BlindPlan) (session : Session) (sent place : ℕ) (tries : List Tried) (end : End) → tried plan session (sent + 1) place tries end ≡ on_try plan session sent place tries (after_goal session.handle end)
goal_mirrored plan session sent place tries (ends.Served bytes) = refl
goal_mirrored plan session sent place tries end = refl

path_mirrored : (plan : BlindPlan) (session : Session) (sent place : ℕ) (ticket : Option Ticket) (done : ℕ) (tries : List Tried) (act : Option Move) (answer : Answer)
    → try_heard plan session sent place ticket done tries act answer ≡ on_try plan session sent place tries (heard_on_path (plan_at plan place) session sent ticket done act answer)
path_mirrored plan session sent place ticket done tries (Some act) answer = goes_mirrored plan session sent place done tries (move_heard ticket act (done + 1) answer)
path_mirrored plan session sent place ticket done tries None answer = goal_mirrored plan session sent place tries (goal_heard (plan_at plan place) sent answer)

pub try_mirrored : (plan : BlindPlan) (session : Session) (sent place : ℕ) (ticket : Option Ticket) (done : ℕ) (tries : List Tried) (reply : List ℕ)
    → blind_hears plan (Trying session sent place ticket done tries) reply ≡ on_try plan session sent place tries (hears (plan_at plan place) (Moving session sent ticket done) reply)
try_mirrored plan session sent place ticket done tries reply =
    path_mirrored plan session sent place ticket done tries (slice_get (plan_at plan place).path.moves done) _

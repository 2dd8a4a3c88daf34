-- A run is where its driver stands after its replies.
use Rattle.std.proofs.Common.{◌≡◌, ℕ, true, List, [], ◌∷◌, ◌++◌, append_assoc, Option, Some, None, refl, ap, sym, ◌∙◌}
use Rattle.std.proofs.lemmas.List.{append-nil}
use Rattle.std.proofs.lemmas.Option.{none-some}
use Rattle.std.specs.List.{fold}
use Rattle.tpol_driver.specs.declared.blind_plan.BlindPlan.{BlindPlan}
use Rattle.tpol_driver.specs.declared.plan.Plan.{Plan}
use Rattle.tpol_driver.specs.declared.tickets.HeldTicket.{HeldTicket}
use Rattle.tpol_driver.specs.Blind as blind
use Rattle.tpol_driver.specs.Blind.{BlindStanding, blind_hears}
use Rattle.tpol_driver.specs.BlindStates.{is_blind_over}
use Rattle.tpol_driver.specs.Driving.{Standing, Starting, Moving, Closing, Over, hears}
use Rattle.tpol_driver.specs.States.{is_over}
use Rattle.tpol_runs.specs.declared.ended.Ended.{Ended}
use Rattle.tpol_runs.specs.Courses.{after_replies, bytes_of, command_of, end_of, end_told, goes_on, goes_or_ends, heard_by, heard_of, next_of, sent_in, stands_at, underway_at}
use Rattle.tpol_runs.specs.Earned.{earned_at, earned_from}
use Rattle.tpol_runs.specs.Underway.{Blind, Driver, Sighted, Underway}
use Rattle.tpol_wire.specs.declared.command.Command.{Command}

-- where its driver stood before makes no difference
abbrev pub with_driver : Underway → Driver → Underway
with_driver run driver = record { client = run.client; locality = run.locality; driver = driver }

pub stands_from : (run : Underway) (before driver : Driver) → stands_at (with_driver run before) driver ≡ stands_at run driver
stands_from run before driver = either_from (end_of driver)
  where
    either_from : (ended : Option Ended) → goes_or_ends (with_driver run before) driver ended ≡ goes_or_ends run driver ended
    either_from None = refl
    either_from (Some ended) = refl

-- what a reply makes of a run that is not over
pub record Steps (run : Underway) (driver : Driver) (reset_count : ℕ) (reply : List ℕ) : Type 0 where
  pub goes : goes_on (heard_by (underway_at run driver) reset_count reply) ≡ underway_at run (heard_of driver reset_count reply)
  pub ends : end_told (heard_by (underway_at run driver) reset_count reply) ≡ end_of (heard_of driver reset_count reply)

end_of_stand : (run : Underway) (driver : Driver) (ended : Option Ended) → end_told (Some (goes_or_ends run driver ended)) ≡ ended
end_of_stand run driver None = refl
end_of_stand run driver (Some ended) = refl

steps_on : (run : Underway) (driver : Driver) (reset_count : ℕ) (reply : List ℕ) → underway_at run driver ≡ Some (with_driver run driver) → Steps run driver reset_count reply
steps_on run driver reset_count reply on =
    let next = heard_of driver reset_count reply in
    record {
      goes = ap (λ now. goes_on (heard_by now reset_count reply)) on ∙ ap (λ after. goes_on (Some after)) (stands_from run driver next);
      ends = ap (λ now. end_told (heard_by now reset_count reply)) on ∙ end_of_stand (with_driver run driver) next (end_of next);
    }

-- where a driver is not at its end, its run goes on, and where it is, it hears nothing
pub data Stands (run : Underway) (driver : Driver) : Type 0 where
  Goes : underway_at run driver ≡ Some (with_driver run driver) → Stands run driver
  IsOver : underway_at run driver ≡ None → command_of driver ≡ None → ((reset_count : ℕ) (reply : List ℕ) → underway_at run (heard_of driver reset_count reply) ≡ None) → Stands run driver

on_path_stands : (run : Underway) (plan : Plan) (standing : Standing) (earned : List HeldTicket) → Stands run (Sighted (record { plan = plan; standing = standing; earned = earned }))
on_path_stands run plan Starting earned = Goes refl
on_path_stands run plan (Moving session sent ticket done) earned = Goes refl
on_path_stands run plan (Closing session end) earned = Goes refl
on_path_stands run plan (Over end) earned = IsOver refl refl (λ reset_count reply. refl)

blindly_stands : (run : Underway) (policy : List ℕ) (plan : BlindPlan) (standing : BlindStanding) → Stands run (Blind policy (record { plan = plan; standing = standing }))
blindly_stands run policy plan blind.Starting = Goes refl
blindly_stands run policy plan (blind.Trying session sent place ticket done tries) = Goes refl
blindly_stands run policy plan (blind.Again session sent place tries) = Goes refl
blindly_stands run policy plan (blind.Closing session end) = Goes refl
blindly_stands run policy plan (blind.Over end) = IsOver refl refl (λ reset_count reply. refl)

stands : (run : Underway) (driver : Driver) → Stands run driver
stands run (Sighted driven) = on_path_stands run driven.plan driven.standing driven.earned
stands run (Blind policy driving) = blindly_stands run policy driving.plan driving.standing

step_by : (run : Underway) (driver : Driver) (reset_count : ℕ) (reply : List ℕ) → Stands run driver → goes_on (heard_by (underway_at run driver) reset_count reply) ≡ underway_at run (heard_of driver reset_count reply)
step_by run driver reset_count reply (Goes on) = (steps_on run driver reset_count reply on).goes
step_by run driver reset_count reply (IsOver over silent stays) = ap (λ now. goes_on (heard_by now reset_count reply)) over ∙ sym (stays reset_count reply)

step : (run : Underway) (driver : Driver) (reset_count : ℕ) (reply : List ℕ) → goes_on (heard_by (underway_at run driver) reset_count reply) ≡ underway_at run (heard_of driver reset_count reply)
step run driver reset_count reply = step_by run driver reset_count reply (stands run driver)

-- the same, as the table has the run then
pub goes_step : (run : Underway) (driver : Driver) (reset_count : ℕ) (reply : List ℕ) → goes_on (heard_by (underway_at run driver) reset_count reply) ≡ underway_at (with_driver run (heard_of driver reset_count reply)) (heard_of driver reset_count reply)
goes_step run driver reset_count reply =
    step run driver reset_count reply ∙ sym (ap (λ after. goes_on (Some after)) (stands_from run (heard_of driver reset_count reply) (heard_of driver reset_count reply)))

ends_by : (run : Underway) (driver : Driver) (command : Command) (reset_count : ℕ) (reply : List ℕ) → command_of driver ≡ Some command → Stands run driver → end_told (heard_by (underway_at run driver) reset_count reply) ≡ end_of (heard_of driver reset_count reply)
ends_by run driver command reset_count reply is (Goes on) = (steps_on run driver reset_count reply on).ends
ends_by run driver command reset_count reply is (IsOver over silent stays) = absurd (none-some command (sym silent ∙ is))

-- its end is told where the reply leads to it
pub ends_step : (run : Underway) (driver : Driver) (command : Command) (reset_count : ℕ) (reply : List ℕ) → command_of driver ≡ Some command → end_told (heard_by (underway_at run driver) reset_count reply) ≡ end_of (heard_of driver reset_count reply)
ends_step run driver command reset_count reply is = ends_by run driver command reset_count reply is (stands run driver)

sends_by : (run : Underway) (driver : Driver) → Stands run driver → next_of (underway_at run driver) ≡ sent_in run (command_of driver)
sends_by run driver (Goes on) = ap next_of on ∙ same (command_of driver)
  where
    same : (command : Option Command) → sent_in (with_driver run driver) command ≡ sent_in run command
    same None = refl
    same (Some command) = refl
sends_by run driver (IsOver over silent stays) = ap next_of over ∙ sym (ap (sent_in run) silent)

-- what it sends
pub sends_step : (run : Underway) (driver : Driver) → next_of (underway_at run driver) ≡ sent_in run (command_of driver)
sends_step run driver = sends_by run driver (stands run driver)

-- replies, each with the reset count at which it comes
abbrev pub Replies : Type 0
Replies = List (ℕ × List ℕ)

abbrev hears_all : Driver → Replies → Driver
hears_all driver replies = fold (λ now reply. heard_of now reply.0 reply.1) driver replies

driven : (run : Underway) (driver : Driver) (replies : Replies) → after_replies (underway_at run driver) replies ≡ underway_at run (hears_all driver replies)
driven run driver [] = refl
driven run driver (reply ∷ rest) =
    ap (λ now. after_replies now rest) (step run driver reply.0 reply.1) ∙ driven run (heard_of driver reply.0 reply.1) rest

-- ---- on one path

on_path : (plan : Plan) (standing : Standing) (earned : List HeldTicket) (replies : Replies)
    → hears_all (Sighted (record { plan = plan; standing = standing; earned = earned })) replies
    ≡ Sighted (record { plan = plan; standing = fold (hears plan) standing (bytes_of replies); earned = earned ++ earned_from plan standing replies })
on_path plan at earned [] = ap (λ tickets. Sighted (record { plan = plan; standing = at; earned = tickets })) (sym (append-nil earned))
on_path plan at earned (reply ∷ rest) =
    let now = earned_at plan at reply.0 reply.1 in
    let after = hears plan at reply.1 in
    on_path plan after (earned ++ now) rest
    ∙ ap (λ tickets. Sighted (record { plan = plan; standing = fold (hears plan) after (bytes_of rest); earned = tickets })) (append_assoc earned now (earned_from plan after rest))

pub driven_on_path : (run : Underway) (plan : Plan) (standing : Standing) (replies : Replies)
    → after_replies (underway_at run (Sighted (record { plan = plan; standing = standing; earned = [] }))) replies
    ≡ underway_at run (Sighted (record { plan = plan; standing = fold (hears plan) standing (bytes_of replies); earned = earned_from plan standing replies }))
driven_on_path run plan standing replies =
    driven run (Sighted (record { plan = plan; standing = standing; earned = [] })) replies ∙ ap (underway_at run) (on_path plan standing [] replies)

pub over_is_none : (run : Underway) (plan : Plan) (standing : Standing) (earned : List HeldTicket) → is_over standing ≡ true
    → underway_at run (Sighted (record { plan = plan; standing = standing; earned = earned })) ≡ None
over_is_none run plan Starting earned over = absurd cc
over_is_none run plan (Moving session sent ticket done) earned over = absurd cc
over_is_none run plan (Closing session end) earned over = absurd cc
over_is_none run plan (Over end) earned over = refl

-- ---- blindly

blindly : (policy : List ℕ) (plan : BlindPlan) (standing : BlindStanding) (replies : Replies)
    → hears_all (Blind policy (record { plan = plan; standing = standing })) replies
    ≡ Blind policy (record { plan = plan; standing = fold (blind_hears plan) standing (bytes_of replies) })
blindly policy plan at [] = refl
blindly policy plan at (reply ∷ rest) = blindly policy plan (blind_hears plan at reply.1) rest

pub driven_blindly : (run : Underway) (policy : List ℕ) (plan : BlindPlan) (standing : BlindStanding) (replies : Replies)
    → after_replies (underway_at run (Blind policy (record { plan = plan; standing = standing }))) replies
    ≡ underway_at run (Blind policy (record { plan = plan; standing = fold (blind_hears plan) standing (bytes_of replies) }))
driven_blindly run policy plan standing replies =
    driven run (Blind policy (record { plan = plan; standing = standing })) replies ∙ ap (underway_at run) (blindly policy plan standing replies)

pub blind_over_is_none : (run : Underway) (policy : List ℕ) (plan : BlindPlan) (standing : BlindStanding) → is_blind_over standing ≡ true → underway_at run (Blind policy (record { plan = plan; standing = standing })) ≡ None
blind_over_is_none run policy plan blind.Starting over = absurd cc
blind_over_is_none run policy plan (blind.Trying session sent place ticket done tries) over = absurd cc
blind_over_is_none run policy plan (blind.Again session sent place tries) over = absurd cc
blind_over_is_none run policy plan (blind.Closing session end) over = absurd cc
blind_over_is_none run policy plan (blind.Over end) over = refl

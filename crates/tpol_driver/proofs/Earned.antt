-- What one more reply earns stands behind what was earned before.
use Rattle.std.proofs.Common.{◌≡◌, ℕ, sym, ap, ◌∙◌, List, [], ◌∷◌, ◌++◌, append_assoc}
use Rattle.std.proofs.lemmas.List.{append-nil}
use Rattle.std.specs.List.{fold}
use Rattle.tpol_driver.specs.declared.plan.Plan.{Plan}
use Rattle.tpol_driver.specs.declared.tickets.HeldTicket.{HeldTicket}
use Rattle.tpol_driver.specs.Driving.{Standing, earned_by, hears, tickets_from}

pub more_earned : (plan : Plan) (standing : Standing) (replies : List (List ℕ)) (reply : List ℕ) → tickets_from plan standing (replies ++ reply ∷ []) ≡ tickets_from plan standing replies ++ earned_by plan (fold (hears plan) standing replies) reply
more_earned plan standing [] reply = append-nil (earned_by plan standing reply)
more_earned plan standing (first ∷ rest) reply =
    ap (λ (behind : List HeldTicket). earned_by plan standing first ++ behind) (more_earned plan (hears plan standing first) rest reply)
    ∙ sym (append_assoc (earned_by plan standing first) (tickets_from plan (hears plan standing first) rest) _)

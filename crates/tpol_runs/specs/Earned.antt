-- The tickets that runs earn, each with the reset count that the machine had when it was answered (TPM 2.0 Part 3,
-- PolicyTicket: a ticket is of no use once the TPM was reset). The driver is not told that count, and leaves 0 in its
-- place.
use Rattle.std.specs.Prelude.{ℕ, List, [], ◌∷◌, ◌++◌, map}
use Rattle.tpol_driver.specs.declared.plan.Plan.{Plan}
use Rattle.tpol_driver.specs.declared.tickets.HeldTicket.{HeldTicket}
use Rattle.tpol_driver.specs.Driving.{Standing, earned_by, hears}

-- a ticket that was answered at this reset count
abbrev pub counted : ℕ → HeldTicket → HeldTicket
counted reset_count ticket = record ticket { reset_count = reset_count }

-- tickets with these reset counts, one for each
abbrev pub with_counts : List HeldTicket → List ℕ → List HeldTicket
with_counts [] counts = []
with_counts (ticket ∷ rest) [] = ticket ∷ rest
with_counts (ticket ∷ rest) (reset_count ∷ counts) = counted reset_count ticket ∷ with_counts rest counts

-- the tickets that a reply earns which comes at this reset count
abbrev pub earned_at : Plan → Standing → ℕ → List ℕ → List HeldTicket
earned_at plan standing reset_count reply = map (counted reset_count) (earned_by plan standing reply)

-- those that these replies earn from here on, in order; each comes with the reset count at which it does
abbrev pub earned_from : Plan → Standing → List (ℕ × List ℕ) → List HeldTicket
earned_from plan at [] = []
earned_from plan at (reply ∷ rest) =
    earned_at plan at reply.0 reply.1 ++ earned_from plan (hears plan at reply.1) rest

-- What contracts see of the states of a run.
use Rattle.std.specs.Prelude.{◌≡◌, ℕ, Bool, true, false, List}
use Rattle.tpol_driver.specs.declared.next.Next.{Next}
use Rattle.tpol_driver.specs.declared.next.Next.TheVariants as states
use Rattle.tpol_driver.specs.declared.plan.Plan.{Plan}
use Rattle.tpol_driver.specs.declared.tickets.HeldTicket.{HeldTicket}
use Rattle.tpol_driver.specs.Driving.{Drive, Sends, Ends, Standing, Over}
use Rattle.tpol_wire.specs.Commands.{spelling}

-- the bytes spell the command that is sent; at the end there are none
abbrev pub IsSent : Drive → List ℕ → Type 0
IsSent (Sends command) bytes = bytes ≡ spelling command
IsSent (Ends end) bytes = ⊥

-- whether a run is at its end
abbrev pub is_over : Standing → Bool
is_over (Over end) = true
is_over _ = false

-- the state of a run of this plan that stands here and has earned these tickets; it is `Over` exactly at the end
abbrev pub IsNext : Plan → List HeldTicket → Standing → Next → Type 0
IsNext plan earned standing (states.Asserting state) =
    (state ≡ record { plan = plan; standing = standing; earned = earned }) × (is_over standing ≡ false)
IsNext plan earned standing (states.Ready state) =
    (state ≡ record { plan = plan; standing = standing; earned = earned }) × (is_over standing ≡ false)
IsNext plan earned standing (states.Closing state) =
    (state ≡ record { plan = plan; standing = standing; earned = earned }) × (is_over standing ≡ false)
IsNext plan earned standing (states.Over over) = (standing ≡ Over over.end) × (over.earned ≡ earned)

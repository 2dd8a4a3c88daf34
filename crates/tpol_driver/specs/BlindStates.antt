-- What contracts see of the states of a blind run.
use Rattle.std.specs.Prelude.{◌≡◌, ℕ, Bool, true, false, List}
use Rattle.tpol_driver.specs.declared.blind_next.BlindNext.{BlindNext}
use Rattle.tpol_driver.specs.declared.blind_next.BlindNext.TheVariants as states
use Rattle.tpol_driver.specs.declared.blind_plan.BlindPlan.{BlindPlan}
use Rattle.tpol_driver.specs.Blind.{BlindDrive, Sends, Ends, BlindStanding, Over}
use Rattle.tpol_wire.specs.Commands.{spelling}

-- the bytes spell the command that is sent; at the end there are none
abbrev pub IsBlindSent : BlindDrive → List ℕ → Type 0
IsBlindSent (Sends command) bytes = bytes ≡ spelling command
IsBlindSent (Ends end) bytes = ⊥

-- whether a blind run is at its end
abbrev pub is_blind_over : BlindStanding → Bool
is_blind_over (Over end) = true
is_blind_over _ = false

-- the state of a blind run of this plan that stands here; it is `Over` exactly at the end
abbrev pub IsBlindNext : BlindPlan → BlindStanding → BlindNext → Type 0
IsBlindNext plan standing (states.Asserting state) =
    (state ≡ record { plan = plan; standing = standing }) × (is_blind_over standing ≡ false)
IsBlindNext plan standing (states.Ready state) =
    (state ≡ record { plan = plan; standing = standing }) × (is_blind_over standing ≡ false)
IsBlindNext plan standing (states.Again state) =
    (state ≡ record { plan = plan; standing = standing }) × (is_blind_over standing ≡ false)
IsBlindNext plan standing (states.Closing state) =
    (state ≡ record { plan = plan; standing = standing }) × (is_blind_over standing ≡ false)
IsBlindNext plan standing (states.Over over) = standing ≡ Over over.end

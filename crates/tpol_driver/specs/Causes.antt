-- What a reply that was read has to be, by the command that it answers.
use Rattle.std.specs.Prelude.{◌≡◌, ◌<◌, ℕ, false, List, get_or, Option, Some}
use Rattle.tpol_driver.specs.declared.plan.Plan.{Plan}
use Rattle.tpol_driver.specs.GoalUse.{is_right_area}
use Rattle.tpol_wire.specs.declared.auth_area.ReplyAuth.{ReplyAuth}
use Rattle.tpol_wire.specs.declared.reply.Reply.{Reply}

-- bytes of the wire
abbrev pub IsBytes : List ℕ → Type 0
IsBytes bytes = (i : ℕ) → get_or bytes i 0 < 256

-- what was read is a reply of the goal's command, and its authorization is wrong
abbrev pub HasWrongArea : Plan → ℕ → Option (Reply × Option ReplyAuth) → Type 0
HasWrongArea plan number read =
    (reply : Reply) × (area : ReplyAuth) × (read ≡ Some (reply, Some area))
    × (is_right_area plan number reply area ≡ false)

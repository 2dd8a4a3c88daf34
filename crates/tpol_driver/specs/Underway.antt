-- Runs on their paths: a move is left, and the numbers of commands stay small, since each move has two at most.
use Rattle.std.specs.Prelude.{◌≡◌, ◌<◌, ◌≤◌, ℕ, ◌+◌, ◌*◌, Bool, true, false, length, Option, Some, None}
use Rattle.tpol_driver.specs.declared.answer.Answer.{Answer}
use Rattle.tpol_driver.specs.declared.answer.Answer.TheVariants.{Done}
use Rattle.tpol_driver.specs.declared.plan.Plan.{Plan}
use Rattle.tpol_driver.specs.declared.step.Heard.{Heard}
use Rattle.tpol_driver.specs.declared.step.Heard.TheVariants.{Verified}
use Rattle.tpol_fields.specs.declared.ticket.Ticket.{Ticket}
use Rattle.tpol_tree.specs.declared.closed.Assertion.TheVariants.{Secret, Signed}
use Rattle.tpol_tree.specs.declared.path.Move.{Move}
use Rattle.tpol_tree.specs.declared.path.Move.TheVariants.{Approve, Assert}

-- how many commands of the move were sent, and the start
abbrev pub sent_with : Option Ticket → ℕ
sent_with None = 1
sent_with (Some ticket) = 2

-- a move is left, and the number of the next command is small
abbrev pub IsUnderway : Plan → ℕ → Option Ticket → ℕ → Type 0
IsUnderway plan sent ticket done =
    (done < length plan.path.moves) × (length plan.path.moves ≤ 512) × (sent ≤ 2 * done + sent_with ticket)

-- only what has no ticket yet is verified
abbrev pub IsVerifiedOnce : Option Ticket → Heard → Type 0
IsVerifiedOnce ticket (Verified answered) = ticket ≡ None
IsVerifiedOnce ticket heard = Unit {0}

-- the same in numbers
abbrev pub most_before : Heard → ℕ
most_before (Verified ticket) = 1
most_before heard = 2

-- a move of a kind that is never verified first nor answered with a ticket
abbrev pub is_plain : Move → Bool
is_plain (Assert (Secret entity policy_ref cp_hash expiration)) = false
is_plain (Assert (Signed key policy_ref cp_hash expiration)) = false
is_plain (Approve key policy_ref approved signature) = false
is_plain act = true

-- the command was carried out
abbrev pub is_done : Answer → Bool
is_done (Done reply auth) = true
is_done answer = false

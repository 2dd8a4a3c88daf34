-- Tickets that a run holds: the moves that they stand for, the commands by them (TPM 2.0 Part 3, PolicyTicket), and
-- what a reply earns.
use Rattle.std.specs.Prelude.{ℕ, ◌&&◌, Bool, true, false, not, List, [], ◌∷◌, Option, Some, None, find, if◌then◌else◌}
use Rattle.std.specs.Option.{option_map_or}
use Rattle.std.specs.Str.{bytes_eq}
use Rattle.tpol_base.specs.Constants.{st_auth_secret, st_auth_signed}
use Rattle.tpol_base.specs.Digest.{digest_of_bytes, is_same_digest}
use Rattle.tpol_base.specs.Handle.{rh_owner}
use Rattle.tpol_base.specs.Name.{is_same_name}
use Rattle.tpol_base.specs.declared.command_code.CommandCode.{CommandCode}
use Rattle.tpol_base.specs.declared.command_code.CommandCode.TheVariants as codes
use Rattle.tpol_base.specs.declared.digest.Digest32.{Digest32}
use Rattle.tpol_base.specs.declared.name.Name.{Name}
use Rattle.tpol_driver.specs.declared.answer.Answer.{Answer}
use Rattle.tpol_driver.specs.declared.answer.Answer.TheVariants.{Done}
use Rattle.tpol_driver.specs.declared.plan.Plan.{Plan}
use Rattle.tpol_driver.specs.declared.session.Session.{Session}
use Rattle.tpol_driver.specs.declared.tickets.HeldTicket.{HeldTicket}
use Rattle.tpol_driver.specs.Codes.{code_of_move}
use Rattle.tpol_driver.specs.Commands.{command_of_move}
use Rattle.tpol_fields.specs.declared.ticket.Ticket.{Ticket}
use Rattle.tpol_tree.specs.declared.closed.Assertion.TheVariants.{Secret, Signed}
use Rattle.tpol_tree.specs.declared.path.Move.{Move}
use Rattle.tpol_tree.specs.declared.path.Move.TheVariants.{Assert}
use Rattle.tpol_wire.specs.declared.command.Command.{Command}
use Rattle.tpol_wire.specs.declared.command.Command.TheVariants as commands
use Rattle.tpol_wire.specs.declared.reply.Reply.{Reply}
use Rattle.tpol_wire.specs.declared.reply.Reply.TheVariants as replies

-- ---- the moves that a ticket stands for

abbrev pub is_same_cp_hash : Option Digest32 → Option Digest32 → Bool
is_same_cp_hash None None = true
is_same_cp_hash (Some a) (Some b) = is_same_digest a b
is_same_cp_hash a b = false

-- the same Name, policyRef and cpHashA
abbrev pub is_for : HeldTicket → Name → List ℕ → Option Digest32 → Bool
is_for held name policy_ref cp_hash =
    is_same_name held.key name && (bytes_eq held.policy_ref policy_ref && is_same_cp_hash held.cp_hash cp_hash)

-- of the same kind; the expiration is not asked
abbrev pub stands_for : HeldTicket → Move → Bool
stands_for held (Assert (Secret entity policy_ref cp_hash expiration)) =
    not held.signed && is_for held entity policy_ref cp_hash
stands_for held (Assert (Signed key policy_ref cp_hash expiration)) =
    held.signed && is_for held key policy_ref cp_hash
stands_for held act = false

-- the first such ticket
abbrev pub ticket_for : List HeldTicket → Move → Option HeldTicket
ticket_for tickets act = find (λ held. stands_for held act) tickets

-- ---- the commands by them

abbrev pub tag_of_ticket : Bool → ℕ
tag_of_ticket signed = if signed then st_auth_signed else st_auth_secret

abbrev pub ticket_command : Session → HeldTicket → Command
ticket_command session held =
    commands.PolicyTicket session.handle held.deadline held.cp_hash held.policy_ref held.key
    (record { tag = tag_of_ticket held.signed; hierarchy = rh_owner; digest = held.digest.bytes })

-- the next command of a move: by the first ticket that stands for it, else its own
abbrev pub command_on_path : Plan → Session → Option Ticket → Move → Command
command_on_path plan session ticket act =
    option_map_or (ticket_command session) (ticket_for plan.tickets act)
    (command_of_move plan.directory plan.grants session ticket act)

-- the code of that command
abbrev pub code_on_path : List HeldTicket → Option Ticket → Move → CommandCode
code_on_path tickets ticket act =
    option_map_or (λ held. codes.PolicyTicket) (ticket_for tickets act) (code_of_move ticket act)

-- ---- what a reply earns

-- the reset count is not known to the driver, and is 0 here
abbrev pub earned_ticket : Bool → Name → List ℕ → Option Digest32 → ℕ → Ticket → HeldTicket
earned_ticket signed key policy_ref cp_hash deadline ticket = record {
  signed = signed;
  key = key;
  policy_ref = policy_ref;
  cp_hash = cp_hash;
  deadline = deadline;
  reset_count = 0;
  digest = digest_of_bytes ticket.digest;
}

-- a ticket with a deadline; a reply to PolicyTicket earns none
abbrev pub earned_from : Move → Reply → List HeldTicket
earned_from (Assert (Secret entity policy_ref cp_hash expiration)) (replies.PolicySecret (Some deadline) ticket) =
    earned_ticket false entity policy_ref cp_hash deadline ticket ∷ []
earned_from (Assert (Signed key policy_ref cp_hash expiration)) (replies.PolicySigned (Some deadline) ticket) =
    earned_ticket true key policy_ref cp_hash deadline ticket ∷ []
earned_from act reply = []

abbrev pub earned_in : Option Move → Answer → List HeldTicket
earned_in (Some act) (Done reply auth) = earned_from act reply
earned_in act answer = []

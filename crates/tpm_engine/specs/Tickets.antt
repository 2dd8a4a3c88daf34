-- Tickets that PolicySecret and PolicySigned answer for a later PolicyTicket (TPM 2.0 Part 3,
-- TPM2_PolicyTicket).
use Rattle.std.specs.Prelude.{ℕ, ◌||◌, Bool, true, false, List, [], ◌∷◌, Option, Some, None, option_map}
use Rattle.tpol_base.specs.declared.digest.Digest32.{Digest32}
use Rattle.tpol_base.specs.declared.name.Name.{Name}
use Rattle.tpol_base.specs.Constants.{st_auth_secret, st_auth_signed}
use Rattle.tpol_wire.specs.declared.command.Command.{Command}
use Rattle.tpol_wire.specs.declared.command.Command.TheVariants as commands
use Rattle.tpol_wire.specs.declared.reply.Reply.{Reply}
use Rattle.tpol_wire.specs.declared.reply.Reply.TheVariants as replies
use Rattle.tpol_fields.specs.declared.ticket.Ticket.{Ticket}
use Rattle.tpm_world.specs.Entities.{name_at}
use Rattle.tpm_world.specs.World.{WorldState}
use Rattle.tpm_engine.specs.declared.event.Event.{Event}
use Rattle.tpm_engine.specs.declared.event.Event.TheVariants as events
use Rattle.tpm_engine.specs.PolicyCommands.{policy_start, ticket_of, timeout_of}
use Rattle.tpm_engine.specs.Tables.{TableState}

-- a ticket with what it stands for: the kind, the entity's Name, cpHashA, policyRef, and the deadline in
-- milliseconds
pub record Ticketed : Type 0 where
  pub tag : ℕ
  pub name : Name
  pub cp_hash : Option Digest32
  pub policy_ref : List ℕ
  pub deadline : ℕ
  pub ticket : Ticket

abbrev pub ticketed : WorldState → ℕ → Name → Option Digest32 → List ℕ → ℕ → Ticketed
ticketed world tag name cp_hash policy_ref deadline = record {
  tag = tag;
  name = name;
  cp_hash = cp_hash;
  policy_ref = policy_ref;
  deadline = deadline;
  ticket = ticket_of world tag name cp_hash policy_ref (Some deadline);
}

-- the ticket that a command answers over these tables: where its expiration is negative
abbrev pub ticket_by : TableState → Command → Option Ticketed
ticket_by tables (commands.PolicySigned key own nonce cp_hash policy_ref expiration signature) =
    option_map (ticketed tables.world st_auth_signed (name_at tables.world key) cp_hash policy_ref)
    (timeout_of (policy_start tables (commands.PolicySigned key own nonce cp_hash policy_ref expiration signature)) nonce expiration)
ticket_by tables (commands.PolicySecret entity own auth nonce cp_hash policy_ref expiration) =
    option_map (ticketed tables.world st_auth_secret (name_at tables.world entity) cp_hash policy_ref)
    (timeout_of (policy_start tables (commands.PolicySecret entity own auth nonce cp_hash policy_ref expiration)) nonce expiration)
ticket_by tables _ = None

-- the reply's fields that tell it
abbrev pub told_ticket : Reply → Option (ℕ × Ticket)
told_ticket (replies.PolicySigned (Some deadline) ticket) = Some (deadline, ticket)
told_ticket (replies.PolicySecret (Some deadline) ticket) = Some (deadline, ticket)
told_ticket _ = None

-- the PolicyTicket with these fields
abbrev pub ticket_command : ℕ → Ticketed → Command
ticket_command own given = commands.PolicyTicket own given.deadline given.cp_hash given.policy_ref given.name given.ticket

-- whether a Reset is among these events
abbrev pub is_reset : Event → Bool
is_reset events.Reset = true
is_reset _ = false

unfoldable pub has_reset : List Event → Bool
has_reset [] = false
has_reset (event ∷ past) = is_reset event || has_reset past

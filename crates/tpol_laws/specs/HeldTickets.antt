-- Tickets that a run holds: those that are the machine's own, and those that it takes now (TPM 2.0 Part 3,
-- TPM2_PolicyTicket).
use Rattle.std.specs.Prelude.{◌≡◌, ◌≤◌, ◌<◌, ◌^◌, false, List, IfSome}
use Rattle.tpm_auth.specs.Tickets.{auth_ticket}
use Rattle.tpm_engine.specs.declared.event.Event.{Event}
use Rattle.tpm_engine.specs.Views.{reset_count_of, time_of}
use Rattle.tpm_world.specs.Hashes.{proof_of}
use Rattle.tpol_base.specs.Digest.{optional_bytes}
use Rattle.tpol_base.specs.Handle.{is_index}
use Rattle.tpol_driver.specs.declared.tickets.HeldTicket.{HeldTicket}
use Rattle.tpol_driver.specs.Tickets.{tag_of_ticket}
use Rattle.tpol_goal.specs.Entities.{entity_of_name}
use Rattle.tpol_name.specs.declared.setup.Setup.{Setup}
use Rattle.tpol_name.specs.Directories.{directory_of}

-- its deadline is within the bounds of the wire
abbrev pub TicketHasBounds : HeldTicket → Type 0
TicketHasBounds held = held.deadline < 2 ^ 64

-- It is one of this machine: its digest is the HMAC, under the machine's proof, of its kind, its deadline, the count of
-- resets, its cpHashA, its policyRef and its Name. One of PolicySecret is of no index, whose Name changes when it is
-- first written.
pub record IsGenuine (setup : Setup) (held : HeldTicket) : Type 0 where
  pub digest : held.digest
      ≡ auth_ticket (proof_of setup.seed) (tag_of_ticket held.signed) held.deadline held.reset_count
      (optional_bytes held.cp_hash) held.policy_ref held.key
  pub lasts : held.signed ≡ false
      → IfSome (entity_of_name (directory_of setup) held.key) (λ handle. is_index handle ≡ false)

-- The machine takes it after these events: its count is that of the machine's resets, and its deadline has not passed.
pub record IsUsable (setup : Setup) (past : List Event) (held : HeldTicket) : Type 0 where
  pub genuine : IsGenuine setup held
  pub count : held.reset_count ≡ reset_count_of setup past
  pub timely : time_of setup past ≤ held.deadline

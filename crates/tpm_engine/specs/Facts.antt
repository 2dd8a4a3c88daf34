-- The policy commands: through which session each comes, and the fact that the session keeps of it (TPM 2.0
-- Part 3, "Enhanced Authorization Commands").
use Rattle.std.specs.Prelude.{ℕ, List, Option, Some, None}
use Rattle.tpol_base.specs.declared.digest.Digest32.{Digest32}
use Rattle.tpol_tree.specs.declared.closed.Assertion.TheVariants.{Nv}
use Rattle.tpol_tree.specs.declared.facts.Fact.{Fact}
use Rattle.tpol_tree.specs.declared.path.Move.TheVariants.{ApproveNv, Assert}
use Rattle.tpol_wire.specs.declared.command.Command.{Command}
use Rattle.tpol_wire.specs.declared.command.Command.TheVariants as commands
use Rattle.tpol_digest.specs.Digest.{digest_of_moves}
use Rattle.tpm_bindings.specs.Facts.{moves_of}
use Rattle.tpm_bindings.specs.Merged.{fact_of}
use Rattle.tpm_pcr.specs.Pcrs.{selection_digest}
use Rattle.tpm_rules.specs.PolicyAuthValue.{policy_auth_value_fact, policy_password_fact, policy_physical_presence_fact}
use Rattle.tpm_rules.specs.PolicyAuthorize.{policy_authorize_fact}
use Rattle.tpm_rules.specs.PolicyCommandCode.{policy_command_code_fact}
use Rattle.tpm_rules.specs.PolicyCounterTimer.{policy_counter_timer_fact}
use Rattle.tpm_rules.specs.PolicyCpHash.{policy_cp_hash_fact}
use Rattle.tpm_rules.specs.PolicyDuplicationSelect.{policy_duplication_select_fact}
use Rattle.tpm_rules.specs.PolicyLocality.{policy_locality_fact}
use Rattle.tpm_rules.specs.PolicyNameHash.{policy_name_hash_fact}
use Rattle.tpm_rules.specs.PolicyNvWritten.{policy_nv_written_fact}
use Rattle.tpm_rules.specs.PolicyOr.{policy_or_fact}
use Rattle.tpm_rules.specs.PolicyPcr.{policy_pcr_fact}
use Rattle.tpm_rules.specs.PolicySecret.{policy_secret_fact}
use Rattle.tpm_rules.specs.PolicySigned.{policy_signed_fact}
use Rattle.tpm_rules.specs.PolicyTicket.{policy_ticket_fact}
use Rattle.tpm_world.specs.Entities.{name_at}
use Rattle.tpm_world.specs.World.{WorldState}

-- what a fact is made of beside its command
pub record Moment : Type 0 where
  -- the machine without its sessions
  pub world : WorldState
  -- the number of the event
  pub number : ℕ
  -- the time at the session's start, and its policyDigest
  pub start : ℕ
  pub digest : Digest32

-- through a session that started at this time and has these facts
abbrev pub moment : WorldState → ℕ → ℕ → List Fact → Moment
moment world number start facts =
    record { world = world; number = number; start = start; digest = digest_of_moves (moves_of facts) }

-- what a policy command shows: its session, and the fact
abbrev pub Shown : Type 0
Shown = ℕ × (Moment → Fact)

-- none for the commands that are no policy commands
abbrev pub shown_by : Command → Option Shown
shown_by (commands.PolicyNv authority index session auth operand offset operation) =
    Some (session, λ now. fact_of now.number (Assert (Nv (name_at now.world index) operand offset operation)) None None)
shown_by (commands.PolicyCpHash session digest) = Some (session, λ now. policy_cp_hash_fact now.number digest)
shown_by (commands.PolicyNameHash session digest) = Some (session, λ now. policy_name_hash_fact now.number digest)
shown_by (commands.PolicyAuthValue session) = Some (session, λ now. policy_auth_value_fact now.number)
shown_by (commands.PolicyPassword session) = Some (session, λ now. policy_password_fact now.number)
shown_by (commands.PolicyPhysicalPresence session) = Some (session, λ now. policy_physical_presence_fact now.number)
shown_by (commands.PolicyCommandCode session code) = Some (session, λ now. policy_command_code_fact now.number code)
shown_by (commands.PolicyCounterTimer session operand offset operation) =
    Some (session, λ now. policy_counter_timer_fact now.number operand offset operation)
shown_by (commands.PolicyLocality session locality) = Some (session, λ now. policy_locality_fact now.number locality)
shown_by (commands.PolicyPcr session given mask) =
    Some (session, λ now. policy_pcr_fact now.number mask (selection_digest now.world.pcrs.values mask))
shown_by (commands.PolicyDuplicationSelect session object parent include) =
    Some (session, λ now. policy_duplication_select_fact now.number object parent include)
shown_by (commands.PolicyNvWritten session written) = Some (session, λ now. policy_nv_written_fact now.number written)
shown_by (commands.PolicySigned key session nonce cp_hash policy_ref expiration signature) =
    Some (session, λ now. policy_signed_fact now.number now.start (name_at now.world key) nonce cp_hash policy_ref expiration)
shown_by (commands.PolicySecret entity session auth nonce cp_hash policy_ref expiration) =
    Some (session, λ now. policy_secret_fact now.number now.start (name_at now.world entity) nonce cp_hash policy_ref expiration)
shown_by (commands.PolicyTicket session timeout cp_hash policy_ref key ticket) =
    Some (session, λ now. policy_ticket_fact now.number ticket.tag timeout key policy_ref cp_hash)
shown_by (commands.PolicyAuthorize session approved policy_ref key ticket) =
    Some (session, λ now. policy_authorize_fact now.number key policy_ref approved)
shown_by (commands.PolicyOr session digests) = Some (session, λ now. policy_or_fact now.number digests)
shown_by (commands.PolicyAuthorizeNv authority index session auth) =
    Some (session, λ now. fact_of now.number (ApproveNv (name_at now.world index) now.digest) None None)
shown_by _ = None

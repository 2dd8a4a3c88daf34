-- A policy command's fact, and what becomes of the tables by it.
use Rattle.std.proofs.Common.{◌≡◌, ℕ, ◌==◌, Bool, true, false, List, Option, None, Some, IfSome, is_some, cond, refl, ap, sym, ◌∙◌}
use Rattle.std.specs.Prelude.{pos}
use Rattle.std.specs.Option.{option_map, option_map_or}
use Rattle.std.specs.Prelude.{MatchOption}
use Rattle.std.proofs.lemmas.Option.{none-some, same_Some}
use Rattle.tpol_base.specs.declared.digest.Digest32.{Digest32}
use Rattle.tpol_base.specs.declared.name.Name.{Name}
use Rattle.tpol_base.specs.Constants.{st_auth_secret}
use Rattle.tpol_base.specs.ResponseCode.{rc_reference_h0}
use Rattle.tpol_tree.specs.declared.closed.Assertion.TheVariants.{Secret, Signed}
use Rattle.tpol_tree.specs.declared.facts.Fact.{Fact}
use Rattle.tpol_tree.specs.declared.path.Move.{Move}
use Rattle.tpol_tree.specs.declared.path.Move.TheVariants.{Assert}
use Rattle.tpol_wire.specs.declared.command.Command.{Command}
use Rattle.tpol_wire.specs.declared.command.Command.TheVariants as commands
use Rattle.tpol_fields.specs.declared.ticket.Ticket.{Ticket}
use Rattle.tpm_bindings.specs.Facts.{is_pcr}
use Rattle.tpm_bindings.specs.State.{SessionState}
use Rattle.tpm_context.specs.Saved.{AreApart}
use Rattle.tpm_policy.specs.Asserted.{with_one_more}
use Rattle.tpm_policy.specs.Judgments.{is_auth_ticket}
use Rattle.tpm_rules.specs.PolicyTicket.{policy_ticket_rule}
use Rattle.tpm_session.specs.Kept.{SessionView, counter_after, with_fact}
use Rattle.tpm_session.specs.Slots.{is_live, session_at, state_at, with_state}
use Rattle.tpm_session.proofs.Slots.{found-state}
use Rattle.tpol_wire.specs.Handles.{policy_session_of}
use Rattle.tpm_world.specs.Hashes.{proof_of}
use Rattle.tpm_world.specs.World.{WorldState}
use Rattle.tpm_engine.specs.Deeds.{Shows, after_deed, command_deed, plain_deed, with_shown}
use Rattle.tpm_engine.specs.Facts.{Moment, Shown, moment, shown_by}
use Rattle.tpm_engine.specs.PolicyCommands.{policy_command_rule, policy_rule, ticket_rule}
use Rattle.tpm_engine.specs.Responses.{kept_counter}
use Rattle.tpm_engine.specs.Tables.{TableState}
use Rattle.tpm_engine.proofs.OwnRules.{session-rule}
use Rattle.tpm_engine.proofs.Slotted.{changed-live, tables_of}
use Rattle.tpm_engine.proofs.Stopping.{map-none}

-- ---- the session of a policy command

abbrev pub first : {A B : Type 0} → Option (A × B) → Option A
first o = option_map (λ pair. pair.0) o

pub same-session : (command : Command) → first (shown_by command) ≡ first (policy_session_of command)
same-session (commands.StartAuthSession tpm_key bind nonce) = refl
same-session _ = refl

-- ---- the counter that is kept with a fact

other-counter : (counter : Option ℕ) (act : Move) (a b : ℕ) → is_pcr act ≡ false → counter_after counter act a ≡ counter_after counter act b
other-counter (Some first) act a b h = refl
other-counter None act a b h = rw h refl

ticket-counter : (secret : Bool) (key : Name) (policy_ref : List ℕ) (cp_hash : Option Digest32)
    → is_pcr (Assert (cond secret (Secret key policy_ref cp_hash (pos 0)) (Signed key policy_ref cp_hash (pos 0)))) ≡ false
ticket-counter true key policy_ref cp_hash = refl
ticket-counter false key policy_ref cp_hash = refl

abbrev pub SameCounter : WorldState → ℕ → Option ℕ → Move → Type 0
SameCounter world kept counter act = counter_after counter act kept ≡ counter_after counter act world.pcrs.counter

pub same-counter : (world : WorldState) (command : Command) (counter : Option ℕ) (now : Moment)
    → IfSome (shown_by command) (λ shown. SameCounter world (kept_counter world command) counter (shown.1 now).act)
same-counter world (commands.PolicyNv authority index session auth operand offset operation) counter now = other-counter counter _ 0 world.pcrs.counter refl
same-counter world (commands.PolicyCpHash session digest) counter now = other-counter counter _ 0 world.pcrs.counter refl
same-counter world (commands.PolicyNameHash session digest) counter now = other-counter counter _ 0 world.pcrs.counter refl
same-counter world (commands.PolicyAuthValue session) counter now = other-counter counter _ 0 world.pcrs.counter refl
same-counter world (commands.PolicyPassword session) counter now = other-counter counter _ 0 world.pcrs.counter refl
same-counter world (commands.PolicyPhysicalPresence session) counter now = other-counter counter _ 0 world.pcrs.counter refl
same-counter world (commands.PolicyCommandCode session code) counter now = other-counter counter _ 0 world.pcrs.counter refl
same-counter world (commands.PolicyCounterTimer session operand offset operation) counter now = other-counter counter _ 0 world.pcrs.counter refl
same-counter world (commands.PolicyLocality session locality) counter now = other-counter counter _ 0 world.pcrs.counter refl
same-counter world (commands.PolicyPcr session given mask) counter now = refl
same-counter world (commands.PolicyDuplicationSelect session object parent include) counter now = other-counter counter _ 0 world.pcrs.counter refl
same-counter world (commands.PolicyNvWritten session written) counter now = other-counter counter _ 0 world.pcrs.counter refl
same-counter world (commands.PolicySigned key session nonce cp_hash policy_ref expiration signature) counter now = other-counter counter _ 0 world.pcrs.counter refl
same-counter world (commands.PolicySecret entity session auth nonce cp_hash policy_ref expiration) counter now = other-counter counter _ 0 world.pcrs.counter refl
same-counter world (commands.PolicyTicket session timeout cp_hash policy_ref key ticket) counter now =
    other-counter counter _ 0 world.pcrs.counter (ticket-counter (ticket.tag == st_auth_secret) key policy_ref cp_hash)
same-counter world (commands.PolicyAuthorize session approved policy_ref key ticket) counter now = other-counter counter _ 0 world.pcrs.counter refl
same-counter world (commands.PolicyOr session digests) counter now = other-counter counter _ 0 world.pcrs.counter refl
same-counter world (commands.PolicyAuthorizeNv authority index session auth) counter now = other-counter counter _ 0 world.pcrs.counter refl
same-counter world _ counter now = tt

-- ---- the tables

state-of-counter : (state : SessionState) (fact : Fact) (a b : ℕ) → counter_after state.counter fact.act a ≡ counter_after state.counter fact.act b
    → with_fact state fact a ≡ with_fact state fact b
state-of-counter state fact a b same = ap (λ (counter : Option ℕ). keep counter) same
  where
    keep : Option ℕ → SessionState
    keep counter = record (with_fact state fact a) { counter = counter }

pub live-found : (slots : List (Option SessionState)) (handle : ℕ) (session : SessionView) → Some session ≡ session_at slots handle → is_live slots handle ≡ true
live-found slots handle session found = ap is_some (found-state slots handle session found).1

shown-tables : (tables : TableState) (number : ℕ) (command : Command) (reply : List ℕ) (own : ℕ × ℕ) (session after : SessionView)
    → AreApart tables.sessions tables.saved → policy_session_of command ≡ Some own → Some session ≡ session_at tables.sessions own.0
    → IfSome (shown_by command) (λ shown. after ≡ with_one_more session (shown.1 (moment tables.world number session.state.start session.state.facts)) (kept_counter tables.world command))
    → tables_of tables.world (with_state tables.sessions own.0 (Some after.state)) tables.saved ≡ after_deed number (command_deed command reply) tables
shown-tables tables number command reply own session after apart policy found does =
    at (shown_by command) refl (same-counter tables.world command session.state.counter now) does
  where
    now : Moment
    now = moment tables.world number session.state.start session.state.facts

    one : (shown : Shown) → shown_by command ≡ Some shown → counter_after session.state.counter (shown.1 now).act (kept_counter tables.world command) ≡ counter_after session.state.counter (shown.1 now).act tables.world.pcrs.counter
        → after ≡ with_one_more session (shown.1 now) (kept_counter tables.world command)
        → tables_of tables.world (with_state tables.sessions own.0 (Some after.state)) tables.saved
        ≡ after_deed number (option_map_or (λ s. Shows s.0 s.1) (shown_by command) (plain_deed command reply)) tables
    one shown is same after-is =
        let here : shown.0 ≡ own.0 = same_Some _ _ (sym (ap first is) ∙ (same-session command ∙ ap first policy)) in
        let state : after.state ≡ with_shown tables.world number shown.1 session.state =
        ap (λ (s : SessionView). s.state) after-is ∙ state-of-counter session.state (shown.1 now) (kept_counter tables.world command) tables.world.pcrs.counter same in
        ap (λ s. tables_of tables.world (with_state tables.sessions own.0 (Some s)) tables.saved) state
        ∙ (ap (λ content. tables_of tables.world (with_state tables.sessions own.0 (option_map (with_shown tables.world number shown.1) content)) tables.saved)
        (sym (found-state tables.sessions own.0 session found).1)
        ∙ (changed-live tables own.0 (with_shown tables.world number shown.1) apart (live-found tables.sessions own.0 session found)
        ∙ (ap (λ h. after_deed number (Shows h shown.1) tables) (sym here)
        ∙ sym (ap (λ o. after_deed number (option_map_or (λ s. Shows s.0 s.1) o (plain_deed command reply)) tables) is))))

    at : (o : Option Shown) → shown_by command ≡ o → IfSome o (λ shown. SameCounter tables.world (kept_counter tables.world command) session.state.counter (shown.1 now).act)
        → IfSome o (λ shown. after ≡ with_one_more session (shown.1 now) (kept_counter tables.world command))
        → tables_of tables.world (with_state tables.sessions own.0 (Some after.state)) tables.saved ≡ after_deed number (command_deed command reply) tables
    at None e same after-is = absurd (none-some own.0 (sym (ap first e) ∙ (same-session command ∙ ap first policy)))
    at (Some shown) e same after-is = one shown e same after-is

-- the session of a command whose rule holds is live, and one that a call changes by the command's fact gives the tables
-- after it
pub changed-tables : {Changes : SessionView → SessionView → Type 0} (tables : TableState) (number : ℕ) (command : Command) (reply : List ℕ) (own : ℕ × ℕ) (slots : List (Option SessionState))
    → AreApart tables.sessions tables.saved → policy_session_of command ≡ Some own → policy_command_rule tables command ≡ None
    → ((before after : SessionView) → Changes before after
    → IfSome (shown_by command) (λ shown. after ≡ with_one_more before (shown.1 (moment tables.world number before.state.start before.state.facts)) (kept_counter tables.world command)))
    → MatchOption (session_at tables.sessions own.0) (slots ≡ tables.sessions)
    (λ before. (after : SessionView) × Changes before after × (slots ≡ with_state tables.sessions own.0 (Some after.state)))
    → tables_of tables.world slots tables.saved ≡ after_deed number (command_deed command reply) tables
changed-tables {Changes} tables number command reply own slots apart policy rule shows told = at (session_at tables.sessions own.0) refl told
  where
    none : option_map_or (λ state. policy_rule tables.world state command) (state_at tables.sessions own.0) (Some rc_reference_h0) ≡ None
    none = sym (session-rule tables command own policy) ∙ rule

    at : (o : Option SessionView) → session_at tables.sessions own.0 ≡ o
        → MatchOption o (slots ≡ tables.sessions) (λ before. (after : SessionView) × Changes before after × (slots ≡ with_state tables.sessions own.0 (Some after.state)))
        → tables_of tables.world slots tables.saved ≡ after_deed number (command_deed command reply) tables
    at None e same =
        absurd (none-some rc_reference_h0
        (sym none ∙ ap (λ (o : Option SessionState). option_map_or (λ state. policy_rule tables.world state command) o (Some rc_reference_h0)) (map-none _ (state_at tables.sessions own.0) e)))
    at (Some before) e changed =
        ap (λ s. tables_of tables.world s tables.saved) changed.2
        ∙ shown-tables tables number command reply own before changed.0 apart policy (sym e) (shows before changed.0 changed.1)

-- the rule of PolicyTicket over what the world tells
pub ticket-rule : (world : WorldState) (session : SessionState) (time count : ℕ) (proof : Digest32) (bytes : List ℕ) (timeout : ℕ) (cp_hash : Option Digest32) (policy_ref : List ℕ) (key : Name) (ticket : Ticket)
    → time ≡ world.time → proof ≡ proof_of world.seed → count ≡ world.reset_count → bytes ≡ ticket.digest
    → policy_ticket_rule session time timeout cp_hash (is_auth_ticket proof count timeout cp_hash policy_ref key ticket.tag ticket.hierarchy bytes)
    ≡ ticket_rule world session timeout cp_hash policy_ref key ticket
ticket-rule world session time count proof bytes timeout cp_hash policy_ref key ticket t p c b =
    ap (λ (n : ℕ). policy_ticket_rule session n timeout cp_hash (is_auth_ticket proof count timeout cp_hash policy_ref key ticket.tag ticket.hierarchy bytes)) t
    ∙ (ap (λ (d : Digest32). policy_ticket_rule session world.time timeout cp_hash (is_auth_ticket d count timeout cp_hash policy_ref key ticket.tag ticket.hierarchy bytes)) p
    ∙ (ap (λ (n : ℕ). policy_ticket_rule session world.time timeout cp_hash (is_auth_ticket (proof_of world.seed) n timeout cp_hash policy_ref key ticket.tag ticket.hierarchy bytes)) c
    ∙ ap (λ (l : List ℕ). policy_ticket_rule session world.time timeout cp_hash (is_auth_ticket (proof_of world.seed) world.reset_count timeout cp_hash policy_ref key ticket.tag ticket.hierarchy l)) b))

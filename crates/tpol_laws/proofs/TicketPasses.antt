-- PolicyTicket in the place of PolicySecret and PolicySigned: where nothing blocks the move for a chooser the machine takes
-- a ticket of its own that stands for it, and the session is shown a fact that binds what the chooser's does.
use Rattle.std.proofs.Common.{◌≡◌, ◌<◌, ◌≤◌, inl, inr, ℕ, ◌+◌, Bool, true, false, List, length, nat_le, refl, ap, sym, subst, ◌∙◌, arith}
use Rattle.std.specs.Prelude.{ℤ, pos, IfSome, Option, Some, None}
use Rattle.std.proofs.lemmas.Bool.{false≢true}
use Rattle.std.proofs.lemmas.Bool.Decides.{nat_tests}
use Rattle.std.proofs.lemmas.Option.{none-some}
use Rattle.std.proofs.lemmas.Slice.Eq.{bytes_eq-Decides}
use Rattle.std.specs.Str.{bytes_eq}
use Rattle.tpol_base.specs.declared.command_code.CommandCode.TheVariants as codes
use Rattle.tpol_base.specs.declared.digest.Digest32.{Digest32}
use Rattle.tpol_base.specs.declared.name.Name.{Name}
use Rattle.tpol_base.specs.Digest.{optional_bytes}
use Rattle.tpol_base.specs.Handle.{is_index, rh_owner}
use Rattle.tpol_base.specs.ResponseCode.{of_parameter, rc_cphash, rc_expired, rc_ticket}
use Rattle.tpol_choose.specs.Entities.{EntityAt, entity_of_name as entity_at_name}
use Rattle.tpol_choose.specs.Facts.{name_of_found}
use Rattle.tpol_choose.specs.Keys.{is_same_block}
use Rattle.tpol_choose.specs.Moves.{move_block, password_rule, secret_block, signed_block, signing_block}
use Rattle.tpol_driver.specs.declared.tickets.HeldTicket.{HeldTicket}
use Rattle.tpol_driver.specs.Tickets.{stands_for, tag_of_ticket, ticket_command}
use Rattle.tpol_goal.specs.declared.goal.Goal.{Goal}
use Rattle.tpol_goal.specs.declared.grants.Grants.{Grants}
use Rattle.tpol_goal.specs.Entities.{entity_of_name, object_in_sight}
use Rattle.tpol_goal.specs.Grants.{granted}
use Rattle.tpol_name.specs.declared.entries.ObjectEntry.{ObjectEntry}
use Rattle.tpol_name.specs.declared.setup.Setup.{Setup}
use Rattle.tpol_name.specs.Directories.{directory_of}
use Rattle.tpol_name.specs.Setups.{IsSetup}
use Rattle.tpol_tree.specs.declared.closed.Assertion.TheVariants as assertions
use Rattle.tpol_tree.specs.declared.path.Move.{Move}
use Rattle.tpol_tree.specs.declared.path.Move.TheVariants.{Assert}
use Rattle.tpm_auth.specs.Tickets.{auth_ticket}
use Rattle.tpm_bindings.specs.Facts.{is_before}
use Rattle.tpm_bindings.specs.State.{SessionState}
use Rattle.tpm_engine.specs.declared.event.Event.{Event}
use Rattle.tpm_engine.specs.Answers.{first_stop}
use Rattle.tpm_engine.specs.Tables.{TableState}
use Rattle.tpm_engine.specs.Views.{reset_count_of, world_at}
use Rattle.tpm_engine.proofs.Stopping.{map-none, or_else-none, unless-none}
use Rattle.tpm_policy.specs.Judgments.{is_auth_ticket}
use Rattle.tpm_rules.specs.Deadline.{deadline_of}
use Rattle.tpm_rules.specs.Objects.{signing_key_rule}
use Rattle.tpm_rules.specs.PolicySecret.{policy_secret_rule}
use Rattle.tpm_rules.specs.PolicySigned.{policy_signed_rule}
use Rattle.tpm_rules.specs.PolicyTicket.{policy_ticket_fact, policy_ticket_rule}
use Rattle.tpm_rules.specs.Rule.{or_else, unless}
use Rattle.tpm_rules.specs.Slot.{takes_optional_cp_hash}
use Rattle.tpm_session.specs.Slots.{IsSlotHandle, state_at}
use Rattle.tpm_world.specs.Entities.{name_at}
use Rattle.tpm_world.specs.Hashes.{proof_of}
use Rattle.tpm_world.specs.World.{WorldState, sight_of}
use Rattle.tpol_laws.specs.HeldTickets.{IsUsable}
use Rattle.tpol_laws.proofs.Alike.{before-deadline, optional-alike}
use Rattle.tpol_laws.proofs.Binds.{AreAlike, bind_of}
use Rattle.tpol_laws.proofs.Fit.{index-kind}
use Rattle.tpol_laws.proofs.HeldTickets.{IsTicketFor, secret-ticket, signed-ticket}
use Rattle.tpol_laws.proofs.Named.{FoundEntity, entity-found}
use Rattle.tpol_laws.proofs.Own.{IsOf, hierarchy-name-at, object-name-at}
use Rattle.tpol_laws.proofs.Passing.{Passes, client_on}
use Rattle.tpol_laws.proofs.Seen.{name-as-is, see-entity}
use Rattle.tpol_laws.proofs.Unstopped.{plain-unstopped}

-- ---- tickets that the machine takes in this world

pub record IsTaken (setup : Setup) (world : WorldState) (held : HeldTicket) : Type 0 where
  pub right : is_auth_ticket (proof_of world.seed) world.reset_count held.deadline held.cp_hash held.policy_ref held.key (tag_of_ticket held.signed) rh_owner held.digest.bytes ≡ true
  pub timely : world.time ≤ held.deadline
  pub lasts : held.signed ≡ false → IfSome (entity_of_name (directory_of setup) held.key) (λ handle. is_index handle ≡ false)

right-by : (signed : Bool) (proof : Digest32) (count deadline : ℕ) (cp_hash : Option Digest32) (policy_ref : List ℕ) (key : Name) (digest : List ℕ)
    → bytes_eq digest (auth_ticket proof (tag_of_ticket signed) deadline count (optional_bytes cp_hash) policy_ref key).bytes ≡ true
    → is_auth_ticket proof count deadline cp_hash policy_ref key (tag_of_ticket signed) rh_owner digest ≡ true
right-by true proof count deadline cp_hash policy_ref key digest same = same
right-by false proof count deadline cp_hash policy_ref key digest same = same

pub taken : (setup : Setup) (past : List Event) (held : HeldTicket) → IsUsable setup past held → IsTaken setup (world_at setup past) held
unfolding world_at
taken setup past held usable = record {
  right = right-by held.signed (proof_of setup.seed) (reset_count_of setup past) held.deadline held.cp_hash held.policy_ref held.key held.digest.bytes
      ((bytes_eq-Decides _ _).1
      (ap (λ (d : Digest32). d.bytes) usable.genuine.digest
      ∙ ap (λ (n : ℕ). (auth_ticket (proof_of setup.seed) (tag_of_ticket held.signed) held.deadline n (optional_bytes held.cp_hash) held.policy_ref held.key).bytes) usable.count));
  timely = usable.timely;
  lasts = usable.genuine.lasts;
}

-- ---- rules

-- the slot that takes the chooser's PolicySecret takes the ticket
slot-takes : (chosen : SessionState) (time : ℕ) (nonce : List ℕ) (cp_hash : Option Digest32) (expiration : ℤ) → policy_secret_rule chosen time nonce cp_hash expiration ≡ None → takes_optional_cp_hash chosen.facts cp_hash ≡ true
slot-takes chosen time nonce cp_hash expiration rule = unless-none _ _ (or_else-none _ _ (or_else-none _ _ rule).1).1

ticket-holds : (kept chosen : SessionState) → AreAlike kept chosen → (time deadline : ℕ) (cp_hash : Option Digest32) (right : Bool)
    → takes_optional_cp_hash chosen.facts cp_hash ≡ true → nat_le time deadline ≡ true → right ≡ true → policy_ticket_rule kept time deadline cp_hash right ≡ None
ticket-holds kept chosen alike time deadline cp_hash right takes early is =
    ap (λ b. or_else (unless b (rc_expired + of_parameter 1)) (or_else (unless (takes_optional_cp_hash kept.facts cp_hash) rc_cphash) (unless right (rc_ticket + of_parameter 5)))) early
    ∙ ap (λ b. or_else (unless b rc_cphash) (unless right (rc_ticket + of_parameter 5))) (optional-alike kept chosen alike cp_hash ∙ takes)
    ∙ ap (λ b. unless b (rc_ticket + of_parameter 5)) is

-- the Name of what is no index stays
pub lasting-name : (setup : Setup) (world : WorldState) (name : Name) (handle : ℕ) → IsOf setup world → FoundEntity setup name handle → is_index handle ≡ false → name_at world handle ≡ name
lasting-name setup world name handle of (inl hierarchy) apart = hierarchy-name-at world handle hierarchy.is ∙ sym hierarchy.named
lasting-name setup world name handle of (inr (inl object)) apart = object-name-at setup world name handle of object
lasting-name setup world name handle of (inr (inr index)) apart = absurd (false≢true (sym apart ∙ index-kind handle index.low index.high))

-- ---- each kind

module _ (setup : Setup) (is : IsSetup setup) (tables : TableState) (of : IsOf setup tables.world) (free : ℕ) (grants : Grants) (goal : Goal) (locality own : ℕ) (slot : IsSlotHandle own) (kept : SessionState) (live : state_at tables.sessions own ≡ Some kept) (few : length kept.facts < 512) (nonce : Digest32) (chosen : SessionState) (alike : AreAlike kept chosen) (since : chosen.start ≡ tables.world.time)
    (held : HeldTicket) (takes : IsTaken setup tables.world held) where
  abbrev Passed : Move → Type 0
  Passed act = Passes tables locality own kept (client_on tables.world free grants goal locality) chosen act (ticket_command (record { handle = own; nonce = nonce }) held)

  early : nat_le tables.world.time held.deadline ≡ true
  early =
      let timely : tables.world.time ≤ held.deadline = takes.timely in
      grind (arith, nat_tests, timely)

  -- nothing stops it where the slot takes its cpHashA
  ticket-unstopped : takes_optional_cp_hash chosen.facts held.cp_hash ≡ true → first_stop tables locality (ticket_command (record { handle = own; nonce = nonce }) held) ≡ None
  ticket-unstopped free_slot =
      plain-unstopped tables locality own kept live few slot (ticket_command (record { handle = own; nonce = nonce }) held) refl refl refl
      (ticket-holds kept chosen alike tables.world.time held.deadline held.cp_hash _ free_slot early takes.right)

  -- both deadlines lie behind the session's start
  timely-both : (expiration : ℤ) → is_before chosen.start (Some held.deadline) ≡ is_before chosen.start (deadline_of chosen.start chosen.nonce.bytes expiration)
  timely-both expiration = ap (λ (n : ℕ). nat_le n held.deadline) since ∙ early ∙ sym (before-deadline chosen.start chosen.nonce expiration)

  secret-passes : (name : Name) (policy_ref : List ℕ) (cp_hash : Option Digest32) (expiration : ℤ) → IsTicketFor held false name policy_ref cp_hash
      → (found : EntityAt) → entity_at_name (sight_of tables.world free) name ≡ Some found → policy_secret_rule chosen tables.world.time chosen.nonce.bytes cp_hash expiration ≡ None
      → Passed (Assert (assertions.Secret name policy_ref cp_hash expiration))
  secret-passes name policy_ref cp_hash expiration it found shown rule =
      let seen = see-entity setup is tables.world of free name found shown in
      let apart : is_index found.handle ≡ false = subst (λ (o : Option ℕ). IfSome o (λ handle. is_index handle ≡ false)) (ap (entity_of_name (directory_of setup)) it.key ∙ seen.listed) (takes.lasts it.kind) in
      let stays = lasting-name setup tables.world name found.handle of (entity-found setup is name found.handle seen.listed) apart in
      let names : name_of_found name (entity_at_name (sight_of tables.world free) name) ≡ name = ap (name_of_found name) shown ∙ sym (name-as-is tables.world found.handle found.entity seen.there) ∙ stays in
      record {
        first = ticket-unstopped (ap (takes_optional_cp_hash chosen.facts) it.limit ∙ slot-takes chosen tables.world.time chosen.nonce.bytes cp_hash expiration rule);
        fact = _;
        shows = refl;
        same = λ number.
            (λ i. bind_of (policy_ticket_fact number (tag_of_ticket (it.kind i)) held.deadline (it.key i) (it.reference i) (it.limit i)))
            ∙ (λ i. record { event = 0; act = Assert (assertions.Secret (sym names i) policy_ref cp_hash (pos 0)); cp_hash = cp_hash; deadline = None });
        in_time = λ number. timely-both expiration;
      }

  signed-passes : (name : Name) (policy_ref : List ℕ) (cp_hash : Option Digest32) (expiration : ℤ) → IsTicketFor held true name policy_ref cp_hash
      → policy_secret_rule chosen tables.world.time chosen.nonce.bytes cp_hash expiration ≡ None
      → Passed (Assert (assertions.Signed name policy_ref cp_hash expiration))
  signed-passes name policy_ref cp_hash expiration it rule = record {
    first = ticket-unstopped (ap (takes_optional_cp_hash chosen.facts) it.limit ∙ slot-takes chosen tables.world.time chosen.nonce.bytes cp_hash expiration rule);
    fact = _;
    shows = refl;
    same = λ number i. bind_of (policy_ticket_fact number (tag_of_ticket (it.kind i)) held.deadline (it.key i) (it.reference i) (it.limit i));
    in_time = λ number. timely-both expiration;
  }

  secret-found : (name : Name) (policy_ref : List ℕ) (cp_hash : Option Digest32) (expiration : ℤ) → IsTicketFor held false name policy_ref cp_hash
      → (o : Option EntityAt) → entity_at_name (sight_of tables.world free) name ≡ o → secret_block (client_on tables.world free grants goal locality) chosen cp_hash expiration o ≡ None
      → Passed (Assert (assertions.Secret name policy_ref cp_hash expiration))
  secret-found name policy_ref cp_hash expiration it None e opens = absurd (none-some _ (sym opens))
  secret-found name policy_ref cp_hash expiration it (Some found) e opens =
      secret-passes name policy_ref cp_hash expiration it found e
      (or_else-none (password_rule grants found codes.PolicySecret) (policy_secret_rule chosen tables.world.time chosen.nonce.bytes cp_hash expiration) (map-none _ _ opens)).1

  signed-found : (name : Name) (policy_ref : List ℕ) (cp_hash : Option Digest32) (expiration : ℤ) → IsTicketFor held true name policy_ref cp_hash
      → (object : ObjectEntry) (key : Option (List ℕ)) → signing_block (client_on tables.world free grants goal locality) chosen cp_hash expiration object key ≡ None
      → Passed (Assert (assertions.Signed name policy_ref cp_hash expiration))
  signed-found name policy_ref cp_hash expiration it object None opens = absurd (none-some _ (sym opens))
  signed-found name policy_ref cp_hash expiration it object (Some key) opens =
      let parts = or_else-none (signing_key_rule object.public) (policy_signed_rule chosen tables.world.time chosen.nonce.bytes cp_hash expiration (is_same_block key object.secret)) (map-none _ _ opens) in
      signed-passes name policy_ref cp_hash expiration it (or_else-none (policy_secret_rule chosen tables.world.time chosen.nonce.bytes cp_hash expiration) _ parts.1).0

  signer-found : (name : Name) (policy_ref : List ℕ) (cp_hash : Option Digest32) (expiration : ℤ) → IsTicketFor held true name policy_ref cp_hash
      → (o : Option ObjectEntry) → signed_block (client_on tables.world free grants goal locality) chosen cp_hash expiration o ≡ None
      → Passed (Assert (assertions.Signed name policy_ref cp_hash expiration))
  signer-found name policy_ref cp_hash expiration it None opens = absurd (none-some _ (sym opens))
  signer-found name policy_ref cp_hash expiration it (Some object) opens =
      signed-found name policy_ref cp_hash expiration it object (granted grants.keys object.handle) opens

  -- a move that the ticket stands for
  pub ticket-passes : (act : Move) → stands_for held act ≡ true → move_block (client_on tables.world free grants goal locality) chosen act ≡ None → Passed act
  ticket-passes (Assert (assertions.Secret name policy_ref cp_hash expiration)) stands opens =
      secret-found name policy_ref cp_hash expiration (secret-ticket held name policy_ref cp_hash stands) (entity_at_name (sight_of tables.world free) name) refl opens
  ticket-passes (Assert (assertions.Signed name policy_ref cp_hash expiration)) stands opens =
      signer-found name policy_ref cp_hash expiration (signed-ticket held name policy_ref cp_hash stands) (object_in_sight (sight_of tables.world free) name) opens
  ticket-passes act stands opens = absurd (false≢true stands)

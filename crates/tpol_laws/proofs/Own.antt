-- What each policy command of a run is: within the bounds of the wire, by a password or by no authorization, and
-- where it succeeds the session is shown a fact that hashes what the move hashes.
use Rattle.std.proofs.Common.{◌≡◌, ◌≤◌, inl, inr, ℕ, ◌/◌, ◌||◌, ◌^◌, ◌<◌, Bool, true, false, List, ◌++◌, length, map, nat_eq, refl, ap, sym, subst, ◌∙◌, arith}
use Rattle.std.specs.Prelude.{ℤ, Option, Some, None, IfSome, is_some, nat_lt, option_map, if◌then◌else◌, ⊤}
use Rattle.std.specs.Option.{option_and_then, option_map_or}
use Rattle.std.proofs.lemmas.Bool.{eqb-true, false≢true}
use Rattle.std.proofs.lemmas.Bool.Decides.{nat_tests}
use Rattle.std.proofs.lemmas.Option.{none-some}
use Rattle.std.proofs.lemmas.Slice.Eq.{bytes_eq-Decides}
use Rattle.tpol_base.specs.declared.compare.Compare.{Compare}
use Rattle.tpol_base.specs.declared.digest.Digest32.{Digest32}
use Rattle.tpol_base.specs.declared.handle.HandleKind.{HandleKind}
use Rattle.tpol_base.specs.declared.handle.HandleKind.TheVariants as kinds
use Rattle.tpol_base.specs.declared.name.Name.{Name}
use Rattle.tpol_base.specs.declared.name.Name.TheVariants.{Handle}
use Rattle.tpol_base.specs.Digest.{optional_bytes}
use Rattle.tpol_base.specs.Handle.{is_index, kind_of_handle, rh_endorsement, rh_lockout, rh_owner}
use Rattle.tpol_base.specs.Name.{name_bytes}
use Rattle.tpol_base.specs.ResponseCode.{rc_reference_h0}
use Rattle.tpol_digest.specs.Laws.{MoveHasBounds}
use Rattle.tpol_digest.specs.Update.{comparison, from_zero, hash_of_inner, one_hash, pcr_selection, two_hashes, update_of}
use Rattle.tpol_driver.specs.Commands.{command_of_assertion, command_of_move, key_of, or_null, password_area}
use Rattle.tpol_driver.specs.Driving.{is_verification}
use Rattle.tpol_driver.specs.Plans.{is_granted_key, is_known_assertion, is_known_move}
use Rattle.tpol_goal.specs.declared.grants.Grants.{Grants}
use Rattle.tpol_goal.specs.Entities.{entity_of_name, index_of_name, is_hierarchy, object_of_name}
use Rattle.tpol_goal.specs.Grants.{IsGrants, authority}
use Rattle.tpol_name.specs.declared.entries.DirEntry.{DirEntry}
use Rattle.tpol_name.specs.declared.entries.IndexEntry.{IndexEntry}
use Rattle.tpol_name.specs.declared.entries.ObjectEntry.{ObjectEntry}
use Rattle.tpol_name.specs.declared.setup.Setup.{Setup}
use Rattle.tpol_name.specs.Areas.{is_written}
use Rattle.tpol_name.specs.Directories.{directory_of}
use Rattle.tpol_name.specs.Setups.{IsSetup}
use Rattle.tpol_tree.specs.declared.closed.Assertion.{Assertion}
use Rattle.tpol_tree.specs.declared.closed.Assertion.TheVariants as assertions
use Rattle.tpol_tree.specs.declared.facts.Fact.{Fact}
use Rattle.tpol_tree.specs.declared.path.Move.{Move}
use Rattle.tpol_tree.specs.declared.path.Move.TheVariants.{Assert, Or, Approve, ApproveNv}
use Rattle.tpol_tree.specs.Bounds.{AssertionHasBounds}
use Rattle.tpol_wire.specs.declared.command.Command.{Command}
use Rattle.tpol_wire.specs.declared.command.Command.TheVariants as commands
use Rattle.tpol_fields.specs.declared.ticket.Ticket.{Ticket}
use Rattle.tpol_wire.specs.Commands.{FitsCommand}
use Rattle.tpol_fields.specs.Kinds.{TicketFits}
use Rattle.tpm_auth.specs.Signatures.{signature_of, signed_hash}
use Rattle.tpm_bindings.specs.State.{SessionState}
use Rattle.tpm_nv.specs.Indices.{index_of}
use Rattle.tpm_pcr.specs.Pcrs.{selection_digest}
use Rattle.tpm_session.specs.Slots.{IsSlotHandle, state_at}
use Rattle.tpm_world.specs.Entities.{entity_of_kind, name_at, name_of_entity}
use Rattle.tpol_wire.specs.Handles.{area_of, is_policy_command, policy_session_of}
use Rattle.tpm_world.specs.Objects.{object_of}
use Rattle.tpm_world.specs.World.{WorldState}
use Rattle.tpm_rules.specs.Entity.{Object}
use Rattle.tpm_engine.specs.Answers.{own_rule}
use Rattle.tpm_engine.specs.Facts.{Moment, Shown, shown_by}
use Rattle.tpm_engine.specs.PolicyCommands.{policy_command_rule, policy_rule}
use Rattle.tpm_engine.specs.SessionCommands.{is_session_command, session_rule}
use Rattle.tpm_engine.specs.Tables.{TableState}
use Rattle.tpm_engine.proofs.Fitting.{index-named}
use Rattle.tpm_engine.proofs.Stopping.{or_else-none, unless-none}
use Rattle.tpm_world.specs.Plain.{plain_rule}
use Rattle.tpol_laws.specs.Others.{AsksWritten, IsWrittenAt}
use Rattle.tpol_laws.proofs.Answered.{IsByPassword}
use Rattle.tpol_laws.proofs.Fit.{area-fits, authority-handle, entity-handle, fits-auth_value, fits-authorize, fits-authorize_nv, fits-code, fits-counter_timer, fits-cp_hash, fits-duplication, fits-locality, fits-name_hash, fits-nv, fits-nv_written, fits-or, fits-password, fits-pcr, fits-presence, fits-secret, fits-signed, index-handle, index-kind, object-handle, session-handle}
use Rattle.tpol_laws.proofs.Named.{FoundEntity, FoundIndex, FoundObject, area, entity-found, index-found, index-now, object-found, written-name}

-- a world of the machine that started from this setup
pub record IsOf (setup : Setup) (world : WorldState) : Type 0 where
  pub objects : world.objects ≡ setup.objects
  pub areas : map area world.indices ≡ map area setup.indices

-- ---- Names as they are

pub object-range : (handle : ℕ) → 0x80000000 ≤ handle → handle ≤ 0x80ffffff → kind_of_handle handle ≡ Some kinds.Object
object-range handle low high =
    let pcr : nat_lt handle 24 ≡ false = grind (arith, nat_tests, low) in
    let index : is_index handle ≡ false = grind (arith, nat_tests, low, high) in
    let session : nat_eq (handle / 2 ^ 24) 0x03 ≡ false = grind (arith, nat_tests, low, high) in
    let permanent : nat_eq (handle / 2 ^ 24) 0x40 ≡ false = grind (arith, nat_tests, low, high) in
    let object : nat_eq (handle / 2 ^ 24) 0x80 ≡ true = grind (arith, nat_tests, low, high) in
    rw (pcr, index, session, permanent, object) refl

pub object-name-at : (setup : Setup) (world : WorldState) (name : Name) (handle : ℕ) → IsOf setup world → FoundObject setup name handle → name_at world handle ≡ name
object-name-at setup world name handle of found =
    ap (λ (kind : Option HandleKind). name_of_entity handle (entity_of_kind world handle kind)) (object-range handle found.low found.high)
    ∙ ap (λ (o : Option ObjectEntry). name_of_entity handle (option_map Object o)) (ap (object_of handle) of.objects ∙ found.is)
    ∙ found.named

index-name-at : (setup : Setup) (world : WorldState) (name : Name) (handle : ℕ) (entry : IndexEntry) → IsOf setup world → FoundIndex setup name handle
    → index_of handle world.indices ≡ Some entry → is_written entry.public.attributes ≡ true → name_at world handle ≡ name
index-name-at setup world name handle entry of found there written =
    let it = index-now handle world.indices setup.indices found.entry of.areas found.is in
    index-named world handle entry (index-kind handle found.low found.high) (sym there)
    ∙ written-name handle world.indices found.entry entry it there written
    ∙ found.named

pub hierarchy-name-at : (world : WorldState) (handle : ℕ) → is_hierarchy handle ≡ true → name_at world handle ≡ Handle handle
hierarchy-name-at world handle h = at (nat_eq handle rh_owner) refl (nat_eq handle rh_endorsement) refl (nat_eq handle rh_lockout) refl h
  where
    at : (a : Bool) → nat_eq handle rh_owner ≡ a → (b : Bool) → nat_eq handle rh_endorsement ≡ b → (c : Bool) → nat_eq handle rh_lockout ≡ c
        → (a || b || c) ≡ true → name_at world handle ≡ Handle handle
    at true ea b eb c ec h = subst (λ n. name_at world n ≡ Handle n) (sym (eqb-true handle rh_owner ea)) refl
    at false ea true eb c ec h = subst (λ n. name_at world n ≡ Handle n) (sym (eqb-true handle rh_endorsement eb)) refl
    at false ea false eb true ec h = subst (λ n. name_at world n ≡ Handle n) (sym (eqb-true handle rh_lockout ec)) refl
    at false ea false eb false ec h = absurd (false≢true h)

entity-name-at : (setup : Setup) (world : WorldState) (name : Name) (handle : ℕ) → IsOf setup world → FoundEntity setup name handle → IsWrittenAt world.indices handle → name_at world handle ≡ name
entity-name-at setup world name handle of (inl hierarchy) written = hierarchy-name-at world handle hierarchy.is ∙ sym hierarchy.named
entity-name-at setup world name handle of (inr (inl object)) written = object-name-at setup world name handle of object
entity-name-at setup world name handle of (inr (inr index)) written =
    let it = index-now handle world.indices setup.indices index.entry of.areas index.is in
    index-name-at setup world name handle it.entry of index it.is
    (subst (λ (o : Option IndexEntry). IfSome o (λ entry. is_written entry.public.attributes ≡ true)) it.is written)

-- ---- rules of an entity that hold

pub record Ruled {A : Type 0} (rule : A → Option ℕ) (o : Option A) : Type 0 where
  pub value : A
  pub is : o ≡ Some value
  pub holds : rule value ≡ None

pub ruled : {A : Type 0} (rule : A → Option ℕ) (o : Option A) (missing : ℕ) → option_map_or rule o (Some missing) ≡ None → Ruled rule o
ruled rule None missing h = absurd (none-some missing (sym h))
ruled rule (Some x) missing h = record { value = x; is = refl; holds = h }

-- ---- what is shown

pub record ShowsMove (world : WorldState) (session : ℕ) (act : Move) (shown : Option Shown) : Type 0 where
  pub fact : Moment → Fact
  pub is : shown ≡ Some (session, fact)
  pub same : (now : Moment) → now.world ≡ world → update_of (fact now).act ≡ update_of act

pub record IsOwn (world : WorldState) (session : ℕ) (act : Move) (command : Command) : Type 0 where
  pub fits : FitsCommand command
  pub area : IsByPassword (area_of command)
  pub policy : is_policy_command command ≡ true
  pub shows : (state : SessionState) → policy_rule world state command ≡ None → AsksWritten world.indices command → ShowsMove world session act (shown_by command)

-- a ticket that was answered is within its bounds
abbrev pub TicketIsFit : Option Ticket → Type 0
TicketIsFit None = ⊤
TicketIsFit (Some ticket) = TicketFits ticket

module _ (setup : Setup) (is : IsSetup setup) (world : WorldState) (of : IsOf setup world) (grants : Grants) (are : IsGrants grants) (own : ℕ) (nonce : Digest32) (slot : IsSlotHandle own) where
  own-nv : (name : Name) (operand : List ℕ) (offset : ℕ) (operation : Compare) (o : Option DirEntry) → index_of_name (directory_of setup) name ≡ o → is_some o ≡ true → length operand ≤ 64 → offset < 2 ^ 16
      → IsOwn world own (Assert (assertions.Nv name operand offset operation))
      (commands.PolicyNv (or_null (option_map (λ (entry : DirEntry). authority grants entry.handle entry.attributes) o)) (or_null (option_map (λ (entry : DirEntry). entry.handle) o)) own
      (password_area grants (or_null (option_map (λ (entry : DirEntry). authority grants entry.handle entry.attributes) o))) operand offset operation)
  own-nv name operand offset operation None e known short few = absurd (false≢true known)
  own-nv name operand offset operation (Some entry) e known short few =
      let found = index-found setup is name entry e in
      record {
        fits = fits-nv own (session-handle own slot) (authority grants entry.handle entry.attributes) entry.handle (password_area grants (authority grants entry.handle entry.attributes)) operand offset operation
            (authority-handle setup name entry.handle entry.attributes grants found) (index-handle setup name entry.handle found) (area-fits grants (authority grants entry.handle entry.attributes) are) short few;
        area = refl;
        policy = refl;
        shows = λ state rule asks.
            let it = ruled _ (index_of entry.handle world.indices) _ rule in
            let behind = or_else-none _ _ it.holds in
            let written = unless-none _ _ (or_else-none _ _ behind.1).0 in
            record {
              fact = _;
              is = refl;
              same = λ now same. ap (λ n. hash_of_inner 0x149 (comparison operand offset operation) (name_bytes n))
                  (ap (λ w. name_at w entry.handle) same ∙ index-name-at setup world name entry.handle it.value of found it.is written);
            };
      }

  own-authorize_nv : (name : Name) (approved : Digest32) (o : Option DirEntry) → index_of_name (directory_of setup) name ≡ o → is_some o ≡ true
      → IsOwn world own (ApproveNv name approved)
      (commands.PolicyAuthorizeNv (or_null (option_map (λ (entry : DirEntry). authority grants entry.handle entry.attributes) o)) (or_null (option_map (λ (entry : DirEntry). entry.handle) o)) own
      (password_area grants (or_null (option_map (λ (entry : DirEntry). authority grants entry.handle entry.attributes) o))))
  own-authorize_nv name approved None e known = absurd (false≢true known)
  own-authorize_nv name approved (Some entry) e known =
      let found = index-found setup is name entry e in
      record {
        fits = fits-authorize_nv own (session-handle own slot) (authority grants entry.handle entry.attributes) entry.handle (password_area grants (authority grants entry.handle entry.attributes))
            (authority-handle setup name entry.handle entry.attributes grants found) (index-handle setup name entry.handle found) (area-fits grants (authority grants entry.handle entry.attributes) are);
        area = refl;
        policy = refl;
        shows = λ state rule asks.
            let it = ruled _ (index_of entry.handle world.indices) _ rule in
            let behind = or_else-none _ _ it.holds in
            let written = unless-none _ _ (or_else-none _ _ behind.1).0 in
            record {
              fact = _;
              is = refl;
              same = λ now same. ap (λ n. from_zero (one_hash 0x192 (name_bytes n)))
                  (ap (λ w. name_at w entry.handle) same ∙ index-name-at setup world name entry.handle it.value of found it.is written);
            };
      }

  own-secret : (name : Name) (policy_ref : List ℕ) (cp_hash : Option Digest32) (expiration : ℤ) (o : Option ℕ) → entity_of_name (directory_of setup) name ≡ o → is_some o ≡ true
      → AssertionHasBounds (assertions.Secret name policy_ref cp_hash expiration)
      → IsOwn world own (Assert (assertions.Secret name policy_ref cp_hash expiration))
      (commands.PolicySecret (or_null o) own (password_area grants (or_null o)) nonce.bytes cp_hash policy_ref expiration)
  own-secret name policy_ref cp_hash expiration None e known bounds = absurd (false≢true known)
  own-secret name policy_ref cp_hash expiration (Some handle) e known bounds =
      let found = entity-found setup is name handle e in
      record {
        fits = fits-secret own (session-handle own slot) handle (password_area grants handle) nonce cp_hash policy_ref expiration (entity-handle setup name handle found) (area-fits grants handle are) bounds.1 bounds.2;
        area = refl;
        policy = refl;
        shows = λ state rule asks. record {
          fact = _;
          is = refl;
          same = λ now same. ap (λ n. two_hashes 0x151 (name_bytes n) policy_ref)
              (ap (λ w. name_at w handle) same ∙ entity-name-at setup world name handle of found asks);
        };
      }

  own-signed : (name : Name) (policy_ref : List ℕ) (cp_hash : Option Digest32) (expiration : ℤ) (o : Option DirEntry) → object_of_name (directory_of setup) name ≡ o → is_granted_key grants o ≡ true
      → AssertionHasBounds (assertions.Signed name policy_ref cp_hash expiration)
      → IsOwn world own (Assert (assertions.Signed name policy_ref cp_hash expiration))
      (commands.PolicySigned (or_null (option_map (λ (entry : DirEntry). entry.handle) o)) own nonce.bytes cp_hash policy_ref expiration
      (signature_of (key_of grants (or_null (option_map (λ (entry : DirEntry). entry.handle) o))) (signed_hash nonce.bytes expiration (optional_bytes cp_hash) policy_ref)))
  own-signed name policy_ref cp_hash expiration None e known bounds = absurd (false≢true known)
  own-signed name policy_ref cp_hash expiration (Some entry) e known bounds =
      let found = object-found setup is name entry e in
      record {
        fits = fits-signed own (session-handle own slot) entry.handle nonce cp_hash policy_ref expiration _ (object-handle setup name entry.handle found) bounds.1 bounds.2;
        area = tt;
        policy = refl;
        shows = λ state rule asks. record {
          fact = _;
          is = refl;
          same = λ now same. ap (λ n. two_hashes 0x160 (name_bytes n) policy_ref)
              (ap (λ w. name_at w entry.handle) same ∙ object-name-at setup world name entry.handle of found);
        };
      }

  own-pcr : (mask : ℕ) (digest : Digest32) (values : List Digest32) → mask < 2 ^ 24 → IsOwn world own (Assert (assertions.Pcr mask digest values)) (commands.PolicyPcr own (Some digest) mask)
  own-pcr mask digest values few = record {
    fits = fits-pcr own (session-handle own slot) digest mask few;
    area = tt;
    policy = refl;
    shows = λ state rule asks.
        let right = unless-none _ _ (or_else-none _ _ rule).1 in
        let bytes : digest.bytes ≡ (selection_digest world.pcrs.values mask).bytes = (bytes_eq-Decides digest.bytes (selection_digest world.pcrs.values mask).bytes).0 right in
        record {
          fact = _;
          is = refl;
          same = λ now same. ap (λ bytes. one_hash 0x17f (pcr_selection mask ++ bytes))
              (ap (λ (w : WorldState). (selection_digest w.pcrs.values mask).bytes) same ∙ sym bytes);
        };
  }

  own-assertion : (assertion : Assertion) → AssertionHasBounds assertion → is_known_assertion (directory_of setup) grants assertion ≡ true
      → IsOwn world own (Assert assertion) (command_of_assertion (directory_of setup) grants (record { handle = own; nonce = nonce }) assertion)
  own-assertion (assertions.Pcr mask digest values) bounds known = own-pcr mask digest values bounds
  own-assertion (assertions.Nv index operand offset operation) bounds known = own-nv index operand offset operation (index_of_name (directory_of setup) index) refl known bounds.1 bounds.2
  own-assertion (assertions.Secret entity policy_ref cp_hash expiration) bounds known =
      own-secret entity policy_ref cp_hash expiration (entity_of_name (directory_of setup) entity) refl known bounds
  own-assertion (assertions.Signed key policy_ref cp_hash expiration) bounds known =
      own-signed key policy_ref cp_hash expiration (object_of_name (directory_of setup) key) refl known bounds
  own-assertion (assertions.CounterTimer operand offset operation) bounds known = record {
    fits = fits-counter_timer own (session-handle own slot) operand offset operation bounds.0 bounds.1;
    area = tt;
    policy = refl;
    shows = λ state rule asks. record { fact = _; is = refl; same = λ now same. refl };
  }
  own-assertion (assertions.CommandCode code) bounds known = record {
    fits = fits-code own (session-handle own slot) code bounds;
    area = tt;
    policy = refl;
    shows = λ state rule asks. record { fact = _; is = refl; same = λ now same. refl };
  }
  own-assertion (assertions.Locality localities) bounds known = record {
    fits = fits-locality own (session-handle own slot) localities bounds.1;
    area = tt;
    policy = refl;
    shows = λ state rule asks. record { fact = _; is = refl; same = λ now same. refl };
  }
  own-assertion (assertions.CpHash digest) bounds known = record {
    fits = fits-cp_hash own (session-handle own slot) digest;
    area = tt;
    policy = refl;
    shows = λ state rule asks. record { fact = _; is = refl; same = λ now same. refl };
  }
  own-assertion (assertions.NameHash digest) bounds known = record {
    fits = fits-name_hash own (session-handle own slot) digest;
    area = tt;
    policy = refl;
    shows = λ state rule asks. record { fact = _; is = refl; same = λ now same. refl };
  }
  own-assertion (assertions.NvWritten written) bounds known = record {
    fits = fits-nv_written own (session-handle own slot) written;
    area = tt;
    policy = refl;
    shows = λ state rule asks. record { fact = _; is = refl; same = λ now same. refl };
  }
  own-assertion assertions.AuthValue bounds known = record {
    fits = fits-auth_value own (session-handle own slot);
    area = tt;
    policy = refl;
    shows = λ state rule asks. record { fact = _; is = refl; same = λ now same. refl };
  }
  own-assertion assertions.Password bounds known = record {
    fits = fits-password own (session-handle own slot);
    area = tt;
    policy = refl;
    shows = λ state rule asks. record { fact = _; is = refl; same = λ now same. refl };
  }
  own-assertion assertions.PhysicalPresence bounds known = record {
    fits = fits-presence own (session-handle own slot);
    area = tt;
    policy = refl;
    shows = λ state rule asks. record { fact = _; is = refl; same = λ now same. refl };
  }
  own-assertion (assertions.Duplication object parent include) bounds known = record {
    fits = fits-duplication own (session-handle own slot) object parent include bounds.0 bounds.1;
    area = tt;
    policy = refl;
    shows = λ state rule asks. record { fact = _; is = refl; same = λ now same. refl };
  }

  pub own-move : (ticket : Option Ticket) (act : Move) → TicketIsFit ticket → MoveHasBounds act → is_known_move (directory_of setup) grants act ≡ true → is_verification ticket act ≡ false
      → IsOwn world own act (command_of_move (directory_of setup) grants (record { handle = own; nonce = nonce }) ticket act)
  own-move ticket (Assert assertion) fits bounds known verifies = own-assertion assertion bounds known
  own-move ticket (Or digests) fits bounds known verifies = record {
    fits = fits-or own (session-handle own slot) digests bounds.0 bounds.1;
    area = tt;
    policy = refl;
    shows = λ state rule asks. record { fact = _; is = refl; same = λ now same. refl };
  }
  own-move None (Approve key policy_ref approved signature) fits bounds known verifies = absurd (false≢true (sym verifies))
  own-move (Some ticket) (Approve key policy_ref approved signature) fits bounds known verifies = record {
    fits = fits-authorize own (session-handle own slot) approved policy_ref key ticket bounds.1 bounds.0 fits;
    area = tt;
    policy = refl;
    shows = λ state rule asks. record { fact = _; is = refl; same = λ now same. refl };
  }
  own-move ticket (ApproveNv index approved) fits bounds known verifies = own-authorize_nv index approved (index_of_name (directory_of setup) index) refl known

-- ---- its rules

-- a state on which a rule holds
pub record Passed (rule : SessionState → Option ℕ) : Type 0 where
  pub state : SessionState
  pub holds : rule state ≡ None

passed-at : (rule : SessionState → Option ℕ) (slots : List (Option SessionState)) (o : Option (ℕ × ℕ)) → is_some o ≡ true
    → option_and_then (λ (own : ℕ × ℕ). option_map_or rule (state_at slots own.0) (Some rc_reference_h0)) o ≡ None → Passed rule
passed-at rule slots None there h = absurd (false≢true there)
passed-at rule slots (Some own) there h = let it = ruled rule (state_at slots own.0) rc_reference_h0 h in record { state = it.value; holds = it.holds }

pub own-is-policy : (tables : TableState) (command : Command) → is_policy_command command ≡ true → own_rule tables command ≡ policy_command_rule tables command
own-is-policy tables command policy =
    ap (λ b. if b then policy_command_rule tables command else (if is_session_command command then session_rule tables command else plain_rule tables.world command)) policy

pub rule-passed : (tables : TableState) (command : Command) → is_policy_command command ≡ true → own_rule tables command ≡ None → Passed (λ state. policy_rule tables.world state command)
rule-passed tables command policy none =
    passed-at (λ state. policy_rule tables.world state command) tables.sessions (policy_session_of command) policy (sym (own-is-policy tables command policy) ∙ none)

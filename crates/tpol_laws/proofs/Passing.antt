-- What nothing blocks for a chooser the machine carries out: each kind of move, by its command, and the fact that
-- the session is shown binds what the chooser's does.
use Rattle.std.proofs.Common.{◌≡◌, ◌<◌, ℕ, true, false, List, [], ◌∷◌, length, refl, ap, sym, subst, ◌∙◌}
use Rattle.std.specs.Prelude.{ℤ, pos, Option, Some, None, option_map, unwrap_or}
use Rattle.std.specs.Option.{option_map_or}
use Rattle.std.proofs.lemmas.Bool.{false≢true}
use Rattle.std.proofs.lemmas.Option.{none-some}
use Rattle.std.proofs.lemmas.Slice.Eq.{bytes_eq-Decides}
use Rattle.tpol_base.specs.declared.command_code.CommandCode.{CommandCode}
use Rattle.tpol_base.specs.declared.command_code.CommandCode.TheVariants as codes
use Rattle.tpol_base.specs.declared.compare.Compare.{Compare}
use Rattle.tpol_base.specs.declared.digest.Digest32.{Digest32}
use Rattle.tpol_base.specs.declared.name.Name.{Name}
use Rattle.tpol_base.specs.CommandCode.{number_of_code}
use Rattle.tpol_base.specs.Digest.{optional_bytes}
use Rattle.tpol_choose.specs.Clients.{Client}
use Rattle.tpol_choose.specs.Entities.{EntityAt, entity_of_name as entity_at_name}
use Rattle.tpol_choose.specs.Facts.{fact_of_move, name_of_found}
use Rattle.tpol_choose.specs.Keys.{is_same_block}
use Rattle.tpol_choose.specs.Moves.{answered, assertion_block, index_block, move_block, password_rule, reader_of, reading_rule, secret_block, signed_block, signing_block}
use Rattle.tpol_base.proofs.Digests.{same_digest as digest-same}
use Rattle.tpol_driver.specs.Commands.{command_of_assertion, command_of_move, index_authority, index_handle, key_of, or_null, password_area}
use Rattle.tpol_driver.specs.Driving.{is_verification}
use Rattle.tpol_goal.specs.declared.goal.Goal.{Goal}
use Rattle.tpol_goal.specs.declared.grants.Grants.{Grants}
use Rattle.tpol_goal.specs.Entities.{index_in_sight, object_in_sight}
use Rattle.tpol_goal.specs.Grants.{authority, granted, secret_of}
use Rattle.tpol_name.specs.declared.entries.DirEntry.{DirEntry}
use Rattle.tpol_name.specs.declared.entries.IndexEntry.{IndexEntry}
use Rattle.tpol_name.specs.declared.entries.ObjectEntry.{ObjectEntry}
use Rattle.tpol_name.specs.declared.setup.Setup.{Setup}
use Rattle.tpol_name.specs.Areas.{index_name, is_written, object_name}
use Rattle.tpol_name.specs.Directories.{directory_of}
use Rattle.tpol_name.specs.Setups.{IsSetup}
use Rattle.tpol_tree.specs.declared.closed.Assertion.{Assertion}
use Rattle.tpol_tree.specs.declared.closed.Assertion.TheVariants as assertions
use Rattle.tpol_tree.specs.declared.facts.Fact.{Fact}
use Rattle.tpol_tree.specs.declared.path.Move.{Move}
use Rattle.tpol_tree.specs.declared.path.Move.TheVariants.{Assert, Or, Approve, ApproveNv}
use Rattle.tpol_wire.specs.declared.command.Command.{Command}
use Rattle.tpol_wire.specs.declared.command.Command.TheVariants as commands
use Rattle.tpm_auth.specs.Signatures.{signature_of, signed_hash}
use Rattle.tpm_auth.specs.Tickets.{verified_ticket}
use Rattle.tpm_bindings.specs.Facts.{is_before}
use Rattle.tpm_bindings.specs.Merged.{fact_of}
use Rattle.tpm_bindings.specs.State.{SessionState}
use Rattle.tpm_pcr.specs.Pcrs.{selection_digest}
use Rattle.tpm_policy.specs.Judgments.{is_approval_ticket, is_signature}
use Rattle.tpm_rules.specs.Entity.{Entity, Index, Object}
use Rattle.tpm_rules.specs.NvAuthority.{nv_authority_rule}
use Rattle.tpm_rules.specs.Objects.{signing_key_rule}
use Rattle.tpm_rules.specs.Password.{password_denial}
use Rattle.tpm_rules.specs.PolicyAuthorize.{approval_hash, policy_authorize_rule}
use Rattle.tpm_rules.specs.PolicyAuthorizeNv.{policy_authorize_nv_rule}
use Rattle.tpm_rules.specs.PolicyNv.{policy_nv_rule}
use Rattle.tpm_rules.specs.PolicyPcr.{policy_pcr_rule}
use Rattle.tpm_rules.specs.PolicySecret.{policy_secret_rule}
use Rattle.tpm_rules.specs.PolicySigned.{policy_signed_rule}
use Rattle.tpm_rules.specs.Rule.{or_else}
use Rattle.tpm_session.specs.Slots.{IsSlotHandle, state_at}
use Rattle.tpm_world.specs.Entities.{entity_at, name_at}
use Rattle.tpm_world.specs.Hashes.{proof_of}
use Rattle.tpm_world.specs.Missing.{missing_index, missing_object}
use Rattle.tpm_world.specs.VerifySignature as verification
use Rattle.tpm_world.specs.World.{WorldState, sight_of}
use Rattle.tpm_engine.specs.Answers.{first_stop}
use Rattle.tpm_engine.specs.Facts.{Moment, moment, shown_by}
use Rattle.tpm_engine.specs.Stops.{handles_from}
use Rattle.tpm_engine.specs.Tables.{TableState}
use Rattle.tpm_engine.proofs.Stopping.{map-none, or_else-none, unless-none}
use Rattle.tpol_laws.proofs.Alike.{authorize-alike, authorize_nv-alike, code-alike, cp_hash-alike, deadline-alike, duplication-alike, locality-alike, name_hash-alike, or-alike, pcr-alike, secret-alike, signed-alike, written-alike}
use Rattle.tpol_laws.proofs.Binds.{AreAlike, bind_of}
use Rattle.tpol_laws.proofs.Finds.{area-written}
use Rattle.tpol_laws.proofs.Own.{IsOf}
use Rattle.tpol_laws.proofs.SameKeys.{same-mac}
use Rattle.tpol_laws.proofs.Seen.{ReadBy, SeenEntity, SeenIndex, SeenObject, index-handle, name-as-is, read-by, reader-handle, see-entity, see-index, see-object}
use Rattle.tpol_laws.proofs.Unstopped.{entity-there, password-passes, plain-unstopped, policy-unstopped, session-there}

-- nothing stops the command, and the session is shown a fact that binds what the move does, with a deadline that has
-- passed at the session's start where the move's has
pub record Passes (tables : TableState) (locality own : ℕ) (kept : SessionState) (client : Client) (chosen : SessionState) (act : Move) (command : Command) : Type 0 where
  pub first : first_stop tables locality command ≡ None
  pub fact : Moment → Fact
  pub shows : shown_by command ≡ Some (own, fact)
  pub same : (number : ℕ) → bind_of (fact (moment tables.world number kept.start kept.facts)) ≡ bind_of (fact_of_move client.sight chosen act)
  pub in_time : (number : ℕ) → is_before chosen.start (fact (moment tables.world number kept.start kept.facts)).deadline ≡ is_before chosen.start (fact_of_move client.sight chosen act).deadline

-- who chooses by the machine as it is
abbrev pub client_on : WorldState → ℕ → Grants → Goal → ℕ → Client
client_on world free grants goal locality = record { sight = sight_of world free; grants = grants; goal = goal; locality = locality }

unanswered : (rule : Option ℕ) → answered rule ≡ None → rule ≡ None
unanswered rule h = map-none _ rule h

-- ---- authorization by a password

denial-none : (grants : Grants) (found : EntityAt) (code : CommandCode) → password_rule grants found code ≡ None → password_denial found.entity (number_of_code code) (secret_of grants.secrets found.handle) ≡ None
denial-none grants found code h = map-none _ (password_denial found.entity (number_of_code code) (secret_of grants.secrets found.handle)) h

-- ---- the commands on an index

-- what authorizes its reading, and that it may
pub record Readable (world : WorldState) (grants : Grants) (code : CommandCode) (entry : IndexEntry) (own : Option ℕ) : Type 0 where
  pub entity : Entity
  pub there : entity_at world (authority grants entry.public.index entry.public.attributes) ≡ Some entity
  pub password : password_denial entity (number_of_code code) (secret_of grants.secrets (authority grants entry.public.index entry.public.attributes)) ≡ None
  pub authorized : nv_authority_rule (authority grants entry.public.index entry.public.attributes) entry.public (number_of_code code) ≡ None
  pub rule : own ≡ None

readable-by : (world : WorldState) (grants : Grants) (code : CommandCode) (entry : IndexEntry) (own : Option ℕ) (reader : EntityAt)
    → ReadBy world (authority grants entry.public.index entry.public.attributes) reader
    → or_else (password_rule grants reader code) (or_else (nv_authority_rule reader.handle entry.public (number_of_code code)) own) ≡ None
    → Readable world grants code entry own
readable-by world grants code entry own reader read h =
    let first = or_else-none (password_rule grants reader code) (or_else (nv_authority_rule reader.handle entry.public (number_of_code code)) own) h in
    let second = or_else-none (nv_authority_rule reader.handle entry.public (number_of_code code)) own first.1 in
    record {
      entity = reader.entity;
      there = ap (entity_at world) (sym read.same) ∙ read.there;
      password = subst (λ (n : ℕ). password_denial reader.entity (number_of_code code) (secret_of grants.secrets n) ≡ None) read.same (denial-none grants reader code first.0);
      authorized = subst (λ (n : ℕ). nv_authority_rule n entry.public (number_of_code code) ≡ None) read.same second.0;
      rule = second.1;
    }

-- ---- each kind

module _ (setup : Setup) (is : IsSetup setup) (tables : TableState) (of : IsOf setup tables.world) (free : ℕ) (grants : Grants) (goal : Goal) (locality own : ℕ) (slot : IsSlotHandle own) (kept : SessionState) (live : state_at tables.sessions own ≡ Some kept) (few : length kept.facts < 512) (nonce : Digest32) (owns : kept.nonce ≡ nonce) (chosen : SessionState) (alike : AreAlike kept chosen) where
  abbrev Passed : Move → Command → Type 0
  Passed act command = Passes tables locality own kept (client_on tables.world free grants goal locality) chosen act command

  index-readable : (code : CommandCode) (name : Name) (entry : IndexEntry) (rule : Option ℕ) → SeenIndex setup tables.world name entry
      → reading_rule (client_on tables.world free grants goal locality) entry code rule ≡ None → Readable tables.world grants code entry rule
  index-readable code name entry rule seen h =
      readable-by tables.world grants code entry rule (reader_of (client_on tables.world free grants goal locality) entry) (read-by setup is tables.world of free grants name entry seen) h

  -- the handles of a command on an index
  index-handles : (code : CommandCode) (name : Name) (entry : IndexEntry) (rule : Option ℕ) → SeenIndex setup tables.world name entry → Readable tables.world grants code entry rule
      → handles_from tables 1 (authority grants entry.public.index entry.public.attributes ∷ entry.public.index ∷ own ∷ []) ≡ None
  index-handles code name entry rule seen read =
      let reader = entity-there tables 1 (authority grants entry.public.index entry.public.attributes) read.entity read.there in
      let index = entity-there tables 2 entry.public.index (Index entry) seen.there in
      let session = session-there tables 3 own kept slot live in
      λ i. or_else (reader i) (or_else (index i) (or_else (session i) None))

  -- an index that is written has the Name that it is known by
  written-named : (name : Name) (entry : IndexEntry) → SeenIndex setup tables.world name entry → is_written entry.public.attributes ≡ true → name_at tables.world entry.public.index ≡ name
  written-named name entry seen written =
      name-as-is tables.world entry.public.index (Index entry) seen.there ∙ ap index_name (sym (area-written entry.public written)) ∙ seen.named

  nv-passes : (name : Name) (operand : List ℕ) (offset : ℕ) (operation : Compare) (entry : IndexEntry) → SeenIndex setup tables.world name entry
      → Readable tables.world grants codes.PolicyNv entry (policy_nv_rule entry operand offset operation)
      → Passed (Assert (assertions.Nv name operand offset operation))
      (commands.PolicyNv (authority grants entry.public.index entry.public.attributes) entry.public.index own (password_area grants (authority grants entry.public.index entry.public.attributes)) operand offset operation)
  nv-passes name operand offset operation entry seen read =
      let reader = authority grants entry.public.index entry.public.attributes in
      let command = commands.PolicyNv reader entry.public.index own (password_area grants reader) operand offset operation in
      record {
        first = policy-unstopped tables locality own kept live few (commands.PolicyNv reader entry.public.index own (password_area grants reader) operand offset operation) 3 refl
            (index-handles codes.PolicyNv name entry (policy_nv_rule entry operand offset operation) seen read)
            refl
            (password-passes tables locality (commands.PolicyNv reader entry.public.index own (password_area grants reader) operand offset operation) grants reader read.entity refl refl read.there read.password)
            (ap (λ (o : Option IndexEntry). option_map_or (λ (e : IndexEntry). or_else (nv_authority_rule reader e.public (number_of_code codes.PolicyNv)) (policy_nv_rule e operand offset operation)) o (Some missing_index)) seen.held
            ∙ ap (λ rule. or_else rule (policy_nv_rule entry operand offset operation)) read.authorized ∙ read.rule);
        fact = λ now. fact_of now.number (Assert (assertions.Nv (name_at now.world entry.public.index) operand offset operation)) None None;
        shows = refl;
        same = λ number. ap (λ (n : Name). bind_of (fact_of 0 (Assert (assertions.Nv n operand offset operation)) None None))
            (written-named name entry seen (unless-none _ _ (or_else-none _ _ read.rule).0));
        in_time = λ number. refl;
      }

  authorize_nv-passes : (name : Name) (approved : Digest32) (entry : IndexEntry) → SeenIndex setup tables.world name entry
      → Readable tables.world grants codes.PolicyAuthorizeNv entry (policy_authorize_nv_rule chosen entry)
      → Passed (ApproveNv name approved)
      (commands.PolicyAuthorizeNv (authority grants entry.public.index entry.public.attributes) entry.public.index own (password_area grants (authority grants entry.public.index entry.public.attributes)))
  authorize_nv-passes name approved entry seen read =
      let reader = authority grants entry.public.index entry.public.attributes in
      record {
        first = policy-unstopped tables locality own kept live few (commands.PolicyAuthorizeNv reader entry.public.index own (password_area grants reader)) 3 refl
            (index-handles codes.PolicyAuthorizeNv name entry (policy_authorize_nv_rule chosen entry) seen read)
            refl
            (password-passes tables locality (commands.PolicyAuthorizeNv reader entry.public.index own (password_area grants reader)) grants reader read.entity refl refl read.there read.password)
            (ap (λ (o : Option IndexEntry). option_map_or (λ (e : IndexEntry). or_else (nv_authority_rule reader e.public (number_of_code codes.PolicyAuthorizeNv)) (policy_authorize_nv_rule kept e)) o (Some missing_index)) seen.held
            ∙ ap (λ rule. or_else rule (policy_authorize_nv_rule kept entry)) read.authorized ∙ authorize_nv-alike kept chosen alike entry ∙ read.rule);
        fact = λ now. fact_of now.number (ApproveNv (name_at now.world entry.public.index) now.digest) None None;
        shows = refl;
        same = λ number. ap (λ (n : Name). bind_of (fact_of 0 (ApproveNv n approved) None None))
            (written-named name entry seen (unless-none _ _ (or_else-none _ _ read.rule).0));
        in_time = λ number. refl;
      }

  -- ---- PolicySecret

  secret-passes : (name : Name) (policy_ref : List ℕ) (cp_hash : Option Digest32) (expiration : ℤ) (found : EntityAt) → entity_at_name (sight_of tables.world free) name ≡ Some found → SeenEntity setup tables.world name found
      → or_else (password_rule grants found codes.PolicySecret) (policy_secret_rule chosen tables.world.time chosen.nonce.bytes cp_hash expiration) ≡ None
      → Passed (Assert (assertions.Secret name policy_ref cp_hash expiration)) (commands.PolicySecret found.handle own (password_area grants found.handle) nonce.bytes cp_hash policy_ref expiration)
  secret-passes name policy_ref cp_hash expiration found shown seen h =
      let parts = or_else-none (password_rule grants found codes.PolicySecret) (policy_secret_rule chosen tables.world.time chosen.nonce.bytes cp_hash expiration) h in
      let entity = entity-there tables 1 found.handle found.entity seen.there in
      let session = session-there tables 2 own kept slot live in
      let names = name-as-is tables.world found.handle found.entity seen.there ∙ ap (name_of_found name) (sym shown) in
      let deadlines = deadline-alike kept chosen alike nonce expiration in
      record {
        first = policy-unstopped tables locality own kept live few (commands.PolicySecret found.handle own (password_area grants found.handle) nonce.bytes cp_hash policy_ref expiration) 2 refl
            (λ i. or_else (entity i) (or_else (session i) None))
            refl
            (password-passes tables locality (commands.PolicySecret found.handle own (password_area grants found.handle) nonce.bytes cp_hash policy_ref expiration) grants found.handle found.entity refl refl seen.there (denial-none grants found codes.PolicySecret parts.0))
            (secret-alike kept chosen alike nonce owns tables.world.time cp_hash expiration ∙ parts.1);
        fact = _;
        shows = refl;
        same = λ number i. record { event = 0; act = Assert (assertions.Secret (names i) policy_ref cp_hash (pos 0)); cp_hash = cp_hash; deadline = None };
        in_time = λ number. ap (is_before chosen.start) deadlines;
      }

  -- ---- PolicySigned

  -- what is signed with a key of one block is signed right
  is-signed : (object : ObjectEntry) (key : List ℕ) → granted grants.keys object.handle ≡ Some key → is_same_block key object.secret ≡ true → (given policy_ref : List ℕ) (cp_hash : Option Digest32) (expiration : ℤ)
      → is_signature object.secret given expiration cp_hash policy_ref (signature_of (key_of grants object.handle) (signed_hash given expiration (optional_bytes cp_hash) policy_ref)) ≡ true
  is-signed object key has same given policy_ref cp_hash expiration =
      (bytes_eq-Decides _ _).1
      (ap (λ (o : Option (List ℕ)). (signature_of (unwrap_or o []) (signed_hash given expiration (optional_bytes cp_hash) policy_ref)).bytes) has
      ∙ ap (λ (d : Digest32). d.bytes) (same-mac key object.secret (signed_hash given expiration (optional_bytes cp_hash) policy_ref).bytes same))

  signed-passes : (name : Name) (policy_ref : List ℕ) (cp_hash : Option Digest32) (expiration : ℤ) (object : ObjectEntry) (key : List ℕ) → SeenObject setup tables.world name object → granted grants.keys object.handle ≡ Some key
      → or_else (signing_key_rule object.public) (policy_signed_rule chosen tables.world.time chosen.nonce.bytes cp_hash expiration (is_same_block key object.secret)) ≡ None
      → Passed (Assert (assertions.Signed name policy_ref cp_hash expiration))
      (commands.PolicySigned object.handle own nonce.bytes cp_hash policy_ref expiration (signature_of (key_of grants object.handle) (signed_hash nonce.bytes expiration (optional_bytes cp_hash) policy_ref)))
  signed-passes name policy_ref cp_hash expiration object key seen has h =
      let parts = or_else-none (signing_key_rule object.public) (policy_signed_rule chosen tables.world.time chosen.nonce.bytes cp_hash expiration (is_same_block key object.secret)) h in
      let behind = or_else-none (policy_secret_rule chosen tables.world.time chosen.nonce.bytes cp_hash expiration) _ parts.1 in
      let right = is-signed object key has (unless-none (is_same_block key object.secret) _ behind.1) nonce.bytes policy_ref cp_hash expiration in
      let signature = signature_of (key_of grants object.handle) (signed_hash nonce.bytes expiration (optional_bytes cp_hash) policy_ref) in
      let handle = entity-there tables 1 object.handle (Object object) seen.there in
      let session = session-there tables 2 own kept slot live in
      let names = name-as-is tables.world object.handle (Object object) seen.there ∙ seen.named in
      let deadlines = deadline-alike kept chosen alike nonce expiration in
      record {
        first = policy-unstopped tables locality own kept live few (commands.PolicySigned object.handle own nonce.bytes cp_hash policy_ref expiration signature) 2 refl
            (λ i. or_else (handle i) (or_else (session i) None))
            refl
            refl
            (ap (λ (o : Option ObjectEntry). option_map_or (λ (e : ObjectEntry). or_else (signing_key_rule e.public) (policy_signed_rule kept tables.world.time nonce.bytes cp_hash expiration (is_signature e.secret nonce.bytes expiration cp_hash policy_ref signature))) o (Some missing_object)) seen.held
            ∙ ap (λ rule. or_else rule (policy_signed_rule kept tables.world.time nonce.bytes cp_hash expiration (is_signature object.secret nonce.bytes expiration cp_hash policy_ref signature))) parts.0
            ∙ ap (policy_signed_rule kept tables.world.time nonce.bytes cp_hash expiration) (right ∙ sym (unless-none (is_same_block key object.secret) _ behind.1))
            ∙ signed-alike kept chosen alike nonce owns tables.world.time cp_hash expiration (is_same_block key object.secret)
            ∙ parts.1);
        fact = _;
        shows = refl;
        same = λ number i. record { event = 0; act = Assert (assertions.Signed (names i) policy_ref cp_hash (pos 0)); cp_hash = cp_hash; deadline = None };
        in_time = λ number. ap (is_before chosen.start) deadlines;
      }

  -- ---- PolicyAuthorize, with the ticket of its approval

  pub approve-passes : (name : Name) (policy_ref : List ℕ) (approved signature : Digest32) (object : ObjectEntry) → SeenObject setup tables.world name object
      → policy_authorize_rule chosen approved true ≡ None
      → Passed (Approve name policy_ref approved signature) (commands.PolicyAuthorize own approved policy_ref name (verification.ticket_of tables.world (approval_hash approved policy_ref) object))
  approve-passes name policy_ref approved signature object seen rule =
      let ticket = verification.ticket_of tables.world (approval_hash approved policy_ref) object in
      let right : is_approval_ticket (proof_of tables.world.seed) approved policy_ref name (verified_ticket (proof_of tables.world.seed) (approval_hash approved policy_ref) (object_name object.public)).bytes ≡ true
      = (bytes_eq-Decides _ _).1 (ap (λ (n : Name). (verified_ticket (proof_of tables.world.seed) (approval_hash approved policy_ref) n).bytes) seen.named) in
      record {
        first = plain-unstopped tables locality own kept live few slot (commands.PolicyAuthorize own approved policy_ref name ticket) refl refl refl
            (ap (policy_authorize_rule kept approved) right ∙ authorize-alike kept chosen alike approved true ∙ rule);
        fact = _;
        shows = refl;
        same = λ number. refl;
        in_time = λ number. refl;
      }

  -- ---- the assertions on the session alone, and PolicyPCR

  pcr-passes : (mask : ℕ) (digest : Digest32) (values : List Digest32) → policy_pcr_rule chosen tables.world.pcrs.counter (selection_digest tables.world.pcrs.values mask) (Some digest) ≡ None
      → Passed (Assert (assertions.Pcr mask digest values)) (commands.PolicyPcr own (Some digest) mask)
  pcr-passes mask digest values rule =
      let right = unless-none _ _ (or_else-none _ _ rule).1 in
      let same : selection_digest tables.world.pcrs.values mask ≡ digest = sym (digest-same digest (selection_digest tables.world.pcrs.values mask) ((bytes_eq-Decides digest.bytes (selection_digest tables.world.pcrs.values mask).bytes).0 right)) in
      record {
        first = plain-unstopped tables locality own kept live few slot (commands.PolicyPcr own (Some digest) mask) refl refl refl
            (pcr-alike kept chosen alike tables.world.pcrs.counter (selection_digest tables.world.pcrs.values mask) (Some digest) ∙ rule);
        fact = _;
        shows = refl;
        same = λ number. ap (λ (d : Digest32). bind_of (fact_of 0 (Assert (assertions.Pcr mask d [])) None None)) same;
        in_time = λ number. refl;
      }

  -- one whose rule reads the session alone
  plain-passes : (act : Move) (command : Command) (fact : Moment → Fact) → shown_by command ≡ Some (own, fact)
      → ((number : ℕ) → bind_of (fact (moment tables.world number kept.start kept.facts)) ≡ bind_of (fact_of_move (sight_of tables.world free) chosen act))
      → ((number : ℕ) → is_before chosen.start (fact (moment tables.world number kept.start kept.facts)).deadline ≡ is_before chosen.start (fact_of_move (sight_of tables.world free) chosen act).deadline)
      → first_stop tables locality command ≡ None → Passed act command
  plain-passes act command fact shows same timely first = record { first = first; fact = fact; shows = shows; same = same; in_time = timely }

  assertion-passes : (assertion : Assertion) → assertion_block (client_on tables.world free grants goal locality) chosen assertion ≡ None
      → Passed (Assert assertion) (command_of_assertion (directory_of setup) grants (record { handle = own; nonce = nonce }) assertion)
  assertion-passes (assertions.Pcr mask digest values) h = pcr-passes mask digest values (unanswered _ h)
  assertion-passes (assertions.Nv name operand offset operation) h = on-index (index_in_sight (sight_of tables.world free) name) refl h
    where
      on-index : (o : Option IndexEntry) → index_in_sight (sight_of tables.world free) name ≡ o → index_block (client_on tables.world free grants goal locality) codes.PolicyNv (λ entry. policy_nv_rule entry operand offset operation) o ≡ None
          → Passed (Assert (assertions.Nv name operand offset operation)) (command_of_assertion (directory_of setup) grants (record { handle = own; nonce = nonce }) (assertions.Nv name operand offset operation))
      on-index None e h = absurd (none-some _ (sym h))
      on-index (Some entry) e h =
          let seen = see-index setup is tables.world of free name entry e in
          let read = index-readable codes.PolicyNv name entry (policy_nv_rule entry operand offset operation) seen (unanswered _ h) in
          subst (λ (p : ℕ × ℕ). Passed (Assert (assertions.Nv name operand offset operation)) (commands.PolicyNv p.0 p.1 own (password_area grants p.0) operand offset operation))
          (λ i. (sym (reader-handle setup tables.world name entry seen grants) i, sym (index-handle setup tables.world name entry seen) i))
          (nv-passes name operand offset operation entry seen read)
  assertion-passes (assertions.Secret name policy_ref cp_hash expiration) h = on-entity (entity_at_name (sight_of tables.world free) name) refl h
    where
      on-entity : (o : Option EntityAt) → entity_at_name (sight_of tables.world free) name ≡ o → secret_block (client_on tables.world free grants goal locality) chosen cp_hash expiration o ≡ None
          → Passed (Assert (assertions.Secret name policy_ref cp_hash expiration)) (command_of_assertion (directory_of setup) grants (record { handle = own; nonce = nonce }) (assertions.Secret name policy_ref cp_hash expiration))
      on-entity None e h = absurd (none-some _ (sym h))
      on-entity (Some found) e h =
          let seen = see-entity setup is tables.world of free name found e in
          subst (λ (n : ℕ). Passed (Assert (assertions.Secret name policy_ref cp_hash expiration)) (commands.PolicySecret n own (password_area grants n) nonce.bytes cp_hash policy_ref expiration))
          (ap or_null (sym seen.listed))
          (secret-passes name policy_ref cp_hash expiration found e seen (unanswered _ h))
  assertion-passes (assertions.Signed name policy_ref cp_hash expiration) h = on-object (object_in_sight (sight_of tables.world free) name) refl h
    where
      on-key : (object : ObjectEntry) → SeenObject setup tables.world name object → (k : Option (List ℕ)) → granted grants.keys object.handle ≡ k → signing_block (client_on tables.world free grants goal locality) chosen cp_hash expiration object k ≡ None
          → Passed (Assert (assertions.Signed name policy_ref cp_hash expiration)) (command_of_assertion (directory_of setup) grants (record { handle = own; nonce = nonce }) (assertions.Signed name policy_ref cp_hash expiration))
      on-key object seen None has h = absurd (none-some _ (sym h))
      on-key object seen (Some key) has h =
          subst (λ (n : ℕ). Passed (Assert (assertions.Signed name policy_ref cp_hash expiration))
          (commands.PolicySigned n own nonce.bytes cp_hash policy_ref expiration (signature_of (key_of grants n) (signed_hash nonce.bytes expiration (optional_bytes cp_hash) policy_ref))))
          (ap (λ (o : Option DirEntry). or_null (option_map (λ (line : DirEntry). line.handle) o)) (sym seen.listed))
          (signed-passes name policy_ref cp_hash expiration object key seen has (unanswered _ h))

      on-object : (o : Option ObjectEntry) → object_in_sight (sight_of tables.world free) name ≡ o → signed_block (client_on tables.world free grants goal locality) chosen cp_hash expiration o ≡ None
          → Passed (Assert (assertions.Signed name policy_ref cp_hash expiration)) (command_of_assertion (directory_of setup) grants (record { handle = own; nonce = nonce }) (assertions.Signed name policy_ref cp_hash expiration))
      on-object None e h = absurd (none-some _ (sym h))
      on-object (Some object) e h = on-key object (see-object setup is tables.world of free name object e) (granted grants.keys object.handle) refl h
  assertion-passes (assertions.CounterTimer operand offset operation) h =
      plain-passes _ _ _ refl (λ number. refl) (λ number. refl) (plain-unstopped tables locality own kept live few slot (commands.PolicyCounterTimer own operand offset operation) refl refl refl (unanswered _ h))
  assertion-passes (assertions.CommandCode code) h =
      plain-passes _ _ _ refl (λ number. refl) (λ number. refl) (plain-unstopped tables locality own kept live few slot (commands.PolicyCommandCode own code) refl refl refl (code-alike kept chosen alike code ∙ unanswered _ h))
  assertion-passes (assertions.Locality localities) h =
      plain-passes _ _ _ refl (λ number. refl) (λ number. refl) (plain-unstopped tables locality own kept live few slot (commands.PolicyLocality own localities) refl refl refl (locality-alike kept chosen alike localities ∙ unanswered _ h))
  assertion-passes (assertions.CpHash digest) h =
      plain-passes _ _ _ refl (λ number. refl) (λ number. refl) (plain-unstopped tables locality own kept live few slot (commands.PolicyCpHash own digest) refl refl refl (cp_hash-alike kept chosen alike digest ∙ unanswered _ h))
  assertion-passes (assertions.NameHash digest) h =
      plain-passes _ _ _ refl (λ number. refl) (λ number. refl) (plain-unstopped tables locality own kept live few slot (commands.PolicyNameHash own digest) refl refl refl (name_hash-alike kept chosen alike digest ∙ unanswered _ h))
  assertion-passes (assertions.NvWritten written) h =
      plain-passes _ _ _ refl (λ number. refl) (λ number. refl) (plain-unstopped tables locality own kept live few slot (commands.PolicyNvWritten own written) refl refl refl (written-alike kept chosen alike written ∙ unanswered _ h))
  assertion-passes assertions.AuthValue h =
      plain-passes _ _ _ refl (λ number. refl) (λ number. refl) (plain-unstopped tables locality own kept live few slot (commands.PolicyAuthValue own) refl refl refl refl)
  assertion-passes assertions.Password h =
      plain-passes _ _ _ refl (λ number. refl) (λ number. refl) (plain-unstopped tables locality own kept live few slot (commands.PolicyPassword own) refl refl refl refl)
  assertion-passes assertions.PhysicalPresence h =
      plain-passes _ _ _ refl (λ number. refl) (λ number. refl) (plain-unstopped tables locality own kept live few slot (commands.PolicyPhysicalPresence own) refl refl refl refl)
  assertion-passes (assertions.Duplication object parent include) h =
      plain-passes _ _ _ refl (λ number. refl) (λ number. refl) (plain-unstopped tables locality own kept live few slot (commands.PolicyDuplicationSelect own object parent include) refl refl refl (duplication-alike kept chosen alike ∙ unanswered _ h))

  authorize_nv-found : (name : Name) (approved : Digest32) (o : Option IndexEntry) → index_in_sight (sight_of tables.world free) name ≡ o → index_block (client_on tables.world free grants goal locality) codes.PolicyAuthorizeNv (policy_authorize_nv_rule chosen) o ≡ None
      → Passed (ApproveNv name approved) (commands.PolicyAuthorizeNv (index_authority (directory_of setup) grants name) (index_handle (directory_of setup) name) own (password_area grants (index_authority (directory_of setup) grants name)))
  authorize_nv-found name approved None e h = absurd (none-some _ (sym h))
  authorize_nv-found name approved (Some entry) e h =
      let seen = see-index setup is tables.world of free name entry e in
      let read = index-readable codes.PolicyAuthorizeNv name entry (policy_authorize_nv_rule chosen entry) seen (unanswered _ h) in
      subst (λ (p : ℕ × ℕ). Passed (ApproveNv name approved) (commands.PolicyAuthorizeNv p.0 p.1 own (password_area grants p.0)))
      (λ i. (sym (reader-handle setup tables.world name entry seen grants) i, sym (index-handle setup tables.world name entry seen) i))
      (authorize_nv-passes name approved entry seen read)

  -- a move that needs no ticket
  pub move-passes : (act : Move) → is_verification None act ≡ false → move_block (client_on tables.world free grants goal locality) chosen act ≡ None
      → Passed act (command_of_move (directory_of setup) grants (record { handle = own; nonce = nonce }) None act)
  move-passes (Assert assertion) other h = assertion-passes assertion h
  move-passes (Or digests) other h =
      plain-passes _ _ _ refl (λ number. refl) (λ number. refl) (plain-unstopped tables locality own kept live few slot (commands.PolicyOr own digests) refl refl refl (or-alike kept chosen alike digests ∙ unanswered _ h))
  move-passes (Approve key policy_ref approved signature) other h = absurd (false≢true (sym other))
  move-passes (ApproveNv index approved) other h = authorize_nv-found index approved (index_in_sight (sight_of tables.world free) index) refl h

-- What the machine carries out nothing blocks for a chooser: each kind of move, by its command. Where the two
-- differ, a signature is right by chance.
use Rattle.std.proofs.Common.{◌≡◌, ◌⊎◌, inl, inr, ℕ, ◌+◌, Bool, true, false, [], List, refl, ap, sym, subst, ◌∙◌}
use Rattle.std.specs.Prelude.{ℤ, Option, Some, None, is_some, option_map, slice_index, unwrap_or}
use Rattle.std.specs.Option.{option_map_or}
use Rattle.std.proofs.lemmas.Bool.{false≢true}
use Rattle.std.proofs.lemmas.Slice.Eq.{bytes_eq-Decides}
use Rattle.tpm_auth.specs.Signatures.{signature_of, signed_hash}
use Rattle.tpm_bindings.specs.State.{SessionState}
use Rattle.tpm_engine.specs.Answers.{early_stop, first_stop, own_rule}
use Rattle.tpm_engine.specs.Authorization.{authorization_stop, number_of_command}
use Rattle.tpm_engine.specs.PolicyCommands.{policy_rule, verified_digest}
use Rattle.tpm_engine.specs.Stops.{handles_stop, refuses, room_stop, session_stop}
use Rattle.tpm_engine.specs.Tables.{TableState}
use Rattle.tpm_engine.proofs.Stopping.{found, map-none, or_else-none, unless-none}
use Rattle.tpm_policy.specs.Judgments.{is_approval_ticket, is_signature}
use Rattle.tpm_pcr.specs.Pcrs.{selection_digest}
use Rattle.tpm_rules.specs.Entity.{Entity}
use Rattle.tpm_rules.specs.NvAuthority.{nv_authority_rule}
use Rattle.tpm_rules.specs.Objects.{signing_key_rule, verify_signature_rule}
use Rattle.tpm_rules.specs.Password.{password_denial}
use Rattle.tpm_rules.specs.PolicyAuthorize.{policy_authorize_rule}
use Rattle.tpm_rules.specs.PolicyAuthorizeNv.{policy_authorize_nv_rule}
use Rattle.tpm_rules.specs.PolicyNv.{policy_nv_rule}
use Rattle.tpm_rules.specs.PolicySecret.{policy_secret_rule}
use Rattle.tpm_rules.specs.PolicySigned.{policy_signed_rule}
use Rattle.tpm_rules.specs.Rule.{or_else, unless}
use Rattle.tpm_session.specs.Slots.{state_at}
use Rattle.tpm_world.specs.Entities.{entity_at}
use Rattle.tpol_wire.specs.Handles.{area_of, handles_of, policy_session_of}
use Rattle.tpm_world.specs.Hashes.{proof_of}
use Rattle.tpm_world.specs.Missing.{missing_index, missing_object}
use Rattle.tpm_world.specs.Objects.{object_of}
use Rattle.tpm_world.specs.World.{WorldState, sight_of}
use Rattle.tpol_base.specs.declared.command_code.CommandCode.{CommandCode}
use Rattle.tpol_base.specs.declared.command_code.CommandCode.TheVariants as codes
use Rattle.tpol_base.specs.declared.compare.Compare.{Compare}
use Rattle.tpol_base.specs.declared.digest.Digest32.{Digest32}
use Rattle.tpol_base.specs.declared.name.Name.{Name}
use Rattle.tpol_base.specs.CommandCode.{number_of_code}
use Rattle.tpol_base.specs.Digest.{is_same_digest, optional_bytes}
use Rattle.tpol_base.specs.ResponseCode.{of_parameter, rc_signature}
use Rattle.tpol_choose.specs.Entities.{EntityAt, entity_of_name as entity_at_name}
use Rattle.tpol_choose.specs.Keys.{is_same_block}
use Rattle.tpol_choose.specs.Moves.{answered, assertion_block, code_of_denial, index_block, move_block, password_rule, reader_of, reading_rule, secret_block, signed_block, signing_block}
use Rattle.tpol_base.proofs.Digests.{same_digest as digest-same}
use Rattle.tpol_driver.specs.Commands.{command_of_assertion, command_of_move, key_of, or_null, password_area}
use Rattle.tpol_driver.specs.Driving.{is_verification}
use Rattle.tpol_driver.specs.Plans.{is_granted_key, is_known_assertion, is_known_move}
use Rattle.tpol_goal.specs.declared.goal.Goal.{Goal}
use Rattle.tpol_goal.specs.declared.grants.Grants.{Grants}
use Rattle.tpol_goal.specs.Entities.{index_in_sight, index_of_name, object_in_sight, object_of_name}
use Rattle.tpol_goal.specs.Grants.{authority, granted, secret_of}
use Rattle.tpol_name.specs.declared.entries.DirEntry.{DirEntry}
use Rattle.tpol_name.specs.declared.entries.IndexEntry.{IndexEntry}
use Rattle.tpol_name.specs.declared.entries.ObjectEntry.{ObjectEntry}
use Rattle.tpol_name.specs.declared.setup.Setup.{Setup}
use Rattle.tpol_name.specs.Directories.{directory_of, line_of_object}
use Rattle.tpol_name.specs.Setups.{IsSetup}
use Rattle.tpol_tree.specs.declared.closed.Assertion.{Assertion}
use Rattle.tpol_tree.specs.declared.closed.Assertion.TheVariants as assertions
use Rattle.tpol_tree.specs.declared.path.Move.{Move}
use Rattle.tpol_tree.specs.declared.path.Move.TheVariants.{Assert, Or, Approve, ApproveNv}
use Rattle.tpol_wire.specs.declared.command.Command.{Command}
use Rattle.tpol_wire.specs.declared.command.Command.TheVariants as commands
use Rattle.tpol_fields.specs.declared.ticket.Ticket.{Ticket}
use Rattle.tpol_laws.specs.Chances.{SignsByChance}
use Rattle.tpol_laws.proofs.Alike.{authorize-alike, authorize_nv-alike, code-alike, cp_hash-alike, duplication-alike, locality-alike, name_hash-alike, or-alike, pcr-alike, secret-alike, written-alike}
use Rattle.tpol_laws.proofs.Answered.{own-passed}
use Rattle.tpol_laws.proofs.Binds.{AreAlike}
use Rattle.tpol_laws.proofs.Own.{IsOf}
use Rattle.tpol_laws.proofs.Passing.{client_on}
use Rattle.tpol_laws.proofs.Seen.{ReadBy, SeenIndex, SeenObject, entity-listed, index-handle, index-listed, object-line, read-by, reader-handle, see-entity, see-index, see-object}
use Rattle.tpol_laws.proofs.Unstopped.{own-rule-on, password-stopped}

-- ---- what holds of a command that nothing stops

pub authorized : (tables : TableState) (locality : ℕ) (command : Command) → first_stop tables locality command ≡ None → authorization_stop tables locality command ≡ None
authorized tables locality command none =
    let early = (or_else-none (early_stop tables locality command) (option_map refuses (own_rule tables command)) none).0 in
    let session = (or_else-none (handles_stop tables command) (or_else (session_stop tables command) (or_else (authorization_stop tables locality command) (room_stop tables command))) early).1 in
    let rest = (or_else-none (session_stop tables command) (or_else (authorization_stop tables locality command) (room_stop tables command)) session).1 in
    (or_else-none (authorization_stop tables locality command) (room_stop tables command) rest).0

-- its password is not denied
undenied : (tables : TableState) (locality : ℕ) (command : Command) (grants : Grants) (handle : ℕ) (entity : Entity)
    → area_of command ≡ Some (password_area grants handle) → slice_index (handles_of command) 0 ≡ handle → entity_at tables.world handle ≡ Some entity
    → authorization_stop tables locality command ≡ None → password_denial entity (number_of_command command) (secret_of grants.secrets handle) ≡ None
undenied tables locality command grants handle entity has first there none =
    map-none _ (password_denial entity (number_of_command command) (secret_of grants.secrets handle)) (sym (password-stopped tables locality command grants handle entity has first there) ∙ none)

-- ---- the commands on an index

reading-by : (world : WorldState) (grants : Grants) (code : CommandCode) (entry : IndexEntry) (own : Option ℕ) (handle : ℕ) (reader : EntityAt) → ReadBy world handle reader
    → password_denial reader.entity (number_of_code code) (secret_of grants.secrets handle) ≡ None
    → or_else (nv_authority_rule handle entry.public (number_of_code code)) own ≡ None
    → or_else (password_rule grants reader code) (or_else (nv_authority_rule reader.handle entry.public (number_of_code code)) own) ≡ None
reading-by world grants code entry own handle reader read undenied rule =
    ap (λ first. or_else (option_map (code_of_denial reader.entity code) first) (or_else (nv_authority_rule reader.handle entry.public (number_of_code code)) own))
    (subst (λ (n : ℕ). password_denial reader.entity (number_of_code code) (secret_of grants.secrets n) ≡ None) (sym read.same) undenied)
    ∙ subst (λ (n : ℕ). or_else (nv_authority_rule n entry.public (number_of_code code)) own ≡ None) (sym read.same) rule

-- ---- a key that is granted

record KeyFound (grants : Grants) (o : Option ObjectEntry) : Type 0 where
  object : ObjectEntry
  is : o ≡ Some object
  key : List ℕ
  has : granted grants.keys object.handle ≡ Some key

key-found : (grants : Grants) (o : Option ObjectEntry) → is_granted_key grants (option_map line_of_object o) ≡ true → KeyFound grants o
key-found grants None known = absurd (false≢true known)
key-found grants (Some object) known =
    let it = found (granted grants.keys object.handle) known in
    record { object = object; is = refl; key = it.value; has = it.is }

-- ---- each kind

module _ (setup : Setup) (is : IsSetup setup) (tables : TableState) (of : IsOf setup tables.world) (free : ℕ) (grants : Grants) (goal : Goal) (locality own : ℕ) (kept : SessionState) (live : state_at tables.sessions own ≡ Some kept) (nonce : Digest32) (owns : kept.nonce ≡ nonce) (chosen : SessionState) (alike : AreAlike kept chosen) where
  abbrev Opens : Move → Command → Type 0
  Opens act command = (move_block (client_on tables.world free grants goal locality) chosen act ≡ None) ⊎ SignsByChance grants tables.world command

  rule-held : (command : Command) (place : ℕ) → policy_session_of command ≡ Some (own, place) → first_stop tables locality command ≡ None → policy_rule tables.world kept command ≡ None
  rule-held command place has first = sym (own-rule-on tables own kept live command place has) ∙ own-passed tables locality command first

  -- a command on an index, by a password of its reader
  index-opens : (code : CommandCode) (name : Name) (entry : IndexEntry) (rule : Option ℕ) (command : Command) → SeenIndex setup tables.world name entry
      → area_of command ≡ Some (password_area grants (authority grants entry.public.index entry.public.attributes))
      → slice_index (handles_of command) 0 ≡ authority grants entry.public.index entry.public.attributes → number_of_command command ≡ number_of_code code
      → first_stop tables locality command ≡ None
      → or_else (nv_authority_rule (authority grants entry.public.index entry.public.attributes) entry.public (number_of_code code)) rule ≡ None
      → reading_rule (client_on tables.world free grants goal locality) entry code rule ≡ None
  index-opens code name entry rule command seen area handle same first held =
      let reader = reader_of (client_on tables.world free grants goal locality) entry in
      let read = read-by setup is tables.world of free grants name entry seen in
      let there = ap (entity_at tables.world) (sym read.same) ∙ read.there in
      let right = undenied tables locality command grants (authority grants entry.public.index entry.public.attributes) reader.entity area handle there (authorized tables locality command first) in
      reading-by tables.world grants code entry rule (authority grants entry.public.index entry.public.attributes) (reader_of (client_on tables.world free grants goal locality) entry) read
      (subst (λ (n : ℕ). password_denial reader.entity n (secret_of grants.secrets (authority grants entry.public.index entry.public.attributes)) ≡ None) same right) held

  nv-opens : (name : Name) (operand : List ℕ) (offset : ℕ) (operation : Compare) → is_some (index_of_name (directory_of setup) name) ≡ true
      → first_stop tables locality (command_of_assertion (directory_of setup) grants (record { handle = own; nonce = nonce }) (assertions.Nv name operand offset operation)) ≡ None
      → assertion_block (client_on tables.world free grants goal locality) chosen (assertions.Nv name operand offset operation) ≡ None
  nv-opens name operand offset operation known first =
      let it = found (index_in_sight (sight_of tables.world free) name) (index-listed setup is tables.world of free name ∙ known) in
      let entry = it.value in
      let seen = see-index setup is tables.world of free name it.value it.is in
      let reader = authority grants entry.public.index entry.public.attributes in
      let command = commands.PolicyNv reader entry.public.index own (password_area grants reader) operand offset operation in
      let now = subst (λ (p : ℕ × ℕ). first_stop tables locality (commands.PolicyNv p.0 p.1 own (password_area grants p.0) operand offset operation) ≡ None)
      (λ i. (reader-handle setup tables.world name it.value seen grants i, index-handle setup tables.world name it.value seen i)) first in
      let rule = sym (ap (λ (o : Option IndexEntry). option_map_or (λ (e : IndexEntry). or_else (nv_authority_rule reader e.public (number_of_code codes.PolicyNv)) (policy_nv_rule e operand offset operation)) o (Some missing_index)) seen.held)
      ∙ rule-held command 3 refl now in
      ap (index_block (client_on tables.world free grants goal locality) codes.PolicyNv (λ entry. policy_nv_rule entry operand offset operation)) it.is
      ∙ ap answered (index-opens codes.PolicyNv name it.value (policy_nv_rule it.value operand offset operation) command seen refl refl refl now rule)

  authorize_nv-opens : (name : Name) (approved : Digest32) → is_some (index_of_name (directory_of setup) name) ≡ true
      → first_stop tables locality (command_of_move (directory_of setup) grants (record { handle = own; nonce = nonce }) None (ApproveNv name approved)) ≡ None
      → move_block (client_on tables.world free grants goal locality) chosen (ApproveNv name approved) ≡ None
  authorize_nv-opens name approved known first =
      let it = found (index_in_sight (sight_of tables.world free) name) (index-listed setup is tables.world of free name ∙ known) in
      let entry = it.value in
      let seen = see-index setup is tables.world of free name it.value it.is in
      let reader = authority grants entry.public.index entry.public.attributes in
      let command = commands.PolicyAuthorizeNv reader entry.public.index own (password_area grants reader) in
      let now = subst (λ (p : ℕ × ℕ). first_stop tables locality (commands.PolicyAuthorizeNv p.0 p.1 own (password_area grants p.0)) ≡ None)
      (λ i. (reader-handle setup tables.world name it.value seen grants i, index-handle setup tables.world name it.value seen i)) first in
      let rule = sym (ap (λ (o : Option IndexEntry). option_map_or (λ (e : IndexEntry). or_else (nv_authority_rule reader e.public (number_of_code codes.PolicyAuthorizeNv)) (policy_authorize_nv_rule kept e)) o (Some missing_index)) seen.held)
      ∙ rule-held command 3 refl now in
      let rule_chosen = ap (or_else (nv_authority_rule reader entry.public (number_of_code codes.PolicyAuthorizeNv))) (sym (authorize_nv-alike kept chosen alike it.value)) ∙ rule in
      ap (index_block (client_on tables.world free grants goal locality) codes.PolicyAuthorizeNv (policy_authorize_nv_rule chosen)) it.is
      ∙ ap answered (index-opens codes.PolicyAuthorizeNv name it.value (policy_authorize_nv_rule chosen it.value) command seen refl refl refl now rule_chosen)

  -- ---- PolicySecret

  secret-opens : (name : Name) (policy_ref : List ℕ) (cp_hash : Option Digest32) (expiration : ℤ) → is_known_assertion (directory_of setup) grants (assertions.Secret name policy_ref cp_hash expiration) ≡ true
      → first_stop tables locality (command_of_assertion (directory_of setup) grants (record { handle = own; nonce = nonce }) (assertions.Secret name policy_ref cp_hash expiration)) ≡ None
      → assertion_block (client_on tables.world free grants goal locality) chosen (assertions.Secret name policy_ref cp_hash expiration) ≡ None
  secret-opens name policy_ref cp_hash expiration known first =
      let it = found (entity_at_name (sight_of tables.world free) name) (entity-listed setup is tables.world of free name ∙ known) in
      let entity = it.value in
      let seen = see-entity setup is tables.world of free name it.value it.is in
      let command = commands.PolicySecret entity.handle own (password_area grants entity.handle) nonce.bytes cp_hash policy_ref expiration in
      let now = subst (λ (n : ℕ). first_stop tables locality (commands.PolicySecret n own (password_area grants n) nonce.bytes cp_hash policy_ref expiration) ≡ None) (ap or_null seen.listed) first in
      let right = undenied tables locality command grants entity.handle entity.entity refl refl seen.there (authorized tables locality command now) in
      let rule = sym (secret-alike kept chosen alike nonce owns tables.world.time cp_hash expiration) ∙ rule-held command 2 refl now in
      ap (secret_block (client_on tables.world free grants goal locality) chosen cp_hash expiration) it.is
      ∙ ap answered (ap (λ denial. or_else (option_map (code_of_denial entity.entity codes.PolicySecret) denial) (policy_secret_rule chosen tables.world.time chosen.nonce.bytes cp_hash expiration)) right ∙ rule)

  -- ---- PolicySigned

  signed-opens : (name : Name) (policy_ref : List ℕ) (cp_hash : Option Digest32) (expiration : ℤ) (object : ObjectEntry) (key : List ℕ) → SeenObject setup tables.world name object
      → object_in_sight (sight_of tables.world free) name ≡ Some object → granted grants.keys object.handle ≡ Some key
      → first_stop tables locality (commands.PolicySigned object.handle own nonce.bytes cp_hash policy_ref expiration (signature_of (key_of grants object.handle) (signed_hash nonce.bytes expiration (optional_bytes cp_hash) policy_ref))) ≡ None
      → Opens (Assert (assertions.Signed name policy_ref cp_hash expiration))
      (commands.PolicySigned object.handle own nonce.bytes cp_hash policy_ref expiration (signature_of (key_of grants object.handle) (signed_hash nonce.bytes expiration (optional_bytes cp_hash) policy_ref)))
  signed-opens name policy_ref cp_hash expiration object key seen sees has first =
      let digest = signed_hash nonce.bytes expiration (optional_bytes cp_hash) policy_ref in
      let signature = signature_of (key_of grants object.handle) (signed_hash nonce.bytes expiration (optional_bytes cp_hash) policy_ref) in
      let rule = sym (ap (λ (o : Option ObjectEntry). option_map_or (λ (e : ObjectEntry). or_else (signing_key_rule e.public) (policy_signed_rule kept tables.world.time nonce.bytes cp_hash expiration (is_signature e.secret nonce.bytes expiration cp_hash policy_ref signature))) o (Some missing_object)) seen.held)
      ∙ rule-held (commands.PolicySigned object.handle own nonce.bytes cp_hash policy_ref expiration signature) 2 refl first in
      let parts = or_else-none (signing_key_rule object.public) (policy_signed_rule kept tables.world.time nonce.bytes cp_hash expiration (is_signature object.secret nonce.bytes expiration cp_hash policy_ref signature)) rule in
      let behind = or_else-none (policy_secret_rule kept tables.world.time nonce.bytes cp_hash expiration) (unless (is_signature object.secret nonce.bytes expiration cp_hash policy_ref signature) (rc_signature + of_parameter 5)) parts.1 in
      let secret = sym (secret-alike kept chosen alike nonce owns tables.world.time cp_hash expiration) ∙ behind.0 in
      let right = unless-none (is_signature object.secret nonce.bytes expiration cp_hash policy_ref signature) (rc_signature + of_parameter 5) behind.1 in
      at (is_same_block key object.secret) refl parts.0 secret
      (digest-same (signature_of (key_of grants object.handle) (signed_hash nonce.bytes expiration (optional_bytes cp_hash) policy_ref)) (signature_of object.secret (signed_hash nonce.bytes expiration (optional_bytes cp_hash) policy_ref))
      ((bytes_eq-Decides _ _).0 right))
    where
      at : (b : Bool) → is_same_block key object.secret ≡ b → signing_key_rule object.public ≡ None → policy_secret_rule chosen tables.world.time chosen.nonce.bytes cp_hash expiration ≡ None
          → signature_of (key_of grants object.handle) (signed_hash nonce.bytes expiration (optional_bytes cp_hash) policy_ref) ≡ signature_of object.secret (signed_hash nonce.bytes expiration (optional_bytes cp_hash) policy_ref)
          → Opens (Assert (assertions.Signed name policy_ref cp_hash expiration))
          (commands.PolicySigned object.handle own nonce.bytes cp_hash policy_ref expiration (signature_of (key_of grants object.handle) (signed_hash nonce.bytes expiration (optional_bytes cp_hash) policy_ref)))
      at true e signing secret same =
          inl (ap (signed_block (client_on tables.world free grants goal locality) chosen cp_hash expiration) sees
          ∙ ap (signing_block (client_on tables.world free grants goal locality) chosen cp_hash expiration object) has
          ∙ ap (λ b. answered (or_else (signing_key_rule object.public) (or_else (policy_secret_rule chosen tables.world.time chosen.nonce.bytes cp_hash expiration) (unless b (rc_signature + of_parameter 5))))) e
          ∙ ap (λ first. answered (or_else first (or_else (policy_secret_rule chosen tables.world.time chosen.nonce.bytes cp_hash expiration) None))) signing
          ∙ ap (λ first. answered (or_else first None)) secret)
      at false e signing secret same =
          inr (record {
            object = object;
            held = seen.held;
            apart = ap (λ (o : Option (List ℕ)). is_same_block (unwrap_or o []) object.secret) has ∙ e;
            same = same;
          })

  -- ---- each assertion

  assertion-opens : (assertion : Assertion) → is_known_assertion (directory_of setup) grants assertion ≡ true
      → first_stop tables locality (command_of_assertion (directory_of setup) grants (record { handle = own; nonce = nonce }) assertion) ≡ None
      → Opens (Assert assertion) (command_of_assertion (directory_of setup) grants (record { handle = own; nonce = nonce }) assertion)
  assertion-opens (assertions.Pcr mask digest values) known first =
      inl (ap answered (sym (pcr-alike kept chosen alike tables.world.pcrs.counter (selection_digest tables.world.pcrs.values mask) (Some digest)) ∙ rule-held (commands.PolicyPcr own (Some digest) mask) 1 refl first))
  assertion-opens (assertions.Nv name operand offset operation) known first = inl (nv-opens name operand offset operation known first)
  assertion-opens (assertions.Secret name policy_ref cp_hash expiration) known first = inl (secret-opens name policy_ref cp_hash expiration known first)
  assertion-opens (assertions.Signed name policy_ref cp_hash expiration) known first =
      let it = key-found grants (object_in_sight (sight_of tables.world free) name) (ap (is_granted_key grants) (object-line setup is tables.world of free name) ∙ known) in
      let seen = see-object setup is tables.world of free name it.object it.is in
      let same : or_null (option_map (λ (line : DirEntry). line.handle) (object_of_name (directory_of setup) name)) ≡ it.object.handle =
      ap (λ (o : Option DirEntry). or_null (option_map (λ (line : DirEntry). line.handle) o)) seen.listed in
      subst (λ (n : ℕ). Opens (Assert (assertions.Signed name policy_ref cp_hash expiration))
      (commands.PolicySigned n own nonce.bytes cp_hash policy_ref expiration (signature_of (key_of grants n) (signed_hash nonce.bytes expiration (optional_bytes cp_hash) policy_ref)))) (sym same)
      (signed-opens name policy_ref cp_hash expiration it.object it.key seen it.is it.has
      (subst (λ (n : ℕ). first_stop tables locality (commands.PolicySigned n own nonce.bytes cp_hash policy_ref expiration (signature_of (key_of grants n) (signed_hash nonce.bytes expiration (optional_bytes cp_hash) policy_ref))) ≡ None) same first))
  assertion-opens (assertions.CounterTimer operand offset operation) known first = inl (ap answered (rule-held (commands.PolicyCounterTimer own operand offset operation) 1 refl first))
  assertion-opens (assertions.CommandCode code) known first = inl (ap answered (sym (code-alike kept chosen alike code) ∙ rule-held (commands.PolicyCommandCode own code) 1 refl first))
  assertion-opens (assertions.Locality localities) known first = inl (ap answered (sym (locality-alike kept chosen alike localities) ∙ rule-held (commands.PolicyLocality own localities) 1 refl first))
  assertion-opens (assertions.CpHash digest) known first = inl (ap answered (sym (cp_hash-alike kept chosen alike digest) ∙ rule-held (commands.PolicyCpHash own digest) 1 refl first))
  assertion-opens (assertions.NameHash digest) known first = inl (ap answered (sym (name_hash-alike kept chosen alike digest) ∙ rule-held (commands.PolicyNameHash own digest) 1 refl first))
  assertion-opens (assertions.NvWritten written) known first = inl (ap answered (sym (written-alike kept chosen alike written) ∙ rule-held (commands.PolicyNvWritten own written) 1 refl first))
  assertion-opens assertions.AuthValue known first = inl refl
  assertion-opens assertions.Password known first = inl refl
  assertion-opens assertions.PhysicalPresence known first = inl refl
  assertion-opens (assertions.Duplication object parent include) known first =
      inl (ap answered (sym (duplication-alike kept chosen alike) ∙ rule-held (commands.PolicyDuplicationSelect own object parent include) 1 refl first))

  -- a move that needs no ticket
  pub move-opens : (act : Move) → is_verification None act ≡ false → is_known_move (directory_of setup) grants act ≡ true
      → first_stop tables locality (command_of_move (directory_of setup) grants (record { handle = own; nonce = nonce }) None act) ≡ None
      → Opens act (command_of_move (directory_of setup) grants (record { handle = own; nonce = nonce }) None act)
  move-opens (Assert assertion) other known first = assertion-opens assertion known first
  move-opens (Or digests) other known first = inl (ap answered (sym (or-alike kept chosen alike digests) ∙ rule-held (commands.PolicyOr own digests) 1 refl first))
  move-opens (Approve key policy_ref approved signature) other known first = absurd (false≢true (sym other))
  move-opens (ApproveNv index approved) other known first = inl (authorize_nv-opens index approved known first)

  -- ---- an approval by a key

  pub verify-holds : (object : ObjectEntry) (digest signature : Digest32) → object_of object.handle tables.world.objects ≡ Some object
      → first_stop tables locality (commands.VerifySignature object.handle digest signature) ≡ None → verify_signature_rule object.public (is_same_digest signature (signature_of object.secret digest)) ≡ None
  verify-holds object digest signature held first =
      sym (ap (λ (o : Option ObjectEntry). option_map_or (λ (e : ObjectEntry). verify_signature_rule e.public (is_same_digest signature (signature_of e.secret digest))) o (Some missing_object)) held)
      ∙ own-passed tables locality (commands.VerifySignature object.handle digest signature) first

  pub authorize-holds : (approved : Digest32) (policy_ref : List ℕ) (key : Name) (ticket : Ticket)
      → first_stop tables locality (commands.PolicyAuthorize own approved policy_ref key ticket) ≡ None → policy_authorize_rule chosen approved true ≡ None
  authorize-holds approved policy_ref key ticket first =
      let right = is_approval_ticket (proof_of tables.world.seed) approved policy_ref key (verified_digest ticket) in
      let rule = rule-held (commands.PolicyAuthorize own approved policy_ref key ticket) 1 refl first in
      let holds = unless-none (is_approval_ticket (proof_of tables.world.seed) approved policy_ref key (verified_digest ticket)) _ (or_else-none _ _ rule).1 in
      sym (authorize-alike kept chosen alike approved true) ∙ subst (λ b. policy_authorize_rule kept approved b ≡ None) holds rule

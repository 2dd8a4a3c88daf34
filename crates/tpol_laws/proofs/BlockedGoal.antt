-- A goal that the machine serves nothing blocks for a chooser, or its HMAC is right by chance.
use Rattle.std.proofs.Common.{◌≡◌, ◌≢◌, ◌≤◌, ◌⊎◌, inl, inr, ℕ, true, false, List, [], ◌∷◌, length, map, nat_eq, if◌then◌else◌, refl, ap, sym, subst, ◌∙◌}
use Rattle.std.specs.Prelude.{Option, Some, None, find, option_map}
use Rattle.std.specs.Option.{option_and_then, option_map_or}
use Rattle.std.specs.List.{Contains}
use Rattle.std.proofs.lemmas.Bool.{eq-eqb, false≢true}
use Rattle.tpm_bindings.specs.Facts.{last_auth}
use Rattle.tpm_bindings.specs.State.{SessionState}
use Rattle.tpm_engine.specs.Answers.{first_stop}
use Rattle.tpm_engine.specs.Authorization.{area_stop, authorization_stop, broken_check, check_stop, entity_stop, field_of, number_of_command, occasion_of, password_stop, policy_stop}
use Rattle.tpm_engine.specs.Stops.{denies, refuses}
use Rattle.tpm_engine.specs.Tables.{TableState}
use Rattle.tpm_engine.proofs.Stopping.{Found, map-none, or_else-none, unless-none}
use Rattle.tpm_rules.specs.declared.checks.Use.{Use}
use Rattle.tpm_rules.specs.declared.outcome.Denial.TheVariants as denials
use Rattle.tpm_rules.specs.AuthValue.{proves}
use Rattle.tpm_rules.specs.Checks.{broken_before_auth}
use Rattle.tpm_rules.specs.Entity.{Entity, auth_policy_of, auth_value_of, is_policy_available}
use Rattle.tpm_rules.specs.Objects.{duplicate_rule, hmac_rule, unseal_rule}
use Rattle.tpm_rules.specs.Rule.{or_else, unless}
use Rattle.tpm_nv.specs.Indices.{index_of}
use Rattle.tpm_nv.specs.Rules.{read_rule, write_rule}
use Rattle.tpm_session.specs.Slots.{IsSlotHandle, state_at}
use Rattle.tpm_world.specs.Entities.{entity_at, name_at}
use Rattle.tpm_world.specs.Hashes.{cp_hash}
use Rattle.tpm_world.specs.World.{sight_of}
use Rattle.tpol_base.specs.declared.check.Check.{Check}
use Rattle.tpol_base.specs.declared.check.Check.TheVariants.{AuthValue}
use Rattle.tpol_base.specs.declared.command_code.CommandCode.{CommandCode}
use Rattle.tpol_base.specs.declared.command_code.CommandCode.TheVariants as codes
use Rattle.tpol_base.specs.declared.name.Name.{Name}
use Rattle.tpol_base.specs.declared.name.Name.TheVariants.{Empty, Handle, Hash}
use Rattle.tpol_base.specs.CommandCode.{number_of_code}
use Rattle.tpol_base.specs.Name.{is_same_name}
use Rattle.tpol_base.specs.ResponseCode.{rc_auth_unavailable, rc_reference_s0, reference_of_handle}
use Rattle.tpol_choose.specs.declared.block.Why.TheVariants.{Deferred, GoalRule}
use Rattle.tpol_choose.specs.Blocks.{client_of}
use Rattle.tpol_choose.specs.Entities.{name_as_is, name_in_directory}
use Rattle.tpol_choose.specs.Goals.{Judged, counting_rule, goal_block, goal_use, judged, judged_block, on_index, own_block, proves as is_planned}
use Rattle.tpol_choose.specs.Keys.{is_same_block}
use Rattle.tpol_choose.specs.Moves.{rc_of}
use Rattle.tpol_driver.specs.declared.plan.Plan.{Plan}
use Rattle.tpol_driver.specs.declared.session.Session.{Session}
use Rattle.tpol_driver.specs.Commands.{caller_nonce}
use Rattle.tpol_driver.specs.GoalUse.{area_of_goal, auth_of_path, goal_command, goal_hmac, goal_secret}
use Rattle.tpol_goal.specs.declared.goal.Goal.{Goal}
use Rattle.tpol_goal.specs.declared.goal.Goal.TheVariants as goals
use Rattle.tpol_goal.specs.Commands.{command_of_goal}
use Rattle.tpol_goal.specs.Entities.{index_of_handle, name_of_handle, object_of_handle}
use Rattle.tpol_goal.specs.Goals.{HasShortOffset, IsGoal, IsGoalAmong, code_of_goal, entity_of_goal, handles_of_goal, second_handle, with_second}
use Rattle.tpol_goal.proofs.Shapes.{area_of-command_of_goal, code_of_goal-command}
use Rattle.tpol_name.specs.declared.areas.ObjectPublic.{ObjectPublic}
use Rattle.tpol_name.specs.declared.entries.DirEntry.{DirEntry}
use Rattle.tpol_name.specs.declared.entries.IndexEntry.{IndexEntry}
use Rattle.tpol_name.specs.declared.entries.ObjectEntry.{ObjectEntry}
use Rattle.tpol_name.specs.declared.setup.Setup.{Setup}
use Rattle.tpol_name.specs.Directories.{directory_of}
use Rattle.tpol_name.specs.Setups.{IsSetup}
use Rattle.tpol_wire.specs.declared.auth_area.AuthArea.{AuthArea}
use Rattle.tpol_wire.specs.declared.command.Command.{Command}
use Rattle.tpol_wire.specs.Authorizations.{AreaFits}
use Rattle.tpol_wire.specs.Commands.{FitsCommand}
use Rattle.tpol_laws.specs.Chances.{IsProvedByChance}
use Rattle.tpol_laws.proofs.Answered.{own-passed}
use Rattle.tpol_laws.proofs.Binds.{AreAlike}
use Rattle.tpol_laws.proofs.BlockedMacs.{IsAlike, field-judged}
use Rattle.tpol_laws.proofs.BlockedMoves.{authorized}
use Rattle.tpol_laws.proofs.GoalAt.{IsGoalAt, duplicate-fits, found-place, hmac-fits, increment-fits, judged_object, parent-at, read-fits, unseal-fits, write-fits}
use Rattle.tpol_laws.proofs.GoalChecks.{auth-alike, before-alike, is-proved}
use Rattle.tpol_laws.proofs.GoalEntities.{find-flip, index-there, object-there, same-indices}
use Rattle.tpol_laws.proofs.GoalKeys.{same-bytes}
use Rattle.tpol_laws.proofs.GoalShape.{shape-entity, shape-rule}
use Rattle.tpol_laws.proofs.GoalUses.{no-password, use-same}
use Rattle.tpol_laws.proofs.Lasting.{IsKept, kept as kept-of}
use Rattle.tpol_laws.proofs.Named.{mapped}
use Rattle.tpol_laws.proofs.Seen.{name-as-is}

-- ---- Names

name-itself : (name : Name) → is_same_name name name ≡ true
name-itself Empty = refl
name-itself (Handle handle) = eq-eqb handle handle refl
name-itself (Hash digest) = same-bytes digest.bytes

abbrev first-of : Name → List Name → Name
first-of other [] = other
first-of other (name ∷ names) = name

-- ---- the entity of a goal

module _ (setup : Setup) (is : IsSetup setup) (tables : TableState) (of : IsKept setup tables.world) (free : ℕ) where
  object-judged : (rule : ObjectPublic → Option ℕ) (handle : ℕ) → Contains (map (λ (o : ObjectEntry). o.handle) setup.objects) handle
      → Found (option_map (judged_object rule) (object_of_handle (sight_of tables.world free) handle))
  object-judged rule handle among =
      let it = found-place (λ (o : ObjectEntry). o.handle) handle setup.objects among.0 among.1 among.2 in
      record {
        value = judged_object rule it.value;
        is = ap (option_map (judged_object rule)) (ap (find (λ (o : ObjectEntry). nat_eq o.handle handle)) of.objects ∙ it.is);
      }

  index-judged : (code : CommandCode) (rule : IndexEntry → Option ℕ) (handle : ℕ) → Contains (map (λ (i : IndexEntry). i.public.index) setup.indices) handle
      → Found (option_map (on_index code rule) (index_of_handle (sight_of tables.world free) handle))
  index-judged code rule handle among =
      let it = found-place (λ (i : IndexEntry). i.public.index) handle setup.indices among.0 among.1 among.2 in
      let first : index_of handle setup.indices ≡ Some it.value = sym (find-flip (λ (i : IndexEntry). i.public.index) handle setup.indices) ∙ it.is in
      let now = mapped kept-of (index_of handle tables.world.indices) (kept-of it.value) (same-indices setup is tables of free handle ∙ ap (option_map kept-of) first) in
      record {
        value = on_index code rule now.value;
        is = ap (option_map (on_index code rule)) (find-flip (λ (i : IndexEntry). i.public.index) handle tables.world.indices ∙ now.is);
      }

  pub goal-found : (goal : Goal) → IsGoalAmong (map (λ (o : ObjectEntry). o.handle) setup.objects) (map (λ (i : IndexEntry). i.public.index) setup.indices) goal
      → Found (judged (sight_of tables.world free) goal)
  goal-found (goals.Unseal object) among = object-judged unseal_rule object among
  goal-found (goals.Hmac key buffer) among = object-judged hmac_rule key among
  goal-found (goals.NvRead index size offset) among = index-judged codes.NvRead (λ entry. read_rule entry offset size) index among
  goal-found (goals.NvWrite index offset bytes) among = index-judged codes.NvWrite (λ entry. write_rule entry offset (length bytes)) index among
  goal-found (goals.NvIncrement index) among = index-judged codes.NvIncrement (counting_rule (sight_of tables.world free)) index among
  goal-found (goals.Duplicate object parent) among = object-judged duplicate_rule object among.0

  -- the directory lists it
  object-listed : (rule : ObjectPublic → Option ℕ) (handle : ℕ) (found : Judged) → option_map (judged_object rule) (object_of_handle (sight_of tables.world free) handle) ≡ Some found
      → name_of_handle (directory_of setup) handle ≡ name_in_directory found.found.handle found.found.entity
  object-listed rule handle found h =
      let it = mapped (judged_object rule) (object_of_handle (sight_of tables.world free) handle) found h in
      (object-there setup is tables of free handle it.value it.is).there.is_listed ∙ ap (λ (f : Judged). name_in_directory f.found.handle f.found.entity) it.gives

  index-listed : (code : CommandCode) (rule : IndexEntry → Option ℕ) (handle : ℕ) (found : Judged) → option_map (on_index code rule) (index_of_handle (sight_of tables.world free) handle) ≡ Some found
      → name_of_handle (directory_of setup) handle ≡ name_in_directory found.found.handle found.found.entity
  index-listed code rule handle found h =
      let it = mapped (on_index code rule) (index_of_handle (sight_of tables.world free) handle) found h in
      (index-there setup is tables of free handle it.value it.is).there.is_listed ∙ ap (λ (f : Judged). name_in_directory f.found.handle f.found.entity) it.gives

  goal-listed : (goal : Goal) (found : Judged) → judged (sight_of tables.world free) goal ≡ Some found → name_of_handle (directory_of setup) (entity_of_goal goal) ≡ name_in_directory found.found.handle found.found.entity
  goal-listed (goals.Unseal object) found h = object-listed unseal_rule object found h
  goal-listed (goals.Hmac key buffer) found h = object-listed hmac_rule key found h
  goal-listed (goals.NvRead index size offset) found h = index-listed codes.NvRead (λ entry. read_rule entry offset size) index found h
  goal-listed (goals.NvWrite index offset bytes) found h = index-listed codes.NvWrite (λ entry. write_rule entry offset (length bytes)) index found h
  goal-listed (goals.NvIncrement index) found h = index-listed codes.NvIncrement (counting_rule (sight_of tables.world free)) index found h
  goal-listed (goals.Duplicate object parent) found h = object-listed duplicate_rule object found h

  -- where its Name is another than the one listed, the Names of the goal are others
  names-apart : (goal : Goal) (found : Judged) → judged (sight_of tables.world free) goal ≡ Some found → IsGoalAt setup tables free goal found
      → is_same_name (name_as_is found.found.handle found.found.entity) (name_in_directory found.found.handle found.found.entity) ≡ false
      → map (name_of_handle (directory_of setup)) (handles_of_goal goal) ≢ map (name_at tables.world) (handles_of_goal goal)
  names-apart goal found h at apart same =
      let now : name_at tables.world (entity_of_goal goal) ≡ name_as_is found.found.handle found.found.entity =
      name-as-is tables.world (entity_of_goal goal) found.found.entity at.entity ∙ ap (λ n. name_as_is n found.found.entity) (sym at.handle) in
      let one = first-same (second_handle goal) same in
      let listed = sym (goal-listed goal found h) ∙ one ∙ now in
      absurd (false≢true (sym apart ∙ ap (is_same_name (name_as_is found.found.handle found.found.entity)) listed ∙ name-itself (name_as_is found.found.handle found.found.entity)))
    where
      first-same : (second : Option ℕ) → map (name_of_handle (directory_of setup)) (with_second (entity_of_goal goal) second) ≡ map (name_at tables.world) (with_second (entity_of_goal goal) second)
          → name_of_handle (directory_of setup) (entity_of_goal goal) ≡ name_at tables.world (entity_of_goal goal)
      first-same None same = ap (first-of Empty) same
      first-same (Some second) same = ap (first-of Empty) same

  -- ---- its command is within the bounds of the wire

  object-bounds : (rule : ObjectPublic → Option ℕ) (handle : ℕ) (found : Judged) → option_map (judged_object rule) (object_of_handle (sight_of tables.world free) handle) ≡ Some found → (0x80000000 ≤ handle) × (handle ≤ 0x80ffffff)
  object-bounds rule handle found h =
      let it = mapped (judged_object rule) (object_of_handle (sight_of tables.world free) handle) found h in
      let at = object-there setup is tables of free handle it.value it.is in
      (at.low, at.high)

  index-bounds : (code : CommandCode) (rule : IndexEntry → Option ℕ) (handle : ℕ) (found : Judged) → option_map (on_index code rule) (index_of_handle (sight_of tables.world free) handle) ≡ Some found → (0x01000000 ≤ handle) × (handle ≤ 0x01ffffff)
  index-bounds code rule handle found h =
      let it = mapped (on_index code rule) (index_of_handle (sight_of tables.world free) handle) found h in
      let at = index-there setup is tables of free handle it.value it.is in
      (at.low, at.high)

  pub goal-fits : (goal : Goal) (found : Judged) (area : AuthArea) → IsGoal goal → HasShortOffset goal → AreaFits area
      → IsGoalAmong (map (λ (o : ObjectEntry). o.handle) setup.objects) (map (λ (i : IndexEntry). i.public.index) setup.indices) goal
      → judged (sight_of tables.world free) goal ≡ Some found → FitsCommand (command_of_goal goal area)
  goal-fits (goals.Unseal object) found area short offsets fits among h =
      let bounds = object-bounds unseal_rule object found h in unseal-fits object area bounds.0 bounds.1 fits
  goal-fits (goals.Hmac key buffer) found area short offsets fits among h =
      let bounds = object-bounds hmac_rule key found h in hmac-fits key area buffer bounds.0 bounds.1 fits short
  goal-fits (goals.NvRead index size offset) found area short offsets fits among h =
      let bounds = index-bounds codes.NvRead (λ entry. read_rule entry offset size) index found h in read-fits index area size offset bounds.0 bounds.1 fits short offsets
  goal-fits (goals.NvWrite index offset bytes) found area short offsets fits among h =
      let bounds = index-bounds codes.NvWrite (λ entry. write_rule entry offset (length bytes)) index found h in write-fits index area bytes offset bounds.0 bounds.1 fits short offsets
  goal-fits (goals.NvIncrement index) found area short offsets fits among h =
      let bounds = index-bounds codes.NvIncrement (counting_rule (sight_of tables.world free)) index found h in increment-fits index area bounds.0 bounds.1 fits
  goal-fits (goals.Duplicate object parent) found area short offsets fits among h =
      let bounds = object-bounds duplicate_rule object found h in
      let to = parent-at setup is tables of free parent among.1 in
      duplicate-fits object parent area bounds.0 bounds.1 to.low to.kind fits

-- ---- the goal's command, which nothing stops

module _ (setup : Setup) (is : IsSetup setup) (tables : TableState) (of : IsKept setup tables.world) (free locality : ℕ) (plan : Plan) (directory : plan.directory ≡ directory_of setup)
    (session : Session) (sent : ℕ) (slot : IsSlotHandle session.handle) (kept chosen : SessionState) (live : state_at tables.sessions session.handle ≡ Some kept)
    (alike : AreAlike kept chosen) (since : chosen.start ≡ tables.world.time) (auth : auth_of_path plan.path.moves ≡ (last_auth kept.facts))
    (found : Judged) (sees : judged (sight_of tables.world free) plan.goal ≡ Some found) (at : IsGoalAt setup tables free plan.goal found)
    (first : first_stop tables locality (goal_command plan session sent) ≡ None) where
  abbrev area : AuthArea
  area = area_of_goal session (caller_nonce plan.nonce_seed sent) (goal_hmac plan session (caller_nonce plan.nonce_seed sent))

  abbrev command : Command
  command = goal_command plan session sent

  abbrev entity : Entity
  entity = found.found.entity

  policy-stopped : authorization_stop tables locality command ≡ policy_stop tables locality command area entity kept
  policy-stopped =
      ap (option_and_then (area_stop tables locality command)) (area_of-command_of_goal plan.goal area)
      ∙ ap (λ (o : Option Entity). option_map_or (entity_stop tables locality command area) o (Some (refuses (reference_of_handle 1)))) (ap (entity_at tables.world) (shape-entity plan.goal area) ∙ at.entity)
      ∙ ap (λ b. if b then password_stop entity (number_of_command command) area.hmac else option_map_or (policy_stop tables locality command area entity) (state_at tables.sessions session.handle) (Some (refuses rc_reference_s0))) (no-password session.handle slot)
      ∙ ap (λ (o : Option SessionState). option_map_or (policy_stop tables locality command area entity) o (Some (refuses rc_reference_s0))) live

  passed : (unless (is_policy_available entity (number_of_command command)) (denies denials.Unavailable rc_auth_unavailable) ≡ None) × (option_map check_stop (broken_check tables locality command area entity kept) ≡ None)
  passed =
      or_else-none (unless (is_policy_available entity (number_of_command command)) (denies denials.Unavailable rc_auth_unavailable)) (option_map check_stop (broken_check tables locality command area entity kept))
      (sym policy-stopped ∙ authorized tables locality command first)

  available : is_policy_available entity (number_of_code (code_of_goal plan.goal)) ≡ true
  available =
      ap (λ (c : CommandCode). is_policy_available entity (number_of_code c)) (sym (code_of_goal-command plan.goal area))
      ∙ unless-none (is_policy_available entity (number_of_command command)) (denies denials.Unavailable rc_auth_unavailable) passed.0

  proved : (broken_before_auth kept (occasion_of tables locality command entity) (auth_policy_of entity) ≡ None) × (proves (field_of tables command area kept) (auth_value_of entity) (last_auth kept.facts) ≡ true)
  proved =
      is-proved kept (occasion_of tables locality command entity) (auth_policy_of entity) (proves (field_of tables command area kept) (auth_value_of entity))
      (map-none check_stop (broken_check tables locality command area entity kept) passed.1)

  before-none : broken_before_auth chosen (goal_use (client_of (sight_of tables.world free) plan.grants plan.goal locality) found.found) (auth_policy_of entity) ≡ None
  before-none =
      ap (λ (u : Use). broken_before_auth chosen u (auth_policy_of entity)) (sym (use-same setup tables free locality plan session sent found at))
      ∙ sym (before-alike kept chosen alike (occasion_of tables locality command entity) (sym since) (auth_policy_of entity)) ∙ proved.0

  rule-none : found.rule ≡ None
  rule-none = sym (shape-rule tables plan.goal area ∙ at.rule area) ∙ own-passed tables locality command first

  opened : is_planned plan.grants found.found (last_auth kept.facts) ≡ true → goal_block (client_of (sight_of tables.world free) plan.grants plan.goal locality) chosen ≡ None
  opened planned =
      let right : is_planned plan.grants found.found (last_auth chosen.facts) ≡ true = ap (is_planned plan.grants found.found) (sym (auth-alike kept chosen alike)) ∙ planned in
      ap (judged_block (client_of (sight_of tables.world free) plan.grants plan.goal locality) chosen) sees
      ∙ ap (λ b. or_else (or_else (unless b (GoalRule (rc_of rc_auth_unavailable)))
      (option_map Deferred (or_else (broken_before_auth chosen (goal_use (client_of (sight_of tables.world free) plan.grants plan.goal locality) found.found) (auth_policy_of entity)) (unless (is_planned plan.grants found.found (last_auth chosen.facts)) AuthValue)))) (own_block found.rule)) available
      ∙ ap (λ (o : Option Check). or_else (option_map Deferred (or_else o (unless (is_planned plan.grants found.found (last_auth chosen.facts)) AuthValue))) (own_block found.rule)) before-none
      ∙ ap (λ b. or_else (option_map Deferred (unless b AuthValue)) (own_block found.rule)) right
      ∙ ap own_block rule-none

  chanced : IsAlike plan session sent found.found at.handle at.value (cp_hash tables.world command) kept.nonce → IsProvedByChance plan tables.world kept.nonce session sent
  chanced one = record {
    entity = entity;
    there = at.entity;
    sends = one.sends;
    apart = apart one.apart;
    same = one.same;
  }
    where
      apart : (is_same_block (goal_secret plan) (auth_value_of entity) ≡ false) ⊎ (is_same_name (name_as_is found.found.handle found.found.entity) (name_in_directory found.found.handle found.found.entity) ≡ false)
          → (is_same_block (goal_secret plan) (auth_value_of entity) ≡ false) ⊎ (map (name_of_handle plan.directory) (handles_of_goal plan.goal) ≢ map (name_at tables.world) (handles_of_goal plan.goal))
      apart (inl keys) = inl keys
      apart (inr names) =
          inr (subst (λ (d : List DirEntry). map (name_of_handle d) (handles_of_goal plan.goal) ≢ map (name_at tables.world) (handles_of_goal plan.goal)) (sym directory)
          (names-apart setup is tables of free plan.goal found sees at names))

  pub goal-opens : (goal_block (client_of (sight_of tables.world free) plan.grants plan.goal locality) chosen ≡ None) ⊎ IsProvedByChance plan tables.world kept.nonce session sent
  goal-opens =
      by (field-judged plan session sent found.found at.handle at.value (last_auth kept.facts) (cp_hash tables.world command) kept.nonce auth proved.1)
    where
      by : (is_planned plan.grants found.found (last_auth kept.facts) ≡ true) ⊎ IsAlike plan session sent found.found at.handle at.value (cp_hash tables.world command) kept.nonce
          → (goal_block (client_of (sight_of tables.world free) plan.grants plan.goal locality) chosen ≡ None) ⊎ IsProvedByChance plan tables.world kept.nonce session sent
      by (inl planned) = inl (opened planned)
      by (inr one) = inr (chanced one)

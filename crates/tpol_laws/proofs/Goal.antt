-- Before its goal, which nothing blocks, a run is served: the machine stops nothing of the goal's command, and the
-- run finds the reply's authorization right.
use Rattle.std.proofs.Common.{◌≡◌, ◌≤◌, ℕ, true, List, [], length, map, if◌then◌else◌, refl, ap, sym, subst, ◌∙◌, arith}
use Rattle.std.specs.Prelude.{Option, Some, None, option_map}
use Rattle.std.specs.Option.{option_and_then}
use Rattle.std.proofs.lemmas.Option.{none-some}
use Rattle.tpm_auth.specs.SessionMacs.{reply_mac}
use Rattle.tpm_bindings.specs.Facts.{last_auth}
use Rattle.tpm_bindings.specs.State.{SessionState}
use Rattle.tpm_engine.specs.declared.event.Event.{Event}
use Rattle.tpm_engine.specs.Answers.{first_stop, own_rule, succeeding}
use Rattle.tpm_engine.specs.Authorization.{authorized_entity, broken_check, field_of, occasion_of, password_area, reply_area, reply_auth, reply_hmac, session_area}
use Rattle.tpm_engine.specs.Events.{Answered}
use Rattle.tpm_engine.specs.Stops.{apart_stop, handles_from, has_room, room_stop}
use Rattle.tpm_engine.specs.Sights.{sight_after}
use Rattle.tpm_engine.specs.Tables.{TableState}
use Rattle.tpm_engine.specs.Views.{next_number, session_state, view_of, world_at}
use Rattle.tpm_engine.proofs.Stopping.{Asked, first-asked, judged as stopped_by, map-none, or_else-none, unless-none}
use Rattle.tpm_rules.specs.declared.checks.Use.{Use}
use Rattle.tpm_rules.specs.AuthValue.{proves}
use Rattle.tpm_rules.specs.Checks.{first_broken_check}
use Rattle.tpm_rules.specs.Entity.{Entity, auth_policy_of, auth_value_of, is_policy_available}
use Rattle.tpm_rules.specs.Rule.{unless}
use Rattle.tpm_session.specs.Slots.{IsSlotHandle, bits_of, free_count, state_at}
use Rattle.tpm_world.specs.Entities.{entity_at, name_at}
use Rattle.tpol_wire.specs.Hashes.{rp_hash}
use Rattle.tpm_world.specs.Hashes.{cp_hash, nonce_of_event}
use Rattle.tpm_world.specs.Plain.{plain_reply}
use Rattle.tpm_world.specs.World.{sight_of}
use Rattle.tpol_base.specs.declared.command_code.CommandCode.{CommandCode}
use Rattle.tpol_base.specs.declared.digest.Digest32.{Digest32}
use Rattle.tpol_base.specs.CommandCode.{number_of_code}
use Rattle.tpol_base.specs.Digest.{digest_of_bytes}
use Rattle.tpol_base.specs.ResponseCode.{rc_auth_unavailable}
use Rattle.tpol_choose.specs.declared.block.Why.TheVariants.{Deferred, GoalRule}
use Rattle.tpol_choose.specs.Blocks.{client_of}
use Rattle.tpol_choose.specs.Clients.{Client}
use Rattle.tpol_choose.specs.Facts.{fresh_session}
use Rattle.tpol_choose.specs.Goals.{Judged, authorization_block, broken_check as planned_check, goal_block, goal_use, judged, judged_block, own_block, proves as is_planned}
use Rattle.tpol_choose.specs.Moves.{rc_of}
use Rattle.tpol_driver.specs.declared.end.End.TheVariants as ends
use Rattle.tpol_driver.specs.declared.end.Stage.TheVariants as stages
use Rattle.tpol_driver.specs.declared.plan.Plan.{Plan}
use Rattle.tpol_driver.specs.declared.session.Session.{Session}
use Rattle.tpol_driver.specs.Answers.{answer_of, answer_of_reply}
use Rattle.tpol_driver.specs.Commands.{caller_nonce}
use Rattle.tpol_driver.specs.Driving.{goal_done, goal_heard}
use Rattle.tpol_driver.specs.GoalUse.{area_of_goal, auth_of_path, bytes_of_reply, goal_command, goal_hmac, goal_secret, mac_key, plan_cp_hash, plan_rp_hash, right_hmac}
use Rattle.tpol_goal.specs.Commands.{command_of_goal, goal_cp_hash}
use Rattle.tpol_goal.specs.Entities.{name_of_handle}
use Rattle.tpol_goal.specs.Goals.{IsGoal, IsGoalAmong, code_of_goal, entity_of_goal}
use Rattle.tpol_goal.proofs.SameHashes.{cp_hash-same}
use Rattle.tpol_goal.proofs.Shapes.{area_of-command_of_goal, code_of_goal-command, handles_of_goal-command, policy_session_of-command_of_goal}
use Rattle.tpol_name.specs.declared.entries.DirEntry.{DirEntry}
use Rattle.tpol_name.specs.declared.entries.IndexEntry.{IndexEntry}
use Rattle.tpol_name.specs.declared.entries.ObjectEntry.{ObjectEntry}
use Rattle.tpol_name.specs.declared.setup.Setup.{Setup}
use Rattle.tpol_name.specs.Directories.{directory_of}
use Rattle.tpol_name.specs.Setups.{IsSetup}
use Rattle.tpol_wire.specs.declared.auth_area.AuthArea.{AuthArea}
use Rattle.tpol_wire.specs.declared.auth_area.ReplyAuth.{ReplyAuth}
use Rattle.tpol_wire.specs.declared.command.Command.{Command}
use Rattle.tpol_wire.specs.declared.reply.Reply.{Reply}
use Rattle.tpol_wire.specs.declared.reply.Reply.TheVariants as replies
use Rattle.tpol_wire.specs.Authorizations.{ReplyAuthFits}
use Rattle.tpol_wire.specs.Commands.{FitsCommand, code_of_command}
use Rattle.tpol_wire.specs.Replies.{PartsAnswer, parts_of, spell_reply}
use Rattle.tpol_wire.specs.ReplyReading.{reply_reading}
use Rattle.tpol_wire.proofs.ReplyLaws.{reply_read}
use Rattle.tpol_laws.specs.Acts.{Run}
use Rattle.tpol_laws.specs.GoalBytes.{goal_bytes}
use Rattle.tpol_laws.specs.Runs.{IsBegun}
use Rattle.tpol_laws.proofs.Binds.{AreAlike}
use Rattle.tpol_laws.proofs.Fit.{value-short}
use Rattle.tpol_laws.proofs.GoalAt.{IsGoalAt, IsNameListed, goal-at}
use Rattle.tpol_laws.proofs.GoalChecks.{auth-alike, is-proved, no-check}
use Rattle.tpol_laws.proofs.GoalMacs.{auth-along, field-right, reply-right, right-area, unless-short}
use Rattle.tpol_laws.proofs.GoalReplies.{goal-bytes}
use Rattle.tpol_laws.proofs.GoalShape.{shape-entity, shape-reply, shape-rule}
use Rattle.tpol_laws.proofs.GoalUses.{area-fits, no-password, use-same}
use Rattle.tpol_laws.proofs.Heard.{IsAcceptance}
use Rattle.tpol_laws.proofs.Lasting.{IsKept, is-kept}
use Rattle.tpol_laws.proofs.Moved.{carried-out, chooser-now, stands-live, time-now}
use Rattle.tpol_laws.proofs.Passing.{client_on}
use Rattle.tpol_laws.proofs.Standing.{ServesGoal, Stands, judged_after}

-- ---- what a goal has that nothing blocks

pub record IsOpen (client : Client) (chosen : SessionState) (o : Option Judged) : Type 0 where
  pub found : Judged
  pub is : o ≡ Some found
  pub available : is_policy_available found.found.entity (number_of_code (code_of_goal client.goal)) ≡ true
  pub checks : planned_check client chosen found.found ≡ None
  pub rule : found.rule ≡ None

opens : (client : Client) (chosen : SessionState) (o : Option Judged) → judged_block client chosen o ≡ None → IsOpen client chosen o
opens client chosen None none = absurd (none-some _ (sym none))
opens client chosen (Some found) none =
    let parts = or_else-none (authorization_block client chosen found.found) (own_block found.rule) none in
    let both = or_else-none (unless (is_policy_available found.found.entity (number_of_code (code_of_goal client.goal))) (GoalRule (rc_of rc_auth_unavailable))) (option_map Deferred (planned_check client chosen found.found)) parts.0 in
    record {
      found = found;
      is = refl;
      available = unless-none (is_policy_available found.found.entity (number_of_code (code_of_goal client.goal))) (GoalRule (rc_of rc_auth_unavailable)) both.0;
      checks = map-none Deferred (planned_check client chosen found.found) both.1;
      rule = map-none (λ code. GoalRule (rc_of code)) found.rule parts.1;
    }

-- ---- replies

done-reply : (plan : Plan) (sent : ℕ) (reply : Reply) (auth : ReplyAuth) → IsAcceptance reply → goal_heard plan sent (answer_of_reply reply (Some auth)) ≡ goal_done plan sent reply (Some auth)
done-reply plan sent (replies.Refused rc) auth accepts = absurd accepts
done-reply plan sent reply auth accepts = refl

-- ---- the goal's command on the tables

module _ (setup : Setup) (is : IsSetup setup) (tables : TableState) (of : IsKept setup tables.world) (free locality number : ℕ) (plan : Plan) (directory : plan.directory ≡ directory_of setup)
    (short : length (goal_secret plan) ≤ 32) (fits : IsGoal plan.goal)
    (among : IsGoalAmong (map (λ (o : ObjectEntry). o.handle) setup.objects) (map (λ (i : IndexEntry). i.public.index) setup.indices) plan.goal)
    (session : Session) (sent : ℕ) (slot : IsSlotHandle session.handle) (kept chosen : SessionState) (live : state_at tables.sessions session.handle ≡ Some kept) (nonce : kept.nonce ≡ session.nonce)
    (alike : AreAlike kept chosen) (since : chosen.start ≡ tables.world.time) (auth : auth_of_path plan.path.moves ≡ (last_auth kept.facts))
    (shown : IsOpen (client_of (sight_of tables.world free) plan.grants plan.goal locality) chosen (judged (sight_of tables.world free) plan.goal)) where
  goal-is : IsGoalAt setup tables free plan.goal shown.found
  goal-is = goal-at setup is tables of free plan.goal shown.found fits among shown.is

  abbrev caller : Digest32
  caller = caller_nonce plan.nonce_seed sent

  abbrev area : AuthArea
  area = area_of_goal session caller (goal_hmac plan session caller)

  abbrev command : Command
  command = command_of_goal plan.goal area

  abbrev entity : Entity
  entity = shown.found.found.entity

  asked : Asked tables command session.handle
  asked = record {
    area = area;
    entity = entity;
    state = kept;
    has_area = area_of-command_of_goal plan.goal area;
    is_session = ap (λ b. if b then None else Some session.handle) (no-password session.handle slot);
    has_entity = ap (entity_at tables.world) (shape-entity plan.goal area) ∙ goal-is.entity;
    has_state = live;
    available = ap (λ (c : CommandCode). is_policy_available entity (number_of_code c)) (code_of_goal-command plan.goal area) ∙ shown.available;
    apart = ap (λ o. apart_stop o session.handle) (policy_session_of-command_of_goal plan.goal area);
    handles = ap (handles_from tables 1) (handles_of_goal-command plan.goal area) ∙ goal-is.there;
  }

  -- the run's cpHash is the machine's, where the directory lists the entity by the Name that it has
  driven-same : IsNameListed shown.found → plan_cp_hash plan ≡ cp_hash tables.world command
  driven-same same =
      ap (λ (d : List DirEntry). goal_cp_hash (name_of_handle d) plan.goal) directory
      ∙ cp_hash-same (name_of_handle (directory_of setup)) (name_at tables.world) plan.goal area (goal-is.listed same)

  planned : is_planned plan.grants shown.found.found (last_auth kept.facts) ≡ true
  planned =
      ap (is_planned plan.grants shown.found.found) (auth-alike kept chosen alike)
      ∙ (is-proved chosen (goal_use (client_of (sight_of tables.world free) plan.grants plan.goal locality) shown.found.found) (auth_policy_of entity) (is_planned plan.grants shown.found.found) shown.checks).1

  broken-none : broken_check tables locality command area entity kept ≡ None
  broken-none =
      no-check kept chosen alike (occasion_of tables locality command entity) (sym since) (auth_policy_of entity) (is_planned plan.grants shown.found.found) (proves (field_of tables command area kept) (auth_value_of entity))
      (ap (λ (u : Use). first_broken_check chosen u (auth_policy_of entity) (is_planned plan.grants shown.found.found)) (use-same setup tables free locality plan session sent shown.found goal-is) ∙ shown.checks)
      (λ right. field-right plan session sent shown.found.found goal-is.handle goal-is.value (last_auth kept.facts) (cp_hash tables.world command) kept.nonce auth nonce driven-same right)

  pub nothing-stops : first_stop tables locality command ≡ None
  unfolding asked
  nothing-stops =
      first-asked tables locality command session.handle asked
      ∙ ap (λ broken. stopped_by broken (room_stop tables command) (own_rule tables command)) broken-none
      ∙ ap (λ (o : Option (ℕ × ℕ)). stopped_by None (option_and_then (λ (own : ℕ × ℕ). option_and_then has_room (state_at tables.sessions own.0)) o) (own_rule tables command)) (policy_session_of-command_of_goal plan.goal area)
      ∙ ap (λ rule. stopped_by None None rule) (shape-rule tables plan.goal area ∙ goal-is.rule area ∙ shown.rule)

  -- ---- bounds

  pub command-fits : FitsCommand command
  command-fits = goal-is.fits shown.rule area (area-fits plan session sent slot short (last_auth kept.facts) auth)

  -- ---- the reply

  abbrev reply : Reply
  reply = plain_reply tables.world command

  abbrev fresh : Digest32
  fresh = nonce_of_event tables.world.seed number

  abbrev answer_area : ReplyAuth
  answer_area = session_area tables number command reply area entity kept

  area-same : reply_auth tables number command reply ≡ Some answer_area
  unfolding asked
  area-same =
      ap (option_and_then (reply_area tables number command reply)) (area_of-command_of_goal plan.goal area)
      ∙ ap (λ b. if b then Some password_area else option_and_then (λ (e : Entity). option_map (session_area tables number command reply area e) (state_at tables.sessions session.handle)) (authorized_entity tables command)) (no-password session.handle slot)
      ∙ ap (option_and_then (λ (e : Entity). option_map (session_area tables number command reply area e) (state_at tables.sessions session.handle))) asked.has_entity
      ∙ ap (option_map (session_area tables number command reply area entity)) live

  bytes-same : (succeeding tables number command).reply ≡ spell_reply reply (Some answer_area)
  bytes-same =
      ap (λ (r : Reply). spell_reply r (reply_auth tables number command r)) (shape-reply tables number plan.goal area) ∙ ap (spell_reply reply) area-same

  hmac-same : answer_area.hmac ≡ right_hmac plan sent reply fresh.bytes
  hmac-same =
      ap (λ (c : CommandCode). reply_hmac (last_auth kept.facts) (auth_value_of entity) (goal_hmac plan session caller) (λ key. reply_mac key (rp_hash (number_of_code c) reply) fresh caller.bytes 0)) (code_of_goal-command plan.goal area)
      ∙ reply-right plan session sent shown.found.found goal-is.handle goal-is.value (last_auth kept.facts) reply fresh auth planned

  answer-fits : ReplyAuthFits answer_area
  answer-fits = record {
    nonce = omega (arith, (nonce_of_event tables.world.seed number).whole);
    attributes = omega arith;
    hmac = subst (λ (hmac : List ℕ). length hmac ≤ 64) (sym hmac-same) (unless-short (mac_key plan) (reply_mac (mac_key plan) (plan_rp_hash plan reply) (digest_of_bytes fresh.bytes) caller.bytes 0));
  }

  reply-reads : reply_reading (number_of_code (code_of_command command)) (spell_reply reply (Some answer_area)) ≡ Some (reply, Some answer_area)
  reply-reads =
      reply_read (number_of_code (code_of_command command)) _ reply (Some answer_area) (record {
        whole = refl;
        fits = (goal-is.reply area).fits answer_area answer-fits;
        answers = subst (λ (c : CommandCode). PartsAnswer (number_of_code c) (parts_of reply)) (sym (code_of_goal-command plan.goal area)) (goal-is.reply area).answers;
      })

  pub heard-served : goal_heard plan sent (answer_of (reply_reading (number_of_code (code_of_command command)) (succeeding tables number command).reply)) ≡ ends.Served (bytes_of_reply reply)
  heard-served =
      ap (λ (bytes : List ℕ). goal_heard plan sent (answer_of (reply_reading (number_of_code (code_of_command command)) bytes))) bytes-same
      ∙ ap (λ (read : Option (Reply × Option ReplyAuth)). goal_heard plan sent (answer_of read)) reply-reads
      ∙ done-reply plan sent reply answer_area (goal-is.reply area).accepts
      ∙ ap (λ b. if b then ends.Served (bytes_of_reply reply) else ends.BadReply stages.Goal) (right-area plan sent reply fresh answer_area.hmac hmac-same)

-- ---- the run

-- its session has the last PolicyAuthValue or PolicyPassword of the path
pub auth-kept : (run : Run) (first past : List Event) (session : Session) → Stands run first past session (judged_after run first run.plan.path.moves)
    → auth_of_path run.plan.path.moves ≡ (last_auth (session_state run.setup past session.handle).facts)
auth-kept run first past session on =
    sym (auth-along (sight_after run.setup first) run.plan.path.moves (fresh_session (sight_after run.setup first)) [] refl)
    ∙ sym (auth-alike (session_state run.setup past session.handle) (judged_after run first run.plan.path.moves) on.alike)

-- what the reply gives is told by the machine's world
gives-world : (run : Run) (past : List Event) (session : Session) (sent : ℕ)
    → bytes_of_reply (plain_reply (view_of run.setup past).world (goal_command run.plan session sent)) ≡ goal_bytes (world_at run.setup past) run.plan.goal
unfolding view_of
gives-world run past session sent = goal-bytes (world_at run.setup past) run.plan.goal (area_of_goal session (caller_nonce run.plan.nonce_seed sent) (goal_hmac run.plan session (caller_nonce run.plan.nonce_seed sent)))

pub serves-goal : (run : Run) → IsBegun run → (first : List Event) → ServesGoal run first
serves-goal run is first past session sent on none =
    let tables = view_of run.setup past in
    let free = free_count (view_of run.setup first).sessions (bits_of (view_of run.setup first).saved) in
    let kept = session_state run.setup past session.handle in
    let chosen = judged_after run first run.plan.path.moves in
    let live = stands-live run first past session (judged_after run first run.plan.path.moves) on in
    let now = subst (λ (c : Client). goal_block c (judged_after run first run.plan.path.moves) ≡ None) (sym (chooser-now run first past on.world)) none in
    let shown = opens (client_on (view_of run.setup past).world free run.plan.grants run.plan.goal run.locality) (judged_after run first run.plan.path.moves) (judged (sight_of (view_of run.setup past).world free) run.plan.goal) now in
    let since = on.since ∙ time-now run first past on.world in
    let auth = auth-kept run first past session on in
    let short = value-short run.plan.grants.secrets (entity_of_goal run.plan.goal) is.grants.secrets in
    let stops = nothing-stops run.setup is.setup tables (is-kept run.setup past) free run.locality (next_number past) run.plan is.directory short is.fits is.among session sent on.slot kept chosen live on.nonce on.alike since auth shown in
    let fits = command-fits run.setup is.setup tables (is-kept run.setup past) free run.locality (next_number past) run.plan is.directory short is.fits is.among session sent on.slot kept chosen live on.nonce on.alike since auth shown in
    ap (λ (a : Answered). goal_heard run.plan sent (answer_of (reply_reading (number_of_code (code_of_command (goal_command run.plan session sent))) a.reply))) (carried-out run past (goal_command run.plan session sent) fits stops)
    ∙ heard-served run.setup is.setup tables (is-kept run.setup past) free run.locality (next_number past) run.plan is.directory short is.fits is.among session sent on.slot kept chosen live on.nonce on.alike since auth shown
    ∙ ap ends.Served (gives-world run past session sent)

-- The use of the policy session on the goal, which the machine and who chooses see alike, and the bounds of the
-- goal's authorization.
use Rattle.std.proofs.Common.{◌≡◌, ◌≤◌, ◌<◌, ℕ, ◌+◌, ◌||◌, false, List, length, nat_eq, ap, sym, subst, ◌∙◌, arith}
use Rattle.std.proofs.lemmas.Bool.{eq-eqb, false≢true}
use Rattle.std.proofs.lemmas.Bool.Decides.{nat_tests}
use Rattle.tpm_bindings.specs.declared.last_auth.LastAuth.{LastAuth}
use Rattle.tpm_engine.specs.Authorization.{occasion_of}
use Rattle.tpm_engine.specs.Tables.{TableState}
use Rattle.tpm_rules.specs.declared.checks.Use.{Use}
use Rattle.tpm_rules.specs.Entity.{is_duplicate, written_state}
use Rattle.tpm_session.specs.Slots.{IsSlotHandle}
use Rattle.tpm_world.specs.Entities.{name_at}
use Rattle.tpm_world.specs.Hashes.{cp_hash, name_hash}
use Rattle.tpm_world.specs.World.{sight_of}
use Rattle.tpol_base.specs.declared.command_code.CommandCode.{CommandCode}
use Rattle.tpol_base.specs.declared.digest.Digest32.{Digest32}
use Rattle.tpol_base.specs.declared.name.Name.{Name}
use Rattle.tpol_base.specs.CommandCode.{number_of_code}
use Rattle.tpol_base.specs.Handle.{is_policy_session, rs_pw}
use Rattle.tpol_choose.specs.Blocks.{client_of}
use Rattle.tpol_choose.specs.Goals.{Judged, goal_use}
use Rattle.tpol_driver.specs.declared.plan.Plan.{Plan}
use Rattle.tpol_driver.specs.declared.session.Session.{Session}
use Rattle.tpol_driver.specs.Commands.{caller_nonce}
use Rattle.tpol_driver.specs.GoalUse.{area_of_goal, auth_of_path, goal_command, goal_hmac, goal_secret, hmac_by}
use Rattle.tpol_goal.specs.Commands.{goal_cp_hash}
use Rattle.tpol_goal.specs.Entities.{name_in_sight}
use Rattle.tpol_goal.specs.Goals.{code_of_goal}
use Rattle.tpol_goal.proofs.SameHashes.{cp_hash-same, name_hash-same}
use Rattle.tpol_goal.proofs.Shapes.{code_of_goal-command}
use Rattle.tpol_name.specs.declared.setup.Setup.{Setup}
use Rattle.tpol_wire.specs.declared.auth_area.AuthArea.{AuthArea}
use Rattle.tpol_wire.specs.declared.command.Command.{Command}
use Rattle.tpol_wire.specs.Authorizations.{AreaFits}
use Rattle.tpol_laws.proofs.Fit.{session-handle}
use Rattle.tpol_laws.proofs.GoalAt.{IsGoalAt}
use Rattle.tpol_laws.proofs.GoalMacs.{hmac-short}

-- a slot's handle stands for no password
pub no-password : (handle : ℕ) → IsSlotHandle handle → nat_eq handle rs_pw ≡ false
no-password handle slot =
    let most : handle < 0x03000000 + 64 = slot.1 in
    grind (arith, nat_tests, most)

-- ---- the use of the session

module _ (setup : Setup) (tables : TableState) (free locality : ℕ) (plan : Plan) (session : Session) (sent : ℕ) (found : Judged) (at : IsGoalAt setup tables free plan.goal found) where
  abbrev area : AuthArea
  area = area_of_goal session (caller_nonce plan.nonce_seed sent) (goal_hmac plan session (caller_nonce plan.nonce_seed sent))

  abbrev command : Command
  command = goal_command plan session sent

  -- the Names that the machine shows
  abbrev now : ℕ → Name
  now = name_in_sight (sight_of tables.world free)

  abbrev used : ℕ → Digest32 → Digest32 → Use
  used code cp names = record {
    code = code;
    duplicate_role = is_duplicate code;
    cp_hash = cp;
    name_hash = names;
    locality = locality;
    presence = tables.world.presence;
    time = tables.world.time;
    pcr_counter = tables.world.pcrs.counter;
    written = written_state found.found.entity;
  }

  pub use-same : occasion_of tables locality (goal_command plan session sent) found.found.entity ≡ goal_use (client_of (sight_of tables.world free) plan.grants plan.goal locality) found.found
  use-same =
      ap (λ (c : CommandCode). used (number_of_code c) (cp_hash tables.world command) (name_hash tables.world command)) (code_of_goal-command plan.goal area)
      ∙ ap (λ (d : Digest32). used (number_of_code (code_of_goal plan.goal)) d (name_hash tables.world command)) (sym (cp_hash-same now (name_at tables.world) plan.goal area (sym at.seen)))
      ∙ ap (λ (d : Digest32). used (number_of_code (code_of_goal plan.goal)) (goal_cp_hash now plan.goal) d) (sym (name_hash-same now (name_at tables.world) plan.goal area (sym at.seen)))

-- ---- bounds

module _ (plan : Plan) (session : Session) (sent : ℕ) (slot : IsSlotHandle session.handle) (short : length (goal_secret plan) ≤ 32) (last : LastAuth) (auth : auth_of_path plan.path.moves ≡ last) where
  hmac-fits : length (goal_hmac plan session (caller_nonce plan.nonce_seed sent)) ≤ 64
  hmac-fits =
      subst (λ (hmac : List ℕ). length hmac ≤ 64) (sym (ap (λ by. hmac_by by plan session (caller_nonce plan.nonce_seed sent)) auth)) (hmac-short plan session (caller_nonce plan.nonce_seed sent) last short)

  pub area-fits : AreaFits (area_of_goal session (caller_nonce plan.nonce_seed sent) (goal_hmac plan session (caller_nonce plan.nonce_seed sent)))
  area-fits = record {
    nonce = omega (arith, (caller_nonce plan.nonce_seed sent).whole);
    hmac = hmac-fits;
    session = ap (λ b. b || is_policy_session session.handle) (no-password session.handle slot) ∙ (session-handle session.handle slot).kind;
    attributes = omega arith;
    password = λ same. absurd (false≢true (sym (no-password session.handle slot) ∙ eq-eqb session.handle rs_pw same));
  }

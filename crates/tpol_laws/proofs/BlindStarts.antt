-- The turns of a blind run beside those on its paths: the start of its session, and the PolicyRestart between two tries.
use Rattle.std.proofs.Common.{◌≡◌, ◌≤◌, ◌⊎◌, inl, inr, ℕ, ◌+◌, List, ◌∷◌, ap, ◌∙◌, arith}
use Rattle.std.specs.Prelude.{Option, Some, None}
use Rattle.tpm_engine.specs.declared.event.Event.{Event}
use Rattle.tpm_engine.specs.Answers.{first_stop}
use Rattle.tpm_engine.specs.Events.{Answered}
use Rattle.tpm_engine.specs.SessionCommands.{start_rule}
use Rattle.tpm_engine.specs.Sights.{sight_after}
use Rattle.tpm_engine.specs.Views.{next_number, view_of}
use Rattle.tpol_base.specs.declared.command_code.CommandCode.TheVariants as codes
use Rattle.tpol_base.specs.declared.rc.Rc.{Rc}
use Rattle.tpol_base.specs.CommandCode.{number_of_code}
use Rattle.tpol_choose.specs.Facts.{fresh_session}
use Rattle.tpol_driver.specs.declared.blind_end.BlindEnd.TheVariants as blind_ends
use Rattle.tpol_driver.specs.declared.blind_end.Tried.{Tried}
use Rattle.tpol_driver.specs.declared.end.Stage.TheVariants as stages
use Rattle.tpol_driver.specs.declared.session.Session.{Session}
use Rattle.tpol_driver.specs.Answers.{answer_of}
use Rattle.tpol_driver.specs.Blind.{BlindStanding, Closing, Over, blind_start_heard, first_try, next_try, none_tried, restart_heard, tried_from}
use Rattle.tpol_driver.specs.Commands.{start_command}
use Rattle.tpol_wire.specs.declared.auth_area.ReplyAuth.{ReplyAuth}
use Rattle.tpol_wire.specs.declared.command.Command.TheVariants as commands
use Rattle.tpol_wire.specs.declared.reply.Reply.{Reply}
use Rattle.tpol_wire.specs.Commands.{spelling}
use Rattle.tpol_wire.specs.ReplyReading.{reply_reading}
use Rattle.tpol_laws.specs.Acts.{Course, event_in}
use Rattle.tpol_laws.specs.BlindRuns.{BlindCourse, BlindRun, after_blind_turn, blind_begun, blind_turns, run_of_try}
use Rattle.tpol_laws.proofs.Answered.{on-answer, own-passed, read-back, refusal-read, stop-code}
use Rattle.tpol_laws.proofs.BlindTurns.{next-after, trying}
use Rattle.tpol_laws.proofs.Codes.{first-coded, start-coded}
use Rattle.tpol_laws.proofs.Fit.{fits-start}
use Rattle.tpol_laws.proofs.Restarted.{Keeps, restarted}
use Rattle.tpol_laws.proofs.Served.{Begun, start-moved}
use Rattle.tpol_laws.proofs.Standing.{Stands}

-- ---- where the run comes to

-- within one turn more it begins with the path at this place, with a session that has no facts
pub record IsEntered (run : BlindRun) (first : List Event) (used next : ℕ) : Type 0 where
  pub turns : ℕ
  pub within : turns ≤ used + 1
  pub past : List Event
  pub session : Session
  pub sent : ℕ
  pub tries : List Tried
  pub is : blind_turns run turns (blind_begun first) ≡ trying past session sent next None 0 tries
  pub stands : Stands (run_of_try run next) first past session (fresh_session (sight_after run.setup first))

-- no path is left: its session ends, and then the run
pub record IsClosed (run : BlindRun) (first : List Event) : Type 0 where
  pub turns : ℕ
  pub session : ℕ
  pub tries : List Tried
  pub is : (blind_turns run turns (blind_begun first)).standing ≡ Closing session (blind_ends.NoBranch tries)

abbrev pub Enters : BlindRun → List Event → ℕ → Option ℕ → Type 0
Enters run first used None = IsClosed run first
Enters run first used (Some next) = IsEntered run first used next

-- ---- another path of the same machine

stands-along : (run : BlindRun) (place next : ℕ) (first past : List Event) (session : Session) → Stands (run_of_try run place) first past session (fresh_session (sight_after run.setup first))
    → Stands (run_of_try run next) first past session (fresh_session (sight_after run.setup first))
stands-along run place next first past session on =
    record { slot = on.slot; held = on.held; unsaved = on.unsaved; nonce = on.nonce; alike = on.alike; since = on.since; world = on.world }

keeps-along : (run : BlindRun) (place next : ℕ) (first past : List Event) (session : Session) → Keeps (run_of_try run place) first past session → Keeps (run_of_try run next) first past session
keeps-along run place next first past session on =
    record { slot = on.slot; held = on.held; unsaved = on.unsaved; nonce = on.nonce; start = on.start; world = on.world }

-- ---- the start

pub started-enters : (run : BlindRun) (first : List Event) → start_rule (view_of run.setup first) ≡ None → Enters run first 0 (tried_from run.plan 0)
unfolding blind_turns
started-enters run first rule = by (tried_from run.plan 0) turned
  where
    start : Begun (run_of_try run 0) first
    start = start-moved (run_of_try run 0) first rule

    turned : blind_turns run 1 (blind_begun first) ≡ record { past = start.moved.past; standing = first_try run.plan start.session (tried_from run.plan 0) }
    turned =
        ap (λ (read : Option (Reply × Option ReplyAuth)). record { past = event_in (run_of_try run 0) first (start_command run.plan.nonce_seed) ∷ first; standing = blind_start_heard run.plan (answer_of read) }) start.reads
        ∙ ap (λ (c : Course). record { past = c.past; standing = first_try run.plan start.session (tried_from run.plan 0) }) start.moved.is

    by : (found : Option ℕ) → blind_turns run 1 (blind_begun first) ≡ record { past = start.moved.past; standing = first_try run.plan start.session found } → Enters run first 0 found
    by None is = record { turns = 1; session = start.session.handle; tries = none_tried run.plan; is = ap (λ (c : BlindCourse). c.standing) is }
    by (Some next) is = record {
      turns = 1;
      within = omega arith;
      past = start.moved.past;
      session = start.session;
      sent = 1;
      tries = none_tried run.plan;
      is = is;
      stands = stands-along run 0 next first start.moved.past start.session start.moved.stands;
    }

-- it is denied
pub record IsDenied (standing : BlindStanding) : Type 0 where
  pub rc : Rc
  pub is : standing ≡ Over (blind_ends.Denied stages.Start rc)

pub starts-or-denied : (run : BlindRun) (first : List Event) → (start_rule (view_of run.setup first) ≡ None) ⊎ IsDenied (blind_turns run 1 (blind_begun first)).standing
unfolding blind_turns
starts-or-denied run first =
    on-answer (λ (a : Answered). (start_rule (view_of run.setup first) ≡ None) ⊎ IsDenied (blind_start_heard run.plan (answer_of (reply_reading (number_of_code codes.StartAuthSession) a.reply))))
    (view_of run.setup first) (next_number first) run.locality (spelling (start_command run.plan.nonce_seed)) (start_command run.plan.nonce_seed)
    (read-back (start_command run.plan.nonce_seed) (fits-start run.plan.nonce_seed))
    (λ stop stops. inr (record {
      rc = record { code = stop.code };
      is = ap (λ (read : Option (Reply × Option ReplyAuth)). blind_start_heard run.plan (answer_of read)) (refusal-read (number_of_code codes.StartAuthSession) stop.code
          (stop-code (first_stop (view_of run.setup first) run.locality (start_command run.plan.nonce_seed)) stop
          (first-coded (view_of run.setup first) run.locality (start_command run.plan.nonce_seed) (start-coded (view_of run.setup first))) stops));
    }))
    (λ none. inl (own-passed (view_of run.setup first) run.locality (start_command run.plan.nonce_seed) none))

-- ---- between two tries

-- where a try was refused after so many turns, the next path comes, or the end
pub refused-enters : (run : BlindRun) (first past : List Event) (session : Session) (place sent : ℕ) (tries : List Tried) → Keeps (run_of_try run place) first past session
    → (used turns : ℕ) → turns ≤ used → blind_turns run turns (blind_begun first) ≡ record { past = past; standing = next_try session sent tries (tried_from run.plan (place + 1)) }
    → Enters run first used (tried_from run.plan (place + 1))
refused-enters run first past session place sent tries keeps used turns within is = by (tried_from run.plan (place + 1)) is
  where
    by : (found : Option ℕ) → blind_turns run turns (blind_begun first) ≡ record { past = past; standing = next_try session sent tries found } → Enters run first used found
    by None is = record { turns = turns; session = session.handle; tries = tries; is = ap (λ (c : BlindCourse). c.standing) is }
    by (Some next) is =
        let it = restarted (run_of_try run next) first past session (keeps-along run place next first past session keeps) in
        record {
          turns = turns + 1;
          within = omega (arith, within);
          past = event_in (run_of_try run next) past (commands.PolicyRestart session.handle) ∷ past;
          session = session;
          sent = sent + 1;
          tries = tries;
          is =
              next-after run turns (blind_begun first)
              ∙ ap (after_blind_turn run) is
              ∙ ap (λ (read : Option (Reply × Option ReplyAuth)). record { past = event_in (run_of_try run next) past (commands.PolicyRestart session.handle) ∷ past; standing = restart_heard session sent next tries (answer_of read) }) it.reads;
          stands = it.stands;
        }

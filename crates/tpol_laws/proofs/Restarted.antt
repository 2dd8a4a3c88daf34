-- PolicyRestart between two tries: the machine carries it out, and the session is as it was at its start.
use Rattle.std.proofs.Common.{◌≡◌, ℕ, true, List, ◌∷◌, map, refl, ap, ◌∙◌}
use Rattle.std.specs.Prelude.{Option, Some, None, is_some, if◌then◌else◌}
use Rattle.tpol_base.specs.declared.command_code.CommandCode.TheVariants as codes
use Rattle.tpol_base.specs.CommandCode.{number_of_code}
use Rattle.tpol_base.specs.ResponseCode.{rc_reference_h0}
use Rattle.tpol_choose.specs.Facts.{fresh_session}
use Rattle.tpol_driver.specs.declared.session.Session.{Session}
use Rattle.tpol_wire.specs.declared.command.Command.{Command}
use Rattle.tpol_wire.specs.declared.command.Command.TheVariants as commands
use Rattle.tpol_wire.specs.declared.reply.Reply.TheVariants as replies
use Rattle.tpol_wire.specs.Commands.{FitsCommand, ValuesFit, spelling}
use Rattle.tpol_fields.specs.Kinds.{Fits}
use Rattle.tpol_wire.specs.Replies.{FitsReply, spell_reply}
use Rattle.tpol_wire.specs.ReplyReading.{reply_reading}
use Rattle.tpol_wire.proofs.ReplyLaws.{reply_read}
use Rattle.tpm_bindings.specs.Facts.{is_in_time}
use Rattle.tpm_bindings.specs.State.{SessionState}
use Rattle.tpm_rules.specs.Rule.{or_else, unless}
use Rattle.tpm_engine.specs.declared.stop.Stop.{Stop}
use Rattle.tpm_session.specs.Slots.{IsSlotHandle, state_at}
use Rattle.tpm_engine.specs.declared.event.Event.{Event}
use Rattle.tpm_engine.specs.Answers.{first_stop}
use Rattle.tpm_engine.specs.Deeds.{Restarts, deed_of, use_of}
use Rattle.tpm_engine.specs.Events.{Answered, event_of}
use Rattle.tpm_engine.specs.Sights.{sight_after}
use Rattle.tpm_engine.specs.Views.{is_held, live_at, live_slot, next_number, sequence_of, session_state, view_of, world_at}
use Rattle.tpm_engine.proofs.Lookups.{content-table}
use Rattle.tpol_laws.specs.Acts.{Run, answer_in, event_in}
use Rattle.tpol_laws.proofs.Answered.{done-deed, done-use, read-back}
use Rattle.tpol_laws.proofs.Fit.{IsHandle, session-handle}
use Rattle.tpol_laws.proofs.Kept.{Held, restarts-on}
use Rattle.tpol_laws.proofs.Moved.{carried-out, slot-handle}
use Rattle.tpol_laws.proofs.Standing.{Stands, bind_of}
use Rattle.tpol_laws.proofs.Unstopped.{no-session, session-there, unstopped}
use Rattle.tpol_base.specs.Handle.{is_policy_session}

-- what a try leaves: the session is live, from the same time and with the same nonce, and the world is as it was
pub record Keeps (run : Run) (first past : List Event) (session : Session) : Type 0 where
  pub slot : IsSlotHandle session.handle
  pub held : is_held past session.handle ≡ true
  pub unsaved : sequence_of past session.handle ≡ None
  pub nonce : (session_state run.setup past session.handle).nonce ≡ session.nonce
  pub start : (session_state run.setup past session.handle).start ≡ (sight_after run.setup first).time
  pub world : world_at run.setup past ≡ world_at run.setup first

kept-live : (run : Run) (first past : List Event) (session : Session) → Keeps run first past session
    → state_at (view_of run.setup past).sessions session.handle ≡ Some (session_state run.setup past session.handle)
unfolding view_of
kept-live run first past session on =
    content-table (live_at run.setup past) session.handle
    ∙ ap (λ b. if b then live_at run.setup past session.handle else None) (slot-handle session.handle on.slot)
    ∙ (λ i. live_slot (on.held i) (on.unsaved i) (session_state run.setup past session.handle))

fits-restart : (session : ℕ) → IsHandle is_policy_session session → FitsCommand (commands.PolicyRestart session)
unfolding ValuesFit Fits
fits-restart session own = record { handles = ((own.low, own.kind), tt); area = tt; parameters = tt }

restart-fits : FitsReply replies.PolicyRestart None
unfolding ValuesFit Fits
restart-fits = (tt, refl)

-- the machine carries it out, and its session stands where a path begins
pub record Restarted (run : Run) (first past : List Event) (session : Session) : Type 0 where
  pub reads : reply_reading (number_of_code codes.PolicyRestart) (answer_in run past (commands.PolicyRestart session.handle)).reply ≡ Some (replies.PolicyRestart, None)
  pub stands : Stands run first (event_in run past (commands.PolicyRestart session.handle) ∷ past) session (fresh_session (sight_after run.setup first))

pub restarted : (run : Run) (first past : List Event) (session : Session) → Keeps run first past session → Restarted run first past session
restarted run first past session on =
    let command : Command = commands.PolicyRestart session.handle in
    let tables = view_of run.setup past in
    let live = kept-live run first past session on in
    let fits = fits-restart session.handle (session-handle session.handle on.slot) in
    let handles = ap (λ (s : Option Stop). or_else s None) (session-there tables 1 session.handle (session_state run.setup past session.handle) on.slot live) in
    let rule = ap (λ (o : Option SessionState). unless (is_some o) rc_reference_h0) live in
    let stops : first_stop tables run.locality (commands.PolicyRestart session.handle) ≡ None =
    unstopped tables run.locality (commands.PolicyRestart session.handle) handles (no-session tables (commands.PolicyRestart session.handle) refl) refl refl rule in
    let made = carried-out run past (commands.PolicyRestart session.handle) fits stops in
    let reads = read-back (commands.PolicyRestart session.handle) fits in
    let deed : deed_of (event_in run past (commands.PolicyRestart session.handle)) ≡ Restarts session.handle =
    ap (λ (a : Answered). deed_of (event_of run.client run.locality (spelling (commands.PolicyRestart session.handle)) a)) made
    ∙ done-deed tables (next_number past) run.client run.locality (spelling (commands.PolicyRestart session.handle)) (commands.PolicyRestart session.handle) reads in
    let uses : use_of (event_in run past (commands.PolicyRestart session.handle)) ≡ None =
    ap (λ (a : Answered). use_of (event_of run.client run.locality (spelling (commands.PolicyRestart session.handle)) a)) made
    ∙ done-use tables (next_number past) run.client run.locality (spelling (commands.PolicyRestart session.handle)) (commands.PolicyRestart session.handle) reads in
    let it = restarts-on run.setup past (event_in run past (commands.PolicyRestart session.handle)) session.handle deed uses in
    let read : reply_reading (number_of_code codes.PolicyRestart) (spell_reply replies.PolicyRestart None) ≡ Some (replies.PolicyRestart, None) =
    reply_read (number_of_code codes.PolicyRestart) _ replies.PolicyRestart None (record { whole = refl; fits = restart-fits; answers = refl }) in
    record {
      reads = ap (λ (a : Answered). reply_reading (number_of_code codes.PolicyRestart) a.reply) made ∙ read;
      stands = record {
        slot = on.slot;
        held = ap (λ (h : Held). h.held) it.held ∙ on.held;
        unsaved = ap (λ (h : Held). h.sequence) it.held ∙ on.unsaved;
        nonce = ap (λ (h : Held). h.state.nonce) it.held ∙ on.nonce;
        alike = record {
          start = ap (λ (h : Held). h.state.start) it.held ∙ on.start;
          binds = ap (λ (h : Held). map bind_of h.state.facts) it.held;
          counter = ap (λ (h : Held). h.state.counter) it.held;
          in_time = ap (λ (h : Held). is_in_time h.state.facts (sight_after run.setup first).time) it.held;
        };
        since = refl;
        world = it.world ∙ on.world;
      };
    }

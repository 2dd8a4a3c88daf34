-- In a legal journal the facts of every session agree.
use Rattle.std.proofs.Common.{◌≡◌, ◌∙◌, ap, refl, sym, subst, ℕ, ◌==◌, Bool, true, false, nat_eq, if◌then◌else◌, List, [], ◌∷◌, ◌++◌, Option, Some, None, Result, Ok, Err, arith}
use Rattle.std.specs.Prelude.{⊤}
use Rattle.std.specs.Option.{option_and_then, option_map, option_map_or}
use Rattle.std.proofs.lemmas.Bool.Decides.{nat_tests}
use Rattle.tpol_base.specs.declared.command_code.CommandCode.TheVariants.{StartAuthSession}
use Rattle.tpol_base.specs.declared.digest.Digest32.{Digest32}
use Rattle.tpol_base.specs.CommandCode.{number_of_code}
use Rattle.tpol_base.specs.ResponseCode.{rc_reference_h0}
use Rattle.tpol_name.specs.declared.setup.Setup.{Setup}
use Rattle.tpol_tree.specs.declared.facts.Fact.{Fact}
use Rattle.tpol_tree.specs.declared.path.Move.TheVariants as moves
use Rattle.tpol_wire.specs.declared.command.Command.{Command}
use Rattle.tpol_wire.specs.declared.command.Command.TheVariants as commands
use Rattle.tpol_wire.specs.Reading.{reading}
use Rattle.tpol_wire.specs.ReplyReading.{reply_reading}
use Rattle.tpm_bindings.proofs.Merging.{moves_of-push}
use Rattle.tpm_bindings.specs.State.{SessionState}
use Rattle.tpm_engine.proofs.Lookups.{live-view}
use Rattle.tpm_engine.proofs.Stopping.{map-none, or_else-none}
use Rattle.tpm_engine.proofs.Succeeding.{first-none}
use Rattle.tpm_engine.specs.declared.event.Event.{Event}
use Rattle.tpm_engine.specs.declared.event.Event.TheVariants as events
use Rattle.tpm_engine.specs.Answers.{early_stop, own_rule}
use Rattle.tpm_engine.specs.Deeds.{Deed, Idle, Passes, Shifts, Resets, Extends, Writes, Increments, Starts, Ends, Restarts, Saves, Loads, Shows, SessionUse, command_deed, deed_in, deed_of, started_session, use_of}
use Rattle.tpm_engine.specs.Events.{is_success}
use Rattle.tpm_engine.specs.Facts.{Moment}
use Rattle.tpm_engine.specs.Legal.{IsAnswered, IsLegal}
use Rattle.tpm_engine.specs.Stops.{refuses}
use Rattle.tpm_engine.specs.Tables.{TableState}
use Rattle.tpm_engine.specs.Views.{facts_after, facts_of, facts_used, moment_of, session_state, view_of}
use Rattle.tpm_session.specs.Slots.{state_at}
use Rattle.std.specs.Prelude.{pos}
use Rattle.tpol_base.specs.declared.name.Name.{Name}
use Rattle.tpol_base.specs.Constants.{st_auth_secret}
use Rattle.tpol_tree.specs.declared.closed.Assertion.TheVariants.{Secret, Signed}
use Rattle.tpm_bindings.specs.Agreement.{Agree}
use Rattle.tpm_bindings.specs.Facts.{moves_of}
use Rattle.tpm_policy.proofs.Agreeing.{agree-code, agree-cp_hash, agree-duplication, agree-locality, agree-name_hash, agree-unbound, agree-written}
use Rattle.tpm_policy.specs.Asserted.{IsUnbound}
use Rattle.tpol_perform.proofs.SoundFacts.{kept}
use Rattle.tpol_tree.specs.declared.path.Move.{Move}

-- ---- what a deed shows

-- what a deed shows to a session agrees with the session's facts
abbrev ShowsMet : ℕ → Moment → List Fact → Deed → Type 0
ShowsMet session now facts (Shows shown fact) = shown ≡ session → Agree (moves_of facts) → Agree (moves_of facts ++ (fact now).act ∷ [])
ShowsMet session now facts _ = ⊤

started : (session : ℕ) (now : Moment) (facts : List Fact) (handle : Option ℕ) → ShowsMet session now facts (option_map_or Starts handle Idle)
started session now facts None = tt
started session now facts (Some handle) = tt

ticket-unbound : (b : Bool) (key : Name) (policy_ref : List ℕ) (cp_hash : Option Digest32) → IsUnbound (moves.Assert (if b then Secret key policy_ref cp_hash (pos 0) else Signed key policy_ref cp_hash (pos 0)))
ticket-unbound true key policy_ref cp_hash = record { code = refl; localities = refl; cp_hash = refl; name_hash = refl; parent_hash = refl; written = refl }
ticket-unbound false key policy_ref cp_hash = record { code = refl; localities = refl; cp_hash = refl; name_hash = refl; parent_hash = refl; written = refl }

-- what a policy command shows that breaks no rule of its own
module _ (tables : TableState) (session : ℕ) (now : Moment) (facts : List Fact)
    (same_facts : (state : SessionState) → state_at tables.sessions session ≡ Some state → state.facts ≡ facts) where
  unbound : (act : Move) → IsUnbound act → Agree (moves_of facts) → Agree (moves_of facts ++ act ∷ [])
  unbound act free = agree-unbound facts act free

  -- by a rule of the session's state
  bound : (own : ℕ) (rule : SessionState → Option ℕ) (act : Move) → option_map_or rule (state_at tables.sessions own) (Some rc_reference_h0) ≡ None
      → ((state : SessionState) → rule state ≡ None → Agree (moves_of state.facts) → Agree (moves_of state.facts ++ act ∷ []))
      → own ≡ session → Agree (moves_of facts) → Agree (moves_of facts ++ act ∷ [])
  bound own rule act none law same agree =
      let it = kept (state_at tables.sessions own) rule rc_reference_h0 none in
      let those : it.state.facts ≡ facts = same_facts it.state (ap (state_at tables.sessions) (sym same) ∙ it.is) in
      subst (λ (l : List Fact). Agree (moves_of l ++ act ∷ [])) those (law it.state it.none (subst (λ (l : List Fact). Agree (moves_of l)) (sym those) agree))

  command-met : (command : Command) (reply : List ℕ) → own_rule tables command ≡ None → ShowsMet session now facts (command_deed command reply)
  command-met (commands.StartAuthSession tpm_key bind nonce) reply none = started session now facts (option_and_then (λ found. started_session found.0) (reply_reading (number_of_code StartAuthSession) reply))
  command-met (commands.PolicyCpHash own digest) reply none = bound own _ _ none (λ state rule. agree-cp_hash state digest rule)
  command-met (commands.PolicyNameHash own digest) reply none = bound own _ _ none (λ state rule. agree-name_hash state digest rule)
  command-met (commands.PolicyCommandCode own code) reply none = bound own _ _ none (λ state rule. agree-code state code rule)
  command-met (commands.PolicyLocality own locality) reply none = bound own _ _ none (λ state rule. agree-locality state locality rule)
  command-met (commands.PolicyNvWritten own written) reply none = bound own _ _ none (λ state rule. agree-written state written rule)
  command-met (commands.PolicyDuplicationSelect own object parent include) reply none = bound own _ _ none (λ state rule. agree-duplication state object parent include rule)
  command-met (commands.PolicyTicket own timeout cp_hash policy_ref key ticket) reply none = λ same. unbound _ (ticket-unbound (ticket.tag == st_auth_secret) key policy_ref cp_hash)
  command-met (commands.PolicyAuthorize own approved policy_ref key ticket) reply none = λ same. unbound _ (record { code = refl; localities = refl; cp_hash = refl; name_hash = refl; parent_hash = refl; written = refl })
  command-met (commands.PolicyOr own listed) reply none = λ same. unbound _ (record { code = refl; localities = refl; cp_hash = refl; name_hash = refl; parent_hash = refl; written = refl })
  command-met (commands.PolicyAuthorizeNv authority index own auth) reply none = λ same. unbound _ (record { code = refl; localities = refl; cp_hash = refl; name_hash = refl; parent_hash = refl; written = refl })
  command-met (commands.FlushContext own) reply none = tt
  command-met (commands.ContextSave own) reply none = tt
  command-met (commands.ContextLoad sequence own digest) reply none = tt
  command-met (commands.PolicyRestart own) reply none = tt
  command-met (commands.PolicyGetDigest own) reply none = tt
  command-met (commands.PcrExtend pcr auth digest) reply none = tt
  command-met (commands.PcrRead mask) reply none = tt
  command-met (commands.VerifySignature key digest signature) reply none = tt
  command-met (commands.Unseal object auth) reply none = tt
  command-met (commands.Hmac key auth buffer hash) reply none = tt
  command-met (commands.NvRead authority index auth size offset) reply none = tt
  command-met (commands.NvWrite authority index auth bytes offset) reply none = tt
  command-met (commands.NvIncrement authority index auth) reply none = tt
  command-met (commands.Duplicate object parent auth) reply none = tt
  command-met (commands.PolicyNv authority index own auth operand offset operation) reply none = λ same. unbound _ (record { code = refl; localities = refl; cp_hash = refl; name_hash = refl; parent_hash = refl; written = refl })
  command-met (commands.PolicyAuthValue own) reply none = λ same. unbound _ (record { code = refl; localities = refl; cp_hash = refl; name_hash = refl; parent_hash = refl; written = refl })
  command-met (commands.PolicyPassword own) reply none = λ same. unbound _ (record { code = refl; localities = refl; cp_hash = refl; name_hash = refl; parent_hash = refl; written = refl })
  command-met (commands.PolicyPhysicalPresence own) reply none = λ same. unbound _ (record { code = refl; localities = refl; cp_hash = refl; name_hash = refl; parent_hash = refl; written = refl })
  command-met (commands.PolicyCounterTimer own operand offset operation) reply none = λ same. unbound _ (record { code = refl; localities = refl; cp_hash = refl; name_hash = refl; parent_hash = refl; written = refl })
  command-met (commands.PolicyPcr own given mask) reply none = λ same. unbound _ (record { code = refl; localities = refl; cp_hash = refl; name_hash = refl; parent_hash = refl; written = refl })
  command-met (commands.PolicySigned key own nonce cp_hash policy_ref expiration signature) reply none = λ same. unbound _ (record { code = refl; localities = refl; cp_hash = refl; name_hash = refl; parent_hash = refl; written = refl })
  command-met (commands.PolicySecret entity own auth nonce cp_hash policy_ref expiration) reply none = λ same. unbound _ (record { code = refl; localities = refl; cp_hash = refl; name_hash = refl; parent_hash = refl; written = refl })

-- ---- what an event shows

module _ (setup : Setup) (past : List Event) (session : ℕ) where
  -- the facts are those of a live session
  digest-live : (state : SessionState) → state_at (view_of setup past).sessions session ≡ Some state → state.facts ≡ facts_of setup past session
  unfolding session_state
  digest-live state is = ap (λ (s : SessionState). s.facts) (live-view setup past session state is)

  event-met : (event : Event) → IsAnswered setup past event → ShowsMet session (moment_of setup past session) (facts_of setup past session) (deed_of event)
  event-met (events.Command client locality buffer reply outcome) answered = at (is_success outcome) refl (reading buffer) refl
    where
      own-none : (command : Command) → is_success outcome ≡ true → reading buffer ≡ Ok command → own_rule (view_of setup past) command ≡ None
      own-none command success reads =
          map-none refuses (own_rule (view_of setup past) command)
          (or_else-none (early_stop (view_of setup past) locality command) (option_map refuses (own_rule (view_of setup past) command))
          (first-none setup past client locality buffer reply outcome command answered success reads)).1

      at : (b : Bool) → is_success outcome ≡ b → (read : Result Command ℕ) → reading buffer ≡ read
          → ShowsMet session (moment_of setup past session) (facts_of setup past session) (if b then deed_in read reply else Idle)
      at true success (Ok command) reads =
          command-met (view_of setup past) session (moment_of setup past session) (facts_of setup past session) digest-live command reply (own-none command success reads)
      at true success (Err code) reads = tt
      at false success read reads = tt
  event-met (events.Time ms) answered = tt
  event-met (events.Presence on) answered = tt
  event-met events.Reset answered = tt

-- ---- facts after an event

sound-push : (facts : List Fact) (fact : Fact) → Agree (moves_of facts ++ fact.act ∷ []) → Agree (moves_of (facts ++ fact ∷ []))
sound-push facts fact agree = subst Agree (sym (moves_of-push facts fact)) agree

-- none, or the facts so far
none-or : (b : Bool) (facts : List Fact) → Agree (moves_of facts) → Agree (moves_of (if b then [] else facts))
none-or true facts sound = refl
none-or false facts sound = sound

after-used : (served : Option SessionUse) (session : ℕ) (facts : List Fact) → Agree (moves_of facts) → Agree (moves_of (facts_used served session facts))
after-used None session facts sound = sound
after-used (Some served) session facts sound = none-or (served.session == session) facts sound

after-deed : (deed : Deed) (session : ℕ) (now : Moment) (facts : List Fact) → ShowsMet session now facts deed
    → Agree (moves_of facts) → Agree (moves_of (facts_after deed session now facts))
after-deed (Shows shown fact) session now facts met sound = at (nat_eq shown session) refl
  where
    at : (b : Bool) → nat_eq shown session ≡ b → Agree (moves_of (if b then facts ++ fact now ∷ [] else facts))
    at true e = sound-push facts (fact now) (met (grind (arith, nat_tests)) sound)
    at false e = sound
after-deed (Starts handle) session now facts met sound = none-or (handle == session) facts sound
after-deed (Restarts restarted) session now facts met sound = none-or (restarted == session) facts sound
after-deed Resets session now facts met sound = refl
after-deed Idle session now facts met sound = sound
after-deed (Passes ms) session now facts met sound = sound
after-deed (Shifts on) session now facts met sound = sound
after-deed (Extends pcr extended) session now facts met sound = sound
after-deed (Writes index offset bytes) session now facts met sound = sound
after-deed (Increments index) session now facts met sound = sound
after-deed (Ends ended) session now facts met sound = sound
after-deed (Saves saved) session now facts met sound = sound
after-deed (Loads loaded) session now facts met sound = sound

pub facts-agree : (setup : Setup) (past : List Event) → IsLegal setup past → (session : ℕ) → Agree (moves_of (facts_of setup past session))
unfolding IsLegal facts_of
facts-agree setup [] legal session = refl
facts-agree setup (event ∷ past) legal session =
    after-used (use_of event) session (facts_after (deed_of event) session (moment_of setup past session) (facts_of setup past session))
    (after-deed (deed_of event) session (moment_of setup past session) (facts_of setup past session)
    (event-met setup past session event legal.0) (facts-agree setup past legal.1 session))

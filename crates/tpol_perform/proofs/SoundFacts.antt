-- In a legal journal the facts of every session are sound: each OR and each approval met the digest before it.
use Rattle.std.proofs.Common.{inl, inr, ◌≡◌, ◌∙◌, ap, refl, sym, subst, ℕ, ◌==◌, Bool, true, false, nat_eq, if◌then◌else◌, List, [], ◌∷◌, ◌++◌, Option, Some, None, Result, Ok, Err, arith}
use Rattle.std.specs.Prelude.{⊤, ◌+◌, ◌||◌}
use Rattle.std.specs.List.{list_any}
use Rattle.std.specs.Option.{option_and_then, option_map, option_map_or}
use Rattle.std.proofs.lemmas.Bool.{false≢true}
use Rattle.std.proofs.lemmas.Bool.Decides.{nat_tests}
use Rattle.std.proofs.lemmas.Option.{none-some}
use Rattle.std.proofs.lemmas.Slice.Eq.{bytes_eq-Decides}
use Rattle.tpol_base.specs.declared.command_code.CommandCode.TheVariants.{StartAuthSession}
use Rattle.tpol_base.specs.declared.digest.Digest32.{Digest32}
use Rattle.tpol_base.specs.CommandCode.{number_of_code}
use Rattle.tpol_base.specs.ResponseCode.{of_parameter, rc_reference_h0, rc_value}
use Rattle.tpol_base.proofs.Digests as digests
use Rattle.tpol_digest.specs.Digest.{digest_of_moves, zero_digest}
use Rattle.tpol_digest.specs.Sound.{Among, IsSound, IsSoundFrom, Meets}
use Rattle.tpol_tree.specs.Facts.{moves_of as moves_of_facts}
use Rattle.tpol_name.specs.declared.setup.Setup.{Setup}
use Rattle.tpol_tree.specs.declared.facts.Fact.{Fact}
use Rattle.tpol_tree.specs.declared.path.Move.TheVariants as moves
use Rattle.tpol_wire.specs.declared.command.Command.{Command}
use Rattle.tpol_wire.specs.declared.command.Command.TheVariants as commands
use Rattle.tpol_wire.specs.Reading.{reading}
use Rattle.tpol_wire.specs.ReplyReading.{reply_reading}
use Rattle.tpm_bindings.proofs.Merging.{moves_of-push}
use Rattle.tpol_base.specs.Digest.{is_same_digest as same_digest}
use Rattle.tpm_bindings.specs.State.{SessionState}
use Rattle.tpm_engine.proofs.Lookups.{live-view}
use Rattle.tpm_engine.proofs.Stopping.{map-none, or_else-none, unless-none}
use Rattle.tpm_engine.proofs.Succeeding.{first-none}
use Rattle.tpm_engine.specs.declared.event.Event.{Event}
use Rattle.tpm_engine.specs.declared.event.Event.TheVariants as events
use Rattle.tpm_engine.specs.Answers.{early_stop, own_rule}
use Rattle.tpm_engine.specs.Deeds.{Deed, Idle, Passes, Shifts, Resets, Extends, Writes, Increments, Starts, Ends, Restarts, Saves, Loads, Shows, SessionUse, command_deed, deed_in, deed_of, started_session, use_of}
use Rattle.tpm_engine.specs.Events.{is_success}
use Rattle.tpm_engine.specs.Facts.{Moment}
use Rattle.tpm_engine.specs.Legal.{IsAnswered, IsLegal}
use Rattle.tpm_engine.specs.PolicyCommands.{policy_rule, verified_digest}
use Rattle.tpm_engine.specs.Stops.{refuses}
use Rattle.tpm_engine.specs.Tables.{TableState}
use Rattle.tpm_engine.specs.Views.{facts_after, facts_of, facts_used, moment_of, session_state, view_of}
use Rattle.tpm_policy.specs.Judgments.{is_approval_ticket}
use Rattle.tpm_rules.specs.Rule.{unless}
use Rattle.tpm_rules.specs.Session.{policy_digest_of}
use Rattle.tpm_session.proofs.Keeping.{IsSoundFrom-push}
use Rattle.tpm_session.specs.Slots.{state_at}
use Rattle.tpm_world.specs.Hashes.{proof_of}

-- ---- digests that pass a rule's test

one_digest : (a b : Digest32) → same_digest a b ≡ true → a ≡ b
one_digest a b e = digests.same_digest a b ((bytes_eq-Decides a.bytes b.bytes).0 e)

among_of : (d : Digest32) (xs : List Digest32) → list_any (same_digest d) xs ≡ true → Among d xs
among_of d [] e = absurd (false≢true e)
among_of d (x ∷ rest) e = by_test (same_digest d x) refl e (among_of d rest)
  where
    by_test : (b : Bool) → same_digest d x ≡ b → (b || list_any (same_digest d) rest) ≡ true → (list_any (same_digest d) rest ≡ true → Among d rest) → Among d (x ∷ rest)
    by_test true same e among = inl (one_digest d x same)
    by_test false same e among = inr (among e)

-- ---- what a deed shows

-- what a deed shows to a session meets the session's digest
abbrev ShowsMet : ℕ → Moment → Deed → Type 0
ShowsMet session now (Shows shown fact) = shown ≡ session → Meets now.digest (fact now).act
ShowsMet session now _ = ⊤

started : (session : ℕ) (now : Moment) (handle : Option ℕ) → ShowsMet session now (option_map_or Starts handle Idle)
started session now None = tt
started session now (Some handle) = tt

-- a rule on a session's state that is not broken
pub record Kept (found : Option SessionState) (rule : SessionState → Option ℕ) : Type 0 where
  pub state : SessionState
  pub is : found ≡ Some state
  pub none : rule state ≡ None

pub kept : (found : Option SessionState) (rule : SessionState → Option ℕ) (code : ℕ) → option_map_or rule found (Some code) ≡ None → Kept found rule
kept None rule code h = absurd (none-some code (sym h))
kept (Some state) rule code h = record { state = state; is = refl; none = h }

-- what a policy command shows that breaks no rule of its own
module _ (tables : TableState) (session : ℕ) (now : Moment)
    (digests : (state : SessionState) → state_at tables.sessions session ≡ Some state → policy_digest_of state ≡ now.digest) where
  at_session : (own : ℕ) (state : SessionState) → state_at tables.sessions own ≡ Some state → own ≡ session → policy_digest_of state ≡ now.digest
  at_session own state is same = digests state (ap (state_at tables.sessions) (sym same) ∙ is)

  command-met : (command : Command) (reply : List ℕ) → own_rule tables command ≡ None → ShowsMet session now (command_deed command reply)
  command-met (commands.StartAuthSession tpm_key bind nonce) reply none = started session now (option_and_then (λ found. started_session found.0) (reply_reading (number_of_code StartAuthSession) reply))
  command-met (commands.PolicyTicket own timeout cp_hash policy_ref key ticket) reply none = λ same. tt
  command-met (commands.PolicyAuthorize own approved policy_ref key ticket) reply none =
      λ same.
      let it = kept (state_at tables.sessions own) (λ state. policy_rule tables.world state (commands.PolicyAuthorize own approved policy_ref key ticket)) rc_reference_h0 none in
      let first = (or_else-none (unless (same_digest (policy_digest_of it.state) approved) (rc_value + of_parameter 1))
      (unless (is_approval_ticket (proof_of tables.world.seed) approved policy_ref key (verified_digest ticket)) (rc_value + of_parameter 4)) it.none).0 in
      sym (at_session own it.state it.is same) ∙ one_digest (policy_digest_of it.state) approved (unless-none (same_digest (policy_digest_of it.state) approved) (rc_value + of_parameter 1) first)
  command-met (commands.PolicyOr own listed) reply none =
      λ same.
      let it = kept (state_at tables.sessions own) (λ state. policy_rule tables.world state (commands.PolicyOr own listed)) rc_reference_h0 none in
      subst (λ d. Meets d (moves.Or listed)) (at_session own it.state it.is same)
      (among_of (policy_digest_of it.state) listed (unless-none (list_any (same_digest (policy_digest_of it.state)) listed) (rc_value + of_parameter 1) it.none))
  command-met (commands.PolicyAuthorizeNv authority index own auth) reply none = λ same. refl
  command-met (commands.FlushContext own) reply none = tt
  command-met (commands.ContextSave own) reply none = tt
  command-met (commands.ContextLoad sequence own digest) reply none = tt
  command-met (commands.PolicyRestart own) reply none = tt
  command-met (commands.PolicyGetDigest own) reply none = tt
  command-met (commands.PcrExtend pcr auth digest) reply none = tt
  command-met (commands.PcrRead mask) reply none = tt
  command-met (commands.VerifySignature key digest signature) reply none = tt
  command-met (commands.Unseal object auth) reply none = tt
  command-met (commands.Hmac key auth buffer hash) reply none = tt
  command-met (commands.NvRead authority index auth size offset) reply none = tt
  command-met (commands.NvWrite authority index auth bytes offset) reply none = tt
  command-met (commands.NvIncrement authority index auth) reply none = tt
  command-met (commands.Duplicate object parent auth) reply none = tt
  command-met (commands.PolicyNv authority index own auth operand offset operation) reply none = λ same. tt
  command-met (commands.PolicyCpHash own digest) reply none = λ same. tt
  command-met (commands.PolicyNameHash own digest) reply none = λ same. tt
  command-met (commands.PolicyAuthValue own) reply none = λ same. tt
  command-met (commands.PolicyPassword own) reply none = λ same. tt
  command-met (commands.PolicyPhysicalPresence own) reply none = λ same. tt
  command-met (commands.PolicyCommandCode own code) reply none = λ same. tt
  command-met (commands.PolicyCounterTimer own operand offset operation) reply none = λ same. tt
  command-met (commands.PolicyLocality own locality) reply none = λ same. tt
  command-met (commands.PolicyPcr own given mask) reply none = λ same. tt
  command-met (commands.PolicyDuplicationSelect own object parent include) reply none = λ same. tt
  command-met (commands.PolicyNvWritten own written) reply none = λ same. tt
  command-met (commands.PolicySigned key own nonce cp_hash policy_ref expiration signature) reply none = λ same. tt
  command-met (commands.PolicySecret entity own auth nonce cp_hash policy_ref expiration) reply none = λ same. tt

-- ---- what an event shows

module _ (setup : Setup) (past : List Event) (session : ℕ) where
  -- the digest of the moment is that of a live session
  digest-live : (state : SessionState) → state_at (view_of setup past).sessions session ≡ Some state → policy_digest_of state ≡ (moment_of setup past session).digest
  unfolding session_state
  digest-live state is = ap policy_digest_of (live-view setup past session state is)

  event-met : (event : Event) → IsAnswered setup past event → ShowsMet session (moment_of setup past session) (deed_of event)
  event-met (events.Command client locality buffer reply outcome) answered = at (is_success outcome) refl (reading buffer) refl
    where
      own-none : (command : Command) → is_success outcome ≡ true → reading buffer ≡ Ok command → own_rule (view_of setup past) command ≡ None
      own-none command success reads =
          map-none refuses (own_rule (view_of setup past) command)
          (or_else-none (early_stop (view_of setup past) locality command) (option_map refuses (own_rule (view_of setup past) command))
          (first-none setup past client locality buffer reply outcome command answered success reads)).1

      at : (b : Bool) → is_success outcome ≡ b → (read : Result Command ℕ) → reading buffer ≡ read
          → ShowsMet session (moment_of setup past session) (if b then deed_in read reply else Idle)
      at true success (Ok command) reads =
          command-met (view_of setup past) session (moment_of setup past session) digest-live command reply (own-none command success reads)
      at true success (Err code) reads = tt
      at false success read reads = tt
  event-met (events.Time ms) answered = tt
  event-met (events.Presence on) answered = tt
  event-met events.Reset answered = tt

-- ---- facts after an event

sound-push : (facts : List Fact) (fact : Fact) → IsSound (moves_of_facts facts) → Meets (digest_of_moves (moves_of_facts facts)) fact.act → IsSound (moves_of_facts (facts ++ fact ∷ []))
sound-push facts fact sound meets =
    subst (IsSoundFrom zero_digest) (sym (moves_of-push facts fact)) (IsSoundFrom-push zero_digest (moves_of_facts facts) fact.act sound meets)

-- none, or the facts so far
none-or : (b : Bool) (facts : List Fact) → IsSound (moves_of_facts facts) → IsSound (moves_of_facts (if b then [] else facts))
none-or true facts sound = tt
none-or false facts sound = sound

after-used : (served : Option SessionUse) (session : ℕ) (facts : List Fact) → IsSound (moves_of_facts facts) → IsSound (moves_of_facts (facts_used served session facts))
after-used None session facts sound = sound
after-used (Some served) session facts sound = none-or (served.session == session) facts sound

after-deed : (deed : Deed) (session : ℕ) (now : Moment) (facts : List Fact) → now.digest ≡ digest_of_moves (moves_of_facts facts) → ShowsMet session now deed
    → IsSound (moves_of_facts facts) → IsSound (moves_of_facts (facts_after deed session now facts))
after-deed (Shows shown fact) session now facts digest met sound = at (nat_eq shown session) refl
  where
    at : (b : Bool) → nat_eq shown session ≡ b → IsSound (moves_of_facts (if b then facts ++ fact now ∷ [] else facts))
    at true e = sound-push facts (fact now) sound (subst (λ d. Meets d (fact now).act) digest (met (grind (arith, nat_tests))))
    at false e = sound
after-deed (Starts handle) session now facts digest met sound = none-or (handle == session) facts sound
after-deed (Restarts restarted) session now facts digest met sound = none-or (restarted == session) facts sound
after-deed Resets session now facts digest met sound = tt
after-deed Idle session now facts digest met sound = sound
after-deed (Passes ms) session now facts digest met sound = sound
after-deed (Shifts on) session now facts digest met sound = sound
after-deed (Extends pcr extended) session now facts digest met sound = sound
after-deed (Writes index offset bytes) session now facts digest met sound = sound
after-deed (Increments index) session now facts digest met sound = sound
after-deed (Ends ended) session now facts digest met sound = sound
after-deed (Saves saved) session now facts digest met sound = sound
after-deed (Loads loaded) session now facts digest met sound = sound

pub facts-sound : (setup : Setup) (past : List Event) → IsLegal setup past → (session : ℕ) → IsSound (moves_of_facts (facts_of setup past session))
unfolding IsLegal facts_of
facts-sound setup [] legal session = tt
facts-sound setup (event ∷ past) legal session =
    after-used (use_of event) session (facts_after (deed_of event) session (moment_of setup past session) (facts_of setup past session))
    (after-deed (deed_of event) session (moment_of setup past session) (facts_of setup past session) refl
    (event-met setup past session event legal.0) (facts-sound setup past legal.1 session))

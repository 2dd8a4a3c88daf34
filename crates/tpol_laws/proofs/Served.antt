-- A run whose path nothing blocks is served, where the machine takes its tickets, only its own turns come, and there are
-- enough of them.
use Rattle.std.proofs.Common.{◌≡◌, ◌≤◌, ◌<◌, ℕ, zero, suc, ◌+◌, Bool, true, false, not, All, List, [], ◌∷◌, length, map, nat_eq, refl, ap, sym, subst, ◌∙◌, arith, length-append, zero-add, replicate}
use Rattle.std.specs.Prelude.{Option, Some, None, is_some, slice_get, if◌then◌else◌}
use Rattle.std.specs.Option.{option_or}
use Rattle.std.proofs.lemmas.Bool.{false≢true}
use Rattle.tpol_base.specs.declared.command_code.CommandCode.TheVariants as codes
use Rattle.tpol_base.specs.declared.digest.Digest32.{Digest32}
use Rattle.tpol_base.specs.declared.name.Name.{Name}
use Rattle.tpol_base.specs.CommandCode.{number_of_code}
use Rattle.tpol_base.specs.ResponseCode.{rc_session_memory}
use Rattle.tpol_choose.specs.Blocks.{block_of, first_block, moves_block, whole_block}
use Rattle.tpol_choose.specs.Facts.{fact_of_move, fresh_session, session_after, session_along}
use Rattle.tpol_choose.specs.Goals.{goal_block}
use Rattle.tpol_choose.specs.Moves.{move_block}
use Rattle.tpol_digest.specs.Laws.{MoveHasBounds}
use Rattle.tpol_driver.specs.declared.end.End.{End}
use Rattle.tpol_driver.specs.declared.end.End.TheVariants as ends
use Rattle.tpol_driver.specs.declared.session.Session.{Session}
use Rattle.tpol_driver.specs.Answers.{answer_of}
use Rattle.tpol_driver.specs.Commands.{start_command}
use Rattle.tpol_driver.specs.Driving.{Moving, Over, after_goal, is_verification, next_command, start_heard}
use Rattle.tpol_driver.specs.GoalUse.{goal_command}
use Rattle.tpol_driver.specs.Plans.{is_known_move}
use Rattle.tpol_name.specs.declared.entries.DirEntry.{DirEntry}
use Rattle.tpol_name.specs.Directories.{directory_of}
use Rattle.tpol_tree.specs.declared.facts.Fact.{Fact}
use Rattle.tpol_tree.specs.declared.path.Move.{Move}
use Rattle.tpol_tree.specs.declared.path.Move.TheVariants.{Assert, Or, Approve, ApproveNv}
use Rattle.tpol_wire.specs.declared.auth_area.ReplyAuth.{ReplyAuth}
use Rattle.tpol_wire.specs.declared.reply.Reply.{Reply}
use Rattle.tpol_wire.specs.declared.reply.Reply.TheVariants as replies
use Rattle.tpol_wire.specs.Commands.{spelling}
use Rattle.tpol_wire.specs.ReplyReading.{reply_reading}
use Rattle.tpm_bindings.specs.State.{SessionState}
use Rattle.tpm_rules.specs.Rule.{unless}
use Rattle.tpm_session.specs.Slots.{bits_of, count_below, free_count, handle_of_slot, is_free, least_below, slot_count}
use Rattle.tpm_engine.specs.declared.event.Event.{Event}
use Rattle.tpm_engine.specs.Deeds.{Starts, deed_of, use_of}
use Rattle.tpm_engine.specs.Events.{Answered, event_of}
use Rattle.tpm_engine.specs.SessionCommands.{start_rule}
use Rattle.tpm_engine.specs.Sights.{sight_after}
use Rattle.tpm_engine.specs.Tables.{TableState}
use Rattle.tpm_engine.specs.Views.{next_number, session_state, view_of, world_at}
use Rattle.tpm_world.specs.World.{WorldState}
use Rattle.tpm_engine.proofs.Stopping.{map-none, or_else-none, unless-none}
use Rattle.tpol_laws.specs.Acts.{Course, Run, Turn, after_act, after_acts, answer_in, begun, event_in}
use Rattle.tpol_laws.specs.GoalBytes.{goal_bytes}
use Rattle.tpol_laws.specs.PathCommands.{commands_along, commands_of_moves}
use Rattle.tpol_laws.specs.HeldTickets.{IsUsable}
use Rattle.tpol_laws.specs.Runs.{IsBegun, IsRun}
use Rattle.tpol_laws.proofs.Answered.{done-deed, done-use, read-back}
use Rattle.tpol_laws.proofs.Approved.{approve-moved}
use Rattle.tpol_laws.proofs.Complete.{open-complete}
use Rattle.tpol_laws.proofs.Finds.{all-at}
use Rattle.tpol_laws.proofs.Fit.{fits-start}
use Rattle.tpol_laws.proofs.Goal.{serves-goal}
use Rattle.tpol_laws.proofs.Kept.{Held, begins}
use Rattle.tpol_laws.proofs.Moved.{Moved, after_sent, carried-out, plain-moved, turn-sends}
use Rattle.tpol_laws.proofs.Standing.{AreAlike, ServesGoal, Stands, bind_of, chooser_of, judged_after}
use Rattle.tpol_laws.proofs.Starts.{started}
use Rattle.tpol_laws.proofs.Step.{known-at}
use Rattle.tpol_laws.proofs.Unstopped.{unstopped}

-- ---- the start

or-some : (o : Option ℕ) (n : ℕ) → is_some (option_or o (Some n)) ≡ true
or-some None n = refl
or-some (Some m) n = refl

or-first : (o : Option ℕ) → is_some o ≡ true → is_some (option_or o None) ≡ true
or-first None h = h
or-first (Some m) h = refl

-- where some slot is free there is a least one
some-free : (test : ℕ → Bool) (n : ℕ) → nat_eq (count_below test n) 0 ≡ false → is_some (least_below test n) ≡ true
unfolding least_below count_below
some-free test zero h = absurd (false≢true (sym h))
some-free test (suc n) h = at (test n) h (some-free test n)
  where
    at : (b : Bool) → nat_eq (count_below test n + (if b then 1 else 0)) 0 ≡ false → (nat_eq (count_below test n) 0 ≡ false → is_some (least_below test n) ≡ true)
        → is_some (option_or (least_below test n) (if b then Some n else None)) ≡ true
    at true h below = or-some (least_below test n) n
    at false h below =
        let same : count_below test n + 0 ≡ count_below test n = omega arith in
        or-first (least_below test n) (below (ap (λ (k : ℕ). nat_eq k 0) (sym same) ∙ h))

is-false : (b : Bool) → not b ≡ true → b ≡ false
is-false true h = absurd (false≢true h)
is-false false h = refl

start-allowed : (tables : TableState) → not (nat_eq (free_count tables.sessions (bits_of tables.saved)) 0) ≡ true → start_rule tables ≡ None
start-allowed tables h =
    ap (λ b. unless b rc_session_memory) (some-free (is_free tables.sessions (bits_of tables.saved)) slot_count (is-false (nat_eq (free_count tables.sessions (bits_of tables.saved)) 0) h))

pub record Begun (run : Run) (first : List Event) : Type 0 where
  pub session : Session
  pub reads : reply_reading (number_of_code codes.StartAuthSession) (answer_in run first (start_command run.plan.nonce_seed)).reply ≡ Some (replies.StartAuthSession session.handle session.nonce, None)
  pub moved : Moved run first session 1 None 0 (fresh_session (sight_after run.setup first)) (after_act run (begun first) Turn)

pub start-moved : (run : Run) (first : List Event) → start_rule (view_of run.setup first) ≡ None → Begun run first
unfolding view_of world_at session_state sight_after
start-moved run first rule =
    let own = unstopped (view_of run.setup first) run.locality (start_command run.plan.nonce_seed) refl refl refl refl rule in
    let fits = fits-start run.plan.nonce_seed in
    let made = carried-out run first (start_command run.plan.nonce_seed) fits own in
    let reads = read-back (start_command run.plan.nonce_seed) fits in
    let start = started (view_of run.setup first) (next_number first) rule in
    let within : start.slot < 64 = start.is.within in
    let deed : deed_of (event_in run first (start_command run.plan.nonce_seed)) ≡ Starts (handle_of_slot start.slot) =
    ap (λ (a : Answered). deed_of (event_of run.client run.locality (spelling (start_command run.plan.nonce_seed)) a)) made
    ∙ done-deed (view_of run.setup first) (next_number first) run.client run.locality (spelling (start_command run.plan.nonce_seed)) (start_command run.plan.nonce_seed) reads ∙ start.is.deed in
    let uses : use_of (event_in run first (start_command run.plan.nonce_seed)) ≡ None =
    ap (λ (a : Answered). use_of (event_of run.client run.locality (spelling (start_command run.plan.nonce_seed)) a)) made
    ∙ done-use (view_of run.setup first) (next_number first) run.client run.locality (spelling (start_command run.plan.nonce_seed)) (start_command run.plan.nonce_seed) reads in
    let begun_by = begins run.setup first (event_in run first (start_command run.plan.nonce_seed)) (handle_of_slot start.slot) deed uses in
    let heard : reply_reading (number_of_code codes.StartAuthSession) (answer_in run first (start_command run.plan.nonce_seed)).reply ≡ Some (replies.StartAuthSession (handle_of_slot start.slot) start.nonce, None) =
    ap (λ (a : Answered). reply_reading (number_of_code codes.StartAuthSession) a.reply) made ∙ start.is.reads in
    record {
      session = record { handle = handle_of_slot start.slot; nonce = start.nonce };
      reads = heard;
      moved = record {
        past = event_in run first (start_command run.plan.nonce_seed) ∷ first;
        is = ap (λ (read : Option (Reply × Option ReplyAuth)). record { past = event_in run first (start_command run.plan.nonce_seed) ∷ first; standing = start_heard (answer_of read) }) heard;
        stands = record {
          slot = (omega arith, omega (arith, within));
          held = ap (λ (h : Held). h.held) begun_by.held;
          unsaved = ap (λ (h : Held). h.sequence) begun_by.held;
          nonce = ap (λ (h : Held). h.state.nonce) begun_by.held ∙ sym start.is.fresh;
          alike = subst (λ (s : SessionState). AreAlike s (fresh_session (sight_after run.setup first))) (sym (ap (λ (h : Held). h.state) begun_by.held))
              (record { start = refl; binds = refl; counter = refl; in_time = refl });
          since = refl;
          world = begun_by.world;
        };
      };
    }

-- ---- a run that is over

pub over-stays : (run : Run) (turns : ℕ) (past : List Event) (end : End) → (after_acts run (replicate turns Turn) (record { past = past; standing = Over end })).standing ≡ Over end
unfolding after_acts
over-stays run zero past end = refl
over-stays run (suc turns) past end = over-stays run turns past end

-- after as many turns it is over, and served with what its goal gives on the machine as it was at the begin
abbrev pub ServedAfter : Run → List Event → ℕ → Course → Type 0
ServedAfter run first turns course =
    (after_acts run (replicate turns Turn) course).standing ≡ Over (ends.Served (goal_bytes (world_at run.setup first) run.plan.goal))

one-turn : (run : Run) (first : List Event) (turns : ℕ) (course : Course) → ServedAfter run first turns (after_act run course Turn) → ServedAfter run first (suc turns) course
unfolding after_acts
one-turn run first turns course served = served

-- ---- the turns that are left

length-binds : (facts : List Fact) → length (map bind_of facts) ≡ length facts
length-binds [] = refl
length-binds (fact ∷ facts) = ap suc (length-binds facts)

pub same-length : (kept chosen : SessionState) → AreAlike kept chosen → length kept.facts ≡ length chosen.facts
same-length kept chosen alike = sym (length-binds kept.facts) ∙ ap length alike.binds ∙ length-binds chosen.facts

-- what is left of a path, from where the run stands
pub record Ahead (run : Run) (first past : List Event) (session : Session) (done : ℕ) (chosen : SessionState) (rest : List Move) : Type 0 where
  pub stands : Stands run first past session chosen
  pub path : (k : ℕ) → slice_get run.plan.path.moves (done + k) ≡ slice_get rest k
  pub judged : session_along (sight_after run.setup first) chosen rest ≡ judged_after run first run.plan.path.moves
  pub room : length chosen.facts + length rest ≤ 512

-- and nothing blocks it
pub record Left (run : Run) (first past : List Event) (session : Session) (done number : ℕ) (chosen : SessionState) (rest : List Move) : Type 0 where
  pub ahead : Ahead run first past session done chosen rest
  pub opens : moves_block (chooser_of run first) number chosen rest ≡ None

pub next-at : (run : Run) (first past : List Event) (session : Session) (done : ℕ) (chosen : SessionState) (rest : List Move) → Ahead run first past session done chosen rest
    → slice_get run.plan.path.moves done ≡ slice_get rest 0
next-at run first past session done chosen rest ahead =
    let same : done ≡ done + 0 = omega arith in
    ap (slice_get run.plan.path.moves) same ∙ ahead.path 0

pub has-room : (run : Run) (first past : List Event) (session : Session) (done : ℕ) (chosen : SessionState) (act : Move) (rest : List Move) → Ahead run first past session done chosen (act ∷ rest)
    → (later : List Event) → Stands run first later session chosen → length (session_state run.setup later session.handle).facts < 512
has-room run first past session done chosen act rest ahead later on =
    let same = same-length (session_state run.setup later session.handle) chosen on.alike in
    let room : length chosen.facts + length (act ∷ rest) ≤ 512 = ahead.room in
    omega (arith, same, room)

pub next-ahead : (run : Run) (first past : List Event) (session : Session) (done : ℕ) (chosen : SessionState) (act : Move) (rest : List Move) → Ahead run first past session done chosen (act ∷ rest)
    → (later : List Event) → Stands run first later session (session_after (sight_after run.setup first) chosen act)
    → Ahead run first later session (done + 1) (session_after (sight_after run.setup first) chosen act) rest
next-ahead run first past session done chosen act rest ahead later on =
    let more = length-append chosen.facts (fact_of_move (sight_after run.setup first) chosen act ∷ []) in
    let room : length chosen.facts + length (act ∷ rest) ≤ 512 = ahead.room in
    record {
      stands = on;
      path = λ k. let same : done + 1 + k ≡ done + suc k = omega arith in ap (slice_get run.plan.path.moves) same ∙ ahead.path (suc k);
      judged = ahead.judged;
      room = omega (arith, more, room);
    }

next-left : (run : Run) (first past : List Event) (session : Session) (done number : ℕ) (chosen : SessionState) (act : Move) (rest : List Move) → Left run first past session done number chosen (act ∷ rest)
    → (later : List Event) → Stands run first later session (session_after (sight_after run.setup first) chosen act)
    → Left run first later session (done + 1) (number + 1) (session_after (sight_after run.setup first) chosen act) rest
next-left run first past session done number chosen act rest left later on = record {
  ahead = next-ahead run first past session done chosen act rest left.ahead later on;
  opens = (or_else-none (block_of number (move_block (chooser_of run first) chosen act)) (moves_block (chooser_of run first) (number + 1) (session_after (sight_after run.setup first) chosen act) rest) left.opens).1;
}

act-open : (run : Run) (first past : List Event) (session : Session) (done number : ℕ) (chosen : SessionState) (act : Move) (rest : List Move) → Left run first past session done number chosen (act ∷ rest)
    → move_block (chooser_of run first) chosen act ≡ None
act-open run first past session done number chosen act rest left =
    map-none _ (move_block (chooser_of run first) chosen act)
    (or_else-none (block_of number (move_block (chooser_of run first) chosen act)) (moves_block (chooser_of run first) (number + 1) (session_after (sight_after run.setup first) chosen act) rest) left.opens).0

-- ---- the goal

goal-turn : (run : Run) (first : List Event) → ServesGoal run first → (turns : ℕ) (past : List Event) (session : Session) (sent done number : ℕ) (chosen : SessionState) → Left run first past session done number chosen []
    → ServedAfter run first turns (after_act run (record { past = past; standing = Moving session sent None done }) Turn)
goal-turn run first serve turns past session sent done number chosen left =
    let on = subst (Stands run first past session) left.ahead.judged left.ahead.stands in
    let opens = subst (λ (s : SessionState). goal_block (chooser_of run first) s ≡ None) left.ahead.judged (map-none _ (goal_block (chooser_of run first) chosen) left.opens) in
    let served = serve past session sent on opens ∙ ap (λ (world : WorldState). ends.Served (goal_bytes world run.plan.goal)) on.world in
    let at : slice_get run.plan.path.moves done ≡ None = next-at run first past session done chosen [] left.ahead in
    subst (ServedAfter run first turns)
    (sym (turn-sends run past session sent None done
    ∙ ap (λ (o : Option Move). after_sent run past session sent None done o (next_command run.plan session sent None o)) at
    ∙ ap (λ (end : End). record { past = event_in run past (goal_command run.plan session sent) ∷ past; standing = after_goal session.handle end }) served))
    (over-stays run turns (event_in run past (goal_command run.plan session sent) ∷ past) (ends.Served (goal_bytes (world_at run.setup first) run.plan.goal)))

-- ---- move after move

-- each move of the path is known to the scene's directory
pub known-of : (run : Run) → IsRun run → (past : List Event) (session : Session) (sent done : ℕ) (act : Move) → slice_get run.plan.path.moves done ≡ Some act → is_known_move (directory_of run.setup) run.plan.grants act ≡ true
known-of run is past session sent done act at =
    subst (λ (d : List DirEntry). is_known_move d run.plan.grants act ≡ true) is.directory (known-at run is past session.handle session.nonce sent done act at)

module _ (run : Run) (is : IsRun run) (first : List Event) (usable : All (IsUsable run.setup first) run.plan.tickets) (serve : ServesGoal run first) where
  -- a turn by a move that needs no ticket, and then the others
  plain-turn : (turns : ℕ) (past : List Event) (session : Session) (sent done number : ℕ) (chosen : SessionState) (act : Move) (rest : List Move) → Left run first past session done number chosen (act ∷ rest) → is_verification None act ≡ false
      → ((later : List Event) → Left run first later session (done + 1) (number + 1) (session_after (sight_after run.setup first) chosen act) rest → ServedAfter run first turns (record { past = later; standing = Moving session (sent + 1) None (done + 1) }))
      → ServedAfter run first (suc turns) (record { past = past; standing = Moving session sent None done })
  plain-turn turns past session sent done number chosen act rest left other goes =
      let at = next-at run first past session done chosen (act ∷ rest) left.ahead in
      let moved = plain-moved run is first usable past session sent done chosen left.ahead.stands (has-room run first past session done chosen act rest left.ahead past left.ahead.stands) act at other
      (all-at MoveHasBounds run.plan.path.moves done act is.moves at) (known-of run is past session sent done act at) (act-open run first past session done number chosen act rest left) in
      one-turn run first turns (record { past = past; standing = Moving session sent None done })
      (subst (ServedAfter run first turns) (sym moved.is) (goes moved.past (next-left run first past session done number chosen act rest left moved.past moved.stands)))

  approve-turns : (turns : ℕ) (past : List Event) (session : Session) (sent done number : ℕ) (chosen : SessionState) (key : Name) (policy_ref : List ℕ) (approved signature : Digest32) (rest : List Move)
      → Left run first past session done number chosen (Approve key policy_ref approved signature ∷ rest)
      → ((later : List Event) → Left run first later session (done + 1) (number + 1) (session_after (sight_after run.setup first) chosen (Approve key policy_ref approved signature)) rest → ServedAfter run first turns (record { past = later; standing = Moving session (sent + 1 + 1) None (done + 1) }))
      → ServedAfter run first (suc (suc turns)) (record { past = past; standing = Moving session sent None done })
  approve-turns turns past session sent done number chosen key policy_ref approved signature rest left goes =
      let at = next-at run first past session done chosen (Approve key policy_ref approved signature ∷ rest) left.ahead in
      let moved = approve-moved run is first past session sent done chosen left.ahead.stands (has-room run first past session done chosen (Approve key policy_ref approved signature) rest left.ahead) key policy_ref approved signature at
      (all-at MoveHasBounds run.plan.path.moves done (Approve key policy_ref approved signature) is.moves at) (known-of run is past session sent done (Approve key policy_ref approved signature) at)
      (act-open run first past session done number chosen (Approve key policy_ref approved signature) rest left) in
      one-turn run first (suc turns) (record { past = past; standing = Moving session sent None done })
      (one-turn run first turns (after_act run (record { past = past; standing = Moving session sent None done }) Turn)
      (subst (ServedAfter run first turns) (sym moved.is) (goes moved.past (next-left run first past session done number chosen (Approve key policy_ref approved signature) rest left moved.past moved.stands))))

  pub moves-served : (rest : List Move) (turns : ℕ) (past : List Event) (session : Session) (sent done number : ℕ) (chosen : SessionState) → Left run first past session done number chosen rest → commands_of_moves rest + 1 ≤ turns
      → ServedAfter run first turns (record { past = past; standing = Moving session sent None done })
  moves-served [] zero past session sent done number chosen left enough = absurd (omega (arith, enough))
  moves-served [] (suc turns) past session sent done number chosen left enough =
      one-turn run first turns (record { past = past; standing = Moving session sent None done }) (goal-turn run first serve turns past session sent done number chosen left)
  moves-served (act ∷ rest) zero past session sent done number chosen left enough = absurd (omega (arith, enough))
  moves-served (Approve key policy_ref approved signature ∷ rest) (suc zero) past session sent done number chosen left enough = absurd (omega (arith, enough))
  moves-served (Approve key policy_ref approved signature ∷ rest) (suc (suc turns)) past session sent done number chosen left enough =
      approve-turns turns past session sent done number chosen key policy_ref approved signature rest left
      (λ later next. moves-served rest turns later session (sent + 1 + 1) (done + 1) (number + 1) (session_after (sight_after run.setup first) chosen (Approve key policy_ref approved signature)) next (omega (arith, enough)))
  moves-served (Assert assertion ∷ rest) (suc turns) past session sent done number chosen left enough =
      plain-turn turns past session sent done number chosen (Assert assertion) rest left refl
      (λ later next. moves-served rest turns later session (sent + 1) (done + 1) (number + 1) (session_after (sight_after run.setup first) chosen (Assert assertion)) next (omega (arith, enough)))
  moves-served (Or digests ∷ rest) (suc turns) past session sent done number chosen left enough =
      plain-turn turns past session sent done number chosen (Or digests) rest left refl
      (λ later next. moves-served rest turns later session (sent + 1) (done + 1) (number + 1) (session_after (sight_after run.setup first) chosen (Or digests)) next (omega (arith, enough)))
  moves-served (ApproveNv index approved ∷ rest) (suc turns) past session sent done number chosen left enough =
      plain-turn turns past session sent done number chosen (ApproveNv index approved) rest left refl
      (λ later next. moves-served rest turns later session (sent + 1) (done + 1) (number + 1) (session_after (sight_after run.setup first) chosen (ApproveNv index approved)) next (omega (arith, enough)))

-- ---- the whole run

-- all of the path lies ahead of a run that has begun
pub all-ahead : (run : Run) (first : List Event) (start : Begun run first) → length run.plan.path.moves ≤ 512
    → Ahead run first start.moved.past start.session 0 (fresh_session (sight_after run.setup first)) run.plan.path.moves
all-ahead run first start short =
    let room : length {A = Fact} [] + length run.plan.path.moves ≤ 512 = omega (arith, short) in
    record { stands = start.moved.stands; path = λ k. ap (slice_get run.plan.path.moves) (zero-add k); judged = refl; room = room }

-- a session can start where nothing blocks a path
pub open-starts : (run : Run) (first : List Event) → first_block run.plan.path (sight_after run.setup first) run.plan.grants run.plan.goal run.locality ≡ None → start_rule (view_of run.setup first) ≡ None
unfolding first_block sight_after
open-starts run first opens =
    let parts = or_else-none (whole_block (chooser_of run first).sight run.plan.path.outside) (moves_block (chooser_of run first) 1 (fresh_session (sight_after run.setup first)) run.plan.path.moves) opens in
    start-allowed (view_of run.setup first)
    (unless-none (not (nat_eq (free_count (view_of run.setup first).sessions (bits_of (view_of run.setup first).saved)) 0)) _ (map-none _ _ (or_else-none _ _ parts.0).1))

-- and its moves and its goal are all open
pub open-moves : (run : Run) (first : List Event) → first_block run.plan.path (sight_after run.setup first) run.plan.grants run.plan.goal run.locality ≡ None
    → moves_block (chooser_of run first) 1 (fresh_session (sight_after run.setup first)) run.plan.path.moves ≡ None
unfolding first_block
open-moves run first opens =
    (or_else-none (whole_block (chooser_of run first).sight run.plan.path.outside) (moves_block (chooser_of run first) 1 (fresh_session (sight_after run.setup first)) run.plan.path.moves) opens).1

pub path-served : (run : Run) (first : List Event) (turns : ℕ) → IsBegun run → All (IsUsable run.setup first) run.plan.tickets
    → first_block run.plan.path (sight_after run.setup first) run.plan.grants run.plan.goal run.locality ≡ None → commands_along run.plan.path ≤ turns → ServedAfter run first turns (begun first)
path-served run first zero is usable opens enough = absurd (omega (arith, enough))
path-served run first (suc turns) is usable opens enough =
    let left : commands_of_moves run.plan.path.moves + 1 ≤ turns = omega (arith, enough) in
    let runs : IsRun run = record {
      setup = is.setup;
      directory = is.directory;
      tickets = is.tickets;
      grants = is.grants;
      moves = is.moves;
      complete = open-complete run.setup first run.plan run.locality is.setup is.directory opens;
    } in
    let start = start-moved run first (open-starts run first opens) in
    one-turn run first turns (begun first)
    (subst (ServedAfter run first turns) (sym start.moved.is)
    (moves-served run runs first usable (serves-goal run is first) run.plan.path.moves turns start.moved.past start.session 1 0 1 (fresh_session (sight_after run.setup first))
    (record { ahead = all-ahead run first start is.short; opens = open-moves run first opens }) left))

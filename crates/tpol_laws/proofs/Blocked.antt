-- A run that succeeds had a path that nothing blocked, or an HMAC of it was right by chance: each of its commands
-- was carried out, one after the other.
use Rattle.std.proofs.Common.{◌≡◌, ◌⊎◌, inl, inr, ℕ, zero, suc, ◌+◌, Bool, true, false, not, List, [], ◌∷◌, refl, ap, sym, subst, ◌∙◌}
use Rattle.std.specs.Prelude.{Some, None, slice_get}
use Rattle.std.specs.List.{list_all}
use Rattle.std.proofs.lemmas.Bool.{false≢true}
use Rattle.std.proofs.lemmas.Option.{none-some}
use Rattle.tpm_bindings.specs.State.{SessionState}
use Rattle.tpm_engine.specs.declared.event.Event.{Event}
use Rattle.tpm_engine.specs.Sights.{sight_after}
use Rattle.tpm_rules.specs.Rule.{or_else}
use Rattle.tpol_base.specs.declared.digest.Digest32.{Digest32}
use Rattle.tpol_base.specs.declared.name.Name.{Name}
use Rattle.tpol_choose.specs.declared.block.Block.{Block}
use Rattle.tpol_choose.specs.Blocks.{block_of, first_block, moves_block, whole_block}
use Rattle.tpol_choose.specs.Facts.{fresh_session, session_after}
use Rattle.tpol_choose.specs.Goals.{goal_block}
use Rattle.tpol_choose.specs.Moves.{move_block}
use Rattle.tpol_digest.specs.Laws.{MoveHasBounds}
use Rattle.tpol_driver.specs.declared.session.Session.{Session}
use Rattle.tpol_driver.specs.Driving.{is_verification}
use Rattle.tpol_driver.specs.Plans.{is_complete, is_known_move}
use Rattle.tpol_driver.specs.States.{is_over}
use Rattle.tpol_name.specs.Directories.{directory_of}
use Rattle.tpol_tree.specs.declared.path.Move.{Move}
use Rattle.tpol_tree.specs.declared.path.Move.TheVariants.{Assert, Or, Approve, ApproveNv}
use Rattle.tpol_laws.specs.Acts.{Run, Turn, after_act, after_acts, begun, succeeds}
use Rattle.tpol_laws.specs.Chances.{IsByChance}
use Rattle.tpol_goal.specs.Goals.{HasShortOffset}
use Rattle.tpol_laws.specs.Runs.{IsBegun, IsRun}
use Rattle.tpol_laws.proofs.BlockedSteps.{Authorized, Goes, Verified, authorize-goes, goal-goes, plain-goes, start-goes, verify-goes, whole-open}
use Rattle.tpol_laws.proofs.BlockedTurns.{HasChance, SucceedsAfter, chance-later, chance-now, next-turn, not-yet, on_path}
use Rattle.tpol_laws.proofs.Finds.{all-at, both}
use Rattle.tpol_laws.proofs.Served.{Ahead, Begun, all-ahead, has-room, known-of, next-ahead, next-at, start-moved}
use Rattle.tpol_laws.proofs.Standing.{Stands, chooser_of, judged_after}

-- nothing blocks what is left of a path
abbrev pub IsOpen : Run → List Event → ℕ → SessionState → List Move → Type 0
IsOpen run first number chosen rest = moves_block (chooser_of run first) number chosen rest ≡ None

-- no move nor what is behind it is blocked
pub act-open : (run : Run) (first : List Event) (number : ℕ) (chosen : SessionState) (act : Move) (rest : List Move) → move_block (chooser_of run first) chosen act ≡ None
    → IsOpen run first (number + 1) (session_after (sight_after run.setup first) chosen act) rest → IsOpen run first number chosen (act ∷ rest)
act-open run first number chosen act rest opens behind = λ i. or_else (block_of number (opens i)) (behind i)

-- ---- move after move

module _ (run : Run) (is : IsRun run) (begins : IsBegun run) (none : run.plan.tickets ≡ []) (offsets : HasShortOffset run.plan.goal) (first : List Event) where
  -- what a run comes to from here, within as many turns
  abbrev Comes : ℕ → List Event → Session → ℕ → ℕ → ℕ → SessionState → List Move → Type 0
  Comes turns past session sent done number chosen rest = IsOpen run first number chosen rest ⊎ HasChance run turns (on_path past session sent None done)

  goal-comes : (turns : ℕ) (past : List Event) (session : Session) (sent done number : ℕ) (chosen : SessionState) → Ahead run first past session done chosen []
      → SucceedsAfter run turns (on_path past session sent None done) → Comes turns past session sent done number chosen []
  goal-comes turns past session sent done number chosen ahead succeeds =
      by (goal-goes run begins offsets first past session sent done (subst (Stands run first past session) ahead.judged ahead.stands) (next-at run first past session done chosen [] ahead) turns succeeds)
    where
      by : (goal_block (chooser_of run first) (judged_after run first run.plan.path.moves) ≡ None) ⊎ IsByChance run (on_path past session sent None done) → Comes turns past session sent done number chosen []
      by (inl opens) = inl (ap (block_of 0) (subst (λ (s : SessionState). goal_block (chooser_of run first) s ≡ None) (sym ahead.judged) opens))
      by (inr chance) = inr (chance-now run turns (on_path past session sent None done) chance)

  -- a turn by a move that needs no ticket, and then the others
  plain-comes : (turns : ℕ) (past : List Event) (session : Session) (sent done number : ℕ) (chosen : SessionState) (act : Move) (rest : List Move) → Ahead run first past session done chosen (act ∷ rest) → is_verification None act ≡ false
      → ((later : List Event) → Ahead run first later session (done + 1) (session_after (sight_after run.setup first) chosen act) rest → SucceedsAfter run turns (on_path later session (sent + 1) None (done + 1))
      → Comes turns later session (sent + 1) (done + 1) (number + 1) (session_after (sight_after run.setup first) chosen act) rest)
      → SucceedsAfter run (suc turns) (on_path past session sent None done) → Comes (suc turns) past session sent done number chosen (act ∷ rest)
  plain-comes turns past session sent done number chosen act rest ahead other goes succeeds =
      by (plain-goes run is none first past session sent done chosen ahead.stands (has-room run first past session done chosen act rest ahead past ahead.stands) act at other
      (all-at MoveHasBounds run.plan.path.moves done act is.moves at) (known-of run is past session sent done act at) turns next)
    where
      at : slice_get run.plan.path.moves done ≡ Some act
      at = next-at run first past session done chosen (act ∷ rest) ahead

      next : SucceedsAfter run turns (after_act run (on_path past session sent None done) Turn)
      next = next-turn run turns (on_path past session sent None done) succeeds

      behind : (step : Goes run first past session sent done chosen act) → Comes turns step.moved.past session (sent + 1) (done + 1) (number + 1) (session_after (sight_after run.setup first) chosen act) rest
          → Comes (suc turns) past session sent done number chosen (act ∷ rest)
      behind step (inl opens) = inl (act-open run first number chosen act rest step.opens opens)
      behind step (inr chance) = inr (chance-later run turns (on_path past session sent None done) (subst (HasChance run turns) (sym step.moved.is) chance))

      by : Goes run first past session sent done chosen act ⊎ IsByChance run (on_path past session sent None done) → Comes (suc turns) past session sent done number chosen (act ∷ rest)
      by (inl step) = behind step (goes step.moved.past (next-ahead run first past session done chosen act rest ahead step.moved.past step.moved.stands) (subst (SucceedsAfter run turns) step.moved.is next))
      by (inr chance) = inr (chance-now run (suc turns) (on_path past session sent None done) chance)

  -- the two turns of an approval, and then the others
  approve-comes : (turns : ℕ) (past : List Event) (session : Session) (sent done number : ℕ) (chosen : SessionState) (key : Name) (policy_ref : List ℕ) (approved signature : Digest32) (rest : List Move)
      → Ahead run first past session done chosen (Approve key policy_ref approved signature ∷ rest)
      → ((left : ℕ) (later : List Event) → Ahead run first later session (done + 1) (session_after (sight_after run.setup first) chosen (Approve key policy_ref approved signature)) rest → SucceedsAfter run left (on_path later session (sent + 1 + 1) None (done + 1))
      → Comes left later session (sent + 1 + 1) (done + 1) (number + 1) (session_after (sight_after run.setup first) chosen (Approve key policy_ref approved signature)) rest)
      → SucceedsAfter run (suc turns) (on_path past session sent None done) → Comes (suc turns) past session sent done number chosen (Approve key policy_ref approved signature ∷ rest)
  approve-comes turns past session sent done number chosen key policy_ref approved signature rest ahead goes succeeds =
      second turns (subst (SucceedsAfter run turns) step.ticketed.moved.is (next-turn run turns (on_path past session sent None done) succeeds))
    where
      at : slice_get run.plan.path.moves done ≡ Some (Approve key policy_ref approved signature)
      at = next-at run first past session done chosen (Approve key policy_ref approved signature ∷ rest) ahead

      known : is_known_move (directory_of run.setup) run.plan.grants (Approve key policy_ref approved signature) ≡ true
      known = known-of run is past session sent done (Approve key policy_ref approved signature) at

      step : Verified run first past session sent done chosen key policy_ref approved signature
      step = verify-goes run is first past session sent done chosen ahead.stands key policy_ref approved signature at known turns (next-turn run turns (on_path past session sent None done) succeeds)

      behind : (left : ℕ) (made : Authorized run first step.ticketed.moved.past session (sent + 1) done chosen step.ticketed.ticket (Approve key policy_ref approved signature))
          → Comes left made.moved.past session (sent + 1 + 1) (done + 1) (number + 1) (session_after (sight_after run.setup first) chosen (Approve key policy_ref approved signature)) rest
          → IsOpen run first number chosen (Approve key policy_ref approved signature ∷ rest) ⊎ HasChance run (suc left) (on_path step.ticketed.moved.past session (sent + 1) (Some step.ticketed.ticket) done)
      behind left made (inl opens) = inl (act-open run first number chosen (Approve key policy_ref approved signature) rest made.opens opens)
      behind left made (inr chance) = inr (chance-later run left (on_path step.ticketed.moved.past session (sent + 1) (Some step.ticketed.ticket) done) (subst (HasChance run left) (sym made.moved.is) chance))

      whole : (left : ℕ) → IsOpen run first number chosen (Approve key policy_ref approved signature ∷ rest) ⊎ HasChance run left (on_path step.ticketed.moved.past session (sent + 1) (Some step.ticketed.ticket) done) → Comes (suc left) past session sent done number chosen (Approve key policy_ref approved signature ∷ rest)
      whole left (inl opens) = inl opens
      whole left (inr chance) = inr (chance-later run left (on_path past session sent None done) (subst (HasChance run left) (sym step.ticketed.moved.is) chance))

      second : (left : ℕ) → SucceedsAfter run left (on_path step.ticketed.moved.past session (sent + 1) (Some step.ticketed.ticket) done) → Comes (suc left) past session sent done number chosen (Approve key policy_ref approved signature ∷ rest)
      second zero later = absurd (not-yet run step.ticketed.moved.past session (sent + 1) (Some step.ticketed.ticket) done (Approve key policy_ref approved signature) at later)
      second (suc left) later =
          let on = step.ticketed.moved.stands in
          let made = authorize-goes run is first step.ticketed.moved.past session (sent + 1) done chosen on (has-room run first past session done chosen (Approve key policy_ref approved signature) rest ahead step.ticketed.moved.past on)
          key policy_ref approved signature at (all-at MoveHasBounds run.plan.path.moves done (Approve key policy_ref approved signature) is.moves at) known step.object step.shown step.rule
          step.ticketed.ticket step.ticketed.fits step.ticketed.made left (next-turn run left (on_path step.ticketed.moved.past session (sent + 1) (Some step.ticketed.ticket) done) later) in
          whole (suc left) (behind left made
          (goes left made.moved.past (next-ahead run first past session done chosen (Approve key policy_ref approved signature) rest ahead made.moved.past made.moved.stands)
          (subst (SucceedsAfter run left) made.moved.is (next-turn run left (on_path step.ticketed.moved.past session (sent + 1) (Some step.ticketed.ticket) done) later))))

  moves-come : (rest : List Move) (turns : ℕ) (past : List Event) (session : Session) (sent done number : ℕ) (chosen : SessionState) → Ahead run first past session done chosen rest
      → SucceedsAfter run turns (on_path past session sent None done) → Comes turns past session sent done number chosen rest
  moves-come [] turns past session sent done number chosen ahead succeeds = goal-comes turns past session sent done number chosen ahead succeeds
  moves-come (act ∷ rest) zero past session sent done number chosen ahead succeeds =
      absurd (not-yet run past session sent None done act (next-at run first past session done chosen (act ∷ rest) ahead) succeeds)
  moves-come (Approve key policy_ref approved signature ∷ rest) (suc turns) past session sent done number chosen ahead succeeds =
      approve-comes turns past session sent done number chosen key policy_ref approved signature rest ahead
      (λ left later next. moves-come rest left later session (sent + 1 + 1) (done + 1) (number + 1) (session_after (sight_after run.setup first) chosen (Approve key policy_ref approved signature)) next) succeeds
  moves-come (Assert assertion ∷ rest) (suc turns) past session sent done number chosen ahead succeeds =
      plain-comes turns past session sent done number chosen (Assert assertion) rest ahead refl
      (λ later next. moves-come rest turns later session (sent + 1) (done + 1) (number + 1) (session_after (sight_after run.setup first) chosen (Assert assertion)) next) succeeds
  moves-come (Or digests ∷ rest) (suc turns) past session sent done number chosen ahead succeeds =
      plain-comes turns past session sent done number chosen (Or digests) rest ahead refl
      (λ later next. moves-come rest turns later session (sent + 1) (done + 1) (number + 1) (session_after (sight_after run.setup first) chosen (Or digests)) next) succeeds
  moves-come (ApproveNv index approved ∷ rest) (suc turns) past session sent done number chosen ahead succeeds =
      plain-comes turns past session sent done number chosen (ApproveNv index approved) rest ahead refl
      (λ later next. moves-come rest turns later session (sent + 1) (done + 1) (number + 1) (session_after (sight_after run.setup first) chosen (ApproveNv index approved)) next) succeeds

-- ---- the whole run

-- before its start a run does not succeed yet
not-begun : (run : Run) (first : List Event) → SucceedsAfter run 0 (begun first) → ⊥
unfolding after_acts
not-begun run first (inl served) = absurd (false≢true (ap is_over served.is))
not-begun run first (inr goal) = absurd (none-some _ goal.place)

pub no-outside : (outside : Bool) → not outside ≡ true → outside ≡ false
no-outside true h = absurd (false≢true h)
no-outside false h = refl

pub run-of : (run : Run) → IsBegun run → is_complete run.plan ≡ true → IsRun run
run-of run begins complete = record { setup = begins.setup; directory = begins.directory; tickets = begins.tickets; grants = begins.grants; moves = begins.moves; complete = complete }

-- a run that succeeds had an open path, or a chance
run-comes : (run : Run) (first : List Event) (turns : ℕ) → IsBegun run → run.plan.tickets ≡ [] → HasShortOffset run.plan.goal → is_complete run.plan ≡ true → SucceedsAfter run turns (begun first)
    → (first_block run.plan.path (sight_after run.setup first) run.plan.grants run.plan.goal run.locality ≡ None) ⊎ HasChance run turns (begun first)
unfolding first_block
run-comes run first zero begins none offsets complete succeeds = absurd (not-begun run first succeeds)
run-comes run first (suc turns) begins none offsets complete succeeds =
    let next = next-turn run turns (begun first) succeeds in
    let rule = start-goes run first turns next in
    let start = start-moved run first rule in
    let inside = no-outside run.plan.path.outside (both (not run.plan.path.outside) (list_all (is_known_move run.plan.directory run.plan.grants) run.plan.path.moves) complete).0 in
    by (start-moved run first rule) (whole-open run first inside rule)
    (moves-come run (run-of run begins complete) begins none offsets first run.plan.path.moves turns start.moved.past start.session 1 0 1 (fresh_session (sight_after run.setup first)) (all-ahead run first start begins.short)
    (subst (SucceedsAfter run turns) start.moved.is next))
  where
    by : (start : Begun run first) → whole_block (sight_after run.setup first) run.plan.path.outside ≡ None
        → IsOpen run first 1 (fresh_session (sight_after run.setup first)) run.plan.path.moves ⊎ HasChance run turns (on_path start.moved.past start.session 1 None 0)
        → (first_block run.plan.path (sight_after run.setup first) run.plan.grants run.plan.goal run.locality ≡ None) ⊎ HasChance run (suc turns) (begun first)
    by start whole (inl opens) = inl (λ i. or_else (whole i) (opens i))
    by start whole (inr chance) = inr (chance-later run turns (begun first) (subst (HasChance run turns) (sym start.moved.is) chance))

-- one that was blocked had a chance
pub blocked-chance : (run : Run) (first : List Event) (turns : ℕ) (block : Block) → IsBegun run → run.plan.tickets ≡ [] → HasShortOffset run.plan.goal → is_complete run.plan ≡ true
    → first_block run.plan.path (sight_after run.setup first) run.plan.grants run.plan.goal run.locality ≡ Some block → SucceedsAfter run turns (begun first) → HasChance run turns (begun first)
blocked-chance run first turns block begins none offsets complete blocked succeeds = by (run-comes run first turns begins none offsets complete succeeds)
  where
    by : (first_block run.plan.path (sight_after run.setup first) run.plan.grants run.plan.goal run.locality ≡ None) ⊎ HasChance run turns (begun first) → HasChance run turns (begun first)
    by (inl opens) = absurd (none-some block (sym opens ∙ blocked))
    by (inr chance) = chance

-- Turns of a blind run: one after another, and on a path those of a run on that path alone.
use Rattle.std.proofs.Common.{◌≡◌, ◌≤◌, ◌<◌, ◌-◌, ℕ, zero, suc, ◌+◌, ◌*◌, ◌⊎◌, inl, inr, List, ◌∷◌, length, replicate, refl, ap, sym, subst, ◌∙◌, arith}
use Rattle.std.specs.Prelude.{Option, Some, None, slice_get, slice_set}
use Rattle.std.proofs.lemmas.Bool.{false≢true}
use Rattle.tpm_engine.specs.declared.event.Event.{Event}
use Rattle.tpol_driver.specs.declared.blind_end.BlindEnd.{BlindEnd}
use Rattle.tpol_driver.specs.declared.blind_end.BlindEnd.TheVariants as blind_ends
use Rattle.tpol_driver.specs.declared.blind_end.Tried.{Tried}
use Rattle.tpol_driver.specs.declared.blind_end.Tried.TheVariants.{Refused}
use Rattle.tpol_driver.specs.declared.blind_plan.BlindPlan.{BlindPlan}
use Rattle.tpol_driver.specs.declared.end.End.{End}
use Rattle.tpol_driver.specs.declared.end.End.TheVariants as ends
use Rattle.tpol_driver.specs.declared.plan.Plan.{Plan}
use Rattle.tpol_driver.specs.declared.session.Session.{Session}
use Rattle.tpol_driver.specs.Blind.{BlindStanding, Trying, blind_hears, next_try, on_try, plan_at, tried, tried_from}
use Rattle.tpol_driver.specs.Blind as blind
use Rattle.tpol_driver.specs.Driving.{Closing, Moving, Over, Standing, Starting, hears, next_command}
use Rattle.tpol_driver.specs.States.{is_over}
use Rattle.tpol_driver.proofs.Ending.{left, left_on, path_left}
use Rattle.tpol_fields.specs.declared.ticket.Ticket.{Ticket}
use Rattle.tpol_wire.specs.declared.command.Command.{Command}
use Rattle.tpol_laws.specs.Acts.{Course, Run, Turn, after_act, after_acts, answer_in, event_in}
use Rattle.tpol_laws.specs.BlindRuns.{BlindCourse, BlindRun, IsBlindChance, after_blind_turn, blind_turns, run_of_try}
use Rattle.tpol_laws.proofs.BlockedTurns.{on_path}
use Rattle.tpol_laws.proofs.Refused.{EndsBy}
use Rattle.tpol_laws.proofs.Restarted.{Keeps}

-- ---- so many turns, and more

pub turns-add : (run : BlindRun) (n m : ℕ) (course : BlindCourse) → blind_turns run (n + m) course ≡ blind_turns run m (blind_turns run n course)
unfolding blind_turns
turns-add run zero m course = let same : 0 + m ≡ m = omega arith in ap (λ (k : ℕ). blind_turns run k course) same
turns-add run (suc n) m course =
    let same : suc n + m ≡ suc (n + m) = omega arith in
    ap (λ (k : ℕ). blind_turns run k course) same ∙ turns-add run n m (after_blind_turn run course)

-- one after so many
pub next-after : (run : BlindRun) (n : ℕ) (course : BlindCourse) → blind_turns run (n + 1) course ≡ after_blind_turn run (blind_turns run n course)
unfolding blind_turns
next-after run n course = turns-add run n 1 course

-- a run that is over stays over
pub over-for-good : (run : BlindRun) (turns : ℕ) (past : List Event) (end : BlindEnd) → (blind_turns run turns (record { past = past; standing = blind.Over end })).standing ≡ blind.Over end
unfolding blind_turns
over-for-good run zero past end = refl
over-for-good run (suc turns) past end = over-for-good run turns past end

over-from : (run : BlindRun) (turns : ℕ) (course : BlindCourse) (end : BlindEnd) → course.standing ≡ blind.Over end → (blind_turns run turns course).standing ≡ blind.Over end
over-from run turns course end over =
    ap (λ (s : BlindStanding). (blind_turns run turns (record { past = course.past; standing = s })).standing) over ∙ over-for-good run turns course.past end

pub over-stays : (run : BlindRun) (n m : ℕ) (course : BlindCourse) (end : BlindEnd) → n ≤ m → (blind_turns run n course).standing ≡ blind.Over end → (blind_turns run m course).standing ≡ blind.Over end
over-stays run n m course end fewer over =
    let same : m ≡ n + (m - n) = omega (arith, fewer) in
    ap (λ (k : ℕ). (blind_turns run k course).standing) same
    ∙ ap (λ (c : BlindCourse). c.standing) (turns-add run n (m - n) course)
    ∙ over-from run (m - n) (blind_turns run n course) end over

-- ---- what a try comes to

-- within as many turns the run is served with these bytes on the path at this position
pub record IsBlindServed (run : BlindRun) (most : ℕ) (course : BlindCourse) (position : ℕ) (bytes : List ℕ) : Type 0 where
  pub turns : ℕ
  pub within : turns ≤ most
  pub is : (blind_turns run turns course).standing ≡ blind.Over (blind_ends.Served position bytes)

-- or what it sends is right by chance
pub record ComesByChance (run : BlindRun) (most : ℕ) (course : BlindCourse) : Type 0 where
  pub before : ℕ
  pub within : before < most
  pub is : IsBlindChance run (blind_turns run before course)

-- or it is refused on the path at this place, and goes on to the next
pub record IsTryRefused (run : BlindRun) (first : List Event) (session : Session) (most place : ℕ) (course : BlindCourse) : Type 0 where
  pub turns : ℕ
  pub within : turns ≤ most
  pub past : List Event
  pub sent : ℕ
  pub tries : List Tried
  pub is : blind_turns run turns course ≡ record { past = past; standing = next_try session sent tries (tried_from run.plan (place + 1)) }
  pub keeps : Keeps (run_of_try run place) first past session

served-later : (run : BlindRun) (most : ℕ) (course : BlindCourse) (position : ℕ) (bytes : List ℕ) → IsBlindServed run most (after_blind_turn run course) position bytes → IsBlindServed run (suc most) course position bytes
unfolding blind_turns
served-later run most course position bytes later =
    let within : later.turns ≤ most = later.within in
    record { turns = suc later.turns; within = omega (arith, within); is = later.is }

served-next : (run : BlindRun) (most : ℕ) (course : BlindCourse) (position : ℕ) (bytes : List ℕ) → (after_blind_turn run course).standing ≡ blind.Over (blind_ends.Served position bytes) → IsBlindServed run (suc most) course position bytes
unfolding blind_turns
served-next run most course position bytes is = record { turns = 1; within = omega arith; is = is }

chance-here : (run : BlindRun) (most : ℕ) (course : BlindCourse) → IsBlindChance run course → ComesByChance run (suc most) course
unfolding blind_turns
chance-here run most course is = record { before = 0; within = omega arith; is = is }

abbrev pub TryEnds : BlindRun → List Event → Session → ℕ → ℕ → BlindCourse → Type 0
TryEnds run first session most place course = IsTryRefused run first session most place course ⊎ ComesByChance run most course

try-later : (run : BlindRun) (first : List Event) (session : Session) (most place : ℕ) (course : BlindCourse) → TryEnds run first session most place (after_blind_turn run course) → TryEnds run first session (suc most) place course
unfolding blind_turns
try-later run first session most place course (inl later) =
    let within : later.turns ≤ most = later.within in
    inl (record { turns = suc later.turns; within = omega (arith, within); past = later.past; sent = later.sent; tries = later.tries; is = later.is; keeps = later.keeps })
try-later run first session most place course (inr chance) =
    let within : chance.before < most = chance.within in
    inr (record { before = suc chance.before; within = omega (arith, within); is = chance.is })

try-refused : (run : BlindRun) (first : List Event) (session : Session) (most place : ℕ) (course : BlindCourse) (past : List Event) (sent : ℕ) (tries : List Tried)
    → after_blind_turn run course ≡ record { past = past; standing = next_try session sent tries (tried_from run.plan (place + 1)) } → Keeps (run_of_try run place) first past session → TryEnds run first session (suc most) place course
unfolding blind_turns
try-refused run first session most place course past sent tries is keeps =
    inl (record { turns = 1; within = omega arith; past = past; sent = sent; tries = tries; is = is; keeps = keeps })

-- ---- as a run on the path alone

-- the driver's law of it
abbrev pub Mirrored : Type 0
Mirrored =
    (plan : BlindPlan) (session : Session) (sent place : ℕ) (ticket : Option Ticket) (done : ℕ) (tries : List Tried) (reply : List ℕ)
    → blind_hears plan (Trying session sent place ticket done tries) reply ≡ on_try plan session sent place tries (hears (plan_at plan place) (Moving session sent ticket done) reply)

abbrev pub trying : List Event → Session → ℕ → ℕ → Option Ticket → ℕ → List Tried → BlindCourse
trying past session sent place ticket done tries = record { past = past; standing = Trying session sent place ticket done tries }

-- where the blind run is, where a run on its path alone is here
abbrev along : BlindPlan → Session → ℕ → ℕ → List Tried → Course → BlindCourse
along plan session sent place tries course = record { past = course.past; standing = on_try plan session sent place tries course.standing }

-- a run that is served in the end has that end once its end is known
over-served : (run : Run) (turns : ℕ) (past : List Event) (end : End) (bytes : List ℕ) → (after_acts run (replicate turns Turn) (record { past = past; standing = Over end })).standing ≡ Over (ends.Served bytes)
    → end ≡ ends.Served bytes
unfolding after_acts
over-served run zero past end bytes over = cc
over-served run (suc turns) past end bytes over = over-served run turns past end bytes over

closed-served : (run : Run) (turns : ℕ) (past : List Event) (session : ℕ) (end : End) (bytes : List ℕ) → (after_acts run (replicate turns Turn) (record { past = past; standing = Closing session end })).standing ≡ Over (ends.Served bytes)
    → end ≡ ends.Served bytes
unfolding after_acts
closed-served run zero past session end bytes over = absurd (false≢true (ap is_over over))
closed-served run (suc turns) past session end bytes over = over-served run turns _ end bytes over

most-left : (moves done : ℕ) (ticket : Option Ticket) → left_on (moves - done) ticket ≤ 2 * moves + 2
most-left moves done None = omega arith
most-left moves done (Some ticket) = omega arith

-- a run on its path does not start again
never-starts : (plan : Plan) (session : Session) (sent : ℕ) (ticket : Option Ticket) (done : ℕ) (reply : List ℕ) → hears plan (Moving session sent ticket done) reply ≡ Starting → ⊥
never-starts plan session sent ticket done reply starts =
    let falls : left plan Starting + 1 ≤ left_on (length plan.path.moves - done) ticket =
    subst (λ (s : Standing). left plan s + 1 ≤ left_on (length plan.path.moves - done) ticket) starts (path_left plan session sent ticket done (slice_get plan.path.moves done) _ refl) in
    absurd (omega (arith, falls, most-left (length plan.path.moves) done ticket))

module _ (mirrored : Mirrored) (run : BlindRun) where
  turn-mirrored : (past : List Event) (session : Session) (sent place : ℕ) (ticket : Option Ticket) (done : ℕ) (tries : List Tried)
      → after_blind_turn run (trying past session sent place ticket done tries) ≡ along run.plan session sent place tries (after_act (run_of_try run place) (on_path past session sent ticket done) Turn)
  turn-mirrored past session sent place ticket done tries =
      let command : Command = next_command (plan_at run.plan place) session sent ticket (slice_get (plan_at run.plan place).path.moves done) in
      ap (λ (s : BlindStanding). record { past = event_in (run_of_try run place) past command ∷ past; standing = s })
      (mirrored run.plan session sent place ticket done tries (answer_in (run_of_try run place) past command).reply)

  -- a turn on the path of a run that is served in the end
  served-turn : (turns : ℕ) (past : List Event) (session : Session) (sent place : ℕ) (ticket : Option Ticket) (done : ℕ) (tries : List Tried) (bytes : List ℕ)
      → ((later : List Event) (own : Session) (number : ℕ) (next : Option Ticket) (more : ℕ) → (after_acts (run_of_try run place) (replicate turns Turn) (on_path later own number next more)).standing ≡ Over (ends.Served bytes)
      → IsBlindServed run turns (trying later own number place next more tries) (place + 1) bytes)
      → (after_acts (run_of_try run place) (replicate turns Turn) (after_act (run_of_try run place) (on_path past session sent ticket done) Turn)).standing ≡ Over (ends.Served bytes)
      → IsBlindServed run (suc turns) (trying past session sent place ticket done tries) (place + 1) bytes
  served-turn turns past session sent place ticket done tries bytes goes served = by after.standing refl
    where
      after : Course
      after = after_act (run_of_try run place) (on_path past session sent ticket done) Turn

      at : (standing : Standing) → after.standing ≡ standing → after_blind_turn run (trying past session sent place ticket done tries) ≡ record { past = after.past; standing = on_try run.plan session sent place tries standing }
      at now is = turn-mirrored past session sent place ticket done tries ∙ ap (λ (s : Standing). record { past = after.past; standing = on_try run.plan session sent place tries s }) is

      then : (standing : Standing) → after.standing ≡ standing → (after_acts (run_of_try run place) (replicate turns Turn) (record { past = after.past; standing = standing })).standing ≡ Over (ends.Served bytes)
      then now is = ap (λ (s : Standing). (after_acts (run_of_try run place) (replicate turns Turn) (record { past = after.past; standing = s })).standing) (sym is) ∙ served

      ended : (end : End) → (after_blind_turn run (trying past session sent place ticket done tries)).standing ≡ tried run.plan session (sent + 1) place tries end → end ≡ ends.Served bytes
          → IsBlindServed run (suc turns) (trying past session sent place ticket done tries) (place + 1) bytes
      ended end is same = served-next run turns (trying past session sent place ticket done tries) (place + 1) bytes (is ∙ ap (tried run.plan session (sent + 1) place tries) same)

      by : (standing : Standing) → after.standing ≡ standing → IsBlindServed run (suc turns) (trying past session sent place ticket done tries) (place + 1) bytes
      by Starting is =
          let command : Command = next_command (plan_at run.plan place) session sent ticket (slice_get (plan_at run.plan place).path.moves done) in
          absurd (never-starts (plan_at run.plan place) session sent ticket done (answer_in (run_of_try run place) past command).reply is)
      by (Moving own number next more) is =
          served-later run turns (trying past session sent place ticket done tries) (place + 1) bytes
          (subst (λ (c : BlindCourse). IsBlindServed run turns c (place + 1) bytes) (sym (at (Moving own number next more) is)) (goes after.past own number next more (then (Moving own number next more) is)))
      by (Closing handle end) is =
          ended end (ap (λ (c : BlindCourse). c.standing) (at (Closing handle end) is)) (closed-served (run_of_try run place) turns after.past handle end bytes (then (Closing handle end) is))
      by (Over end) is =
          ended end (ap (λ (c : BlindCourse). c.standing) (at (Over end) is)) (over-served (run_of_try run place) turns after.past end bytes (then (Over end) is))

  -- where a run on the path alone is served, so is the blind run
  pub try-served : (turns : ℕ) (past : List Event) (session : Session) (sent place : ℕ) (ticket : Option Ticket) (done : ℕ) (tries : List Tried) (bytes : List ℕ)
      → (after_acts (run_of_try run place) (replicate turns Turn) (on_path past session sent ticket done)).standing ≡ Over (ends.Served bytes)
      → IsBlindServed run turns (trying past session sent place ticket done tries) (place + 1) bytes
  unfolding after_acts
  try-served zero past session sent place ticket done tries bytes served = absurd (false≢true (ap is_over served))
  try-served (suc turns) past session sent place ticket done tries bytes served =
      served-turn turns past session sent place ticket done tries bytes
      (λ later own number next more. try-served turns later own number place next more tries bytes) served

  -- where it is refused, or an HMAC of it is right by chance, so is the blind run's try, and the next path comes
  pub try-ends : (most : ℕ) (first past : List Event) (session : Session) (sent place : ℕ) (ticket : Option Ticket) (done : ℕ) (tries : List Tried)
      → EndsBy (run_of_try run place) first session most (on_path past session sent ticket done)
      → TryEnds run first session most place (trying past session sent place ticket done tries)
  try-ends zero first past session sent place ticket done tries ends = absurd ends
  try-ends (suc most) first past session sent place ticket done tries (inl chance) = inr (chance-here run most (trying past session sent place ticket done tries) chance)
  try-ends (suc most) first past session sent place ticket done tries (inr (inl refused)) =
      try-refused run first session most place (trying past session sent place ticket done tries) refused.past (sent + 1) (slice_set tries place (Refused refused.at refused.rc))
      (turn-mirrored past session sent place ticket done tries ∙ ap (along run.plan session sent place tries) refused.is) refused.keeps
  try-ends (suc most) first past session sent place ticket done tries (inr (inr leads)) =
      try-later run first session most place (trying past session sent place ticket done tries)
      (subst (TryEnds run first session most place) (sym (turn-mirrored past session sent place ticket done tries ∙ ap (along run.plan session sent place tries) leads.is))
      (try-ends most first leads.past session leads.sent place leads.ticket leads.done tries leads.onwards))

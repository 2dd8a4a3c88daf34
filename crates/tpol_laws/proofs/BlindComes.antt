-- What a blind run comes to, path after path: the first that nothing blocks serves it; or an HMAC of it was right by
-- chance.
use Rattle.std.proofs.Common.{cond, ◌≡◌, ◌≤◌, ◌<◌, ◌⊎◌, inl, inr, ℕ, suc, ◌+◌, Bool, true, false, if◌then◌else◌, List, [], ◌∷◌, drop, length, nat_lt, refl, ap, sym, subst, ◌∙◌, arith}
use Rattle.std.specs.Prelude.{⊤, All, Option, Some, None, is_none, slice_get, unwrap_or}
use Rattle.std.proofs.lemmas.Bool.{false≢true}
use Rattle.std.proofs.lemmas.Bool.Decides.{nat_tests}
use Rattle.std.proofs.lemmas.Option.{same_Some}
use Rattle.std.proofs.lemmas.List.Elements.{All-nil}
use Rattle.tpm_engine.specs.declared.event.Event.{Event}
use Rattle.tpm_engine.specs.SessionCommands.{start_rule}
use Rattle.tpm_engine.specs.Sights.{sight_after}
use Rattle.tpm_engine.specs.Views.{view_of, world_at}
use Rattle.tpol_choose.specs.declared.block.Block.{Block}
use Rattle.tpol_choose.specs.Blocks.{chosen_path, first_block, is_open}
use Rattle.tpol_digest.specs.Laws.{MoveHasBounds}
use Rattle.tpol_digest.specs.Walks.{first_path}
use Rattle.tpol_driver.specs.declared.blind_end.BlindEnd.{BlindEnd}
use Rattle.tpol_driver.specs.declared.blind_end.BlindEnd.TheVariants as blind_ends
use Rattle.tpol_driver.specs.declared.end.Stage.TheVariants as stages
use Rattle.tpol_driver.specs.Blind.{BlindStanding, Over, is_tried, no_path, plan_along, plan_at, tried_from}
use Rattle.tpol_driver.specs.Plans.{is_complete}
use Rattle.tpol_goal.specs.Goals.{HasShortOffset}
use Rattle.tpol_tree.specs.declared.path.Path.{Path}
use Rattle.tpol_laws.specs.Acts.{Run}
use Rattle.tpol_laws.specs.BlindRuns.{BlindChanceAt, BlindCourse, BlindRun, HasBlindChance, IsBlindBegun, IsBlindChance, after_blind_turn, blind_begun, blind_turns, most_to, run_of_try}
use Rattle.tpol_laws.specs.GoalBytes.{goal_bytes}
use Rattle.tpol_laws.specs.PathCommands.{commands_along, commands_of_moves}
use Rattle.tpol_laws.specs.Runs.{IsBegun}
use Rattle.tpol_laws.specs.HeldTickets.{TicketHasBounds}
use Rattle.tpol_laws.proofs.BlindPaths.{IsFirst, commands_to, is-first, none-tried, path-at, rest-at, tried-here, tried-later}
use Rattle.tpol_laws.proofs.BlindStarts.{Enters, IsClosed, IsDenied, IsEntered, refused-enters, started-enters, starts-or-denied}
use Rattle.tpol_laws.proofs.BlindTurns.{ComesByChance, IsBlindServed, Mirrored, TryEnds, next-after, over-stays, trying, try-ends, try-served, turns-add}
use Rattle.tpol_laws.proofs.Complete.{open-complete}
use Rattle.tpol_laws.proofs.Finds.{all-at}
use Rattle.tpol_laws.proofs.OneTry.{blocked-ends, open-served}
use Rattle.tpol_laws.proofs.Served.{open-starts}

-- ---- from the begin on

served-from : (run : BlindRun) (first : List Event) (turns most total : ℕ) (course : BlindCourse) (position : ℕ) (bytes : List ℕ) → blind_turns run turns (blind_begun first) ≡ course → turns + most ≤ total
    → IsBlindServed run most course position bytes → IsBlindServed run total (blind_begun first) position bytes
served-from run first turns most total course position bytes is enough served =
    let within : served.turns ≤ most = served.within in
    record {
      turns = turns + served.turns;
      within = omega (arith, within, enough);
      is = ap (λ (c : BlindCourse). c.standing) (turns-add run turns served.turns (blind_begun first)) ∙ ap (λ (c : BlindCourse). (blind_turns run served.turns c).standing) is ∙ served.is;
    }

chance-from : (run : BlindRun) (first : List Event) (turns most total : ℕ) (course : BlindCourse) → blind_turns run turns (blind_begun first) ≡ course → turns + most ≤ total
    → ComesByChance run most course → ComesByChance run total (blind_begun first)
chance-from run first turns most total course is enough chance =
    let within : chance.before < most = chance.within in
    record {
      before = turns + chance.before;
      within = omega (arith, within, enough);
      is = subst (IsBlindChance run) (sym (turns-add run turns chance.before (blind_begun first) ∙ ap (blind_turns run chance.before) is)) chance.is;
    }

-- ---- one end

abbrev end-of : BlindStanding → Option BlindEnd
end-of (Over end) = Some end
end-of _ = None

-- a run has one end
over-once : (run : BlindRun) (n m : ℕ) (first : List Event) (one other : BlindEnd) → (blind_turns run n (blind_begun first)).standing ≡ Over one → (blind_turns run m (blind_begun first)).standing ≡ Over other → one ≡ other
over-once run n m first one other over again =
    same_Some one other
    (ap end-of (sym (over-stays run n (n + m) (blind_begun first) one (omega arith) over) ∙ over-stays run m (n + m) (blind_begun first) other (omega arith) again))

-- which serves nothing
abbrev IsUnserved : BlindEnd → Type 0
IsUnserved (blind_ends.Served position bytes) = ⊥
IsUnserved (blind_ends.NoBranch tries) = ⊤
IsUnserved (blind_ends.Denied at rc) = ⊤
IsUnserved (blind_ends.BadReply at) = ⊤

not-served : (end : BlindEnd) (position : ℕ) (bytes : List ℕ) → end ≡ blind_ends.Served position bytes → IsUnserved end → ⊥
not-served end position bytes same unserved = subst IsUnserved same unserved

abbrev position-of : BlindEnd → ℕ
position-of (blind_ends.Served position bytes) = position
position-of _ = 0

abbrev bytes-of : BlindEnd → List ℕ
bytes-of (blind_ends.Served position bytes) = bytes
bytes-of _ = []

-- a session that is closed ends the run
closed-next : (run : BlindRun) (first : List Event) (closed : IsClosed run first) → (blind_turns run (closed.turns + 1) (blind_begun first)).standing ≡ Over (blind_ends.NoBranch closed.tries)
closed-next run first closed =
    ap (λ (c : BlindCourse). c.standing) (next-after run closed.turns (blind_begun first))
    ∙ ap (λ (s : BlindStanding). (after_blind_turn run (record { past = (blind_turns run closed.turns (blind_begun first)).past; standing = s })).standing) closed.is

-- a chance comes before the end
chance-within : (run : BlindRun) (turns : ℕ) (first : List Event) (end : BlindEnd) → (blind_turns run turns (blind_begun first)).standing ≡ Over end → (most : ℕ) → ComesByChance run most (blind_begun first) → HasBlindChance run turns first
chance-within run turns first end over most chance = by (nat_lt chance.before turns) refl
  where
    by : (b : Bool) → nat_lt chance.before turns ≡ b → HasBlindChance run turns first
    by true before =
        let within : chance.before < turns = grind (arith, nat_tests, before) in
        (chance.before, within, chance.is)
    by false behind =
        let later : turns ≤ chance.before = grind (arith, nat_tests, behind) in
        absurd (subst (BlindChanceAt run (blind_turns run chance.before (blind_begun first)).past) (over-stays run turns chance.before (blind_begun first) end later over) chance.is)

-- ---- path after path

pub none-of : (o : Option Block) → is_none o ≡ true → o ≡ None
none-of None h = refl
none-of (Some block) h = absurd (false≢true h)

module _ (mirrored : Mirrored) (run : BlindRun) (begins : IsBlindBegun run) (offsets : HasShortOffset run.plan.goal) (first : List Event) where
  abbrev unblocked : Path → Bool
  unblocked path = is_open (sight_after run.setup first) run.plan.grants run.plan.goal run.locality path

  abbrev tried : Path → Bool
  tried path = is_tried run.plan path

  -- what its goal gives on the machine as it is at the begin
  abbrev given : List ℕ
  given = goal_bytes (world_at run.setup first) run.plan.goal

  -- within as many turns
  abbrev Comes : ℕ → Option ℕ → Type 0
  Comes most None = IsClosed run first ⊎ ComesByChance run most (blind_begun first)
  Comes most (Some position) = IsBlindServed run most (blind_begun first) position given ⊎ ComesByChance run most (blind_begun first)

  comes-by-chance : (most : ℕ) (found : Option ℕ) → ComesByChance run most (blind_begun first) → Comes most found
  comes-by-chance most None chance = inr chance
  comes-by-chance most (Some position) chance = inr chance

  begun-along : (place : ℕ) (path : Path) → slice_get run.plan.paths place ≡ Some path → IsBegun (run_of_try run place)
  begun-along place path at =
      let same : unwrap_or (slice_get run.plan.paths place) no_path ≡ path = ap (λ (o : Option Path). unwrap_or o no_path) at in
      record {
        setup = begins.setup;
        directory = begins.directory;
        tickets = All-nil TicketHasBounds;
        grants = begins.grants;
        moves = subst (λ (p : Path). All MoveHasBounds p.moves) (sym same) (all-at (λ (p : Path). All MoveHasBounds p.moves) run.plan.paths place path begins.moves at);
        short = subst (λ (p : Path). length p.moves ≤ 512) (sym same) (all-at (λ (p : Path). length p.moves ≤ 512) run.plan.paths place path begins.short at);
        fits = begins.fits;
        among = begins.among;
      }

  -- something blocks a path that is skipped
  open-tried : (path : Path) → unblocked path ≡ true → tried path ≡ true
  open-tried path opens = open-complete run.setup first (plan_along run.plan path) run.locality begins.setup begins.directory (none-of _ opens)

  module _ (rule : start_rule (view_of run.setup first) ≡ None) where
    -- a path, and then the others
    path-comes : (place : ℕ) (path : Path) (rest : List Path) → drop place run.plan.paths ≡ path ∷ rest → (used : ℕ) → Enters run first used (tried_from run.plan place)
        → ((more : ℕ) → Enters run first more (tried_from run.plan (place + 1)) → Comes (more + commands_to tried unblocked rest) (first_path unblocked (place + 1 + 1) rest))
        → Comes (used + commands_to tried unblocked (path ∷ rest)) (first_path unblocked (place + 1) (path ∷ rest))
    path-comes place path rest is used enters later = by (tried path) (unblocked path) refl refl
      where
        at : slice_get run.plan.paths place ≡ Some path
        at = path-at run.plan.paths place path rest is

        same : unwrap_or (slice_get run.plan.paths place) no_path ≡ path
        same = ap (λ (o : Option Path). unwrap_or o no_path) at

        along : Run
        along = run_of_try run place

        long : commands_of_moves (plan_at run.plan place).path.moves ≡ commands_of_moves path.moves
        long = ap (λ (p : Path). commands_of_moves p.moves) same

        entered : tried path ≡ true → IsEntered run first used place
        entered tries = subst (Enters run first used) (tried-here run.plan place path rest is tries) enters

        complete : tried path ≡ true → is_complete (plan_at run.plan place) ≡ true
        complete tries = ap (λ (p : Path). is_complete (plan_along run.plan p)) same ∙ tries

        serves : tried path ≡ true → unblocked path ≡ true → (total : ℕ) → used + commands_along path ≤ total → IsBlindServed run total (blind_begun first) (place + 1) given
        serves tries opens total enough =
            let in_path = entered tries in
            let within : in_path.turns ≤ used + 1 = in_path.within in
            let open_there : first_block (plan_at run.plan place).path (sight_after run.setup first) run.plan.grants run.plan.goal run.locality ≡ None =
            ap (λ (p : Path). first_block p (sight_after run.setup first) run.plan.grants run.plan.goal run.locality) same ∙ none-of _ opens in
            let served = open-served along (begun-along place path at) refl (complete tries) first in_path.past in_path.session in_path.sent in_path.stands open_there in
            served-from run first in_path.turns (commands_of_moves (plan_at run.plan place).path.moves + 1) total (trying in_path.past in_path.session in_path.sent place None 0 in_path.tries) (place + 1) given in_path.is
            (omega (arith, within, long, enough))
            (try-served mirrored run (commands_of_moves (plan_at run.plan place).path.moves + 1) in_path.past in_path.session in_path.sent place None 0 in_path.tries given served)

        -- refused, or by chance
        ends : (tries : tried path ≡ true) → (block : Block) → first_block path (sight_after run.setup first) run.plan.grants run.plan.goal run.locality ≡ Some block
            → TryEnds run first (entered tries).session (commands_of_moves (plan_at run.plan place).path.moves + 1) place (trying (entered tries).past (entered tries).session (entered tries).sent place None 0 (entered tries).tries)
        ends tries block blocked =
            let in_path = entered tries in
            let blocked_there = ap (λ (p : Path). first_block p (sight_after run.setup first) run.plan.grants run.plan.goal run.locality) same ∙ blocked in
            try-ends mirrored run (commands_of_moves (plan_at run.plan place).path.moves + 1) first in_path.past in_path.session in_path.sent place None 0 in_path.tries
            (blocked-ends along (begun-along place path at) refl (complete tries) first in_path.past in_path.session in_path.sent in_path.stands offsets rule block blocked_there)

        behind : (tries : tried path ≡ true) → (found : Option ℕ) (most : ℕ)
            → TryEnds run first (entered tries).session (commands_of_moves (plan_at run.plan place).path.moves + 1) place (trying (entered tries).past (entered tries).session (entered tries).sent place None 0 (entered tries).tries)
            → (Enters run first (used + commands_along path) (tried_from run.plan (place + 1)) → Comes (used + commands_along path + most) found)
            → Comes (used + commands_along path + most) found
        behind tries found most (inl refused) next =
            let in_path = entered tries in
            let within : in_path.turns ≤ used + 1 = in_path.within in
            let few : refused.turns ≤ commands_of_moves (plan_at run.plan place).path.moves + 1 = refused.within in
            next (refused-enters run first refused.past in_path.session place refused.sent refused.tries refused.keeps (used + commands_along path) (in_path.turns + refused.turns)
            (omega (arith, within, few, long))
            (turns-add run in_path.turns refused.turns (blind_begun first) ∙ ap (blind_turns run refused.turns) in_path.is ∙ refused.is))
        behind tries found most (inr chance) next =
            let in_path = entered tries in
            let within : in_path.turns ≤ used + 1 = in_path.within in
            comes-by-chance (used + commands_along path + most) found
            (chance-from run first in_path.turns (commands_of_moves (plan_at run.plan place).path.moves + 1) (used + commands_along path + most) (trying in_path.past in_path.session in_path.sent place None 0 in_path.tries) in_path.is
            (omega (arith, within, long)) chance)

        blocked : (tries : tried path ≡ true) → (o : Option Block) → first_block path (sight_after run.setup first) run.plan.grants run.plan.goal run.locality ≡ o → is_none o ≡ false
            → Comes (used + commands_along path + commands_to tried unblocked rest) (first_path unblocked (place + 1 + 1) rest)
        blocked tries None found shut = absurd (false≢true (sym shut))
        blocked tries (Some block) found shut =
            behind tries (first_path unblocked (place + 1 + 1) rest) (commands_to tried unblocked rest) (ends tries block found) (later (used + commands_along path))

        by : (t o : Bool) → tried path ≡ t → unblocked path ≡ o
            → Comes (used + (cond t (commands_along path) 0 + cond o 0 (commands_to tried unblocked rest))) (if o then Some (place + 1) else first_path unblocked (place + 1 + 1) rest)
        by true true tries opens = inl (serves tries opens (used + (commands_along path + 0)) (omega arith))
        by false true skipped opens = absurd (false≢true (sym skipped ∙ open-tried path opens))
        by true false tries shut =
            let sums : used + commands_along path + commands_to tried unblocked rest ≡ used + (commands_along path + commands_to tried unblocked rest) = omega arith in
            subst (λ (most : ℕ). Comes most (first_path unblocked (place + 1 + 1) rest)) sums (blocked tries _ refl shut)
        by false false skipped shut =
            let sums : used + commands_to tried unblocked rest ≡ used + (0 + commands_to tried unblocked rest) = omega arith in
            subst (λ (most : ℕ). Comes most (first_path unblocked (place + 1 + 1) rest)) sums
            (later used (subst (Enters run first used) (tried-later run.plan place path rest is skipped) enters))

    paths-come : (paths : List Path) (place : ℕ) → drop place run.plan.paths ≡ paths → (used : ℕ) → Enters run first used (tried_from run.plan place)
        → Comes (used + commands_to tried unblocked paths) (first_path unblocked (place + 1) paths)
    paths-come [] place is used enters = inl (subst (Enters run first used) (none-tried run.plan place is) enters)
    paths-come (path ∷ rest) place is used enters =
        path-comes place path rest is used enters (λ more next. paths-come rest (place + 1) (rest-at run.plan.paths place path rest is) more next)

    comes : Comes (0 + commands_to tried unblocked run.plan.paths) (first_path unblocked 1 run.plan.paths)
    comes = paths-come run.plan.paths 0 refl 0 (started-enters run first rule)

  -- ---- the law

  pub served-exactly : (turns position : ℕ) → chosen_path run.plan.paths (sight_after run.setup first) run.plan.grants run.plan.goal run.locality ≡ Some position → most_to run.plan position ≤ turns
      → ((blind_turns run turns (blind_begun first)).standing ≡ Over (blind_ends.Served position given)) ⊎ HasBlindChance run turns first
  unfolding chosen_path
  served-exactly turns position chosen enough =
      by (subst (Comes (0 + commands_to tried unblocked run.plan.paths)) chosen
      (comes (open-starts (record { setup = run.setup; client = run.client; locality = run.locality; plan = plan_along run.plan it.path }) first (none-of _ it.opens))))
    where
      it : IsFirst tried unblocked 1 position run.plan.paths
      it = is-first tried unblocked 1 position run.plan.paths chosen

      few : 0 + commands_to tried unblocked run.plan.paths ≤ turns
      few =
          let same : suc it.index ≡ position = omega (arith, it.is) in
          let commands : commands_to tried unblocked run.plan.paths ≡ most_to run.plan position = it.commands ∙ ap (most_to run.plan) same in
          omega (arith, commands, enough)

      by : Comes (0 + commands_to tried unblocked run.plan.paths) (Some position)
          → ((blind_turns run turns (blind_begun first)).standing ≡ Over (blind_ends.Served position given)) ⊎ HasBlindChance run turns first
      by (inl served) =
          let within : served.turns ≤ 0 + commands_to tried unblocked run.plan.paths = served.within in
          inl (over-stays run served.turns turns (blind_begun first) (blind_ends.Served position given) (omega (arith, within, few)) served.is)
      by (inr chance) =
          let within : chance.before < 0 + commands_to tried unblocked run.plan.paths = chance.within in
          inr (chance.before, omega (arith, within, few), chance.is)

  only-when : (turns position : ℕ) (bytes : List ℕ) → (blind_turns run turns (blind_begun first)).standing ≡ Over (blind_ends.Served position bytes)
      → (found : Option ℕ) (most : ℕ) → Comes most found → ((found ≡ Some position) × (bytes ≡ given)) ⊎ HasBlindChance run turns first
  only-when turns position bytes over None most (inl closed) =
      absurd (not-served (blind_ends.NoBranch closed.tries) position bytes
      (over-once run (closed.turns + 1) turns first (blind_ends.NoBranch closed.tries) (blind_ends.Served position bytes) (closed-next run first closed) over) tt)
  only-when turns position bytes over None most (inr chance) = inr (chance-within run turns first (blind_ends.Served position bytes) over most chance)
  only-when turns position bytes over (Some found) most (inl served) =
      let same = over-once run served.turns turns first (blind_ends.Served found given) (blind_ends.Served position bytes) served.is over in
      inl (ap (λ (end : BlindEnd). Some (position-of end)) same, sym (ap bytes-of same))
  only-when turns position bytes over (Some found) most (inr chance) = inr (chance-within run turns first (blind_ends.Served position bytes) over most chance)

  pub served-only : (turns position : ℕ) (bytes : List ℕ) → (blind_turns run turns (blind_begun first)).standing ≡ Over (blind_ends.Served position bytes)
      → ((chosen_path run.plan.paths (sight_after run.setup first) run.plan.grants run.plan.goal run.locality ≡ Some position) × (bytes ≡ given)) ⊎ HasBlindChance run turns first
  unfolding chosen_path
  served-only turns position bytes over = by (starts-or-denied run first)
    where
      by : (start_rule (view_of run.setup first) ≡ None) ⊎ IsDenied (blind_turns run 1 (blind_begun first)).standing
          → ((first_path unblocked 1 run.plan.paths ≡ Some position) × (bytes ≡ given)) ⊎ HasBlindChance run turns first
      by (inl rule) =
          only-when turns position bytes over (first_path unblocked 1 run.plan.paths) (0 + commands_to tried unblocked run.plan.paths) (comes rule)
      by (inr denied) =
          absurd (not-served (blind_ends.Denied stages.Start denied.rc) position bytes
          (over-once run 1 turns first (blind_ends.Denied stages.Start denied.rc) (blind_ends.Served position bytes) denied.is over) tt)

-- PCRs since the first PolicyPCR: the two counters tell what the journal tells, and where no PCR was extended
-- the facts are of the PCRs as they are now.
use Rattle.std.proofs.Common.{◌≡◌, ℕ, ◌+◌, ◌≤◌, ◌||◌, Bool, not, true, false, List, [], ◌∷◌, ◌++◌, Option, None, Some, nat_eq, if◌then◌else◌, refl, ap, sym, ◌∙◌, arith}
use Rattle.std.proofs.lemmas.Bool.{false≢true}
use Rattle.std.proofs.lemmas.Bool.Decides.{nat_tests}
use Rattle.tpol_name.specs.declared.setup.Setup.{Setup}
use Rattle.std.specs.Prelude.{⊤}
use Rattle.tpol_tree.specs.declared.closed.Assertion.TheVariants as assertions
use Rattle.tpol_tree.specs.declared.facts.Fact.{Fact}
use Rattle.tpol_tree.specs.declared.path.Move.{Move}
use Rattle.tpol_tree.specs.declared.path.Move.TheVariants as moves
use Rattle.tpm_bindings.specs.Facts.{has_pcr, is_pcr}
use Rattle.tpm_pcr.specs.Bank.{Bank}
use Rattle.tpm_rules.specs.Session.{is_counter_now}
use Rattle.tpm_session.specs.Kept.{counter_after as first_counter}
use Rattle.tpm_engine.specs.declared.event.Event.{Event}
use Rattle.tpm_engine.specs.Deeds.{Deed, Resets, Extends, Starts, Restarts, Shows, SessionUse, deed_of, use_of}
use Rattle.tpm_engine.specs.Facts.{Moment}
use Rattle.tpm_engine.specs.Uses.{AreOfPcrs, IsOfPcrs, are_pcrs_changed, changed_after, changed_used}
use Rattle.tpm_engine.specs.Views.{counter_after, counter_of, counter_used, facts_after, facts_of, facts_used, moment_of, pcrs_after, pcrs_of, world_at}

-- what a kept counter tells, beside the counter now: whether PCRs changed, and whether there is a PolicyPCR
Tells : Option ℕ → ℕ → Bool → Bool → Type 0
Tells None now changed has = (changed ≡ false) × (has ≡ false)
Tells (Some first) now changed has = (has ≡ true) × ((first ≤ now) × (changed ≡ not (nat_eq first now)))

-- one more fact
has_pcr-more : (facts : List Fact) (fact : Fact) → has_pcr (facts ++ fact ∷ []) ≡ (has_pcr facts || is_pcr fact.act)
has_pcr-more [] fact = elim (is_pcr fact.act) as (λ b. (b || false) ≡ b) [ true ↦ refl | false ↦ refl ]
has_pcr-more (first ∷ rest) fact =
    ap (λ b. is_pcr first.act || b) (has_pcr-more rest fact)
    ∙ elim (is_pcr first.act) as (λ b. (b || (has_pcr rest || is_pcr fact.act)) ≡ ((b || has_pcr rest) || is_pcr fact.act)) [ true ↦ refl | false ↦ refl ]

same-counter : (n : ℕ) → nat_eq n n ≡ true
same-counter n = grind (arith, nat_tests)

told-shown : (counter : Option ℕ) (now : ℕ) (changed : Bool) (facts : List Fact) (fact : Fact)
    → Tells counter now changed (has_pcr facts) → Tells (first_counter counter fact.act now) now changed (has_pcr (facts ++ fact ∷ []))
unfolding Tells
told-shown (Some first) now changed facts fact told =
    (has_pcr-more facts fact ∙ ap (λ b. b || is_pcr fact.act) told.0, told.1)
told-shown None now changed facts fact told = at (is_pcr fact.act) (has_pcr-more facts fact ∙ ap (λ b. b || is_pcr fact.act) told.1)
  where
    at : (b : Bool) → has_pcr (facts ++ fact ∷ []) ≡ (false || b) → Tells (if b then Some now else None) now changed (has_pcr (facts ++ fact ∷ []))
    at true has = (has, (omega arith, told.0 ∙ ap not (sym (same-counter now))))
    at false has = (told.0, has)

told-extended : (counter : Option ℕ) (now : ℕ) (changed has : Bool) → Tells counter now changed has → Tells counter (now + 1) (changed || has) has
unfolding Tells
told-extended None now changed has told = (ap (λ b. b || has) told.0 ∙ told.1, told.1)
told-extended (Some first) now changed has told =
    let apart : nat_eq first (now + 1) ≡ false = grind (arith, nat_tests, told.1.0) in
    (told.0, (omega (arith, told.1.0), ap (λ b. changed || b) told.0 ∙ (always changed ∙ ap not (sym apart))))
  where
    always : (b : Bool) → (b || true) ≡ true
    always true = refl
    always false = refl

told-deed : (deed : Deed) (session : ℕ) (now : Moment) (counter : Option ℕ) (changed : Bool) (facts : List Fact)
    → Tells counter now.world.pcrs.counter changed (has_pcr facts)
    → Tells (counter_after deed session now counter) (pcrs_after deed now.world.pcrs).counter (changed_after deed session facts changed) (has_pcr (facts_after deed session now facts))
unfolding Tells
told-deed Resets session now counter changed facts told = (refl, refl)
told-deed (Extends pcr digest) session now counter changed facts told = told-extended counter now.world.pcrs.counter changed (has_pcr facts) told
told-deed (Starts started) session now counter changed facts told = at (nat_eq started session)
  where
    at : (b : Bool) → Tells (if b then None else counter) now.world.pcrs.counter (if b then false else changed) (has_pcr (if b then [] else facts))
    at true = (refl, refl)
    at false = told
told-deed (Restarts restarted) session now counter changed facts told = at (nat_eq restarted session)
  where
    at : (b : Bool) → Tells (if b then None else counter) now.world.pcrs.counter (if b then false else changed) (has_pcr (if b then [] else facts))
    at true = (refl, refl)
    at false = told
told-deed (Shows shown fact) session now counter changed facts told = at (nat_eq shown session)
  where
    at : (b : Bool) → Tells (if b then first_counter counter (fact now).act now.world.pcrs.counter else counter) now.world.pcrs.counter changed (has_pcr (if b then facts ++ fact now ∷ [] else facts))
    at true = told-shown counter now.world.pcrs.counter changed facts (fact now) told
    at false = told
told-deed _ session now counter changed facts told = told

told-use : (used : Option SessionUse) (session : ℕ) (now : ℕ) (counter : Option ℕ) (changed : Bool) (facts : List Fact)
    → Tells counter now changed (has_pcr facts)
    → Tells (counter_used used session counter) now (changed_used used session changed) (has_pcr (facts_used used session facts))
unfolding Tells
told-use None session now counter changed facts told = told
told-use (Some served) session now counter changed facts told = at (nat_eq served.session session)
  where
    at : (b : Bool) → Tells (if b then None else counter) now (if b then false else changed) (has_pcr (if b then [] else facts))
    at true = (refl, refl)
    at false = told

told : (setup : Setup) (past : List Event) (session : ℕ)
    → Tells (counter_of setup past session) (pcrs_of setup past).counter (are_pcrs_changed setup past session) (has_pcr (facts_of setup past session))
unfolding Tells counter_of pcrs_of are_pcrs_changed facts_of world_at
told setup [] session = (refl, refl)
told setup (event ∷ past) session =
    told-use (use_of event) session (pcrs_after (deed_of event) (pcrs_of setup past)).counter _ _ _
    (told-deed (deed_of event) session (moment_of setup past session) (counter_of setup past session) (are_pcrs_changed setup past session) (facts_of setup past session)
    (told setup past session))

-- the counters are equal exactly where no PCR was extended since
pub counter-tells : (setup : Setup) (past : List Event) (session : ℕ)
    → is_counter_now (counter_of setup past session) (pcrs_of setup past).counter ≡ not (are_pcrs_changed setup past session)
unfolding Tells
counter-tells setup past session =
    at (counter_of setup past session) (pcrs_of setup past).counter (are_pcrs_changed setup past session) (has_pcr (facts_of setup past session)) (told setup past session)
  where
    twice : (b : Bool) → b ≡ not (not b)
    twice true = refl
    twice false = refl

    at : (counter : Option ℕ) (now : ℕ) (changed has : Bool) → Tells counter now changed has → is_counter_now counter now ≡ not changed
    at None now changed has tells = ap not (sym tells.0)
    at (Some first) now changed has tells = twice (nat_eq first now) ∙ ap not (sym tells.1.1)

-- ---- the facts are of the PCRs as they are now

-- of an act that is no PolicyPCR there is nothing to say
of-no-pcr : (pcrs : Bank) (act : Move) → is_pcr act ≡ false → IsOfPcrs pcrs act
of-no-pcr pcrs (moves.Assert (assertions.Pcr mask digest values)) none = absurd (false≢true (sym none))
of-no-pcr pcrs _ none = tt

pub or-false : (a b : Bool) → (a || b) ≡ false → (a ≡ false) × (b ≡ false)
or-false true b h = absurd (false≢true (sym h))
or-false false b h = (refl, h)

of-none : (pcrs : Bank) (facts : List Fact) → has_pcr facts ≡ false → AreOfPcrs pcrs facts
of-none pcrs [] none = tt
of-none pcrs (fact ∷ rest) none =
    let parts = or-false (is_pcr fact.act) (has_pcr rest) none in
    (of-no-pcr pcrs fact.act parts.0, of-none pcrs rest parts.1)

of-more : (pcrs : Bank) (facts : List Fact) (fact : Fact) → AreOfPcrs pcrs facts → IsOfPcrs pcrs fact.act → AreOfPcrs pcrs (facts ++ fact ∷ [])
of-more pcrs [] fact all one = (one, tt)
of-more pcrs (first ∷ rest) fact all one = (all.0, of-more pcrs rest fact all.1 one)

-- a fact that a session is shown is of the PCRs of its moment
abbrev pub ShowsPcrs : Deed → Moment → Type 0
ShowsPcrs (Shows shown fact) now = IsOfPcrs now.world.pcrs (fact now).act
ShowsPcrs _ now = ⊤

of-deed : (deed : Deed) (session : ℕ) (now : Moment) (changed : Bool) (facts : List Fact) → ShowsPcrs deed now
    → (changed ≡ false → AreOfPcrs now.world.pcrs facts)
    → changed_after deed session facts changed ≡ false → AreOfPcrs (pcrs_after deed now.world.pcrs) (facts_after deed session now facts)
of-deed Resets session now changed facts shows before none = tt
of-deed (Extends pcr digest) session now changed facts shows before none =
    of-none (pcrs_after (Extends pcr digest) now.world.pcrs) facts (or-false changed (has_pcr facts) none).1
of-deed (Starts started) session now changed facts shows before none = at (nat_eq started session) none
  where
    at : (b : Bool) → (if b then false else changed) ≡ false → AreOfPcrs now.world.pcrs (if b then [] else facts)
    at true none = tt
    at false none = before none
of-deed (Restarts restarted) session now changed facts shows before none = at (nat_eq restarted session) none
  where
    at : (b : Bool) → (if b then false else changed) ≡ false → AreOfPcrs now.world.pcrs (if b then [] else facts)
    at true none = tt
    at false none = before none
of-deed (Shows shown fact) session now changed facts shows before none = at (nat_eq shown session)
  where
    at : (b : Bool) → AreOfPcrs now.world.pcrs (if b then facts ++ fact now ∷ [] else facts)
    at true = of-more now.world.pcrs facts (fact now) (before none) shows
    at false = before none
of-deed _ session now changed facts shows before none = before none

of-use : (used : Option SessionUse) (session : ℕ) (pcrs : Bank) (changed : Bool) (facts : List Fact)
    → (changed ≡ false → AreOfPcrs pcrs facts)
    → changed_used used session changed ≡ false → AreOfPcrs pcrs (facts_used used session facts)
of-use None session pcrs changed facts before none = before none
of-use (Some served) session pcrs changed facts before none = at (nat_eq served.session session) none
  where
    at : (b : Bool) → (if b then false else changed) ≡ false → AreOfPcrs pcrs (if b then [] else facts)
    at true none = tt
    at false none = before none

module _ (shows : (event : Event) (now : Moment) → ShowsPcrs (deed_of event) now) where
  pub of-pcrs-by : (setup : Setup) (past : List Event) (session : ℕ)
      → are_pcrs_changed setup past session ≡ false → AreOfPcrs (pcrs_of setup past) (facts_of setup past session)
  unfolding pcrs_of are_pcrs_changed facts_of world_at
  of-pcrs-by setup [] session none = tt
  of-pcrs-by setup (event ∷ past) session none =
      of-use (use_of event) session (pcrs_after (deed_of event) (pcrs_of setup past)) _ _
      (of-deed (deed_of event) session (moment_of setup past session) (are_pcrs_changed setup past session) (facts_of setup past session)
      (shows event (moment_of setup past session)) (of-pcrs-by setup past session))
      none

-- What a walk finds of its parts, put together.
use Rattle.std.proofs.Common.{◌≡◌, ◌∙◌, ap, sym, refl, subst, ℕ, suc, ◌+◌, Bool, true, false, List, [], ◌∷◌, ◌++◌, map, length, length-append, append_assoc, Option, Some, None, arith}
use Rattle.std.specs.Prelude.{◌||◌, SomeIff, is_some}
use Rattle.std.specs.Option.{option_map}
use Rattle.std.proofs.lemmas.List.{append-nil, length-map, map-append}
use Rattle.std.proofs.lemmas.Option.{none-some}
use Rattle.tpm_bindings.proofs.Merging.{merged-nothing}
use Rattle.tpm_bindings.specs.Agreement.{disagreement}
use Rattle.tpm_bindings.specs.Facts.{moves_of}
use Rattle.tpm_bindings.specs.Held.{listed}
use Rattle.tpm_bindings.specs.Merged.{fact_of, merged}
use Rattle.tpol_digest.proofs.Images.{both-second_none, none_join}
use Rattle.tpol_digest.specs.Images.{IsImage, both}
use Rattle.tpol_digest.specs.Paths.{between, followed_by, is_outside}
use Rattle.tpol_lint.proofs.Breaks.{bare_breaks, break-push, closing_breaks_nothing, last_break, or_else}
use Rattle.tpol_lint.specs.Dead.{Break, dead_by, dead_of, dead_paths}
use Rattle.tpol_lint.specs.Traces.{Finds, IsTrack, Trace, bare, closing_trace, dead_behind, dead_of_trace, facts_along, join, move_trace, no_trace, step_trace, trace_of}
use Rattle.tpol_lint.specs.declared.finder.Finder.{Finder}
use Rattle.tpol_lint.specs.declared.track.Track.{Track}
use Rattle.tpol_tree.specs.declared.closed.Assertion.{Assertion}
use Rattle.tpol_tree.specs.declared.path.Move.{Move}
use Rattle.tpol_tree.specs.declared.path.Move.TheVariants.{Assert, Or}
use Rattle.tpol_tree.specs.declared.path.Path.{Path}
use Rattle.tpol_tree.specs.declared.path.PathStep.{PathStep}

-- ---- traces are an image of ways

same_trace : (a b : Trace) → a.moves ≡ b.moves → a.outside ≡ b.outside → a ≡ b
same_trace a b moves outside = λ i. record { moves = moves i; outside = outside i }

or_false : (b : Bool) → (b || false) ≡ b
or_false true = refl
or_false false = refl

or_assoc : (a b c : Bool) → ((a || b) || c) ≡ (a || (b || c))
or_assoc true b c = refl
or_assoc false b c = refl

pub join_none : (a : Trace) → join a no_trace ≡ a
join_none a = same_trace (join a no_trace) a (append-nil a.moves) (or_false a.outside)

pub join_assoc : (a b c : Trace) → join (join a b) c ≡ join a (join b c)
join_assoc a b c = same_trace (join (join a b) c) (join a (join b c)) (append_assoc a.moves b.moves c.moves) (or_assoc a.outside b.outside c.outside)

trace_of-followed : (p q : Path) → trace_of (followed_by p q) ≡ join (trace_of p) (trace_of q)
trace_of-followed p q = same_trace (trace_of (followed_by p q)) (join (trace_of p) (trace_of q)) (map-append bare p.moves q.moves) refl

trace_of-between : (step : PathStep) (act : Move) (p : Path) → is_outside step ≡ false → trace_of (between step act p) ≡ join (join (step_trace step) (trace_of p)) (move_trace act)
trace_of-between step act p inside =
    same_trace (trace_of (between step act p)) (join (join (step_trace step) (trace_of p)) (move_trace act)) (map-append bare p.moves (act ∷ []))
    (sym (or_false (is_outside step || p.outside) ∙ ap (λ b. b || p.outside) inside))

pub traces : IsImage trace_of no_trace join step_trace move_trace
traces = record {
  assoc = join_assoc;
  first_none = λ a. refl;
  second_none = join_none;
  followed = trace_of-followed;
  closed = trace_of-between;
  one = λ act. refl;
  outside = λ act. refl;
  branch = λ number name. refl;
  or = λ digests. refl;
  by_key = λ key policy_ref approved signature. refl;
  by_index = λ index approved. refl;
}

-- ---- the dead ones

pub dead-append : (n : ℕ) (before : Trace) (xs ys : List Trace) → dead_behind n before (xs ++ ys) ≡ dead_behind n before xs ++ dead_behind (n + length xs) before ys
dead-append n before [] ys = let e : n ≡ n + 0 = omega arith in ap (λ m. dead_behind m before ys) e
dead-append n before (x ∷ xs) ys =
    let e : n + 1 + length xs ≡ n + suc (length xs) = omega arith in
    ap (λ l. listed (dead_of_trace n (join before x)) ++ l) (dead-append (n + 1) before xs ys ∙ ap (λ m. dead_behind (n + 1) before xs ++ dead_behind m before ys) e)
    ∙ sym (append_assoc (listed (dead_of_trace n (join before x))) (dead_behind (n + 1) before xs) (dead_behind (n + suc (length xs)) before ys))

pub dead-join : (n : ℕ) (before a : Trace) (ts : List Trace) → dead_behind n before (map (join a) ts) ≡ dead_behind n (join before a) ts
dead-join n before a [] = refl
dead-join n before a (t ∷ ts) =
    ap (λ x. listed (dead_of_trace n x) ++ dead_behind (n + 1) before (map (join a) ts)) (sym (join_assoc before a t))
    ∙ ap (λ l. listed (dead_of_trace n (join (join before a) t)) ++ l) (dead-join (n + 1) before a ts)

-- of paths alone
pub dead_of_ways : (n : ℕ) (paths : List Path) → dead_behind n no_trace (map trace_of paths) ≡ dead_paths n paths
dead_of_ways n [] = refl
dead_of_ways n (path ∷ rest) =
    ap (λ broken. listed (dead_by n path.outside broken) ++ dead_behind (n + 1) no_trace (map trace_of rest)) (bare_breaks path.moves)
    ∙ ap (λ l. listed (dead_of n path) ++ l) (dead_of_ways (n + 1) rest)

-- ---- what a finder has found

pub finds_then : (a b c : Finder) (before : Trace) (xs ys : List Trace) → Finds a b before xs → Finds b c before ys → Finds a c before (xs ++ ys)
finds_then a b c before xs ys g h = record {
  dead =
      let position : b.passed + 1 ≡ a.passed + 1 + length xs = omega (arith, g.passed) in
      h.dead
      ∙ ap (λ n. b.dead ++ dead_behind n before ys) position
      ∙ ap (λ l. l ++ dead_behind (a.passed + 1 + length xs) before ys) g.dead
      ∙ append_assoc a.dead (dead_behind (a.passed + 1) before xs) (dead_behind (a.passed + 1 + length xs) before ys)
      ∙ ap (λ l. a.dead ++ l) (sym (dead-append (a.passed + 1) before xs ys));
  passed = omega (arith, g.passed, h.passed, length-append xs ys);
}

pub finds_nothing : (a : Finder) (before : Trace) → Finds a a before []
finds_nothing a before = record { dead = sym (append-nil a.dead); passed = omega arith }

-- behind a choice or a move
pub finds_behind : (a b : Finder) (before more : Trace) (ts : List Trace) → Finds a b (join before more) ts → Finds a b before (map (join more) ts)
finds_behind a b before more ts g = record {
  dead = g.dead ∙ ap (λ l. a.dead ++ l) (sym (dead-join (a.passed + 1) before more ts));
  passed = g.passed ∙ ap (λ n. a.passed + n) (sym (length-map ts (join more)));
}

-- behind a choice that shows nothing
pub inside_branch : (xs zs : List Trace) → both join (map (join no_trace) xs) zs ≡ both join xs zs
inside_branch xs zs = ap (λ l. both join l zs) (none_join traces xs)

-- the way that is whole
pub finds_one : (a b : Finder) (before : Trace) → b.dead ≡ a.dead ++ listed (dead_of_trace (a.passed + 1) before) → b.passed ≡ a.passed + 1 → Finds a b before (no_trace ∷ [])
finds_one a b before dead passed = record {
  dead =
      dead
      ∙ ap (λ t. a.dead ++ listed (dead_of_trace (a.passed + 1) t)) (sym (join_none before))
      ∙ ap (λ l. a.dead ++ l) (sym (append-nil (listed (dead_of_trace (a.passed + 1) (join before no_trace)))));
  passed = passed;
}

pub all_found : (start end : Finder) (paths : List Path) → start.dead ≡ [] → start.passed ≡ 0 → Finds start end no_trace (both join (map trace_of paths) (no_trace ∷ [])) → end.dead ≡ dead_paths 1 paths
all_found start end paths dead passed g =
    let position : start.passed + 1 ≡ 1 = omega (arith, passed) in
    g.dead
    ∙ ap (λ l. l ++ dead_behind (start.passed + 1) no_trace (both join (map trace_of paths) (no_trace ∷ []))) dead
    ∙ ap (λ n. dead_behind n no_trace (both join (map trace_of paths) (no_trace ∷ []))) position
    ∙ ap (dead_behind 1 no_trace) (both-second_none traces (map trace_of paths))
    ∙ dead_of_ways 1 paths

-- ---- what a track keeps

along-push : (moves : List Move) (act : Move) → facts_along (moves ++ act ∷ []) ≡ facts_along moves ++ fact_of 0 act None None ∷ []
along-push moves act = map-append (λ (a : Move). fact_of 0 a None None) moves (act ∷ [])

moves_along : (moves : List Move) → moves_of (facts_along moves) ≡ moves
moves_along [] = refl
moves_along (act ∷ moves) = ap (λ l. act ∷ l) (moves_along moves)

longer : (moves : List Move) (act : Move) → length (moves ++ act ∷ []) ≡ length moves + 1
longer moves act = length-append moves (act ∷ [])

not-assert : (assertion : Assertion) → Or [] ≡ Assert assertion → ⊥
not-assert assertion e = absurd cc

-- a sum that is there
pub counted_up : (sum : Option ℕ) (n : ℕ) (Fits : Type 0) (whole : ℕ) → SomeIff sum Fits whole → sum ≡ Some n → n ≡ whole
counted_up sum n Fits whole given is = (subst (λ o. SomeIff o Fits whole) is given).1

pub not_some : {A : Type 0} (found : Option A) → is_some found ≡ false → found ≡ None
not_some None e = refl
not_some (Some x) e = cc e

-- one more move that binds nothing
pub closed_track : (old new : Track) (before : Trace) → IsTrack old before → new.bindings ≡ old.bindings → new.done ≡ old.done + 1 → new.broken ≡ old.broken → new.outside ≡ old.outside → IsTrack new (join before closing_trace)
closed_track old new before h bindings done broken outside = record {
  broken = broken ∙ h.broken ∙ sym (closing_breaks_nothing before.moves);
  counted = done ∙ ap (λ n. n + 1) h.counted ∙ sym (longer before.moves (Or []));
  binds = λ none.
      bindings ∙ h.binds (sym broken ∙ none)
      ∙ sym (merged-nothing (facts_along before.moves) 0 (Or []) not-assert)
      ∙ ap merged (sym (along-push before.moves (Or [])));
  outside = outside ∙ h.outside ∙ sym (or_false before.outside);
}

-- one more assertion, behind moves that agree
pub asserted_track : (old new : Track) (before : Trace) (assertion : Assertion) → IsTrack old before → old.broken ≡ None
    → new.bindings ≡ merged (facts_along before.moves ++ fact_of 0 (Assert assertion) None None ∷ []) → new.done ≡ old.done + 1
    → new.broken ≡ option_map (λ rule. (new.done, rule)) (disagreement (moves_of (facts_along before.moves ++ fact_of 0 (Assert assertion) None None ∷ []))) → new.outside ≡ old.outside
    → IsTrack new (join before (move_trace (Assert assertion)))
asserted_track old new before assertion h none bindings done broken outside =
    let act = Assert assertion in
    let facts : facts_along before.moves ++ fact_of 0 act None None ∷ [] ≡ facts_along (before.moves ++ act ∷ []) = sym (along-push before.moves act) in
    let moves : moves_of (facts_along before.moves ++ fact_of 0 act None None ∷ []) ≡ before.moves ++ act ∷ [] = ap moves_of facts ∙ moves_along (before.moves ++ act ∷ []) in
    let count : new.done ≡ length before.moves + 1 = done ∙ ap (λ n. n + 1) h.counted in
    record {
      broken =
          broken
          ∙ ap (λ l. option_map (λ rule. (new.done, rule)) (disagreement l)) moves
          ∙ ap (λ n. option_map (λ rule. (n, rule)) (disagreement (before.moves ++ act ∷ []))) count
          ∙ ap (λ o. or_else o (last_break before.moves act)) (sym none ∙ h.broken)
          ∙ sym (break-push before.moves act);
      counted = count ∙ sym (longer before.moves act);
      binds = λ _. bindings ∙ ap merged facts;
      outside = outside ∙ h.outside ∙ sym (or_false before.outside);
    }

-- one more assertion, behind moves that broke a rule
pub broken_track : (old new : Track) (before : Trace) (assertion : Assertion) → IsTrack old before → is_some old.broken ≡ true → new.done ≡ old.done + 1 → new.broken ≡ old.broken → new.outside ≡ old.outside
    → IsTrack new (join before (move_trace (Assert assertion)))
broken_track old new before assertion h some done broken outside = by old.broken refl some
  where
    by : (found : Option Break) → old.broken ≡ found → is_some found ≡ true → IsTrack new (join before (move_trace (Assert assertion)))
    by None e k = cc k
    by (Some found) e k = record {
      broken =
          broken ∙ e
          ∙ ap (λ o. or_else o (last_break before.moves (Assert assertion))) (sym e ∙ h.broken)
          ∙ sym (break-push before.moves (Assert assertion));
      counted = done ∙ ap (λ n. n + 1) h.counted ∙ sym (longer before.moves (Assert assertion));
      binds = λ none. absurd (none-some found (sym none ∙ broken ∙ e));
      outside = outside ∙ h.outside ∙ sym (or_false before.outside);
    }

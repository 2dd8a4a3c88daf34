-- Each dead path is one of the list, is not outside, and does not agree.
use Rattle.std.proofs.Common.{inl, inr, ◌≡◌, ◌∙◌, ap, sym, refl, subst, ℕ, zero, suc, ◌+◌, ◌-◌, Bool, true, false, List, [], ◌∷◌, Option, Some, None, arith}
use Rattle.std.specs.Prelude.{All, Any, slice_get}
use Rattle.std.specs.List.{AllByRecursion}
use Rattle.std.proofs.lemmas.List.Elements.{All-from_recursion, recursion_from_All}
use Rattle.tpol_digest.proofs.PathMoves as path_moves
use Rattle.tpol_digest.proofs.Products.{Each-append}
use Rattle.tpol_digest.specs.Laws.{MoveHasBounds}
use Rattle.tpol_digest.specs.Paths.{paths_of}
use Rattle.tpol_digest.specs.WellFormed.{HaveBranchCounts}
use Rattle.tpol_tree.specs.declared.closed.Closed.{Closed}
use Rattle.tpol_tree.specs.declared.path.ApprovedDoc.{ApprovedDoc}
use Rattle.tpol_tree.specs.declared.path.Path.{Path}
use Rattle.tpm_bindings.specs.Agreement.{Agree}
use Rattle.tpm_bindings.specs.Facts.{moves_of}
use Rattle.tpm_bindings.specs.Held.{listed}
use Rattle.tpol_trace.specs.Matching.{Matches, MatchesBy}
use Rattle.tpol_lint.specs.declared.dead.Dead.{Dead}
use Rattle.tpol_lint.specs.Dead.{Break, HasEachDead, IsDead, dead_by, dead_of, dead_paths, first_break}
use Rattle.tpol_lint.specs.Opened.{HaveClosedBounds, MatchesNoFacts, NeverOpen, OpensNothing}
use Rattle.tpol_lint.proofs.Never.{agree_too}
use Rattle.tpol_lint.proofs.Means.{AnyOf, IsBreak, each_reported, first_break_means}
use Rattle.tpol_lint.proofs.Breaks.{later_break}

-- where it stands among paths, the first of which has this position
record IsFound (position : ℕ) (paths : List Path) (dead : Dead) : Type 0 where
  pub path : Path
  pub index : ℕ
  pub place : dead.path ≡ position + index
  pub is_there : slice_get paths index ≡ Some path
  pub inside : path.outside ≡ false
  pub apart : Agree path.moves → ⊥
  pub breaks : IsBreak path.moves dead.at dead.rule

found_later : (position : ℕ) (first : Path) (rest : List Path) (dead : List Dead) → AllByRecursion (IsFound (position + 1) rest) dead → AllByRecursion (IsFound position (first ∷ rest)) dead
found_later position first rest [] h = tt
found_later position first rest (one ∷ dead) h = (
  record { path = h.0.path; index = suc h.0.index; place = h.0.place ∙ omega arith; is_there = h.0.is_there; inside = h.0.inside; apart = h.0.apart; breaks = h.0.breaks },
  found_later position first rest dead h.1,
)

found_here : (position : ℕ) (path : Path) (rest : List Path) → AllByRecursion (IsFound position (path ∷ rest)) (listed (dead_of position path))
found_here position path rest = by path.outside refl (first_break path.moves) refl
  where
    by : (outside : Bool) → path.outside ≡ outside → (broken : Option Break) → first_break path.moves ≡ broken
        → AllByRecursion (IsFound position (path ∷ rest)) (listed (dead_by position outside broken))
    by true o broken e = tt
    by false o None e = tt
    by false o (Some b) e = (
      record { path = path; index = 0; place = omega arith; is_there = refl; inside = o; apart = later_break [] path.moves b.0 b.1 e; breaks = first_break_means path.moves b.0 b.1 e },
      tt,
    )

found : (position : ℕ) (paths : List Path) → AllByRecursion (IsFound position paths) (dead_paths position paths)
found position [] = tt
found position (path ∷ rest) =
    Each-append (IsFound position (path ∷ rest)) (listed (dead_of position path)) (dead_paths (position + 1) rest)
    (found_here position path rest) (found_later position path rest (dead_paths (position + 1) rest) (found (position + 1) rest))

-- a fact of each of a list holds of the one at an index
at_index : {A : Type 0} (P : A → Type 0) (xs : List A) (i : ℕ) (x : A) → AllByRecursion P xs → slice_get xs i ≡ Some x → P x
at_index P [] i x h e = absurd cc
at_index P (y ∷ xs) zero x h e = let same : y ≡ x = cc in subst P same h.0
at_index P (y ∷ xs) (suc i) x h e = at_index P xs i x h.1 e

one_path : (paths : List Path) (i : ℕ) (a b : Path) → slice_get paths i ≡ Some a → slice_get paths i ≡ Some b → a ≡ b
one_path paths i a b h k = cc

each_bounded : (paths : List Path) → All (λ path. All MoveHasBounds path.moves) paths → AllByRecursion (λ path. AllByRecursion MoveHasBounds path.moves) paths
each_bounded paths h = by paths (recursion_from_All (λ path. All MoveHasBounds path.moves) paths h)
  where
    by : (some : List Path) → AllByRecursion (λ path. All MoveHasBounds path.moves) some → AllByRecursion (λ path. AllByRecursion MoveHasBounds path.moves) some
    by [] k = tt
    by (path ∷ some) k = (recursion_from_All MoveHasBounds path.moves k.0, by some k.1)

matches_nothing : (policy : Closed) (approvals : List ApprovedDoc) → HaveBranchCounts policy approvals → HaveClosedBounds policy approvals
    → (dead : Dead) → IsFound 1 (paths_of policy approvals) dead → MatchesNoFacts policy approvals dead.path
matches_nothing policy approvals counts bounds dead found path facts there agree matches =
    let place : dead.path - 1 ≡ found.index = omega (arith, found.place) in
    let same : path ≡ found.path = one_path (paths_of policy approvals) found.index path found.path (ap (slice_get (paths_of policy approvals)) (sym place) ∙ there) found.is_there in
    let inside : Matches approvals found.path (moves_of facts) = subst (λ p. Matches approvals p (moves_of facts)) same matches in
    let moves = subst (λ b. MatchesBy b approvals found.path (moves_of facts)) found.inside inside in
    let bounded = at_index (λ (p : Path). AllByRecursion MoveHasBounds p.moves) (paths_of policy approvals) found.index found.path
    (each_bounded (paths_of policy approvals) (path_moves.paths_have_bounds policy approvals counts bounds.policy_itself bounds.documents)) found.is_there in
    found.apart (agree_too found.path.moves (moves_of facts) bounded moves agree)

opens_nothing : (policy : Closed) (approvals : List ApprovedDoc) (position : ℕ) → MatchesNoFacts policy approvals position → OpensNothing policy approvals position
opens_nothing policy approvals position never facts events agree opening =
    never opening.0.path facts opening.0.listed agree opening.0.matching

pub never_open : (policy : Closed) (approvals : List ApprovedDoc) → HaveBranchCounts policy approvals → NeverOpen policy approvals (dead_paths 1 (paths_of policy approvals))
never_open policy approvals counts bounds =
    All-from_recursion (λ dead. MatchesNoFacts policy approvals dead.path × OpensNothing policy approvals dead.path) (dead_paths 1 (paths_of policy approvals))
    (by (dead_paths 1 (paths_of policy approvals)) (found 1 (paths_of policy approvals)))
  where
    by : (some : List Dead) → AllByRecursion (IsFound 1 (paths_of policy approvals)) some → AllByRecursion (λ dead. MatchesNoFacts policy approvals dead.path × OpensNothing policy approvals dead.path) some
    by [] h = tt
    by (dead ∷ some) h =
        let never = matches_nothing policy approvals counts bounds dead h.0 in
        ((never, opens_nothing policy approvals dead.path never), by some h.1)

-- ---- what is reported, in words

is_dead : (paths : List Path) (dead : Dead) → IsFound 1 paths dead → IsDead paths dead
is_dead paths dead h = record {
  path = h.path;
  counted = omega (arith, h.place);
  is_there = (let place : dead.path - 1 ≡ h.index = omega (arith, h.place) in ap (slice_get paths) place ∙ h.is_there);
  inside = h.inside;
  broken = h.breaks.broken;
  least = h.breaks.least;
}

pub each_is_dead : (paths : List Path) → All (IsDead paths) (dead_paths 1 paths)
each_is_dead paths = All-from_recursion (IsDead paths) (dead_paths 1 paths) (by (dead_paths 1 paths) (found 1 paths))
  where
    by : (some : List Dead) → AllByRecursion (IsFound 1 paths) some → AllByRecursion (IsDead paths) some
    by [] h = tt
    by (dead ∷ some) h = (is_dead paths dead h.0, by some h.1)

any_from : (P : Dead → Type 0) (xs : List Dead) → AnyOf P xs → Any P xs
any_from P [] h = absurd h
any_from P (x ∷ xs) (inl h) = (0, x, omega arith, refl, h)
any_from P (x ∷ xs) (inr h) = let it = any_from P xs h in (suc it.0, it.1, omega (arith, it.2), it.3, it.4)

pub has_each_dead : (paths : List Path) → HasEachDead paths (dead_paths 1 paths)
has_each_dead paths index path e inside apart =
    any_from (λ one. one.path ≡ index + 1) (dead_paths 1 paths) (each_reported 1 index paths path e inside apart)

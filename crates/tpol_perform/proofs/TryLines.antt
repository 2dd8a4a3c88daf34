-- The lines of tried paths, one after another.
use Rattle.std.proofs.Common.{◌≡◌, ◌∙◌, ap, sym, refl, ℕ, zero, suc, ◌+◌, ◌<◌, ◌≤◌, List, [], ◌∷◌, drop, get_or, length, arith}
use Rattle.std.specs.Prelude.{min}
use Rattle.tpol_driver.specs.declared.blind_end.Tried.{Tried}
use Rattle.tpol_lines.specs.TriedLine.{tried_line}
use Rattle.tpol_perform.specs.Blind.{with_tries}
use Rattle.tpol_perform.specs.Performance.{PerformanceState, with_line}
use Rattle.tpol_tree.specs.declared.path.Path.{Path}

tries_at : (n index : ℕ) (paths : List Path) (tries : List Tried) (path : Path) (tried : Tried) (p : PerformanceState) → index < length paths → index < length tries → path ≡ get_or paths index path → tried ≡ get_or tries index tried
    → with_tries n (drop index paths) (drop index tries) p ≡ with_tries (n + 1) (drop (suc index) paths) (drop (suc index) tries) (with_line (tried_line n path.steps tried) p)
unfolding with_tries
tries_at n index [] tries path tried p h k a b = absurd (omega arith)
tries_at n index (first ∷ paths) [] path tried p h k a b = absurd (omega arith)
tries_at n zero (first ∷ paths) (one ∷ tries) path tried p h k a b =
    ap (λ (x : Path). with_tries (n + 1) paths tries (with_line (tried_line n x.steps one) p)) (sym a)
    ∙ ap (λ (x : Tried). with_tries (n + 1) paths tries (with_line (tried_line n path.steps x) p)) (sym b)
tries_at n (suc index) (first ∷ paths) (one ∷ tries) path tried p h k a b = tries_at n index paths tries path tried p (omega arith) (omega arith) a b

-- what is there is read whatever stands for none
read_so : (tries : List Tried) (index : ℕ) (x y : Tried) → index < length tries → get_or tries index x ≡ get_or tries index y
read_so [] index x y h = absurd (omega arith)
read_so (tried ∷ rest) zero x y h = refl
read_so (tried ∷ rest) (suc index) x y h = read_so rest index x y (omega arith)

pub tries_step : (index : ℕ) (paths : List Path) (tries : List Tried) (path : Path) (none : Tried) (p : PerformanceState) → index < min (length paths) (length tries) → path ≡ get_or paths index path
    → with_tries (index + 1) (drop index paths) (drop index tries) p ≡ with_tries (index + 1 + 1) (drop (index + 1) paths) (drop (index + 1) tries) (with_line (tried_line (index + 1) path.steps (get_or tries index none)) p)
tries_step index paths tries path none p h a =
    let next : suc index ≡ index + 1 = omega arith in
    let tried = get_or tries index none in
    tries_at (index + 1) index paths tries path tried p (omega (arith, h)) (omega (arith, h)) a (read_so tries index none tried (omega (arith, h)))
    ∙ ap (λ (m : ℕ). with_tries (index + 1 + 1) (drop m paths) (drop m tries) (with_line (tried_line (index + 1) path.steps tried) p)) next

-- ---- behind the last one

without_tries : (n : ℕ) (paths : List Path) (p : PerformanceState) → with_tries n paths [] p ≡ p
unfolding with_tries
without_tries n [] p = refl
without_tries n (path ∷ rest) p = refl

pub tries_over : (n index : ℕ) (paths : List Path) (tries : List Tried) (p : PerformanceState) → min (length paths) (length tries) ≤ index → with_tries n (drop index paths) (drop index tries) p ≡ p
unfolding with_tries
tries_over n zero [] tries p over = refl
tries_over n (suc index) [] tries p over = refl
tries_over n zero (path ∷ rest) [] p over = refl
tries_over n (suc index) (path ∷ rest) [] p over = without_tries n (drop index rest) p
tries_over n zero (path ∷ rest) (tried ∷ others) p over = absurd (omega arith)
tries_over n (suc index) (path ∷ rest) (tried ∷ others) p over = tries_over n index rest others p (omega arith)

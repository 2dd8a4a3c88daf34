-- The run of a number among the runs: where it stands, and what a write there gives.
use Rattle.std.proofs.Common.{◌≡◌, ℕ, suc, ◌+◌, ◌<◌, Bool, true, false, not, cond, List, [], ◌∷◌, length, get_or, Option, Some, None, slice_get, refl, ap, sym, ◌∙◌, subst, ltb, rules, arith, set}
use Rattle.std.specs.Prelude.{position, find}
use Rattle.std.specs.List.{position_or_len}
use Rattle.std.proofs.lemmas.List.Folds.{find_at}
use Rattle.std.proofs.lemmas.Option.{slice_get_past, slice_get-get_or}
use Rattle.tpol_runs.specs.declared.numbered.Numbered.{Numbered}
use Rattle.tpol_runs.specs.Runs.{has_number, run_at, run_in, with_run}
use Rattle.tpol_runs.specs.Underway.{Underway}

-- ---- none has the number

absent_at : (runs : List Numbered) (number place : ℕ) (b : Bool) → b ≡ ltb place (length runs) → cond b (Some place) None ≡ None → slice_get runs place ≡ None
absent_at runs number place true is none = absurd cc
absent_at runs number place false is none = slice_get_past runs place (search rules)

pub absent : (runs : List Numbered) (number : ℕ) → position (has_number number) runs ≡ None → find (has_number number) runs ≡ None
absent runs number none =
    find_at (has_number number) runs ∙ absent_at runs number (position_or_len (has_number number) runs) _ refl none

without_first : (b : Bool) (entry written : Numbered) (found : Option Numbered) (rest after : List Numbered) → cond b (Some entry) found ≡ None → (found ≡ None → after ≡ rest) → cond b (written ∷ rest) (entry ∷ after) ≡ entry ∷ rest
without_first true entry written found rest after none later = absurd cc
without_first false entry written found rest after none later = ap (λ l. entry ∷ l) (later none)

pub not_written : (runs : List Numbered) (number : ℕ) (run : Option Underway) → find (has_number number) runs ≡ None → with_run runs number run ≡ runs
not_written [] number run none = refl
not_written (entry ∷ rest) number run none =
    without_first (has_number number entry) entry (record { number = entry.number; run = run }) (find (has_number number) rest) rest (with_run rest number run) none
    (λ later. not_written rest number run later)

-- ---- one has it

present_at : (runs : List Numbered) (place at : ℕ) (b : Bool) → b ≡ ltb place (length runs) → cond b (Some place) None ≡ Some at → (at ≡ place) × (at < length runs)
present_at runs place at true is some = let e : place ≡ at = cc in (sym e, search (rules, e))
present_at runs place at false is some = absurd cc

pub present : (runs : List Numbered) (number at : ℕ) → position (has_number number) runs ≡ Some at → (at ≡ position_or_len (has_number number) runs) × (at < length runs)
present runs number at some = present_at runs (position_or_len (has_number number) runs) at _ refl some

pub found_at : (runs : List Numbered) (number at : ℕ) (entry : Numbered) → position (has_number number) runs ≡ Some at → entry ≡ get_or runs at entry → run_at runs number ≡ entry.run
found_at runs number at entry some is =
    let p = present runs number at some in
    let e : find (has_number number) runs ≡ Some (get_or runs at entry) =
    find_at (has_number number) runs ∙ ap (λ i. slice_get runs i) (sym p.0) ∙ slice_get-get_or runs at entry p.1 in
    ap run_in e ∙ ap (λ x. x.run) (sym is)

written_first : (b : Bool) (entry : Numbered) (rest after : List Numbered) (run : Option Underway) (place : ℕ) (d : Numbered)
    → (place < length rest → after ≡ set rest place (record { number = (get_or rest place d).number; run = run }))
    → cond (not b) (1 + place) 0 < suc (length rest)
    → cond b (record { number = entry.number; run = run } ∷ rest) (entry ∷ after)
    ≡ set (entry ∷ rest) (cond (not b) (1 + place) 0) (record { number = (get_or (entry ∷ rest) (cond (not b) (1 + place) 0) d).number; run = run })
written_first true entry rest after run place d later within = refl
written_first false entry rest after run place d later within =
    let e : 1 + place ≡ suc place = omega arith in
    let h : place < length rest = omega arith in
    rw e (ap (λ l. entry ∷ l) (later h))

pub written : (runs : List Numbered) (number : ℕ) (run : Option Underway) (d : Numbered) → position_or_len (has_number number) runs < length runs
    → with_run runs number run ≡ set runs (position_or_len (has_number number) runs) (record { number = (get_or runs (position_or_len (has_number number) runs) d).number; run = run })
written [] number run d within = absurd (omega arith)
written (entry ∷ rest) number run d within =
    written_first (has_number number entry) entry rest (with_run rest number run) run (position_or_len (has_number number) rest) d
    (λ h. written rest number run d h) within

pub written_at : (runs : List Numbered) (number at : ℕ) (entry : Numbered) (run : Option Underway) → position (has_number number) runs ≡ Some at → entry ≡ get_or runs at entry
    → set runs at (record { number = entry.number; run = run }) ≡ with_run runs number run
written_at runs number at entry run some is =
    let p = present runs number at some in
    let e : with_run runs number run ≡ set runs at (record { number = (get_or runs at entry).number; run = run }) =
    let P : ℕ → Type 0 = λ i. with_run runs number run ≡ set runs i (record { number = (get_or runs i entry).number; run = run }) in
    let h : position_or_len (has_number number) runs < length runs = subst (λ (i : ℕ). i < length runs) p.0 p.1 in
    subst P (sym p.0) (written runs number run entry h) in
    ap (λ (x : Numbered). set runs at (record { number = x.number; run = run })) is ∙ sym e

-- The line that tells that a run is served is like no other line of a report.
use Rattle.std.proofs.Common.{◌≡◌, ◌≤◌, ◌<◌, ℕ, zero, suc, ◌+◌, ◌/◌, ◌%◌, ◌^◌, ◌==◌, Bool, true, false, cond, if◌then◌else◌, List, [], ◌∷◌, ◌++◌, drop, get_or, nat_eq, refl, ap, sym, ◌∙◌, subst, append_assoc, arith}
use Rattle.std.specs.Prelude.{codes, decimal, nat_lt}
use Rattle.std.specs.Fmt.{digit_glyph, digits, digits_onto}
use Rattle.std.specs.List.{AllByRecursion}
use Rattle.std.proofs.lemmas.Bool.{eq-eqb, false≢true}
use Rattle.std.proofs.lemmas.Bool.Decides.{nat_tests}
use Rattle.std.proofs.lemmas.Fmt.{decimal_injective}
use Rattle.tpol_base.specs.declared.rc.Rc.{Rc}
use Rattle.tpol_driver.specs.declared.end.End.TheVariants.{BadReply, Denied, Served}
use Rattle.tpol_driver.specs.declared.end.Stage.{Stage}
use Rattle.tpol_lines.specs.Lines.{line_of}
use Rattle.tpol_lines.specs.OpeningLine.{opening_line}
use Rattle.tpol_lines.specs.Runs.{end_line, end_text}
use Rattle.tpol_trace.specs.declared.answer.Opening.{Opening}
use Rattle.tpol_trace.specs.declared.answer.Opening.TheVariants.{Branch, Clash, ZeroInput}
use Rattle.tpol_tree.specs.declared.path.Path.{Path}
use Rattle.tpol_laws.proofs.Prints.{Allows}

-- ---- digits

abbrev IsDigit : ℕ → Type 0
IsDigit c = (48 ≤ c) × (c ≤ 57)

glyph-is : (n : ℕ) → IsDigit (digit_glyph false (n % 10))
glyph-is n =
    let small : n % 10 < 10 = grind arith in
    let low : nat_lt (n % 10) 10 ≡ true = grind (arith, nat_tests) in
    subst (λ (b : Bool). IsDigit (if b then 48 + n % 10 else 87 + n % 10)) (sym low) (omega arith, omega (arith, small))

either-digits : (b : Bool) (xs ys : List ℕ) → AllByRecursion IsDigit xs → AllByRecursion IsDigit ys → AllByRecursion IsDigit (cond b xs ys)
either-digits true xs ys one other = one
either-digits false xs ys one other = other

digits-onto : (k n : ℕ) (acc : List ℕ) → AllByRecursion IsDigit acc → AllByRecursion IsDigit (digits_onto k 10 false n acc)
digits-onto zero n acc all = all
digits-onto (suc k) n acc all =
    either-digits (n / 10 == 0) (digit_glyph false (n % 10) ∷ acc) (digits_onto k 10 false (n / 10) (digit_glyph false (n % 10) ∷ acc))
    (glyph-is n, all) (digits-onto k (n / 10) (digit_glyph false (n % 10) ∷ acc) (glyph-is n, all))

decimal-digits : (n : ℕ) → AllByRecursion IsDigit (decimal n)
unfolding digits
decimal-digits n = digits-onto 64 n [] tt

-- ---- the front of a line

abbrev first_of : List ℕ → ℕ
first_of text = get_or text 0 0

-- digits and then a space
digits-first : (ds rest : List ℕ) → AllByRecursion IsDigit ds → first_of (ds ++ 32 ∷ rest) ≤ 57
digits-first [] rest all = omega arith
digits-first (d ∷ ds) rest all = all.0.1

-- where the digits end is seen by the space
split-digits : (ds es t u : List ℕ) → AllByRecursion IsDigit ds → AllByRecursion IsDigit es → ds ++ 32 ∷ t ≡ es ++ 32 ∷ u → (ds ≡ es) × (t ≡ u)
split-digits [] [] t u all every same = (refl, ap (drop 1) same)
split-digits [] (e ∷ es) t u all every same =
    let here : 32 ≡ e = ap first_of same in
    let low : 48 ≤ e = every.0.0 in
    absurd (omega (arith, here, low))
split-digits (d ∷ ds) [] t u all every same =
    let here : d ≡ 32 = ap first_of same in
    let low : 48 ≤ d = all.0.0 in
    absurd (omega (arith, here, low))
split-digits (d ∷ ds) (e ∷ es) t u all every same =
    let here : d ≡ e = ap first_of same in
    let rest = split-digits ds es t u all.1 every.1 (ap (drop 1) same) in
    (ap (λ x. x ∷ ds) here ∙ ap (λ l. e ∷ l) rest.0, rest.1)

-- lines of runs, by the text behind the number
abbrev run_text : ℕ → List ℕ → List ℕ
run_text run text = codes "run" ++ 32 ∷ (decimal run ++ 32 ∷ text)

split-runs : (a b : ℕ) (t u : List ℕ) → line_of (run_text a t) ≡ line_of (run_text b u) → (decimal a ≡ decimal b) × (t ++ 10 ∷ [] ≡ u ++ 10 ∷ [])
split-runs a b t u same =
    split-digits (decimal a) (decimal b) (t ++ 10 ∷ []) (u ++ 10 ∷ []) (decimal-digits a) (decimal-digits b)
    (sym (append_assoc (decimal a) (32 ∷ t) (10 ∷ [])) ∙ ap (drop 4) same ∙ append_assoc (decimal b) (32 ∷ u) (10 ∷ []))

-- ---- the line that tells that a run is served

abbrev pub served_line : ℕ → List ℕ → List ℕ
served_line number bytes = line_of (end_line number (Served bytes))

abbrev pub IsUnserved : ℕ → List ℕ → Type 0
IsUnserved number line = (bytes : List ℕ) → line ≡ served_line number bytes → ⊥

-- another first byte
starts-apart : (number : ℕ) (line : List ℕ) → (first_of line ≡ 114 → ⊥) → IsUnserved number line
starts-apart number line apart bytes same = apart (ap first_of same)

digits-apart : (number event : ℕ) (rest : List ℕ) → IsUnserved number (line_of (decimal event ++ 32 ∷ rest))
digits-apart number event rest =
    subst (IsUnserved number) (sym (append_assoc (decimal event) (32 ∷ rest) (10 ∷ [])))
    (starts-apart number (decimal event ++ 32 ∷ (rest ++ 10 ∷ [])) (λ same.
    let low = digits-first (decimal event) (rest ++ 10 ∷ []) (decimal-digits event) in
    absurd (omega (arith, low, same))))

-- a line of a run with another word
word-apart : (number run : ℕ) (text : List ℕ) → (first_of (text ++ 10 ∷ []) ≡ 115 → ⊥) → IsUnserved number (line_of (run_text run text))
word-apart number run text apart bytes same = apart (ap first_of (split-runs run number text (end_text (Served bytes)) same).1)

-- a line of another run
number-apart : (number run : ℕ) (text : List ℕ) → nat_eq run number ≡ false → run < 2 ^ 16 → number < 2 ^ 16 → IsUnserved number (line_of (run_text run text))
number-apart number run text apart small within bytes same =
    let one : run < 2 ^ 64 = omega (arith, small) in
    let other : number < 2 ^ 64 = omega (arith, within) in
    absurd (false≢true (sym apart ∙ eq-eqb run number (decimal_injective run number one other (split-runs run number text (end_text (Served bytes)) same).0)))

opening-apart : (number event : ℕ) (paths : List Path) (opening : Opening) → IsUnserved number (line_of (opening_line event paths opening))
opening-apart number event paths (Branch position events) = starts-apart number _ (λ (e : 111 ≡ 114). omega (arith, e))
opening-apart number event paths (Clash first second) = starts-apart number _ (λ (e : 99 ≡ 114). omega (arith, e))
opening-apart number event paths (ZeroInput input) = starts-apart number _ (λ (e : 122 ≡ 114). omega (arith, e))

-- the other ends of the run
pub denied-apart : (number : ℕ) (at : Stage) (rc : Rc) → IsUnserved number (line_of (end_line number (Denied at rc)))
denied-apart number at rc = word-apart number number _ (λ (e : 100 ≡ 115). omega (arith, e))

pub bad-apart : (number : ℕ) (at : Stage) → IsUnserved number (line_of (end_line number (BadReply at)))
bad-apart number at = word-apart number number _ (λ (e : 98 ≡ 115). omega (arith, e))

pub allows-unserved : (number : ℕ) → number < 2 ^ 16 → Allows (IsUnserved number) number
allows-unserved number within = record {
  command = λ event client locality buffer reply outcome. digits-apart number event _;
  opening = opening-apart number;
  certificate = λ event bytes. starts-apart number _ (λ (e : 99 ≡ 114). omega (arith, e));
  time = λ event ms. digits-apart number event _;
  presence = λ event on. digits-apart number event _;
  reset = λ event. digits-apart number event _;
  block = λ position steps block. starts-apart number _ (λ (e : 98 ≡ 114). omega (arith, e));
  chosen = λ run position steps. word-apart number run _ (λ (e : 112 ≡ 115). omega (arith, e));
  nobranch = λ run. word-apart number run _ (λ (e : 110 ≡ 115). omega (arith, e));
  blind = λ run. word-apart number run _ (λ (e : 98 ≡ 115). omega (arith, e));
  tried = λ position steps tried. starts-apart number _ (λ (e : 98 ≡ 114). omega (arith, e));
  over = λ run. word-apart number run _ (λ (e : 111 ≡ 115). omega (arith, e));
  ends = λ run end apart small. number-apart number run (end_text end) apart small within;
}

-- The paths of a blind plan, one after another: which is tried next, which is the first that nothing blocks, and how many
-- commands are sent until there.
use Rattle.std.proofs.Common.{cond, ◌≡◌, ℕ, zero, suc, ◌+◌, Bool, true, false, not, if◌then◌else◌, List, [], ◌∷◌, drop, length, nat_lt, take, refl, ap, sym, ◌∙◌, arith}
use Rattle.std.specs.Prelude.{Some, None, filter, option_map, position, slice_get}
use Rattle.std.specs.List.{position_or_len, sum_by}
use Rattle.std.proofs.lemmas.Bool.Decides.{nat_tests}
use Rattle.std.proofs.lemmas.List.{drop-drop}
use Rattle.std.proofs.lemmas.List.Sums.{sum_by-cons}
use Rattle.std.proofs.lemmas.Option.{none-some, same_Some}
use Rattle.tpol_digest.specs.Walks.{first_path}
use Rattle.tpol_driver.specs.declared.blind_plan.BlindPlan.{BlindPlan}
use Rattle.tpol_driver.specs.Blind.{is_tried, tried_from}
use Rattle.tpol_laws.specs.PathCommands.{commands_along}
use Rattle.tpol_tree.specs.declared.path.Path.{Path}

-- ---- the paths from a place on

pub path-at : (paths : List Path) (place : ℕ) (path : Path) (rest : List Path) → drop place paths ≡ path ∷ rest → slice_get paths place ≡ Some path
path-at [] zero path rest is = cc
path-at [] (suc place) path rest is = cc
path-at (first ∷ paths) zero path rest is = cc
path-at (first ∷ paths) (suc place) path rest is = path-at paths place path rest is

pub rest-at : (paths : List Path) (place : ℕ) (path : Path) (rest : List Path) → drop place paths ≡ path ∷ rest → drop (place + 1) paths ≡ rest
rest-at paths place path rest is = sym (drop-drop 1 place paths) ∙ ap (drop 1) is

-- ---- the next that is tried

pub next-here : (test : Path → Bool) (place : ℕ) (path : Path) (rest : List Path) → test path ≡ true → option_map (λ (index : ℕ). place + index) (position test (path ∷ rest)) ≡ Some place
next-here test place path rest passes =
    let same : place + 0 ≡ place = omega arith in
    let front : nat_lt 0 (length (path ∷ rest)) ≡ true = grind (arith, nat_tests) in
    ap (λ (b : Bool). option_map (λ (index : ℕ). place + index) (cond (nat_lt (cond (not b) (1 + position_or_len test rest) 0) (length (path ∷ rest))) (Some (cond (not b) (1 + position_or_len test rest) 0)) None)) passes
    ∙ ap (λ (b : Bool). option_map (λ (index : ℕ). place + index) (cond b (Some 0) None)) front
    ∙ ap (λ (n : ℕ). Some n) same

pub next-later : (test : Path → Bool) (place : ℕ) (path : Path) (rest : List Path) → test path ≡ false
    → option_map (λ (index : ℕ). place + index) (position test (path ∷ rest)) ≡ option_map (λ (index : ℕ). place + 1 + index) (position test rest)
next-later test place path rest fails =
    ap (λ (b : Bool). option_map (λ (index : ℕ). place + index) (cond (nat_lt (cond (not b) (1 + position_or_len test rest) 0) (length (path ∷ rest))) (Some (cond (not b) (1 + position_or_len test rest) 0)) None)) fails
    ∙ within (position_or_len test rest) (length rest)
  where
    within : (found most : ℕ) → option_map (λ (index : ℕ). place + index) (cond (nat_lt (1 + found) (suc most)) (Some (1 + found)) None) ≡ option_map (λ (index : ℕ). place + 1 + index) (cond (nat_lt found most) (Some found) None)
    within found most =
        let test : nat_lt (1 + found) (suc most) ≡ nat_lt found most = grind (arith, nat_tests) in
        let same : place + (1 + found) ≡ place + 1 + found = omega arith in
        ap (λ (b : Bool). option_map (λ (index : ℕ). place + index) (cond b (Some (1 + found)) None)) test ∙ both (nat_lt found most) found same
      where
        both : (b : Bool) (found : ℕ) → place + (1 + found) ≡ place + 1 + found
            → option_map (λ (index : ℕ). place + index) (cond b (Some (1 + found)) None) ≡ option_map (λ (index : ℕ). place + 1 + index) (cond b (Some found) None)
        both true found same = ap (λ (n : ℕ). Some n) same
        both false found same = refl

module _ (plan : BlindPlan) (place : ℕ) (path : Path) (rest : List Path) (is : drop place plan.paths ≡ path ∷ rest) where
  pub tried-here : is_tried plan path ≡ true → tried_from plan place ≡ Some place
  tried-here tried =
      ap (λ (paths : List Path). option_map (λ (index : ℕ). place + index) (position (is_tried plan) paths)) is ∙ next-here (is_tried plan) place path rest tried

  pub tried-later : is_tried plan path ≡ false → tried_from plan place ≡ tried_from plan (place + 1)
  tried-later skipped =
      ap (λ (paths : List Path). option_map (λ (index : ℕ). place + index) (position (is_tried plan) paths)) is
      ∙ next-later (is_tried plan) place path rest skipped
      ∙ ap (λ (paths : List Path). option_map (λ (index : ℕ). place + 1 + index) (position (is_tried plan) paths)) (sym (rest-at plan.paths place path rest is))

pub none-tried : (plan : BlindPlan) (place : ℕ) → drop place plan.paths ≡ [] → tried_from plan place ≡ None
none-tried plan place is = ap (λ (paths : List Path). option_map (λ (index : ℕ). place + index) (position (is_tried plan) paths)) is

-- ---- the first that nothing blocks

-- how many commands are sent until there, or to the end
abbrev pub commands_to : (Path → Bool) → (Path → Bool) → List Path → ℕ
commands_to tried unblocked [] = 0
commands_to tried unblocked (path ∷ rest) = cond (tried path) (commands_along path) 0 + cond (unblocked path) 0 (commands_to tried unblocked rest)

-- the first that nothing blocks, with its place among these paths
pub record IsFirst (tried unblocked : Path → Bool) (number position : ℕ) (paths : List Path) : Type 0 where
  pub index : ℕ
  pub is : position ≡ number + index
  pub path : Path
  pub opens : unblocked path ≡ true
  pub commands : commands_to tried unblocked paths ≡ sum_by commands_along (filter tried (take (suc index) paths))

pub is-first : (tried unblocked : Path → Bool) (number position : ℕ) (paths : List Path) → first_path unblocked number paths ≡ Some position → IsFirst tried unblocked number position paths
is-first tried unblocked number position [] found = absurd (none-some position found)
is-first tried unblocked number position (path ∷ rest) found = by (unblocked path) refl found (is-first tried unblocked (number + 1) position rest)
  where
    commands : (b : Bool) (t : Bool) → tried path ≡ t → unblocked path ≡ b → (later : List Path) → cond b 0 (commands_to tried unblocked rest) ≡ sum_by commands_along (filter tried later)
        → cond (tried path) (commands_along path) 0 + cond (unblocked path) 0 (commands_to tried unblocked rest) ≡ sum_by commands_along (cond (tried path) (path ∷ filter tried later) (filter tried later))
    commands b true tries opens later same =
        ap (λ (t : Bool). cond t (commands_along path) 0 + cond (unblocked path) 0 (commands_to tried unblocked rest)) tries
        ∙ ap (λ (o : Bool). commands_along path + cond o 0 (commands_to tried unblocked rest)) opens
        ∙ ap (λ (n : ℕ). commands_along path + n) same
        ∙ sym (sum_by-cons commands_along path (filter tried later))
        ∙ ap (λ (t : Bool). sum_by commands_along (cond t (path ∷ filter tried later) (filter tried later))) (sym tries)
    commands b false tries opens later same =
        let nothing : 0 + cond b 0 (commands_to tried unblocked rest) ≡ cond b 0 (commands_to tried unblocked rest) = omega arith in
        ap (λ (t : Bool). cond t (commands_along path) 0 + cond (unblocked path) 0 (commands_to tried unblocked rest)) tries
        ∙ ap (λ (o : Bool). 0 + cond o 0 (commands_to tried unblocked rest)) opens
        ∙ nothing
        ∙ same
        ∙ ap (λ (t : Bool). sum_by commands_along (cond t (path ∷ filter tried later) (filter tried later))) (sym tries)

    by : (b : Bool) → unblocked path ≡ b → (if b then Some number else first_path unblocked (number + 1) rest) ≡ Some position
        → (first_path unblocked (number + 1) rest ≡ Some position → IsFirst tried unblocked (number + 1) position rest) → IsFirst tried unblocked number position (path ∷ rest)
    by true opens found later =
        let same : number ≡ position = same_Some number position found in
        record { index = 0; is = omega (arith, same); path = path; opens = opens; commands = commands true (tried path) refl opens [] refl }
    by false opens found later =
        let behind = later found in
        let same : position ≡ number + 1 + behind.index = behind.is in
        record { index = suc behind.index; is = omega (arith, same); path = behind.path; opens = behind.opens; commands = commands false (tried path) refl opens (take (suc behind.index) rest) behind.commands }

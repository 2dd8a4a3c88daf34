-- Branches in groups of eight.
use Rattle.std.proofs.lemmas.Bool.{cases_Bool, ltb-false, ltb-true}
use Rattle.std.proofs.Common.{true, false, cond, inl, inr, subst, List, [], ◌∷◌, ◌≡◌, ◌+◌, ◌*◌, ◌/◌, ◌<◌, ◌≤◌, ℕ, refl, ap, sym, ◌∙◌, length, take, drop, arith, add-one, length-drop, length-take, suc, zero}
use Rattle.std.specs.Simd.{first_chunks}
use Rattle.std.specs.List.{AllByRecursion}
use Rattle.std.specs.Prelude.{nat_lt}
use Rattle.tpol_tree.specs.ClosedErased.{erased_branches, erased_elements}
use Rattle.tpol_fill.specs.Groups.{NamedBranch, branches_in, branches_of, group, grouped, in_eights, numbered, or_of}
use Rattle.tpol_tree.specs.declared.closed.ClosedBranches.{ClosedBranches}
use Rattle.tpol_tree.specs.declared.closed.ClosedBranches.TheVariants.{More' as MoreBranches', End as EndBranches}
use Rattle.tpol_tree.specs.declared.closed.ClosedElements.{ClosedElements}
use Rattle.tpol_tree.specs.Closed.{IsBranchCount, branch_count}
use Rattle.tpol_tree.specs.Erased.{nowhere}

-- branches are those of their list
pub branches_of_branches_in : (branches : ClosedBranches) → branches_of (branches_in branches) ≡ erased_branches branches
branches_of_branches_in EndBranches = refl
branches_of_branches_in (MoreBranches' p name elements q rest) =
    ap (λ others. MoreBranches' nowhere name (erased_elements elements) nowhere others) (branches_of_branches_in rest)

-- the first group of eight, and those behind it
pub in_eights_more : (first : NamedBranch) (rest : List NamedBranch) → in_eights (first ∷ rest) ≡ take 8 (first ∷ rest) ∷ in_eights (drop 7 rest)
in_eights_more first rest =
    let count : (length (first ∷ rest) + 7) / 8 ≡ suc ((length (drop 7 rest) + 7) / 8) = omega (arith, length-drop 7 rest)
    in ap (λ n. first_chunks 8 n (first ∷ rest)) count

-- up to eight stay, more become groups
grouped_more : (branches : List NamedBranch) → nat_lt 8 (length branches) ≡ true → grouped branches ≡ numbered 1 (in_eights branches)
grouped_more branches h = ap (λ more. cond more (numbered 1 (in_eights branches)) branches) h

grouped_few : (branches : List NamedBranch) → nat_lt 8 (length branches) ≡ false → grouped branches ≡ branches
grouped_few branches h = ap (λ more. cond more (numbered 1 (in_eights branches)) branches) h

-- ---- what holds of each branch holds of each group

abbrev pub AllBranches : (ClosedElements → Type 0) → List NamedBranch → Type 0
AllBranches P branches = AllByRecursion (λ branch. P branch.1) branches

module _ (P : ClosedElements → Type 0) where
  each_take : (n : ℕ) (branches : List NamedBranch) → AllBranches P branches → AllBranches P (take n branches)
  each_take zero branches h = tt
  each_take (suc n) [] h = tt
  each_take (suc n) (branch ∷ rest) h = (h.0, each_take n rest h.1)

  each_drop : (n : ℕ) (branches : List NamedBranch) → AllBranches P branches → AllBranches P (drop n branches)
  each_drop zero branches h = h
  each_drop (suc n) [] h = tt
  each_drop (suc n) (branch ∷ rest) h = each_drop n rest h.1

  module _ (or : (branches : List NamedBranch) → 2 ≤ length branches → length branches ≤ 8 → AllBranches P branches → P (or_of branches)) where
    each_group : (number : ℕ) (branches : List NamedBranch) → 1 ≤ length branches → length branches ≤ 8 → AllBranches P branches → P (group number branches).1
    each_group number [] one eight h = absurd (omega arith)
    each_group number (branch ∷ []) one eight h = h.0
    each_group number (first ∷ second ∷ rest) one eight h = or (first ∷ second ∷ rest) (omega arith) eight h

    each_numbered : (number k : ℕ) (branches : List NamedBranch) → k * 8 ≤ length branches + 7 → AllBranches P branches → AllBranches P (numbered number (first_chunks 8 k branches))
    each_numbered number zero branches enough h = tt
    each_numbered number (suc k) branches enough h = (
      each_group number (take 8 branches) (omega (arith, length-take 8 branches)) (omega (arith, length-take 8 branches)) (each_take 8 branches h),
      each_numbered (number + 1) k (drop 8 branches) (omega (arith, length-drop 8 branches)) (each_drop 8 branches h),
    )

    pub each_grouped : (branches : List NamedBranch) → AllBranches P branches → AllBranches P (grouped branches)
    each_grouped branches h =
        elim (cases_Bool (nat_lt 8 (length branches))) [
          | inl more ↦ subst (AllBranches P) (sym (grouped_more branches more)) (each_numbered 1 ((length branches + 7) / 8) branches (omega arith) h)
          | inr few ↦ subst (AllBranches P) (sym (grouped_few branches few)) h
        ]

-- ---- counts

pub branch_count_of : (branches : List NamedBranch) → branch_count (branches_of branches) ≡ length branches
branch_count_of [] = refl
branch_count_of (branch ∷ rest) = add-one _ ∙ ap suc (branch_count_of rest)

length_numbered : (number k : ℕ) (branches : List NamedBranch) → length (numbered number (first_chunks 8 k branches)) ≡ k
length_numbered number zero branches = refl
length_numbered number (suc k) branches = ap suc (length_numbered (number + 1) k (drop 8 branches))

pub length_grouped : (branches : List NamedBranch) → 2 ≤ length branches → length branches ≤ 64 → IsBranchCount (length (grouped branches))
length_grouped branches two few =
    elim (cases_Bool (nat_lt 8 (length branches))) [
      | inl more ↦
          let eight : 8 < length branches = ltb-true _ _ more in
          let groups : length (grouped branches) ≡ (length branches + 7) / 8 = ap length (grouped_more branches more) ∙ length_numbered 1 ((length branches + 7) / 8) branches in
          (omega arith, omega arith)
      | inr no_more ↦
          let eight : length branches ≤ 8 = ltb-false _ _ no_more in
          let same : length (grouped branches) ≡ length branches = ap length (grouped_few branches no_more) in
          (omega arith, omega arith)
    ]

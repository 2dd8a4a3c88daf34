-- The position of a chosen path is that of one.
use Rattle.std.proofs.Common.{◌≡◌, ℕ, ◌+◌, ◌-◌, ◌≤◌, ◌<◌, All, Bool, true, false, if◌then◌else◌, List, [], ◌∷◌, get_or, length, Some, arith, slice_get, subst}
use Rattle.std.proofs.lemmas.Option.{get_or_from_slice_get, slice_get_within}
use Rattle.tpol_choose.specs.Blocks.{chosen_path, is_open}
use Rattle.tpol_digest.specs.Walks.{first_path}
use Rattle.tpol_goal.specs.declared.goal.Goal.{Goal}
use Rattle.tpol_goal.specs.declared.grants.Grants.{Grants}
use Rattle.tpol_name.specs.declared.sight.Sight.{Sight}
use Rattle.tpol_digest.specs.Paths.{paths_of}
use Rattle.tpol_lines.specs.OpeningLine.{IsListed}
use Rattle.tpol_trace.specs.declared.answer.Opening.{Opening}
use Rattle.tpol_trace.specs.declared.answer.Opening.TheVariants.{Branch, Clash, ZeroInput}
use Rattle.tpol_trace.specs.Openings.{IsOpening}
use Rattle.tpol_tree.specs.declared.closed.Closed.{Closed}
use Rattle.tpol_tree.specs.declared.facts.Fact.{Fact}
use Rattle.tpol_tree.specs.declared.path.ApprovedDoc.{ApprovedDoc}
use Rattle.tpol_tree.specs.declared.path.Path.{Path}

first_within : (test : Path → Bool) (n : ℕ) (paths : List Path) (k : ℕ) → first_path test n paths ≡ Some k → (n ≤ k) × (k < n + length paths)
first_within test n [] k h = absurd cc
first_within test n (path ∷ rest) k h = by (test path) (λ later. first_within test (n + 1) rest k later) h
  where
    by : (b : Bool) → (first_path test (n + 1) rest ≡ Some k → (n + 1 ≤ k) × (k < n + 1 + length rest)) → (if b then Some n else first_path test (n + 1) rest) ≡ Some k → (n ≤ k) × (k < n + length (path ∷ rest))
    by true later e = let same : n ≡ k = cc in (omega arith, omega arith)
    by false later e = let w = later e in (omega (arith, w.0), omega (arith, w.1))

pub chosen_within : (paths : List Path) (sight : Sight) (grants : Grants) (goal : Goal) (locality position : ℕ) → chosen_path paths sight grants goal locality ≡ Some position → (1 ≤ position) × (position ≤ length paths)
unfolding chosen_path
chosen_within paths sight grants goal locality position h =
    let w = first_within (is_open sight grants goal locality) 1 paths position h in
    (w.0, omega (arith, w.1))

-- a path of a list of short ones is short
pub path_is_short : (paths : List Path) (i : ℕ) (path : Path) → All (λ p. length p.moves ≤ 512) paths → slice_get paths i ≡ Some path → length path.moves ≤ 512
path_is_short paths i path short at =
    let same : get_or paths i path ≡ path = get_or_from_slice_get paths i path path at in
    subst (λ (p : Path). length p.moves ≤ 512) same (short i path (slice_get_within paths i path at))

-- an opening names a path of the list
pub opening_listed : (policy : Closed) (approvals : List ApprovedDoc) (facts : List Fact) (opening : Opening) → IsOpening policy approvals facts opening → IsListed (paths_of policy approvals) opening
opening_listed policy approvals facts (Branch position events) h =
    let within = slice_get_within (paths_of policy approvals) (position - 1) h.0.path h.0.listed in
    let counted = h.0.counted in
    (counted, omega (arith, within, counted))
opening_listed policy approvals facts (Clash first second) h = tt
opening_listed policy approvals facts (ZeroInput string) h = tt

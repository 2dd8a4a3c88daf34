-- What a path of a named policy is, and the grants of a client of a scene.
use Rattle.std.proofs.Common.{◌≡◌, ◌≤◌, ℕ, suc, ◌+◌, ◌-◌, Bool, true, false, if◌then◌else◌, List, [], ◌∷◌, All, Option, Some, None, length, slice_get, refl, sym, subst, arith}
use Rattle.std.specs.List.{IsDistinct}
use Rattle.std.specs.Prelude.{find, is_none}
use Rattle.std.specs.Option.{option_map, unwrap_or}
use Rattle.std.proofs.lemmas.List.Elements.{All-nil, recursion_from_All}
use Rattle.std.proofs.lemmas.Option.{none-some, same_Some}
use Rattle.tpol_choose.specs.Blocks.{chosen_path, is_open}
use Rattle.tpol_digest.specs.Laws.{MoveHasBounds}
use Rattle.tpol_digest.specs.Paths.{paths_of}
use Rattle.tpol_digest.specs.Walks.{first_path}
use Rattle.tpol_digest.proofs.PathMoves.{paths_have_bounds}
use Rattle.tpol_goal.specs.declared.goal.Goal.{Goal}
use Rattle.tpol_goal.specs.declared.grants.Grants.{Grants}
use Rattle.tpol_goal.specs.Grants.{IsGrants}
use Rattle.tpol_name.specs.declared.sight.Sight.{Sight}
use Rattle.tpol_steps.specs.declared.filled.FilledDocument.{FilledDocument}
use Rattle.tpol_prepare.specs.declared.scenario.Scenario.{Scenario}
use Rattle.tpol_prepare.specs.Scenario.{IsWalkable, grants_of, is_client, is_document, no_grants, paths_in, paths_named}
use Rattle.tpol_tree.specs.declared.path.Path.{Path}
use Rattle.tpol_tree.specs.Bounds.{HasClosedBounds}
use Rattle.tpol_laws.proofs.Finds.{all-at, find-each}

-- ---- the first path that passes

pub record FoundPath (test : Path → Bool) (paths : List Path) (place : ℕ) : Type 0 where
  pub path : Path
  pub at : slice_get paths place ≡ Some path
  pub passes : test path ≡ true

record FoundFrom (test : Path → Bool) (n : ℕ) (paths : List Path) (position : ℕ) : Type 0 where
  found : FoundPath test paths (position - n)
  within : n ≤ position

path-here : (test : Path → Bool) (n : ℕ) (path : Path) (rest : List Path) (position : ℕ) (b : Bool) → b ≡ test path → (if b then Some n else first_path test (n + 1) rest) ≡ Some position
    → (first_path test (n + 1) rest ≡ Some position → FoundFrom test (n + 1) rest position) → FoundFrom test n (path ∷ rest) position
path-here test n path rest position true is at later =
    let same : n ≡ position = same_Some _ _ at in
    let zero-place : position - n ≡ 0 = omega arith in
    record {
      found = subst (FoundPath test (path ∷ rest)) (sym zero-place) (record { path = path; at = refl; passes = sym is });
      within = omega arith;
    }
path-here test n path rest position false is at later =
    let next = later at in
    let within : n + 1 ≤ position = next.within in
    let place : position - n ≡ suc (position - (n + 1)) = omega arith in
    record {
      found = subst (FoundPath test (path ∷ rest)) (sym place) (record { path = next.found.path; at = next.found.at; passes = next.found.passes });
      within = omega (arith, within);
    }

found-from : (test : Path → Bool) (n : ℕ) (paths : List Path) (position : ℕ) → first_path test n paths ≡ Some position → FoundFrom test n paths position
found-from test n [] position at = absurd (none-some position at)
found-from test n (path ∷ rest) position at = path-here test n path rest position (test path) refl at (found-from test (n + 1) rest position)

pub none-is : {A : Type 0} (o : Option A) → is_none o ≡ true → o ≡ None
none-is None is = refl
none-is (Some x) is = absurd cc

pub open-path : (paths : List Path) (sight : Sight) (grants : Grants) (goal : Goal) (locality position : ℕ) → chosen_path paths sight grants goal locality ≡ Some position
    → FoundPath (is_open sight grants goal locality) paths (position - 1)
unfolding chosen_path
open-path paths sight grants goal locality position at = (found-from (is_open sight grants goal locality) 1 paths position at).found

-- ---- what a path of a named policy and a client's grants are

nothing-granted : IsGrants no_grants
unfolding IsDistinct
nothing-granted = record { secret_handles = tt; key_handles = tt; secrets = All-nil _; keys = All-nil _ }

pub grants-at : (clients : List (ℕ × Grants)) (number : ℕ) → All (λ client. IsGrants client.1) clients → IsGrants (grants_of clients number)
grants-at clients number all = by (find (is_client number) clients) refl
  where
    by : (o : Option (ℕ × Grants)) → find (is_client number) clients ≡ o → IsGrants (unwrap_or (option_map (λ client. client.1) o) no_grants)
    by None e = nothing-granted
    by (Some client) e = find-each (λ (c : ℕ × Grants). IsGrants c.1) (is_client number) clients client (recursion_from_All (λ (c : ℕ × Grants). IsGrants c.1) clients all) e

pub record IsNamed (path : Path) : Type 0 where
  pub moves : All MoveHasBounds path.moves
  pub short : length path.moves ≤ 512

pub named-at : (scenario : Scenario) → All (λ document. IsWalkable scenario.approvals document.closed) scenario.begun → All (λ document. HasClosedBounds document.closed) scenario.begun
    → All (λ document. HasClosedBounds document.closed) scenario.approvals → (policy : List ℕ) (place : ℕ) (path : Path) → slice_get (paths_named scenario policy) place ≡ Some path → IsNamed path
unfolding paths_named
named-at scenario walkable bounds approvals policy place path at = by (find (is_document policy) scenario.begun) refl at
  where
    by : (o : Option FilledDocument) → find (is_document policy) scenario.begun ≡ o → slice_get (paths_in scenario.approvals o) place ≡ Some path → IsNamed path
    by None e at = absurd (none-some path at)
    by (Some document) e at =
        let walks = find-each (λ (d : FilledDocument). IsWalkable scenario.approvals d.closed) (is_document policy) scenario.begun document
        (recursion_from_All (λ (d : FilledDocument). IsWalkable scenario.approvals d.closed) scenario.begun walkable) e in
        let bounded = find-each (λ (d : FilledDocument). HasClosedBounds d.closed) (is_document policy) scenario.begun document
        (recursion_from_All (λ (d : FilledDocument). HasClosedBounds d.closed) scenario.begun bounds) e in
        record {
          moves = all-at (λ (p : Path). All MoveHasBounds p.moves) (paths_of document.closed scenario.approvals) place path (paths_have_bounds document.closed scenario.approvals walks.branches bounded approvals) at;
          short = all-at (λ (p : Path). length p.moves ≤ 512) (paths_of document.closed scenario.approvals) place path walks.within.short at;
        }

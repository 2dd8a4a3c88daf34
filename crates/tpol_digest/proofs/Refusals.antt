-- When the paths are too many or too long.
use Rattle.std.proofs.Common.{◌≡◌, ◌<◌, ◌≤◌, min, List, length, get_or, Ok, Err, refl, subst, ⊎_elim, arith}
use Rattle.std.proofs.lemmas.Bool.{cases_lt}
use Rattle.std.proofs.lemmas.List.{get_or_default}
use Rattle.std.specs.Prelude.{All, Any, Result, IsErrOf, ◌↔◌}
use Rattle.tpol_tree.specs.declared.closed.Closed.{Closed}
use Rattle.tpol_tree.specs.declared.path.ApprovedDoc.{ApprovedDoc}
use Rattle.tpol_tree.specs.declared.path.Path.{Path}
use Rattle.tpol_digest.specs.declared.extent.Extent.{Extent}
use Rattle.tpol_digest.specs.declared.limits.PathLimit.{PathLimit}
use Rattle.tpol_digest.specs.declared.limits.PathLimit.TheVariants.{TooManyPaths, TooLong}
use Rattle.tpol_digest.specs.Extent.{FullExtent, extent_at, document_extent, IsCapped}
use Rattle.tpol_digest.specs.Limits.{AreWithinLimits}
use Rattle.tpol_digest.specs.Paths.{paths_of}
use Rattle.tpol_digest.proofs.Measures.{MeasuresAny, paths_of-measures, counted, many, few, long, short}

-- the two refusals come exactly where they should
abbrev pub RefusesMany : {A : Type 0} → Result A PathLimit → List Path → Type 0
RefusesMany result paths = IsErrOf result TooManyPaths ↔ (65536 < length paths)

abbrev pub RefusesLong : {A : Type 0} → Result A PathLimit → List Path → Type 0
RefusesLong result paths =
    IsErrOf result TooLong ↔ ((length paths ≤ 65536) × Any (λ path. 512 < length path.moves) paths)

-- none is longer
none_longer : (paths : List Path) → (Any (λ path. 512 < length path.moves) paths → ⊥) → All (λ path. length path.moves ≤ 512) paths
none_longer paths none = λ i d inside.
    ⊎_elim (λ lt. absurd (none (i, get_or paths i d, inside, get_or_default paths i (get_or paths i d) d inside, lt))) (λ le. le) (cases_lt 512 (length (get_or paths i d).moves))

-- what follows from the extent of a policy's paths, where the documents are the approvals
module _ (policy : Closed) (approvals documents : List ApprovedDoc) (same : documents ≡ approvals) (extent : Extent) (extent_is : IsCapped extent (extent_at (document_extent documents 4) documents policy.elements)) where
  abbrev full : FullExtent
  full = extent_at (document_extent approvals 4) approvals policy.elements

  abbrev all : List Path
  all = paths_of policy approvals

  capped : IsCapped extent full
  capped = subst (λ xs. IsCapped extent (extent_at (document_extent xs 4) xs policy.elements)) same extent_is

  measures : MeasuresAny full all
  measures = paths_of-measures policy approvals

  pub counted_paths : extent.paths ≡ min (length all) 65537
  counted_paths = counted extent full all capped measures

  pub past_paths : {A : Type 0} → 65536 < extent.paths → RefusesMany {A = A} (Err TooManyPaths) all × RefusesLong {A = A} (Err TooManyPaths) all
  past_paths h =
      let above = many extent full all capped measures h in
      ((λ _. above, λ _. refl), (λ e. cc, λ l. absurd (omega (arith, above, l.0))))

  pub past_moves : {A : Type 0} → extent.paths ≤ 65536 → 512 < extent.moves → RefusesMany {A = A} (Err TooLong) all × RefusesLong {A = A} (Err TooLong) all
  past_moves h k =
      let below = few extent full all capped measures h in
      ((λ e. cc, λ m. absurd (omega (arith, below, m))), (λ _. (below, long extent full all capped measures h k), λ _. refl))

  pub within_limits : {A : Type 0} (answer : A) → extent.paths ≤ 65536 → extent.moves ≤ 512 → RefusesMany {A = A} (Ok answer) all × RefusesLong {A = A} (Ok answer) all
  within_limits answer h k =
      let below = few extent full all capped measures h in
      ((λ e. cc, λ m. absurd (omega (arith, below, m))), (λ e. cc, λ l. absurd (short extent full all capped measures h k l.1)))

  pub are_within_limits : extent.paths ≤ 65536 → extent.moves ≤ 512 → AreWithinLimits all
  are_within_limits h k = record {
    few = few extent full all capped measures h;
    short = none_longer all (short extent full all capped measures h k);
  }

  pub number_of_paths : extent.paths ≤ 65536 → extent.paths ≡ length all
  number_of_paths h = let e = counted_paths in let below = few extent full all capped measures h in omega arith

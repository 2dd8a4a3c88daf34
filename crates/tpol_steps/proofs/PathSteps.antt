-- The limits of a policy's paths, by their number and their lengths, whichever memory the policy lies in.
use Rattle.std.proofs.Common.{◌≡◌, ℕ, ◌<◌, ◌≤◌, List, map, true, false, length, nat_lt, Option, Ok, Err, ap, subst, ◌∙◌, arith}
use Rattle.std.proofs.lemmas.Bool.Decides.{nat_tests}
use Rattle.std.specs.Prelude.{All, codes, min}
use Rattle.std.specs.List.{list_any}
use Rattle.tpol_digest.specs.Limits.{AreWithinLimits}
use Rattle.tpol_digest.specs.Paths.{paths_of}
use Rattle.tpol_digest.proofs.Erasures.{paths_ignore_boxes}
use Rattle.tpol_tree.specs.ClosedErased.{erased, erased_document}
use Rattle.tpol_steps.proofs.LimitTests.{none_too_long}
use Rattle.tpol_steps.specs.Limits.{few_to_try, is_too_long, limit_step, within_limits}
use Rattle.tpol_steps.specs.Refusals.{path_limit}
use Rattle.tpol_tree.specs.declared.closed.Closed.{Closed}
use Rattle.tpol_tree.specs.declared.path.ApprovedDoc.{ApprovedDoc}
use Rattle.tpol_tree.specs.declared.path.Path.{Path}

many : (paths : List Path) → 65536 < length paths → nat_lt 65536 (length paths) ≡ true
many paths h = grind (arith, nat_tests)

few : (paths : List Path) → length paths ≤ 65536 → nat_lt 65536 (length paths) ≡ false
few paths h = grind (arith, nat_tests)

-- the limits do not depend on where the boxes lie
limit_as_it_lies : (document : Option (List ℕ)) (closed : Closed) (approvals : List ApprovedDoc) → limit_step document (erased closed) (map erased_document approvals) ≡ within_limits document (paths_of closed approvals)
unfolding limit_step
limit_as_it_lies document closed approvals = ap (within_limits document) (paths_ignore_boxes closed approvals)

pub too_many : (document : Option (List ℕ)) (closed : Closed) (approvals : List ApprovedDoc) → 65536 < length (paths_of closed approvals) → limit_step document (erased closed) (map erased_document approvals) ≡ Err (path_limit (codes "TooManyPaths") document)
too_many document closed approvals h = limit_as_it_lies document closed approvals ∙ rw (many (paths_of closed approvals) h)

pub too_long : (document : Option (List ℕ)) (closed : Closed) (approvals : List ApprovedDoc) → length (paths_of closed approvals) ≤ 65536 → list_any is_too_long (paths_of closed approvals) ≡ true → limit_step document (erased closed) (map erased_document approvals) ≡ Err (path_limit (codes "TooLong") document)
too_long document closed approvals within long = limit_as_it_lies document closed approvals ∙ rw (few (paths_of closed approvals) within, long)

short_enough : (paths : List Path) → All (λ path. length path.moves ≤ 512) paths → list_any is_too_long paths ≡ false
short_enough paths short =
    none_too_long paths (λ found.
    let low = subst (λ (path : Path). length path.moves ≤ 512) found.3 (short found.0 found.1 found.2) in
    omega (arith, low, found.4))

pub within : (document : Option (List ℕ)) (closed : Closed) (approvals : List ApprovedDoc) → AreWithinLimits (paths_of closed approvals) → limit_step document (erased closed) (map erased_document approvals) ≡ Ok tt
within document closed approvals h =
    limit_as_it_lies document closed approvals ∙ rw (few (paths_of closed approvals) h.few, short_enough (paths_of closed approvals) h.short)

-- ---- policies whose paths a blind run tries

try_as_it_lies : (document : Option (List ℕ)) (closed : Closed) (approvals : List ApprovedDoc) → few_to_try document (paths_of (erased closed) (map erased_document approvals)) ≡ few_to_try document (paths_of closed approvals)
try_as_it_lies document closed approvals = ap (few_to_try document) (paths_ignore_boxes closed approvals)

many_to_try : (paths : List Path) (count : ℕ) → count ≡ min (length paths) 65537 → 64 < count → nat_lt 64 (length paths) ≡ true
many_to_try paths count counted h = grind (arith, nat_tests)

some_to_try : (paths : List Path) (count : ℕ) → count ≡ min (length paths) 65537 → count ≤ 64 → nat_lt 64 (length paths) ≡ false
some_to_try paths count counted h = grind (arith, nat_tests)

pub too_many_to_try : (document : Option (List ℕ)) (closed : Closed) (approvals : List ApprovedDoc) (count : ℕ) → count ≡ min (length (paths_of closed approvals)) 65537 → 64 < count
    → few_to_try document (paths_of (erased closed) (map erased_document approvals)) ≡ Err (path_limit (codes "TooManyPaths") document)
too_many_to_try document closed approvals count counted h = try_as_it_lies document closed approvals ∙ rw (many_to_try (paths_of closed approvals) count counted h)

pub few_enough : (document : Option (List ℕ)) (closed : Closed) (approvals : List ApprovedDoc) (count : ℕ) → count ≡ min (length (paths_of closed approvals)) 65537 → count ≤ 64
    → few_to_try document (paths_of (erased closed) (map erased_document approvals)) ≡ Ok tt
few_enough document closed approvals count counted h = try_as_it_lies document closed approvals ∙ rw (some_to_try (paths_of closed approvals) count counted h)

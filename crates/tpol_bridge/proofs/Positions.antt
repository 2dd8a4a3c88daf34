-- The path at a position, whichever memory the policy lies in.
use Rattle.std.proofs.Common.{◌≡◌, ℕ, zero, suc, ◌≤◌, ◌<◌, ◌-◌, ◌⊎◌, inl, inr, List, map, length, Option, Some, None, refl, ap, ◌∙◌, arith}
use Rattle.std.proofs.lemmas.Option.{slice_get_past}
use Rattle.std.specs.List.{slice_get}
use Rattle.tpol_bridge.specs.Steps.{found_step, path_at}
use Rattle.tpol_digest.proofs.Erasures.{paths_ignore_boxes}
use Rattle.tpol_digest.specs.Paths.{paths_of}
use Rattle.tpol_steps.proofs.FilledErased.{policy_digest_erased}
use Rattle.tpol_tree.specs.ClosedErased.{erased, erased_document}
use Rattle.tpol_tree.specs.declared.closed.Closed.{Closed}
use Rattle.tpol_tree.specs.declared.path.ApprovedDoc.{ApprovedDoc}
use Rattle.tpol_tree.specs.declared.path.Path.{Path}

pub found_step_erased : (closed : Closed) (approvals : List ApprovedDoc) (position : ℕ) → found_step (erased closed) position (path_at (paths_of (erased closed) (map erased_document approvals)) position) ≡ found_step closed position (path_at (paths_of closed approvals) position)
found_step_erased closed approvals position =
    ap (λ paths. found_step (erased closed) position (path_at paths position)) (paths_ignore_boxes closed approvals)
    ∙ by (path_at (paths_of closed approvals) position)
  where
    by : (found : Option Path) → found_step (erased closed) position found ≡ found_step closed position found
    by None = refl
    by (Some path) = rw (policy_digest_erased closed) refl

-- no path has the position 0, or one behind the last
pub no_path : (paths : List Path) (position : ℕ) → (position ≡ 0) ⊎ (length paths < position) → path_at paths position ≡ None
no_path paths zero is = refl
no_path paths (suc index) (inl e) = absurd (omega (arith, e))
no_path paths (suc index) (inr past) = slice_get_past paths index (omega (arith, past))

-- a path has each other one
pub one_path : (paths : List Path) (position : ℕ) (path : Path) → 1 ≤ position → slice_get paths (position - 1) ≡ Some path → path_at paths position ≡ Some path
one_path paths zero path least is = absurd (omega (arith, least))
one_path paths (suc index) path least is = ap (slice_get paths) (omega arith) ∙ is

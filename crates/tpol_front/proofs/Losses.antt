-- What a source loses to reads.
use Rattle.std.proofs.Common.{◌≤◌, ℕ, List, length, drop, Option, None, Some, sym, ap, arith, refl, ◌∙◌}
use Rattle.std.proofs.Math.Seq.{drop-append_seam}
use Rattle.std.specs.Io.KnownBytes.{Consumes}
use Rattle.tpol_front.specs.Outside.{LosesAtMost}

-- what was taken from the front is at most so much
pub loses_at_most : (most : ℕ) (old new : Option (List ℕ)) (bytes : List ℕ) → Consumes old new bytes → length bytes ≤ most → LosesAtMost most old new
loses_at_most most None new bytes taken within = tt
loses_at_most most (Some held) None bytes taken within = absurd taken
loses_at_most most (Some held) (Some left) bytes taken within =
    (length bytes, within, ap Some (sym (drop-append_seam bytes left) ∙ ap (drop (length bytes)) (sym taken)))

-- nothing was taken
pub loses_nothing : (most : ℕ) (left : Option (List ℕ)) → LosesAtMost most left left
loses_nothing most None = tt
loses_nothing most (Some held) = (0, omega arith, refl)

-- What a command is given to read.
use Rattle.std.specs.Prelude.{ℕ, List, codes, length, nat_le, Ok, Err, if◌then◌else◌}
use Rattle.tpol_front.specs.Report.{most_read}
use Rattle.tpol_steps.specs.declared.answer.Verdict.TheVariants.{TooLarge}
use Rattle.tpol_steps.specs.Answer.{one_line}
use Rattle.tpol_steps.specs.Steps.{Step}

-- the bytes, or the refusal where they are too large
abbrev pub size_step : List ℕ → Step (List ℕ)
size_step bytes =
    if nat_le most_read (length bytes) then Err (one_line (codes "error TooLarge") TooLarge) else Ok bytes

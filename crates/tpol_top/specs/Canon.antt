-- What `canon` prints.
use Rattle.std.specs.Prelude.{ℕ, List, Ok}
use Rattle.tpol_steps.specs.declared.answer.Answer.{Answer}
use Rattle.tpol_steps.specs.declared.answer.Verdict.TheVariants.{Done}
use Rattle.tpol_steps.specs.Answer.{one_line}
use Rattle.tpol_steps.specs.ReadStep.{read_step}
use Rattle.tpol_steps.specs.Steps.{Step, ◌>>=◌}
use Rattle.tpol_write.specs.Canonical.{canonical_text}

-- the canonical text of the document in the source
unfoldable pub canon_step : List ℕ → Step Answer
canon_step input = read_step input >>= λ read. Ok (one_line (canonical_text read.0) Done)

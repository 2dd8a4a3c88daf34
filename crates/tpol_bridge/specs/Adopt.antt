-- What `adopt` prints.
use Rattle.std.specs.Prelude.{ℕ, List, Ok}
use Rattle.tpol_bridge.specs.Exports.{export_step}
use Rattle.tpol_steps.specs.declared.answer.Answer.{Answer}
use Rattle.tpol_steps.specs.declared.answer.Verdict.TheVariants.{Done}
use Rattle.tpol_steps.specs.Answer.{one_line}
use Rattle.tpol_steps.specs.Steps.{Step, ◌>>=◌}
use Rattle.tpol_write.specs.Canonical.{canonical_text}

-- the canonical text of the policy that the export says
unfoldable pub adopt_step : List ℕ → Step Answer
adopt_step input = export_step input >>= λ export. Ok (one_line (canonical_text export.policy) Done)

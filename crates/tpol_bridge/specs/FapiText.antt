-- What `export` prints.
use Rattle.std.specs.Prelude.{ℕ, List, Ok}
use Rattle.tpol_bridge.specs.Exports.{export_step}
use Rattle.tpol_export.specs.Text.{export_text}
use Rattle.tpol_steps.specs.declared.answer.Answer.{Answer}
use Rattle.tpol_steps.specs.declared.answer.Verdict.TheVariants.{Done}
use Rattle.tpol_steps.specs.Answer.{one_line}
use Rattle.tpol_steps.specs.Steps.{Step, ◌>>=◌}

-- the text in FAPI's spelling of the policy that the export says
unfoldable pub fapi_text_step : List ℕ → Step Answer
fapi_text_step input = export_step input >>= λ export. Ok (one_line (export_text export.policy) Done)

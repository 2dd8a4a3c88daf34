use Rattle.tpol_laws.proofs.GeneratedServed.{generated-text}
use Rattle.tpol_laws.proofs.generated_run.gen_is_served.Goals as goal

pub returns : goal.returns
returns c = λ ors order few. generated-text ors order few

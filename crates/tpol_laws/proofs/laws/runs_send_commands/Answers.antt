use Rattle.tpol_laws.proofs.ReadBack.{sent-read}
use Rattle.tpol_laws.proofs.laws.runs_send_commands.Goals as goal

pub returns : goal.returns
returns c = λ run past acts command begins offsets complete sent. sent-read run begins offsets complete past acts command sent

use Rattle.tpol_laws.proofs.ReplyCodes.{reply-tells}
use Rattle.tpol_laws.proofs.laws.success_replies_have_code_zero.Goals as goal

pub returns : goal.returns
returns c = reply-tells

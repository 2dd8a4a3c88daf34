use Rattle.tpol_cert.proofs.Certified.{judgements_certify}
use Rattle.tpol_cert.proofs.laws.judgements_certify.Goals as goal

pub returns : goal.returns
returns c = judgements_certify

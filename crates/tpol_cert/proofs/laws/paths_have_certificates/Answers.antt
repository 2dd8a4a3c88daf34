use Rattle.tpol_cert.proofs.Fitting.{paths_have_certificates}
use Rattle.tpol_cert.proofs.laws.paths_have_certificates.Goals as goal

pub returns : goal.returns
returns c = paths_have_certificates

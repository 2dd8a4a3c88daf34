use Rattle.std.proofs.Common.{sym, ◌∙◌}
use Rattle.tpol_trace_tests.proofs.openings.lead_to.Goals as goal

pub returns : goal.returns
returns c = λ h. sym c.run_facts.ensures.digest ∙ c.is_same.ensures h ∙ c.digest_of.ensures.digest

use Rattle.std.proofs.Common.{sym, ◌∙◌}
use Rattle.tpol_base.proofs.Digests.{same_digest}
use Rattle.std.proofs.lemmas.Slice.Eq.{bytes_eq-Decides}
use Rattle.tpol_trace_tests.proofs.openings.is_same.Goals as goal

pub returns : goal.returns
returns c = λ h.
    same_digest c.args.a.now c.args.b.now ((bytes_eq-Decides c.args.a.now.bytes c.args.b.now.bytes).0 (sym c.eq.ensures ∙ h))

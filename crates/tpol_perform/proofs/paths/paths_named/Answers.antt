use Rattle.std.proofs.Common.{subst, sym}
use Rattle.tpol_digest.specs.Limits.{AreWithinLimits}
use Rattle.tpol_digest.specs.Paths.{paths_of}
use Rattle.tpol_prepare.proofs.Walkable.{document_walkable}
use Rattle.tpol_perform.proofs.paths.paths_named.Goals as goal

pub all_paths-requires : goal.all_paths-requires
all_paths-requires c =
    let walkable = document_walkable c.args.scenario.now.approvals c.args.scenario.now.begun c.args.policy.now c.in-Some.document.now c.requires.begun (sym c.in-Some.ensures) in
    record { within = subst (λ l. AreWithinLimits (paths_of c.in-Some.document.now.closed l)) (sym c.documents.ensures) walkable.within }

use Rattle.std.proofs.Common.{◌≤◌, List, All, length, subst, sym}
use Rattle.tpol_perform.proofs.FewPaths.{few_named, short_named}
use Rattle.tpol_perform.proofs.performance.Performance.begin_blindly.Goals as goal
use Rattle.tpol_tree.specs.declared.path.Path.{Path}

pub begin_on_paths-requires-clause-few : goal.begin_on_paths-requires-clause-few
begin_on_paths-requires-clause-few c =
    subst (λ (paths : List Path). length paths ≤ 64) (sym c.in-Ok.ensures.paths) (few_named c.args.self.now.setup c.args.scenario.now c.args.policy.now c.requires.scenario c.requires.blind)

pub begin_on_paths-requires-clause-short : goal.begin_on_paths-requires-clause-short
begin_on_paths-requires-clause-short c =
    subst (All (λ (path : Path). length path.moves ≤ 512)) (sym c.in-Ok.ensures.paths) (short_named c.args.self.now.setup c.args.scenario.now c.args.policy.now c.requires.scenario)

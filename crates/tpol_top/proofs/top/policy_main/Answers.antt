use Rattle.std.proofs.Common.{Global, map}
use Rattle.std.specs.String.{string_bytes}
use Rattle.tpol_top.proofs.Explaining.{printed_explained}
use Rattle.tpol_top.proofs.SceneTold.{scene_told}
use Rattle.tpol_top.specs.Report.{report_of}
use Rattle.tpol_top.specs.Words.{request_of}
use Rattle.tpol_top.proofs.top.policy_main.Goals as goal

pub returns-clause-explained : goal.returns-clause-explained
returns-clause-explained g c =
    λ done.
    printed_explained (request_of (map (string_bytes {Z = Global}) c.args.words.now.items)) (g.S.Source.left c.args.source.now) (g.H.Shelf.documents c.args.shelf.now)
    (λ input all. (report_of (map (string_bytes {Z = Global}) c.args.words.now.items) input all).answer) (c.run_program.ensures.told done)

pub returns-clause-scene_told : goal.returns-clause-scene_told
returns-clause-scene_told g c =
    scene_told (request_of (map (string_bytes {Z = Global}) c.args.words.now.items)) (g.S.Source.left c.args.source.now) (g.H.Shelf.documents c.args.shelf.now)

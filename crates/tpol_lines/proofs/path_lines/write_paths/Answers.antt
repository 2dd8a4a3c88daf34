use Rattle.std.proofs.Common.{◌∙◌}
use Rattle.std.proofs.lemmas.Result.{IfOk-weaker}
use Rattle.tpol_digest.specs.Paths.{paths_of}
use Rattle.tpol_lines.proofs.TextLaws.{lines_of_paths}
use Rattle.tpol_lines.proofs.path_lines.write_paths.Goals as goal

pub returns : goal.returns
returns c =
    IfOk-weaker c.of_texts.result _ _ (λ lines e. e ∙ c.in_ok-write_ways.ensures ∙ lines_of_paths 1 (paths_of c.args.policy.now c.args.approvals.now)) c.of_texts.ensures

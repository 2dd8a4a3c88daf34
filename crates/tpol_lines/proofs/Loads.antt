-- How much is left to walk, for the end of the walk.
use Rattle.std.proofs.Common.{ℕ, ◌+◌, ◌*◌, List}
use Rattle.tpol_tree.specs.declared.path.ApprovedDoc.{ApprovedDoc}
use Rattle.tpol_digest.proofs.Shares.{share}
use Rattle.tpol_digest.proofs.Weights.{weight}
use Rattle.tpol_lines.specs.declared.path_lines.Ahead.{Ahead}
use Rattle.tpol_lines.specs.declared.path_lines.Ahead.TheVariants.{Nothing, After'}

-- what comes behind a branch or a document
abbrev pub load : List ApprovedDoc → Ahead → ℕ
load documents Nothing = 0
load documents (After' kind rest levels p ahead) =
    4 * (weight rest.now * share documents levels) + load documents ahead + 1

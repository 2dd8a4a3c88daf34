use Rattle.std.proofs.Common.{◌≡◌, ap, ◌∙◌}
use Rattle.std.proofs.Math.Seq.{take-length}
use Rattle.std.proofs.lemmas.List.Elements.{All-contains}
use Rattle.tpol_digest.specs.Digest.{digest_of_moves, policy_digest}
use Rattle.tpol_digest.specs.Paths.{paths_of}
use Rattle.tpol_digest.proofs.Meeting.{paths_of_meet}
use Rattle.std.specs.Prelude.{length}
use Rattle.tpol_tree.specs.declared.path.Path.{Path}
use Rattle.tpol_laws.proofs.Step.{path-digest, path-hashes}
use Rattle.tpol_laws.proofs.laws.session_digest_is_compiled.Goals as goal

pub returns : goal.returns
returns c = record {
  hashes = path-hashes;
  path = path-digest;
  compiled = λ run past acts session policy approvals is contains apart asks stands.
      path-digest run past acts session (length run.plan.path.moves) is apart asks stands
      ∙ ap digest_of_moves (take-length run.plan.path.moves)
      ∙ All-contains (λ (path : Path). digest_of_moves path.moves ≡ policy_digest policy) (paths_of policy approvals) run.plan.path (paths_of_meet policy approvals) contains;
}

use Rattle.std.proofs.Common.{sym, ◌∙◌}
use Rattle.tpol_base.specs.Digest.{digest_of_bytes}
use Rattle.tpol_base.proofs.Digests.{same_digest, digest_of_whole}
use Rattle.tpol_base.proofs.digest.Digest32.from_slice.Goals as goal

pub returns-clause-value : goal.returns-clause-value
returns-clause-value c = same_digest _ (digest_of_bytes c.args.bytes.now) (c.copy_from_slice.ensures.after ∙ sym (digest_of_whole c.args.bytes.now c.requires))

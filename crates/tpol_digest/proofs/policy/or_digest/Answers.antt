use Rattle.std.proofs.Common.{◌++◌, subst}
use Rattle.std.specs.Int.{to_be_bytes, w32}
use Rattle.tpol_base.specs.declared.command_code.CommandCode.TheVariants.{PolicyOr}
use Rattle.tpol_base.specs.CommandCode.{number_of_code}
use Rattle.tpol_hash.specs.Messages.{Holds}
use Rattle.tpol_digest.specs.Digest as spec
use Rattle.tpol_digest.proofs.Joined.{joined_more}
use Rattle.tpol_digest.proofs.policy.or_digest.Goals as goal

pub loop-digest-preserved : goal.loop-digest-preserved
loop-digest-preserved c =
    subst (Holds c.put.new.self)
    (joined_more (spec.zero_digest.bytes ++ to_be_bytes w32 (number_of_code PolicyOr)) c.args.digests.now c.loop-digest.digest-index c.digest-item.result c.loop-digest-test.true c.digest-item.is)
    (c.put.ensures.longer _ c.loop-digest.invariant)

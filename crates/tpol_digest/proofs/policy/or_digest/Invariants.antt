use Rattle.std.proofs.Common.{◌++◌, take}
use Rattle.std.specs.Int.{to_be_bytes, w32}
use Rattle.tpol_base.specs.declared.command_code.CommandCode.TheVariants.{PolicyOr}
use Rattle.tpol_base.specs.CommandCode.{number_of_code}
use Rattle.tpol_hash.specs.Messages.{Holds}
use Rattle.tpol_digest.specs.Update.{joined}
use Rattle.tpol_digest.specs.Digest as spec
use Rattle.tpol_digest.proofs.policy.or_digest.Given as goal

abbrev pub invariant-loop-digest : goal.invariant-loop-digest
invariant-loop-digest l =
    Holds l.hasher ((spec.zero_digest.bytes ++ to_be_bytes w32 (number_of_code PolicyOr)) ++ joined (take l.digest-index l.digests))

use Rattle.std.proofs.Common.{◌≡◌, map}
use Rattle.tpm_pcr.specs.Pcrs.{value_of}
use Rattle.tpol_base.specs.Pcr.{mask_of_pcrs}
use Rattle.tpm_world.proofs.ReadLemmas.{first_read}
use Rattle.tpm_world.proofs.commands.pcr_read.reply.Given as goal

-- of the PCRs below this one the first eight of those that are selected were read
abbrev pub invariant-loop-pcr : goal.invariant-loop-pcr
invariant-loop-pcr l = record {
  digests : l.digests ≡ map (value_of l.world.pcrs.values) (first_read l.mask l.pcr);
  read : l.read ≡ mask_of_pcrs (first_read l.mask l.pcr);
}

use Rattle.std.proofs.Common.{take}
use Rattle.tpol_hash.specs.Messages.{Holds}
use Rattle.tpm_pcr.proofs.Selections.{message_from}
use Rattle.tpm_pcr.proofs.pcrs.digest_of_selection.Given as goal

-- the hasher holds the selected values so far
abbrev pub invariant-loop-pcr : goal.invariant-loop-pcr
invariant-loop-pcr l = Holds l.hasher (message_from l.mask 0 (take l.pcr l.values))

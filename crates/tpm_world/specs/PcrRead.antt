-- PCR_Read (TPM 2.0 Part 3, TPM2_PCR_Read): the values of the first eight of the selected PCRs, with their
-- selection and the PCR update counter.
use Rattle.std.specs.Prelude.{ℕ, List, filter, map, take}
use Rattle.std.specs.List.{range_with_len}
use Rattle.tpol_base.specs.Pcr.{is_in_mask, mask_of_pcrs}
use Rattle.tpol_wire.specs.declared.reply.Reply.{Reply}
use Rattle.tpol_wire.specs.declared.reply.Reply.TheVariants.{PcrRead}
use Rattle.tpm_pcr.specs.Pcrs.{value_of}
use Rattle.tpm_world.specs.World.{WorldState}

-- the PCRs of a set, in rising order
unfoldable pub selected_pcrs : ℕ → List ℕ
selected_pcrs mask = filter (is_in_mask mask) (range_with_len 0 24)

-- those that are read
unfoldable pub read_pcrs : ℕ → List ℕ
read_pcrs mask = take 8 (selected_pcrs mask)

abbrev pub reply : WorldState → ℕ → Reply
reply world mask =
    PcrRead world.pcrs.counter (mask_of_pcrs (read_pcrs mask)) (map (value_of world.pcrs.values) (read_pcrs mask))

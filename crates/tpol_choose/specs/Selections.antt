-- The digest of the PCRs of a selection, as it is kept.
use Rattle.std.specs.Prelude.{◌≡◌}
use Rattle.tpm_pcr.specs.Pcrs.{selection_digest}
use Rattle.tpol_choose.specs.declared.client.Selected.{Selected}
use Rattle.tpol_name.specs.declared.sight.Sight.{Sight}

-- it is that of the PCRs as a sight shows them
abbrev pub IsSelected : Sight → Selected → Type 0
IsSelected sight selected = selected.digest ≡ selection_digest sight.pcrs selected.mask

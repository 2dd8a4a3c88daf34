-- The update that bytes in memory say.
use Rattle.tpol_digest.specs.declared.update_bytes.UpdateBytes.{UpdateBytes}
use Rattle.tpol_digest.specs.Update.{Update}

-- the update of these bytes
abbrev pub update_value : UpdateBytes → Update
update_value s = record { fresh = s.fresh; code = s.code; inner = s.inner; rest = s.rest; policy_ref = s.policy_ref }

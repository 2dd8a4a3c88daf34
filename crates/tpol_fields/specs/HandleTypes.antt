-- What a handle of a command may name (TPM 2.0 Part 2, "Interface Types").
use Rattle.std.specs.Prelude.{ℕ, Bool, ◌==◌, ◌||◌}
use Rattle.tpol_base.specs.Handle.{is_index, is_object, is_pcr, is_policy_session, rh_endorsement, rh_lockout, rh_null, rh_owner}
use Rattle.tpol_fields.specs.declared.handle_type.HandleType.{HandleType}
use Rattle.tpol_fields.specs.declared.handle_type.HandleType.TheVariants.{PolicySession, Object, Index, Entity, Authority, Pcr, Null, Parent}

abbrev pub is_of_type : HandleType → ℕ → Bool
is_of_type PolicySession handle = is_policy_session handle
is_of_type Object handle = is_object handle
is_of_type Index handle = is_index handle
is_of_type Entity handle = handle == rh_owner || handle == rh_lockout || handle == rh_endorsement || is_object handle || is_index handle
is_of_type Authority handle = handle == rh_owner || is_index handle
is_of_type Pcr handle = is_pcr handle
is_of_type Null handle = handle == rh_null
is_of_type Parent handle = handle == rh_null || is_object handle

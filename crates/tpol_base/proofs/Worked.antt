-- Worked values of the definitions, so that a wrong number in them does not check: codes as a TPM answers them,
-- names and numbers of commands, selections of PCRs.
use Rattle.std.proofs.Common.{◌≡◌, ◌+◌, true, false, codes, refl}
use Rattle.std.specs.Prelude.{Some, None, ◌∷◌, []}
use Rattle.tpol_base.specs.declared.command_code.CommandCode.TheVariants as commands
use Rattle.tpol_base.specs.declared.handle.HandleKind.TheVariants as kinds
use Rattle.tpol_base.specs.Attributes.{has_attribute, index_type, is_size_of_type, nv_written, object_sign}
use Rattle.tpol_base.specs.CommandCode.{code_of_number, command_name, find_name}
use Rattle.tpol_base.specs.Handle.{kind_of_handle, rh_endorsement}
use Rattle.tpol_base.specs.Pcr.{pcr_selection, pcrs_of_mask}
use Rattle.tpol_base.specs.ResponseCode.{of_handle, of_parameter, of_session, rc_attributes, rc_auth_fail, rc_expired, rc_policy_fail, rc_value, reference_of_handle}

-- ---- response codes

expired_parameter_4 : rc_expired + of_parameter 4 ≡ 0x4e3
expired_parameter_4 = refl

policy_fail_session_1 : rc_policy_fail + of_session 1 ≡ 0x99d
policy_fail_session_1 = refl

auth_fail_session_1 : rc_auth_fail + of_session 1 ≡ 0x98e
auth_fail_session_1 = refl

attributes_handle_2 : rc_attributes + of_handle 2 ≡ 0x282
attributes_handle_2 = refl

value_parameter_1 : rc_value + of_parameter 1 ≡ 0x1c4
value_parameter_1 = refl

reference_2 : reference_of_handle 2 ≡ 0x911
reference_2 = refl

-- ---- commands

command_176 : code_of_number 0x176 ≡ Some commands.StartAuthSession
unfolding code_of_number
command_176 = refl

command_17b : code_of_number 0x17b ≡ None
unfolding code_of_number
command_17b = refl

name_of_15e : command_name 0x15e ≡ Some (codes "Unseal")
unfolding find_name
name_of_15e = refl

-- ---- handles and attributes

endorsement_is_permanent : kind_of_handle rh_endorsement ≡ Some kinds.Permanent
endorsement_is_permanent = refl

key_may_sign : has_attribute 0x00040040 object_sign ≡ true
key_may_sign = refl

-- the index of the authPolicy of endorsement keys (TCG EK Credential Profile)
policy_index_is_written : has_attribute 0x220f1008 nv_written ≡ true
policy_index_is_written = refl

counter_of_8_bytes : is_size_of_type (index_type 0x00040014) 8 ≡ true
counter_of_8_bytes = refl

counter_of_32_bytes : is_size_of_type (index_type 0x00040014) 32 ≡ false
counter_of_32_bytes = refl

-- ---- PCRs 0, 7 and 16

selection_of_three : pcr_selection 0x010081 ≡ 0 ∷ 0 ∷ 0 ∷ 1 ∷ 0 ∷ 0x0b ∷ 3 ∷ 0x81 ∷ 0x00 ∷ 0x01 ∷ []
selection_of_three = refl

pcrs_of_three : pcrs_of_mask 0x010081 ≡ 0 ∷ 7 ∷ 16 ∷ []
unfolding pcrs_of_mask
pcrs_of_three = refl

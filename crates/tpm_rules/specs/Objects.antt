-- The rules of the commands on objects (TPM 2.0 Part 3, TPM2_Unseal, TPM2_HMAC, TPM2_Duplicate,
-- TPM2_VerifySignature, TPM2_PolicySigned), behind their authorization.
--   Unseal           1  an HMAC key, or restricted, decrypt or sign is set   TPM_RC_ATTRIBUTES, handle 1
--   HMAC             1  restricted is set                                    TPM_RC_ATTRIBUTES, handle 1
--                    2  no HMAC key that may sign                            TPM_RC_KEY, handle 1
--   Duplicate        1  fixedParent is set                                   TPM_RC_ATTRIBUTES, handle 1
--   VerifySignature  1  no HMAC key that may sign                            TPM_RC_ATTRIBUTES, handle 1
--                    2  the signature is wrong                               TPM_RC_SIGNATURE, parameter 2
--   PolicySigned     1  no HMAC key that may sign                            TPM_RC_ATTRIBUTES, handle 1
use Rattle.std.specs.Prelude.{ℕ, ◌+◌, ◌||◌, Bool, not, Option}
use Rattle.tpol_base.specs.Attributes.{has_attribute, object_decrypt, object_fixed_parent, object_restricted, object_sign}
use Rattle.tpol_base.specs.ResponseCode.{of_handle, of_parameter, rc_attributes, rc_key, rc_signature}
use Rattle.tpol_name.specs.declared.areas.ObjectPublic.{ObjectPublic}
use Rattle.tpol_name.specs.Areas.{is_hmac, is_signing_key}
use Rattle.tpm_rules.specs.Rule.{or_else, unless}

abbrev pub is_unsealable : ObjectPublic → Bool
is_unsealable public =
    not (is_hmac public.scheme || has_attribute public.attributes object_restricted
    || has_attribute public.attributes object_decrypt || has_attribute public.attributes object_sign)

abbrev pub unseal_rule : ObjectPublic → Option ℕ
unseal_rule public = unless (is_unsealable public) (rc_attributes + of_handle 1)

abbrev pub hmac_rule : ObjectPublic → Option ℕ
hmac_rule public =
    or_else (unless (not (has_attribute public.attributes object_restricted)) (rc_attributes + of_handle 1))
    (unless (is_signing_key public) (rc_key + of_handle 1))

abbrev pub duplicate_rule : ObjectPublic → Option ℕ
duplicate_rule public = unless (not (has_attribute public.attributes object_fixed_parent)) (rc_attributes + of_handle 1)

-- of VerifySignature and PolicySigned: that the object is an HMAC key that may sign
abbrev pub signing_key_rule : ObjectPublic → Option ℕ
signing_key_rule public = unless (is_signing_key public) (rc_attributes + of_handle 1)

-- `right` says whether the signature is right
abbrev pub verify_signature_rule : ObjectPublic → Bool → Option ℕ
verify_signature_rule public right =
    or_else (signing_key_rule public) (unless right (rc_signature + of_parameter 2))

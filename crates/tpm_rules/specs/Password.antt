-- Authorization by a password (TPM 2.0 Part 1, "Password Authorizations").
--   1  the entity's value may not authorize the command     TPM_RC_AUTH_UNAVAILABLE; Duplicate: TPM_RC_AUTH_TYPE
--   2  the value is wrong                                    TPM_RC_AUTH_FAIL, or TPM_RC_BAD_AUTH without
--                                                            protection against dictionary attacks, session 1
use Rattle.std.specs.Prelude.{ℕ, ◌+◌, List, Option, cond}
use Rattle.tpol_base.specs.ResponseCode.{of_session, rc_auth_fail, rc_auth_type, rc_auth_unavailable, rc_bad_auth}
use Rattle.tpm_auth.specs.Passwords.{is_password}
use Rattle.tpm_rules.specs.declared.outcome.Denial.{Denial}
use Rattle.tpm_rules.specs.declared.outcome.Denial.TheVariants.{Unavailable, Password}
use Rattle.tpm_rules.specs.Entity.{Entity, auth_value_of, is_da_protected, is_duplicate, is_password_available}
use Rattle.tpm_rules.specs.Rule.{or_else, unless}

-- why a password does not authorize the command
abbrev pub password_denial : Entity → ℕ → List ℕ → Option Denial
password_denial entity code given =
    or_else (unless (is_password_available entity code) Unavailable)
    (unless (is_password (auth_value_of entity) given) Password)

-- the code of each of the two denials
abbrev pub unavailable_password_code : ℕ → ℕ
unavailable_password_code code = cond (is_duplicate code) rc_auth_type rc_auth_unavailable

abbrev pub wrong_password_code : Entity → ℕ
wrong_password_code entity = cond (is_da_protected entity) rc_auth_fail rc_bad_auth + of_session 1

-- The deferred checks: what a TPM asks when a policy session authorizes a command, in its order (TPM 2.0
-- Part 1, "Policy Session Use").
--   1  PcrChanged     a PCR was extended since the first PolicyPCR             TPM_RC_PCR_CHANGED
--   2  PolicyFail     the policyDigest is not the entity's authPolicy          TPM_RC_POLICY_FAIL, session 1
--   3  Expired        a deadline has passed                                    TPM_RC_EXPIRED, session 1
--   4  CommandCode    the policy names another command                         TPM_RC_POLICY_CC, session 1
--   5  RoleNeedsCode  the role is DUP, and the policy names no command         TPM_RC_POLICY_FAIL, session 1
--   6  Locality       the client's locality is not in every set                TPM_RC_LOCALITY
--   7  Presence       physical presence is asked for and is off                TPM_RC_PP, session 1
--   8  Hashes         a cpHash or a nameHash is not the command's              TPM_RC_POLICY_FAIL, session 1
--   9  NvWritten      a state is asked for and the entity is no index with it  TPM_RC_POLICY_FAIL, session 1
--  10  AuthValue      the authorization value is not proved as it has to be    TPM_RC_AUTH_FAIL, session 1
use Rattle.std.specs.Prelude.{ℕ, ◌+◌, ◌&&◌, ◌||◌, Bool, not, List, Option, Some, None}
use Rattle.std.specs.Str.{bytes_eq}
use Rattle.tpol_base.specs.declared.check.Check.{Check}
use Rattle.tpol_base.specs.declared.check.Check.TheVariants.{PcrChanged, PolicyFail, Expired, CommandCode, RoleNeedsCode, Locality, Presence, Hashes, NvWritten, AuthValue}
use Rattle.tpol_base.specs.ResponseCode.{of_session, rc_auth_fail, rc_expired, rc_locality, rc_pcr_changed, rc_policy_cc, rc_policy_fail, rc_pp}
use Rattle.tpol_tree.specs.declared.facts.Fact.{Fact}
use Rattle.tpm_bindings.specs.declared.last_auth.LastAuth.{LastAuth}
use Rattle.tpm_bindings.specs.Facts.{allows_locality, asks_presence, every_code, every_cp_hash, every_name_hash, every_written, is_in_time, last_auth, sets_code, sets_written}
use Rattle.tpm_bindings.specs.State.{SessionState}
use Rattle.tpm_rules.specs.declared.checks.Use.{Use}
use Rattle.tpm_rules.specs.Rule.{or_else, unless}
use Rattle.tpm_rules.specs.Session.{is_counter_now, policy_digest_of}

-- whether the entity's state is what every PolicyNvWritten asks for
abbrev pub is_written_as_asked : List Fact → Option Bool → Bool
is_written_as_asked facts None = not (sets_written facts)
is_written_as_asked facts (Some written) = every_written facts written

-- the PCRs, the digest and the deadlines
abbrev pub broken_digest : SessionState → Use → List ℕ → Option Check
broken_digest session occasion auth_policy =
    or_else (unless (is_counter_now session.counter occasion.pcr_counter) PcrChanged)
    (or_else (unless (bytes_eq (policy_digest_of session).bytes auth_policy) PolicyFail)
    (unless (is_in_time session.facts occasion.time) Expired))

-- the command's code
abbrev pub broken_command : SessionState → Use → Option Check
broken_command session occasion =
    or_else (unless (every_code session.facts occasion.code) CommandCode)
    (unless (not occasion.duplicate_role || sets_code session.facts) RoleNeedsCode)

-- the client's locality and physical presence
abbrev pub broken_surroundings : SessionState → Use → Option Check
broken_surroundings session occasion =
    or_else (unless (allows_locality session.facts occasion.locality) Locality)
    (unless (not (asks_presence session.facts) || occasion.presence) Presence)

-- the hashes of parameters and of Names, and the state of the index
abbrev pub broken_hashes : SessionState → Use → Option Check
broken_hashes session occasion =
    or_else (unless (every_cp_hash session.facts occasion.cp_hash && every_name_hash session.facts occasion.name_hash) Hashes)
    (unless (is_written_as_asked session.facts occasion.written) NvWritten)

-- all checks but the last, of a use on an entity with this authPolicy
abbrev pub broken_before_auth : SessionState → Use → List ℕ → Option Check
broken_before_auth session occasion auth_policy =
    or_else (broken_digest session occasion auth_policy)
    (or_else (broken_command session occasion)
    (or_else (broken_surroundings session occasion)
    (broken_hashes session occasion)))

-- the first check that is broken; `right` says whether the value is proved, as the last PolicyAuthValue or
-- PolicyPassword asks for: the machine compares bytes, who plans compares keys
abbrev pub first_broken_check : SessionState → Use → List ℕ → (LastAuth → Bool) → Option Check
first_broken_check session occasion auth_policy right =
    or_else (broken_before_auth session occasion auth_policy) (unless (right (last_auth session.facts)) AuthValue)

-- the code of a check
abbrev pub code_of_check : Check → ℕ
code_of_check PcrChanged = rc_pcr_changed
code_of_check PolicyFail = rc_policy_fail + of_session 1
code_of_check Expired = rc_expired + of_session 1
code_of_check CommandCode = rc_policy_cc + of_session 1
code_of_check RoleNeedsCode = rc_policy_fail + of_session 1
code_of_check Locality = rc_locality
code_of_check Presence = rc_pp + of_session 1
code_of_check Hashes = rc_policy_fail + of_session 1
code_of_check NvWritten = rc_policy_fail + of_session 1
code_of_check AuthValue = rc_auth_fail + of_session 1

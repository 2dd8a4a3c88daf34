-- Response codes (TPM 2.0 Part 2, TPM_RC), named as there, and what is added to a code for the position of a
-- handle, a session or a parameter, each counted from 1.
use Rattle.std.specs.Prelude.{ℕ, ◌+◌, ◌-◌, ◌*◌}

-- success
abbrev pub rc_success : ℕ
rc_success = 0x000

-- ---- codes of a whole command

-- the tag is neither that of sessions nor that of none
abbrev pub rc_bad_tag : ℕ
rc_bad_tag = 0x01e

-- the authorization is of the wrong kind for the command
abbrev pub rc_auth_type : ℕ
rc_auth_type = 0x124

-- the command needs an authorization
abbrev pub rc_auth_missing : ℕ
rc_auth_missing = 0x125

-- a comparison of the policy does not hold
abbrev pub rc_policy : ℕ
rc_policy = 0x126

-- a check of PCRs failed
abbrev pub rc_pcr : ℕ
rc_pcr = 0x127

-- a PCR changed after PolicyPCR
abbrev pub rc_pcr_changed : ℕ
rc_pcr_changed = 0x128

-- this kind of authorization is not available for the entity
abbrev pub rc_auth_unavailable : ℕ
rc_auth_unavailable = 0x12f

-- the size of the buffer is wrong
abbrev pub rc_command_size : ℕ
rc_command_size = 0x142

-- no command has this code, or the policy allows another one
abbrev pub rc_command_code : ℕ
rc_command_code = 0x143

-- the size of the authorization is wrong
abbrev pub rc_authsize : ℕ
rc_authsize = 0x144

-- the command takes no authorization
abbrev pub rc_auth_context : ℕ
rc_auth_context = 0x145

-- an access past the end of an index, or a count past the last number
abbrev pub rc_nv_range : ℕ
rc_nv_range = 0x146

-- the entity does not authorize this access to the index
abbrev pub rc_nv_authorization : ℕ
rc_nv_authorization = 0x149

-- the index was never written
abbrev pub rc_nv_uninitialized : ℕ
rc_nv_uninitialized = 0x14a

-- the session already holds another digest of parameters, Names or a template
abbrev pub rc_cphash : ℕ
rc_cphash = 0x151

-- ---- codes that the position of a handle, a session or a parameter is added to

-- an attribute that does not fit
abbrev pub rc_attributes : ℕ
rc_attributes = 0x082

-- a hash algorithm that does not fit
abbrev pub rc_hash : ℕ
rc_hash = 0x083

-- a value out of its range, or that does not fit
abbrev pub rc_value : ℕ
rc_value = 0x084

-- a handle that does not fit
abbrev pub rc_handle : ℕ
rc_handle = 0x08b

-- a value out of the range that is allowed
abbrev pub rc_range : ℕ
rc_range = 0x08d

-- the authorization is wrong, and dictionary attacks count
abbrev pub rc_auth_fail : ℕ
rc_auth_fail = 0x08e

-- a nonce that does not fit
abbrev pub rc_nonce : ℕ
rc_nonce = 0x08f

-- physical presence is wanted
abbrev pub rc_pp : ℕ
rc_pp = 0x090

-- a length or a count out of its bounds, or bytes left over
abbrev pub rc_size : ℕ
rc_size = 0x095

-- too few bytes
abbrev pub rc_insufficient : ℕ
rc_insufficient = 0x09a

-- a signature that does not verify
abbrev pub rc_signature : ℕ
rc_signature = 0x09b

-- a key that does not fit
abbrev pub rc_key : ℕ
rc_key = 0x09c

-- a policy check failed
abbrev pub rc_policy_fail : ℕ
rc_policy_fail = 0x09d

-- an integrity check failed
abbrev pub rc_integrity : ℕ
rc_integrity = 0x09f

-- a ticket that does not verify
abbrev pub rc_ticket : ℕ
rc_ticket = 0x0a0

-- the authorization is wrong, and dictionary attacks do not count
abbrev pub rc_bad_auth : ℕ
rc_bad_auth = 0x0a2

-- a deadline has passed
abbrev pub rc_expired : ℕ
rc_expired = 0x0a3

-- the policy allows another command
abbrev pub rc_policy_cc : ℕ
rc_policy_cc = 0x0a4

-- ---- warnings

-- no room for a session, or for what a session holds
abbrev pub rc_session_memory : ℕ
rc_session_memory = 0x903

-- the locality is not one that the policy allows
abbrev pub rc_locality : ℕ
rc_locality = 0x907

-- the first handle refers to an object or a session that is not there; the codes of the further handles follow
abbrev pub rc_reference_h0 : ℕ
rc_reference_h0 = 0x910

-- the authorizing session is not there
abbrev pub rc_reference_s0 : ℕ
rc_reference_s0 = 0x918

-- ---- positions

abbrev pub of_handle : ℕ → ℕ
of_handle n = 0x100 * n

-- the code where handle n refers to an object or a session that is not there
abbrev pub reference_of_handle : ℕ → ℕ
reference_of_handle n = rc_reference_h0 + (n - 1)

abbrev pub of_session : ℕ → ℕ
of_session n = 0x800 + 0x100 * n

abbrev pub of_parameter : ℕ → ℕ
of_parameter n = 0x040 + 0x100 * n

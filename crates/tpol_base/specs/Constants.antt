-- Numbers of algorithms, of types of sessions and of tags (TPM 2.0 Part 2, TPM_ALG_ID, TPM_SE and TPM_ST).
use Rattle.std.specs.Prelude.{ℕ}

-- the algorithm HMAC
abbrev pub alg_hmac : ℕ
alg_hmac = 0x0005

-- the type of objects that are a secret or an HMAC key
abbrev pub alg_keyedhash : ℕ
alg_keyedhash = 0x0008

-- the algorithm SHA-256
abbrev pub alg_sha256 : ℕ
alg_sha256 = 0x000b

-- the null algorithm
abbrev pub alg_null : ℕ
alg_null = 0x0010

-- the type of a policy session
abbrev pub se_policy : ℕ
se_policy = 0x01

-- the tag of a refusal of a tag, that of TPM 1.2
abbrev pub st_rsp_command : ℕ
st_rsp_command = 0x00c4

-- the tag of a command without an authorization, and of the reply to it
abbrev pub st_no_sessions : ℕ
st_no_sessions = 0x8001

-- the tag of a command with an authorization, and of the reply to it
abbrev pub st_sessions : ℕ
st_sessions = 0x8002

-- the tag of VerifySignature's ticket
abbrev pub st_verified : ℕ
st_verified = 0x8022

-- the tag of PolicySecret's ticket
abbrev pub st_auth_secret : ℕ
st_auth_secret = 0x8023

-- the tag of PolicySigned's ticket
abbrev pub st_auth_signed : ℕ
st_auth_signed = 0x8025

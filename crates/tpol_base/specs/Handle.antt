-- Handles (TPM 2.0 Part 2, TPM_RH and TPM_HT): some that are always there, and the kinds of handles.
use Rattle.std.specs.Prelude.{ℕ, Bool, ◌/◌, ◌^◌, ◌==◌, nat_lt, Option, Some, None, if◌then◌else◌}
use Rattle.tpol_base.specs.declared.handle.HandleKind.{HandleKind}
use Rattle.tpol_base.specs.declared.handle.HandleKind.TheVariants.{Pcr, Index, PolicySession, Permanent, Object}

-- the owner hierarchy
abbrev pub rh_owner : ℕ
rh_owner = 0x40000001

-- the null hierarchy
abbrev pub rh_null : ℕ
rh_null = 0x40000007

-- the handle that stands for a password where a session is wanted
abbrev pub rs_pw : ℕ
rs_pw = 0x40000009

-- the lockout authorization
abbrev pub rh_lockout : ℕ
rh_lockout = 0x4000000a

-- the endorsement hierarchy
abbrev pub rh_endorsement : ℕ
rh_endorsement = 0x4000000b

-- the first byte of a handle
abbrev pub range_of_handle : ℕ → ℕ
range_of_handle handle = handle / 2 ^ 24

-- a PCR, of which there are 24
abbrev pub is_pcr : ℕ → Bool
is_pcr handle = nat_lt handle 24

-- an NV index
abbrev pub is_index : ℕ → Bool
is_index handle = range_of_handle handle == 0x01

-- a policy session
abbrev pub is_policy_session : ℕ → Bool
is_policy_session handle = range_of_handle handle == 0x03

-- a hierarchy, or another handle that is always there
abbrev pub is_permanent : ℕ → Bool
is_permanent handle = range_of_handle handle == 0x40

-- a loaded object
abbrev pub is_object : ℕ → Bool
is_object handle = range_of_handle handle == 0x80

-- what a handle stands for
abbrev pub kind_of_handle : ℕ → Option HandleKind
kind_of_handle handle =
    if is_pcr handle then Some Pcr else (
    if is_index handle then Some Index else (
    if is_policy_session handle then Some PolicySession else (
    if is_permanent handle then Some Permanent else (
    if is_object handle then Some Object else None))))

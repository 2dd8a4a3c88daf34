-- What a handle that is authorized stands for, and how it may be authorized (TPM 2.0 Part 1, "Authorizations
-- and Acknowledgments"; Part 2, TPMA_OBJECT and TPMA_NV).
use Rattle.std.specs.Prelude.{ℕ, ◌==◌, ◌||◌, Bool, true, false, not, List, [], Option, Some, None, cond}
use Rattle.tpol_base.specs.Attributes.{has_attribute, nv_authread, nv_authwrite, nv_no_da, nv_policyread, nv_policywrite, object_no_da, object_user_with_auth}
use Rattle.tpol_base.specs.CommandCode.{number_of_code}
use Rattle.tpol_base.specs.declared.command_code.CommandCode.TheVariants.{Duplicate, NvIncrement, NvWrite}
use Rattle.tpol_base.specs.Handle.{rh_lockout}
use Rattle.tpol_name.specs.Areas.{is_written}
use Rattle.tpol_name.specs.declared.entries.IndexEntry.{IndexEntry}
use Rattle.tpol_name.specs.declared.entries.ObjectEntry.{ObjectEntry}

pub data Entity : Type 0 where
  -- a hierarchy: its handle and its authorization value
  Hierarchy : ℕ → List ℕ → Entity
  -- a PCR, whose authorization value is empty
  Pcr : Entity
  Object : ObjectEntry → Entity
  Index : IndexEntry → Entity

-- the commands that write an index: NV_Write and NV_Increment
abbrev pub is_nv_writing : ℕ → Bool
is_nv_writing code = code == number_of_code NvWrite || code == number_of_code NvIncrement

-- the command that needs the role DUP: Duplicate
abbrev pub is_duplicate : ℕ → Bool
is_duplicate code = code == number_of_code Duplicate

abbrev pub auth_value_of : Entity → List ℕ
auth_value_of (Hierarchy handle auth) = auth
auth_value_of Pcr = []
auth_value_of (Object object) = object.auth
auth_value_of (Index index) = index.auth

-- the authPolicy; hierarchies and PCRs have none
abbrev pub auth_policy_of : Entity → List ℕ
auth_policy_of (Hierarchy handle auth) = []
auth_policy_of Pcr = []
auth_policy_of (Object object) = object.public.auth_policy
auth_policy_of (Index index) = index.public.auth_policy

-- whether its value may authorize the command of this code
abbrev pub is_password_available : Entity → ℕ → Bool
is_password_available (Hierarchy handle auth) code = true
is_password_available Pcr code = true
is_password_available (Object object) code =
    cond (is_duplicate code) false (has_attribute object.public.attributes object_user_with_auth)
is_password_available (Index index) code =
    has_attribute index.public.attributes (cond (is_nv_writing code) nv_authwrite nv_authread)

-- whether a policy session may authorize the command of this code
abbrev pub is_policy_available : Entity → ℕ → Bool
is_policy_available (Hierarchy handle auth) code = false
is_policy_available Pcr code = false
is_policy_available (Object object) code = true
is_policy_available (Index index) code =
    has_attribute index.public.attributes (cond (is_nv_writing code) nv_policywrite nv_policyread)

-- whether a wrong value counts as a dictionary attack
abbrev pub is_da_protected : Entity → Bool
is_da_protected (Hierarchy handle auth) = handle == rh_lockout
is_da_protected Pcr = false
is_da_protected (Object object) = not (has_attribute object.public.attributes object_no_da)
is_da_protected (Index index) = not (has_attribute index.public.attributes nv_no_da)

-- whether an index was written; of what is no index there is nothing to say
abbrev pub written_state : Entity → Option Bool
written_state (Index index) = Some (is_written index.public.attributes)
written_state _ = None

-- Who may use an index (TPM 2.0 Part 3, the NV commands): the index itself, or the owner where an attribute of
-- the index lets him.
use Rattle.std.specs.Prelude.{ℕ, ◌==◌, ◌||◌, ◌&&◌, Bool, Option, cond}
use Rattle.tpol_base.specs.Attributes.{has_attribute, nv_ownerread, nv_ownerwrite}
use Rattle.tpol_base.specs.Handle.{rh_owner}
use Rattle.tpol_base.specs.ResponseCode.{rc_nv_authorization}
use Rattle.tpol_name.specs.declared.areas.NvPublic.{NvPublic}
use Rattle.tpm_rules.specs.Entity.{is_nv_writing}
use Rattle.tpm_rules.specs.Rule.{unless}

-- whether the authorized handle may use the index in the command of this code
abbrev pub has_authority : ℕ → NvPublic → ℕ → Bool
has_authority handle public code =
    handle == public.index
    || (handle == rh_owner && has_attribute public.attributes (cond (is_nv_writing code) nv_ownerwrite nv_ownerread))

abbrev pub nv_authority_rule : ℕ → NvPublic → ℕ → Option ℕ
nv_authority_rule handle public code = unless (has_authority handle public code) rc_nv_authorization

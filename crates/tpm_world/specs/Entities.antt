-- What a handle stands for, and the Name that it has now (TPM 2.0 Part 1, "Names"). Policy sessions are none
-- of the world's: of them the Name alone is told, which is the handle's four bytes.
use Rattle.std.specs.Prelude.{ℕ, ◌+◌, ◌==◌, Option, Some, None, option_map, if◌then◌else◌}
use Rattle.std.specs.Option.{is_some}
use Rattle.tpol_base.specs.declared.handle.HandleKind.{HandleKind}
use Rattle.tpol_base.specs.declared.handle.HandleKind.TheVariants as kinds
use Rattle.tpol_base.specs.declared.name.Name.{Name}
use Rattle.tpol_base.specs.declared.name.Name.TheVariants as names
use Rattle.tpol_base.specs.Handle.{kind_of_handle, rh_endorsement, rh_lockout, rh_owner}
use Rattle.tpol_base.specs.ResponseCode.{of_handle, rc_handle, reference_of_handle}
use Rattle.tpol_name.specs.Areas.{index_name, object_name}
use Rattle.tpm_nv.specs.Indices.{index_of}
use Rattle.tpm_rules.specs.Entity.{Entity, Hierarchy, Pcr, Object, Index}
use Rattle.tpm_rules.specs.Rule.{unless}
use Rattle.tpm_world.specs.Objects.{object_of}
use Rattle.tpm_world.specs.World.{WorldState}

-- a hierarchy with its value: owner, endorsement, lockout
abbrev pub hierarchy_at : WorldState → ℕ → Option Entity
hierarchy_at world handle =
    if handle == rh_owner then Some (Hierarchy handle world.owner) else (
    if handle == rh_endorsement then Some (Hierarchy handle world.endorsement) else (
    if handle == rh_lockout then Some (Hierarchy handle world.lockout) else None))

-- what a handle of this kind stands for
abbrev pub entity_of_kind : WorldState → ℕ → Option HandleKind → Option Entity
entity_of_kind world handle (Some kinds.Pcr) = Some Pcr
entity_of_kind world handle (Some kinds.Index) = option_map Index (index_of handle world.indices)
entity_of_kind world handle (Some kinds.Object) = option_map Object (object_of handle world.objects)
entity_of_kind world handle (Some kinds.Permanent) = hierarchy_at world handle
entity_of_kind world handle _ = None

-- what may be authorized by this handle
abbrev pub entity_at : WorldState → ℕ → Option Entity
entity_at world handle = entity_of_kind world handle (kind_of_handle handle)

-- the Name of what has this handle
abbrev pub name_of_entity : ℕ → Option Entity → Name
name_of_entity handle (Some (Object object)) = object_name object.public
name_of_entity handle (Some (Index index)) = index_name index.public
name_of_entity handle _ = names.Handle handle

-- the Name of an object, of an index as it is now, and else the handle
abbrev pub name_at : WorldState → ℕ → Name
name_at world handle = name_of_entity handle (entity_at world handle)

-- that handle n of a command is an index or an object that is there: TPM_RC_HANDLE, handle n, and
-- TPM_RC_REFERENCE_H0 and on; hierarchies, PCRs and the null hierarchy always are, and sessions are not asked
-- for here
abbrev pub handle_rule_of_kind : WorldState → ℕ → ℕ → Option HandleKind → Option ℕ
handle_rule_of_kind world n handle (Some kinds.Index) = unless (is_some (index_of handle world.indices)) (rc_handle + of_handle n)
handle_rule_of_kind world n handle (Some kinds.Object) = unless (is_some (object_of handle world.objects)) (reference_of_handle n)
handle_rule_of_kind world n handle _ = None

abbrev pub handle_rule : WorldState → ℕ → ℕ → Option ℕ
handle_rule world n handle = handle_rule_of_kind world n handle (kind_of_handle handle)

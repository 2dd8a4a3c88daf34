-- The rules of NV_Read, NV_Write and NV_Increment (TPM 2.0 Part 3): the code of the first that is broken.
use Rattle.std.specs.Prelude.{ℕ, ◌+◌, ◌-◌, ◌^◌, ◌==◌, ◌&&◌, not, nat_lt, Option, Some, None, if◌then◌else◌}
use Rattle.tpol_base.specs.Attributes.{has_attribute, index_type, nt_counter, nt_ordinary, nv_writeall}
use Rattle.tpol_base.specs.ResponseCode.{of_handle, of_parameter, rc_attributes, rc_nv_range, rc_nv_uninitialized, rc_value}
use Rattle.tpol_name.specs.declared.entries.IndexEntry.{IndexEntry}
use Rattle.tpol_name.specs.Areas.{is_written}

-- so many bytes from the offset on are read
abbrev pub read_rule : IndexEntry → ℕ → ℕ → Option ℕ
read_rule entry offset size =
    if not (is_written entry.public.attributes) then Some rc_nv_uninitialized else (
    if nat_lt entry.public.size offset then Some (rc_value + of_parameter 2) else (
    if nat_lt entry.public.size (offset + size) then Some rc_nv_range else None))

-- so many bytes are written from the offset on; with WRITEALL they are all of the content
abbrev pub write_rule : IndexEntry → ℕ → ℕ → Option ℕ
write_rule entry offset count =
    if not (index_type entry.public.attributes == nt_ordinary) then Some (rc_attributes + of_handle 2) else (
    if nat_lt entry.public.size offset then Some (rc_value + of_parameter 2) else (
    if nat_lt entry.public.size (offset + count) then Some rc_nv_range else (
    if has_attribute entry.public.attributes nv_writeall && nat_lt count entry.public.size then Some rc_nv_range else None)))

-- a counter goes on from this count
abbrev pub increment_rule : IndexEntry → ℕ → Option ℕ
increment_rule entry count =
    if not (index_type entry.public.attributes == nt_counter) then Some (rc_attributes + of_handle 2) else (
    if count == 2 ^ 64 - 1 then Some rc_nv_range else None)

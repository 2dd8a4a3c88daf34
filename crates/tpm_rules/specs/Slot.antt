-- The one slot of a policy session for the digest of parameters or of Names (TPM 2.0 Part 3,
-- TPM2_PolicyCpHash and TPM2_PolicyNameHash): it takes a digest where it is empty, or holds the same one of
-- the same kind.
use Rattle.std.specs.Prelude.{◌||◌, ◌&&◌, Bool, true, not, List, Option, Some, None}
use Rattle.tpol_base.specs.declared.digest.Digest32.{Digest32}
use Rattle.tpol_tree.specs.declared.facts.Fact.{Fact}
use Rattle.tpm_bindings.specs.Facts.{every_cp_hash, every_name_hash, sets_cp_hash, sets_name_hash}

-- whether the slot takes a cpHash, which PolicySecret, PolicySigned and PolicyTicket may leave out
abbrev pub takes_cp_hash : List Fact → Digest32 → Bool
takes_cp_hash facts digest = not (sets_name_hash facts) && every_cp_hash facts digest

abbrev pub takes_optional_cp_hash : List Fact → Option Digest32 → Bool
takes_optional_cp_hash facts None = true
takes_optional_cp_hash facts (Some digest) = takes_cp_hash facts digest

-- whether the slot takes a nameHash
abbrev pub takes_name_hash : List Fact → Digest32 → Bool
takes_name_hash facts digest = not (sets_cp_hash facts) && every_name_hash facts digest

-- whether the slot is set, with any kind and value
abbrev pub is_slot_set : List Fact → Bool
is_slot_set facts = sets_cp_hash facts || sets_name_hash facts

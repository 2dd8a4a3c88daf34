-- What a writer of messages adds.
use Rattle.std.specs.Prelude.{◌+◌, ℕ, List, [], ◌++◌, length, true, Option, Some, None}
use Rattle.std.specs.Int.{w16, w32, to_be_bytes}
use Rattle.std.specs.List.{flat_map}
use Rattle.tpol_wire.specs.declared.auth_area.AuthArea.{AuthArea}
use Rattle.tpol_wire.specs.Authorizations.{authorization}

-- an authorization, where there is one
abbrev pub spell_optional_area : Option AuthArea → List ℕ
spell_optional_area None = []
spell_optional_area (Some area) = authorization true area

-- handles, one after the other
abbrev pub spell_handles : List ℕ → List ℕ
spell_handles handles = flat_map (to_be_bytes w32) handles

-- tag, size, code and what stands behind
abbrev pub message_bytes : ℕ → ℕ → List ℕ → List ℕ
message_bytes tag code body = to_be_bytes w16 tag ++ to_be_bytes w32 (10 + length body) ++ to_be_bytes w32 code ++ body

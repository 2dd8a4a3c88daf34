-- The slots of a table: one for each handle of a policy session, in order.
use Rattle.std.specs.Prelude.{◌≡◌, List, length, Option}
use Rattle.tpm_session.specs.Slots.{slot_count}

-- what holds of them
abbrev pub IsTable : {A : Type 0} → List (Option A) → Type 0
IsTable slots = length slots ≡ slot_count

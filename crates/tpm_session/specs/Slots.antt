-- Slots of policy sessions: a list of what each slot has, if anything. Slot k is that of the handle
-- 0x0300_0000 + k (TPM 2.0 Part 2, TPM_HT_POLICY_SESSION).
use Rattle.std.specs.Prelude.{ℕ, zero, suc, ◌+◌, ◌-◌, ◌*◌, ◌<◌, ◌≤◌, ◌==◌, ◌&&◌, Bool, not, List, [], ◌∷◌, Option, Some, None, is_some, nat_le, slice_index_or, slice_set, if◌then◌else◌}
use Rattle.std.specs.Int.{bit_at}
use Rattle.std.specs.Option.{option_map, option_or}
use Rattle.tpm_bindings.specs.State.{SessionState}
use Rattle.tpm_session.specs.Kept.{SessionView}

-- the handle of the first slot
abbrev pub first_handle : ℕ
first_handle = 0x03000000

-- the number of slots
abbrev pub slot_count : ℕ
slot_count = 64

-- the handle of a slot
abbrev pub handle_of_slot : ℕ → ℕ
handle_of_slot slot = first_handle + slot

-- the handle is that of a slot
abbrev pub IsSlotHandle : ℕ → Type 0
IsSlotHandle handle = (first_handle ≤ handle) × (handle < first_handle + slot_count)

-- what a slot has
abbrev pub in_slot : {A : Type 0} → List (Option A) → ℕ → Option A
in_slot slots slot = slice_index_or slots slot None

-- what the slot of a handle has
abbrev pub content_at : {A : Type 0} → List (Option A) → ℕ → Option A
content_at slots handle = if nat_le first_handle handle then in_slot slots (handle - first_handle) else None

-- the slots with this content in the slot of a handle
abbrev pub with_content : {A : Type 0} → List (Option A) → ℕ → Option A → List (Option A)
with_content slots handle content =
    if nat_le first_handle handle then slice_set slots (handle - first_handle) content else slots

-- the bit of a slot: 1 where it has something
abbrev pub bit_of : {A : Type 0} → Option A → ℕ
bit_of None = 0
bit_of (Some content) = 1

-- the number whose bit k is that of slot k
abbrev pub bits_of : {A : Type 0} → List (Option A) → ℕ
bits_of [] = 0
bits_of (content ∷ rest) = bit_of content + 2 * bits_of rest

-- the state of the live session with this handle
abbrev pub state_at : List (Option SessionState) → ℕ → Option SessionState
state_at slots handle = content_at slots handle

-- the slots with this state, or none, in the slot of a handle
abbrev pub with_state : List (Option SessionState) → ℕ → Option SessionState → List (Option SessionState)
with_state slots handle content = with_content slots handle content

-- whether a handle is live
abbrev pub is_live : List (Option SessionState) → ℕ → Bool
is_live slots handle = is_some (state_at slots handle)

-- a session of this handle
abbrev pub session_of : ℕ → SessionState → SessionView
session_of handle state = record { handle = handle; state = state }

-- the live session with this handle
abbrev pub session_at : List (Option SessionState) → ℕ → Option SessionView
session_at slots handle = option_map (session_of handle) (state_at slots handle)

-- the slots with what a change makes of the session with this handle
abbrev pub changed_at : List (Option SessionState) → ℕ → (SessionState → SessionState) → List (Option SessionState)
changed_at slots handle change = with_state slots handle (option_map change (state_at slots handle))

-- whether a slot is neither live nor among those that are passed over, bit k for slot k
abbrev pub is_free : List (Option SessionState) → ℕ → ℕ → Bool
is_free slots taken slot = not (is_some (in_slot slots slot)) && (bit_at taken slot == 0)

-- the least number below n that passes a test
unfoldable pub least_below : (ℕ → Bool) → ℕ → Option ℕ
least_below test zero = None
least_below test (suc n) = option_or (least_below test n) (if test n then Some n else None)

-- how many numbers below n pass a test
unfoldable pub count_below : (ℕ → Bool) → ℕ → ℕ
count_below test zero = 0
count_below test (suc n) = count_below test n + (if test n then 1 else 0)

-- the least slot that is free for a new session
abbrev pub first_free : List (Option SessionState) → ℕ → Option ℕ
first_free slots taken = least_below (is_free slots taken) slot_count

-- how many slots are free
abbrev pub free_count : List (Option SessionState) → ℕ → ℕ
free_count slots taken = count_below (is_free slots taken) slot_count

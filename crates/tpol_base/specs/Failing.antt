-- Objects of the outside that fail at the calls of a list, counted from 1.
use Rattle.std.specs.Prelude.{◌≡◌, ℕ, List, ◌+◌, ◌-◌, ◌^◌, min, Bool, nat_eq}
use Rattle.std.specs.List.{list_any}
use Rattle.tpol_base.specs.declared.failing.Failing.{Failing}

-- what stands below
abbrev pub inner : {T : Type 0} → Failing T → T
inner object = object.inner

-- the calls that fail
abbrev pub failing_calls : {T : Type 0} → Failing T → List ℕ
failing_calls object = object.failing.items

-- how many calls were made
abbrev pub calls_made : {T : Type 0} → Failing T → ℕ
calls_made object = object.calls

-- how many of them failed here, and not below
abbrev pub own_faults : {T : Type 0} → Failing T → ℕ
own_faults object = object.faults

-- the number of the next call, which stops at the last value of a 64-bit counter
abbrev pub next_call : {T : Type 0} → Failing T → ℕ
next_call object = min (calls_made object + 1) (2 ^ 64 - 1)

-- whether the next call is one of those that fail
abbrev pub fails_next : {T : Type 0} → Failing T → Bool
fails_next object = list_any (λ call. nat_eq call (next_call object)) (failing_calls object)

-- a call is counted, and the list stays
pub record IsCounted {T : Type 0} (old new : Failing T) : Type 0 where
  pub calls : calls_made new ≡ next_call old
  pub list : failing_calls new ≡ failing_calls old

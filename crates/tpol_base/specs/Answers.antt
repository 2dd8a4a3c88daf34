-- What a call answers that reads a value and may also run out of memory. What it reads is a `Result`, a
-- value or its fault; of memory no definition says anything.
use Rattle.std.specs.Prelude.{◌≡◌, Option, Some, None, Result, Ok, Err, ⊤}

-- a step after another, as long as there is no fault
infixl 10 ◌>>=◌
abbrev pub ◌>>=◌ : {A B E : Type 0} → Result A E → (A → Result B E) → Result B E
(Ok x) >>= next = next x
(Err fault) >>= next = Err fault

-- a call that failed tells the fault of what is read; without a fault memory ran out
abbrev pub FailsWith : {A E : Type 0} → Option E → Result A E → Type 0
FailsWith None reading = ⊤
FailsWith (Some fault) reading = reading ≡ Err fault

-- a call answers what is read, unless memory ran out: `view` is what the definition sees of its value, and
-- `cause` the fault that its error tells, none for memory
abbrev pub Gives : {X A F E : Type 0} → (X → A) → (F → Option E) → Result X F → Result A E → Type 0
Gives view cause (Ok x) reading = reading ≡ Ok (view x)
Gives view cause (Err fault) reading = FailsWith (cause fault) reading

-- the refusal is this fault; without a fault memory ran out
abbrev pub IsRefusal : {E : Type 0} → Option E → Option E → Type 0
IsRefusal None refusal = ⊤
IsRefusal (Some fault) refusal = refusal ≡ Some fault

-- a call that judges refuses with this fault, and with none it gives a value, unless memory ran out
abbrev pub RefusesBy : {X F E : Type 0} → (F → Option E) → Result X F → Option E → Type 0
RefusesBy cause (Ok x) refusal = refusal ≡ None
RefusesBy cause (Err fault) refusal = IsRefusal (cause fault) refusal

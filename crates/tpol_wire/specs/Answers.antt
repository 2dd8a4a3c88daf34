-- What the calls of this crate answer. A reading gives a value or the code that refuses it (TPM 2.0 Part 2, TPM_RC).
use Rattle.std.specs.Prelude.{◌≡◌, ℕ, List, Option, Some, None, Result, Ok, Err, IsErr}
use Rattle.std.specs.Borrow.{Bor}
use Rattle.tpol_base.specs.Answers.{Gives as GivesBy, RefusesBy as RefusesWith}
use Rattle.tpol_fields.specs.Answers.{code_of_fault}
use Rattle.tpol_fields.specs.declared.fault.WireFault.{WireFault}
use Rattle.tpol_wire.specs.declared.fault.ReplyFault.{ReplyFault}
use Rattle.tpol_wire.specs.declared.fault.ReplyFault.TheVariants as replies

-- a reading whose refusals all have one code
abbrev pub with_code : {A : Type 0} → ℕ → Result A ℕ → Result A ℕ
with_code code (Ok x) = Ok x
with_code code (Err other) = Err code

-- A call that only says whether there is a value finds what is read.
abbrev pub Finds : {X A : Type 0} → (X → A) → Option X → Result A ℕ → Type 0
Finds view None reading = IsErr reading
Finds view (Some x) reading = reading ≡ Ok (view x)

-- The same at the front of what is left.
abbrev pub FindsFront : {X A : Type 0} → (X → A) → Option X → Result (A × List ℕ) ℕ → List ℕ → Type 0
FindsFront view result reading left = Finds (λ x. (view x, left)) result reading

-- The same of bytes that are lent.
abbrev pub FindsSlice : Option (Bor (List ℕ)) → Result (List ℕ × List ℕ) ℕ → List ℕ → Type 0
FindsSlice result reading left = Finds (λ x. (x.now, left)) result reading

-- A call that judges a value answers what its judging gives.
abbrev pub Judges : {A : Type 0} → Result (Unit {0}) WireFault → Result A ℕ → A → Type 0
Judges result reading value = GivesBy (λ x. value) code_of_fault result reading

-- A call refuses with this code, and with none it gives a value, unless memory ran out.
abbrev pub RefusesBy : {A : Type 0} → Result A WireFault → Option ℕ → Type 0
RefusesBy result refusal = RefusesWith code_of_fault result refusal

-- A call answers the reply that is read, and `Malformed` exactly where none is, unless memory ran out.
abbrev pub GivesReply : {A : Type 0} → Result A ReplyFault → Option A → Type 0
GivesReply (Ok x) reading = reading ≡ Some x
GivesReply (Err replies.Malformed) reading = reading ≡ None
GivesReply (Err replies.NoMemory) reading = Unit {0}

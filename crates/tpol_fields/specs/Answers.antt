-- What the readers of fields answer: a value or the code that refuses it (TPM 2.0 Part 2, TPM_RC).
use Rattle.std.specs.Prelude.{◌≡◌, ℕ, List, Option, Some, None, Result, Ok, Err}
use Rattle.std.specs.Borrow.{Bor}
use Rattle.tpol_base.specs.Answers.{◌>>=◌, FailsWith, Gives as GivesBy}
use Rattle.tpol_base.specs.declared.rc.Rc.{Rc}
use Rattle.tpol_fields.specs.declared.fault.WireFault.{WireFault}
use Rattle.tpol_fields.specs.declared.fault.WireFault.TheVariants.{Refused, NoMemory}

-- the code that a fault tells, none for memory
abbrev pub code_of_fault : WireFault → Option ℕ
code_of_fault (Refused rc) = Some rc.code
code_of_fault NoMemory = None

-- An error of a call is the refusal of what is read, unless memory ran out.
abbrev pub Fails : {A : Type 0} → WireFault → Result A ℕ → Type 0
Fails fault reading = FailsWith (code_of_fault fault) reading

-- A call answers what is read, unless memory ran out.
abbrev pub Gives : {A : Type 0} → Result A WireFault → Result A ℕ → Type 0
Gives result reading = GivesBy (λ x. x) code_of_fault result reading

-- The same of a call that reads the front of what is left.
abbrev pub Reads : {A : Type 0} → Result A WireFault → Result (A × List ℕ) ℕ → List ℕ → Type 0
Reads result reading left = GivesBy (λ x. (x, left)) code_of_fault result reading

-- The same of a call whose value stands for what is read.
abbrev pub ReadsAs : {X A : Type 0} → (X → A) → Result X WireFault → Result (A × List ℕ) ℕ → List ℕ → Type 0
ReadsAs view result reading left = GivesBy (λ x. (view x, left)) code_of_fault result reading

-- The same of a call that leaves the last of the fields to be read.
abbrev pub ReadsBefore : {X A B : Type 0} → (X → B → A) → (List ℕ → Result (B × List ℕ) ℕ) → Result X WireFault → Result (A × List ℕ) ℕ → List ℕ → Type 0
ReadsBefore join last (Ok x) reading left = reading ≡ (last left >>= λ y. Ok (join x y.0, y.1))
ReadsBefore join last (Err fault) reading left = Fails fault reading

-- The same of a call that takes no memory: what is read, or the code that refuses it, and nothing else.
abbrev pub ReadsInPlace : {A : Type 0} → Result A Rc → Result (A × List ℕ) ℕ → List ℕ → Type 0
ReadsInPlace result reading left = GivesBy (λ x. (x, left)) (λ rc. Some rc.code) result reading

-- The same of a call that lends the bytes that it takes.
abbrev pub LendsInPlace : Result (Bor (List ℕ)) Rc → Result (List ℕ × List ℕ) ℕ → List ℕ → Type 0
LendsInPlace result reading left = GivesBy (λ x. (x.now, left)) (λ rc. Some rc.code) result reading

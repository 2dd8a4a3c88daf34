-- A command goes from step to step: each gives a value, or ends the run with an answer.
use Rattle.std.specs.Prelude.{◌≡◌, ◌≤◌, ◌⊎◌, ⊤, ℕ, Bool, false, IsTrue, Result, Ok, Err, IsErrOf}
use Rattle.tpol_base.specs.Causes.{Rose}
use Rattle.tpol_steps.specs.declared.halt.Halt.{Halt}
use Rattle.tpol_steps.specs.declared.halt.Halt.TheVariants.{Refused, ReadFailed, ShelfFailed, NoMemory}
use Rattle.tpol_steps.specs.declared.answer.Answer.{Answer}

abbrev pub Step : Type 0 → Type 0
Step A = Result A Answer

infixl 10 ◌>>=◌
abbrev pub ◌>>=◌ : {A B : Type 0} → Step A → (A → Step B) → Step B
Ok x >>= next = next x
Err answer >>= next = Err answer

-- the answer of the last step, or of the one that ended the run
abbrev pub answer_of : Step Answer → Answer
answer_of (Ok answer) = answer
answer_of (Err answer) = answer

-- a call that did not give a value tells the step's answer, unless the outside failed or memory ran out
abbrev pub Halts : {A : Type 0} → Halt → Step A → Type 0
Halts (Refused answer) step = step ≡ Err answer
Halts ReadFailed step = ⊤
Halts ShelfFailed step = ⊤
Halts NoMemory step = ⊤

-- a call answers as the step does, where `view` is what the definition sees of its value
abbrev pub Answers : {A B : Type 0} → (A → B) → Step B → Result A Halt → Type 0
Answers view step (Ok x) = step ≡ Ok (view x)
Answers view step (Err halt) = Halts halt step

-- the answer that a run came to, of its last step or of one that ended it, has P
abbrev pub IfAnswered : Result Answer Halt → (Answer → Type 0) → Type 0
IfAnswered (Ok answer) P = P answer
IfAnswered (Err (Refused answer)) P = P answer
IfAnswered (Err ReadFailed) P = ⊤
IfAnswered (Err ShelfFailed) P = ⊤
IfAnswered (Err NoMemory) P = ⊤

-- a call that does not ask the outside does not tell that it failed
pub record IsInside {T : Type 0} (result : Result T Halt) : Type 0 where
  pub unread : IsErrOf result ReadFailed → ⊥
  pub unasked : IsErrOf result ShelfFailed → ⊥

-- what a call does with the shelf, which it may use or not, and which it asks only where it has come so far
pub record AsksShelf {S T : Type 0} (may : Bool) (HasCome : Type 0) (old new : S) (before now : ℕ) (result : Result T Halt) : Type 0 where
  pub untouched : may ≡ false → new ≡ old
  pub asked : (new ≡ old) ⊎ HasCome
  pub later : before ≤ now
  pub failed : IsErrOf result ShelfFailed → Rose before now
  pub stays : IsErrOf result ShelfFailed ⊎ (now ≡ before)
  pub named : IsErrOf result ShelfFailed → IsTrue may
  pub unread : IsErrOf result ReadFailed → ⊥

-- A reading that goes on from what came before it: the notes so far, and how many elements may still come.
use Rattle.std.specs.Prelude.{Result, Ok, Err}
use Rattle.tpol_base.specs.Answers as answers
use Rattle.tpol_json.specs.declared.fault.Fault.{Fault}
use Rattle.tpol_json.specs.Reading.{cause}
use Rattle.tpol_members.specs.declared.fault.PolicyKind.{PolicyKind}
use Rattle.tpol_members.specs.declared.walk.Walk.{Walk}
use Rattle.tpol_members.specs.Faults.{Found}

abbrev pub Reading : Type 0 → Type 0
Reading A = Walk → Found (A × Walk)

-- a reading that leaves no note and counts nothing
abbrev pub still : {A : Type 0} → Found A → Reading A
still (Ok x) walk = Ok (x, walk)
still (Err fault) walk = Err fault

-- A call gives, seen by `view`, what the reading is, and leaves the walk as the reading does, unless memory
-- runs out.
abbrev pub LeavesAs : {A B : Type 0} → (A → B) → Result A (Fault PolicyKind) → Walk → Found (B × Walk) → Type 0
LeavesAs view result walk = answers.Gives (λ x. (view x, walk)) cause result

-- the same, seen as it is
abbrev pub Leaves : {A : Type 0} → Result A (Fault PolicyKind) → Walk → Found (A × Walk) → Type 0
Leaves = LeavesAs (λ x. x)

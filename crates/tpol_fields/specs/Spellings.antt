-- What a writer adds.
use Rattle.std.specs.Prelude.{◌≡◌, ℕ, List, ◌++◌, Result, OnOk}
use Rattle.tpol_base.specs.declared.no_memory.NoMemory.{NoMemory}

-- unless memory runs out, these bytes were added at the end
abbrev pub Appends : Result (Unit {0}) NoMemory → List ℕ → List ℕ → List ℕ → Type 0
Appends result old new bytes = OnOk result (new ≡ old ++ bytes)

use Rattle.std.proofs.Common.{ap, ◌∙◌, ◌≡◌, Result, Ok, Err, IfOk}
use Rattle.tpol_base.specs.declared.no_memory.NoMemory.{NoMemory}
use Rattle.tpol_name.specs.declared.sight.Sight.{Sight}
use Rattle.tpm_engine.specs.Sights.{sight_after}
use Rattle.tpm_engine.proofs.Machines.{machine-sight}
use Rattle.tpm_engine.proofs.machine.Machine.sight.Goals as goal

pub returns-clause-view : goal.returns-clause-view
returns-clause-view c =
    told c.sight.result c.sight.ensures.sight
    (machine-sight c.self.inside.setup c.self.inside.journal.events c.self.inside.tables c.self.invariant
    ∙ ap (λ m. sight_after m.setup m.events) c.self.view_is)
  where
    told : (result : Result Sight NoMemory) {a b : Sight} → IfOk result (λ sight. sight ≡ a) → a ≡ b → IfOk result (λ sight. sight ≡ b)
    told (Ok sight) is same = is ∙ same
    told (Err fault) is same = tt

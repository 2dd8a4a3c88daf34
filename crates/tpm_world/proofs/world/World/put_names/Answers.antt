use Rattle.std.proofs.Common.{◌∙◌, ◌++◌, subst}
use Rattle.tpol_hash.specs.Messages.{Holds}
use Rattle.tpol_wire.specs.Handles.{handles_of}
use Rattle.tpm_world.proofs.NameLemmas.{names_all}
use Rattle.tpm_world.proofs.world.World.put_names.Goals as goal

pub returns : goal.returns
returns c =
    let items = c.as_slice-handle-items in
    let all = names_all c.args.self.now items.result.now (handles_of c.args.command.now) c.loop-handle.handle-index c.loop-handle-test.false
    (items.ensures.handles ∙ c.handles-handles.ensures.handles) in
    record { longer = λ m held. subst (λ names. Holds c.loop-handle.hasher (m ++ names)) all (c.loop-handle.invariant m held) }

use Rattle.tpm_world.proofs.WorldLemmas.{found_content}
use Rattle.tpm_world.proofs.world.World.index.Goals as goal

pub returns-clause-content : goal.returns-clause-content
returns-clause-content c =
    found_content c.args.handle c.self.inside.indices c.find.result c.self.invariant.world.entities.each_index c.find.ensures.found

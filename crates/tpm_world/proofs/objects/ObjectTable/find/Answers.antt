use Rattle.std.proofs.Common.{◌∙◌, ap}
use Rattle.tpm_world.specs.Objects.{object_of}
use Rattle.tpm_world.proofs.ObjectLemmas.{lookup_object}
use Rattle.tpm_world.proofs.objects.ObjectTable.find.Goals as goal

pub returns : goal.returns
returns c = record {
  found = c.get.ensures.value ∙ lookup_object c.args.handle c.self.inside.objects.entries c.self.invariant ∙ ap (object_of c.args.handle) c.self.view_is;
}

use Rattle.std.proofs.Common.{◌≡◌, ◌∙◌, is_some, slice_get, ap, subst}
use Rattle.std.specs.Prelude.{IfSome}
use Rattle.std.specs.Map.{values_of}
use Rattle.tpm_world.specs.Objects.{object_of}
use Rattle.tpm_world.proofs.ObjectLemmas.{lookup_object}
use Rattle.tpm_world.proofs.objects.ObjectTable.place_of.Goals as goal

pub returns : goal.returns
returns c =
    let entries = c.self.inside.objects.entries in
    let same = lookup_object c.args.handle entries c.self.invariant in
    let found = c.get_index_of.result in
    let at_place = subst (λ object. IfSome found (λ place. slice_get (values_of entries) place ≡ object)) same c.get_index_of.ensures.value in
    record {
      found = c.get_index_of.ensures.found ∙ ap is_some (same ∙ ap (object_of c.args.handle) c.self.view_is);
      object = subst (λ objects. IfSome found (λ place. slice_get objects place ≡ object_of c.args.handle objects)) c.self.view_is at_place;
    }

use Rattle.std.proofs.Common.{◌≡◌, ◌++◌, map, take}
use Rattle.tpol_name.specs.Directories.{line_of_object}
use Rattle.tpol_name.proofs.listing.list_objects.Given as goal

abbrev pub invariant-loop-object : goal.invariant-loop-object
invariant-loop-object l = l.lines ≡ l.initial.lines ++ map line_of_object (take l.object-index l.objects)

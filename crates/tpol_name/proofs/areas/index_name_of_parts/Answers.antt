use Rattle.std.proofs.Common.{ap}
use Rattle.tpol_base.specs.declared.name.Name.TheVariants.{Hash}
use Rattle.tpol_name.proofs.areas.index_name_of_parts.Goals as goal

-- the pieces that were put, in order, are the area
pub returns : goal.returns
returns c =
    let held = c.put-4.ensures.longer _
    (c.put_sized.ensures.longer _
    (c.put-3.ensures.longer _
    (c.put-2.ensures.longer _ (c.put.ensures.longer _ c.new-hasher.ensures.empty)))) in
    record {
      name = rw (c.to_be_bytes.ensures, c.to_be_bytes-2.ensures, c.to_be_bytes-3.ensures, c.to_be_bytes-4.ensures) at (ap Hash (c.done.ensures.digest _ held));
    }

use Rattle.tpol_laws.proofs.Generated.{not-refused, two-for-each}
use Rattle.tpol_laws.proofs.laws.gen_has_all_ways.Goals as goal

pub returns : goal.returns
returns c = record { answered = not-refused; ways = two-for-each }

use Rattle.tpol_adopt.proofs.Numbers.{index_numbers, locality_numbers, object_numbers}
use Rattle.tpol_adopt.proofs.laws.flags_are_numbers.Goals as goal

pub returns-clause-index : goal.returns-clause-index
returns-clause-index c = index_numbers

pub returns-clause-object : goal.returns-clause-object
returns-clause-object c = object_numbers

pub returns-clause-locality : goal.returns-clause-locality
returns-clause-locality c = locality_numbers

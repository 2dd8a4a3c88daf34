use Rattle.tpol_wire.proofs.WireRuleLaws.{read-exactly, refused-exactly}
use Rattle.tpol_wire.proofs.laws.first_rule_broken.Goals as goal

pub returns-clause-refused : goal.returns-clause-refused
returns-clause-refused c = λ bytes code. refused-exactly bytes code

pub returns-clause-unbroken : goal.returns-clause-unbroken
returns-clause-unbroken c = λ bytes. read-exactly bytes

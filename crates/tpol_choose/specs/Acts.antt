-- A move that is lent.
use Rattle.tpol_choose.specs.declared.act.Act.{Act}
use Rattle.tpol_choose.specs.declared.act.Act.TheVariants as acts
use Rattle.tpol_tree.specs.declared.path.Move.{Move}
use Rattle.tpol_tree.specs.declared.path.Move.TheVariants.{Assert, Or, Approve, ApproveNv}

abbrev pub move_of : Act → Move
move_of (acts.Assert step) = Assert step.assertion.now
move_of (acts.Or or) = Or or.digests.now
move_of (acts.Approve key policy_ref approved signature) = Approve key.now policy_ref.now approved signature
move_of (acts.ApproveNv index approved) = ApproveNv index.now approved

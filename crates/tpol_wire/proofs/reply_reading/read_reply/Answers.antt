use Rattle.std.proofs.Common.{arith, subst}
use Rattle.tpol_wire.specs.Answers.{GivesReply}
use Rattle.tpol_wire.proofs.ReplyLaws.{given_reply, reply_read}
use Rattle.tpol_wire.proofs.reply_reading.read_reply.Goals as goal

pub returns-clause-found : goal.returns-clause-found
returns-clause-found c = given_reply c.args.code c.args.bytes.now c.whole.result (λ i. omega (arith, c.type_inv.bytes i)) c.whole.ensures

pub returns-clause-only : goal.returns-clause-only
returns-clause-only c = λ reply auth spelled. subst (λ r. GivesReply c.whole.result r) (reply_read c.args.code c.args.bytes.now reply auth spelled) c.whole.ensures

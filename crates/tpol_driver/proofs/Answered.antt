-- A reply that is read has a whole ticket where it has a deadline.
use Rattle.std.proofs.Common.{◌≡◌, ◌==◌, ◌&&◌, Bool, true, false, IsTrue, length, Option, Some, None, arith}
use Rattle.tpol_driver.specs.Answers.{HasWholeTicket}
use Rattle.tpol_driver.specs.declared.answer.Answer.TheVariants.{Done}
use Rattle.tpol_fields.specs.Kinds.{Fits}
use Rattle.tpol_fields.specs.declared.ticket.Ticket.{Ticket}
use Rattle.tpol_wire.specs.declared.auth_area.ReplyAuth.{ReplyAuth}
use Rattle.tpol_wire.specs.declared.reply.Reply.{Reply}
use Rattle.tpol_wire.specs.declared.reply.Reply.TheVariants as replies
use Rattle.tpol_wire.specs.Commands.{ValuesFit}
use Rattle.tpol_wire.specs.Replies.{FitsReply}

whole : (first second : Bool) (ticket : Ticket) → IsTrue (first && (second && length ticket.digest == 32)) → length ticket.digest ≡ 32
whole true true ticket fits = grind arith
whole true false ticket fits = absurd cc
whole false second ticket fits = absurd cc

pub whole_ticket : (reply : Reply) (auth : Option ReplyAuth) → FitsReply reply auth → HasWholeTicket (Done reply auth)
unfolding Fits ValuesFit
whole_ticket (replies.PolicySecret (Some deadline) ticket) auth fits = whole _ _ ticket fits.0.0.2
whole_ticket (replies.PolicySecret None ticket) auth fits = tt
whole_ticket (replies.PolicySigned (Some deadline) ticket) auth fits = whole _ _ ticket fits.0.0.2
whole_ticket (replies.PolicySigned None ticket) auth fits = tt
whole_ticket reply auth fits = tt

-- What a reply says of the command that was sent.
use Rattle.std.specs.Prelude.{◌≡◌, length, Option, Some, None}
use Rattle.tpol_wire.specs.declared.auth_area.ReplyAuth.{ReplyAuth}
use Rattle.tpol_wire.specs.declared.reply.Reply.{Reply}
use Rattle.tpol_wire.specs.declared.reply.Reply.TheVariants as replies
use Rattle.tpol_driver.specs.declared.answer.Answer.{Answer}
use Rattle.tpol_driver.specs.declared.answer.Answer.TheVariants.{Done, Denied, Malformed}

-- a refusal apart from the other replies
abbrev pub answer_of_reply : Reply → Option ReplyAuth → Answer
answer_of_reply (replies.Refused rc) auth = Denied rc
answer_of_reply reply auth = Done reply auth

-- what is read as no reply is malformed
abbrev pub answer_of : Option (Reply × Option ReplyAuth) → Answer
answer_of None = Malformed
answer_of (Some found) = answer_of_reply found.0 found.1

-- a ticket with a deadline has a digest of 32 bytes
abbrev pub HasWholeTicket : Answer → Type 0
HasWholeTicket (Done (replies.PolicySecret (Some deadline) ticket) auth) = length ticket.digest ≡ 32
HasWholeTicket (Done (replies.PolicySigned (Some deadline) ticket) auth) = length ticket.digest ≡ 32
HasWholeTicket answer = Unit {0}

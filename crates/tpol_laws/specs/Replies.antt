-- What a reply is read as, where it is no reply to the command that was sent, or a refusal.
use Rattle.std.specs.Prelude.{◌≡◌, ℕ, List, Option, Some, None, option_map}
use Rattle.tpol_base.specs.declared.rc.Rc.{Rc}
use Rattle.tpol_driver.specs.declared.plan.Plan.{Plan}
use Rattle.tpol_driver.specs.Driving.{Standing, code_sent, sends}
use Rattle.tpol_wire.specs.declared.reply.Reply.{Reply}
use Rattle.tpol_wire.specs.declared.reply.Reply.TheVariants.{Refused}
use Rattle.tpol_wire.specs.ReplyReading.{reply_reading}

-- the reply that bytes are to what is sent from here
abbrev pub reply_heard : Plan → Standing → List ℕ → Option Reply
reply_heard plan at bytes = option_map (λ read. read.0) (reply_reading (code_sent (sends plan at)) bytes)

abbrev pub IsNoReply : Plan → Standing → List ℕ → Type 0
IsNoReply plan at bytes = reply_heard plan at bytes ≡ None

abbrev pub IsRefusal : Plan → Standing → List ℕ → Rc → Type 0
IsRefusal plan at bytes rc = reply_heard plan at bytes ≡ Some (Refused rc)

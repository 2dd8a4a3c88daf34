use Rattle.std.proofs.Common.{sym, ap, ◌∙◌}
use Rattle.std.specs.Result.{result_err}
use Rattle.tpol_fields.proofs.Takes.{ok_is}
use Rattle.tpol_wire.proofs.CommandLaws.{command_read}
use Rattle.tpol_wire.proofs.ReplyLaws.{reply_read, some_is}
use Rattle.tpol_wire.proofs.WireRuleLaws.{reading-refused}
use Rattle.tpol_wire.proofs.laws.one_spelling.Goals as goal

pub returns-clause-one_text : goal.returns-clause-one_text
returns-clause-one_text c = λ a b command p q. p.whole ∙ sym q.whole

pub returns-clause-one_command : goal.returns-clause-one_command
returns-clause-one_command c = λ bytes a b p q. ok_is a b (sym (command_read bytes a p) ∙ command_read bytes b q)

pub returns-clause-unbroken : goal.returns-clause-unbroken
returns-clause-unbroken c = λ bytes command p. sym (reading-refused bytes) ∙ ap result_err (command_read bytes command p)

pub returns-clause-one_reply_text : goal.returns-clause-one_reply_text
returns-clause-one_reply_text c = λ code other a b reply auth p q. p.whole ∙ sym q.whole

pub returns-clause-one_reply : goal.returns-clause-one_reply
returns-clause-one_reply c = λ code bytes reply other auth area p q.
    let same = some_is (reply, auth) (other, area) (sym (reply_read code bytes reply auth p) ∙ reply_read code bytes other area q) in
    (ap (λ x. x.0) same, ap (λ x. x.1) same)

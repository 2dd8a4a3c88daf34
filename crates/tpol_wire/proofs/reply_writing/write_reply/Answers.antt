use Rattle.std.proofs.Common.{◌≡◌, option_copied}
use Rattle.tpol_wire.specs.Replies.{parts_of, spell_reply}
use Rattle.tpol_wire.proofs.ReplyWriting.{served_written}
use Rattle.tpol_wire.proofs.reply_writing.write_reply.Goals as goal

is_spelled : (c : goal.After-finish) → c.finish.result ≡ spell_reply c.args.reply.now (option_copied c.args.auth)
is_spelled c = served_written (parts_of c.args.reply.now) (option_copied c.args.auth) c.in-Ok.command c.tag_of.result c.in_ok-message.message c.body.new.out c.finish.result
    c.in-Ok.ensures c.tag_of.ensures c.in_ok-message.ensures c.in_ok-body-in-Ok.ensures c.finish.ensures

pub returns-in_ok-body-in-Ok-clause-spelling : goal.returns-in_ok-body-in-Ok-clause-spelling
returns-in_ok-body-in-Ok-clause-spelling c = is_spelled c

pub returns-in_ok-body-in-Ok-clause-spells : goal.returns-in_ok-body-in-Ok-clause-spells
returns-in_ok-body-in-Ok-clause-spells c = λ code fits answers. record { whole = is_spelled c; fits = fits; answers = answers }

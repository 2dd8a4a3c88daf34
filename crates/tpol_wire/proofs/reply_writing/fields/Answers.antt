use Rattle.std.proofs.Common.{rules, ◌≡◌, ◌++◌, [], sym, subst, append-nil}
use Rattle.tpol_wire.specs.Commands.{spell_values}
use Rattle.tpol_wire.specs.Replies.{reply_fields_of}
use Rattle.tpol_wire.proofs.reply_writing.fields.Goals as goal

pub returns-in_default : goal.returns-in_default
unfolding spell_values
returns-in_default c =
    let e : spell_values [] tt ≡ reply_fields_of c.args.reply.now = search rules in
    subst (λ bytes. c.args.out.now ≡ c.args.out.now ++ bytes) e (sym (append-nil c.args.out.now))

use Rattle.std.proofs.Common.{◌∷◌, ◌∙◌, ap, map, reverse, rules}
use Rattle.tpm_engine.specs.declared.event.Event.TheVariants as events
use Rattle.tpm_engine.specs.Journals.{event_kept}
use Rattle.tpm_engine.proofs.Kept.{all-kept, begin, command-pushed, pushed-within, unchanged}
use Rattle.tpm_engine.proofs.journal.Journal.push_command.Goals as goal

pub returns-in_err-reply-clause-err : goal.returns-in_err-reply-clause-err
returns-in_err-reply-clause-err c =
    let commands = c.self.inside.commands in
    let replies = c.self.inside.replies in
    let kept = c.self.inside.entries.items in
    let same =
    all-kept commands replies c.keep.new.self c.keep-2.new.self
    (begin commands c.keep.new.self c.args.buffer.now c.in_ok-buffer.ensures.texts) (unchanged replies c.keep-2.new.self c.in_err-reply.ensures.err)
    kept c.self.invariant in
    search (rules, ap (λ l. reverse (map (event_kept c.keep.new.self c.keep-2.new.self) l)) c.in_ok-reserve.ensures.items ∙ ap reverse same ∙ ap (λ j. j.events) c.self.view_is)

pub invariant_of-self-2 : goal.invariant_of-self-2
invariant_of-self-2 c =
    let commands = c.self.inside.commands in
    let replies = c.self.inside.replies in
    pushed-within commands replies c.keep.new.self c.keep-2.new.self
    (begin commands c.keep.new.self c.args.buffer.now c.in_ok-buffer.ensures.texts) (begin replies c.keep-2.new.self c.args.reply.now c.in_ok-reply.ensures.texts)
    c.self.inside.entries.items c.push_reserved.new.self.items c.self.invariant c.args.client c.args.locality c.args.outcome c.in_ok-buffer.buffer c.in_ok-reply.reply
    c.args.buffer.now c.args.reply.now c.in_ok-buffer.ensures.kept c.in_ok-reply.ensures.kept
    (search rules)

pub returns-clause-ok : goal.returns-clause-ok
returns-clause-ok c =
    let commands = c.self.inside.commands in
    let replies = c.self.inside.replies in
    command-pushed commands replies c.keep.new.self c.keep-2.new.self
    (begin commands c.keep.new.self c.args.buffer.now c.in_ok-buffer.ensures.texts) (begin replies c.keep-2.new.self c.args.reply.now c.in_ok-reply.ensures.texts)
    c.self.inside.entries.items c.push_reserved.new.self.items c.self.invariant c.args.client c.args.locality c.args.outcome c.in_ok-buffer.buffer c.in_ok-reply.reply
    c.args.buffer.now c.args.reply.now c.in_ok-buffer.ensures.kept c.in_ok-reply.ensures.kept
    (search rules)
    ∙ ap (λ j. events.Command c.args.client c.args.locality c.args.buffer.now c.args.reply.now c.args.outcome ∷ j.events) c.self.view_is

use Rattle.std.proofs.Common.{refl}
use Rattle.tpm_engine.proofs.Serving.{ready-response}
use Rattle.tpm_engine.proofs.tables.Tables.prepare_success.Goals as goal

-- src/respond.rt
pub returns : goal.returns
returns c = record {
  response =
      ready-response c.args.self.now c.args.number c.args.command.now _
      (record { closing = c.in_ok-reply.closing; facts = c.in_ok-reply.facts }) refl
      (record {
        fits = c.requires.fits;
        session = c.requires.session;
        room = c.requires.room;
        rule = c.requires.rule;
        closing = c.in_ok-reply.ensures.closing;
        facts = c.in_ok-reply.ensures.facts;
      })
      c.in_ok-reply.ensures.reply c.success_of.ensures;
}

use Rattle.std.proofs.Common.{sym, ◌∙◌}
use Rattle.tpm_engine.proofs.Answering.{first-response, none-response}
use Rattle.tpm_engine.proofs.Serving.{are-kept}
use Rattle.tpm_engine.proofs.tables.Tables.prepare_for.Goals as goal

-- src/respond.rt
pub prepare_success-requires-clause-session : goal.prepare_success-requires-clause-session
prepare_success-requires-clause-session c =
    (are-kept c.args.self.now c.args.locality c.args.command.now (sym c.in_ok-first_stop.ensures ∙ c.in-None.is)).session

-- src/respond.rt
pub prepare_success-requires-clause-room : goal.prepare_success-requires-clause-room
prepare_success-requires-clause-room c =
    (are-kept c.args.self.now c.args.locality c.args.command.now (sym c.in_ok-first_stop.ensures ∙ c.in-None.is)).room

-- src/respond.rt
pub prepare_success-requires-clause-rule : goal.prepare_success-requires-clause-rule
prepare_success-requires-clause-rule c =
    (are-kept c.args.self.now c.args.locality c.args.command.now (sym c.in_ok-first_stop.ensures ∙ c.in-None.is)).own

-- src/respond.rt
pub returns-in-None : goal.returns-in-None
returns-in-None c = record {
  response =
      none-response c.args.self.now c.args.number c.args.locality c.args.command.now c.prepare_success.result
      (sym c.in_ok-first_stop.ensures ∙ c.in-None.is) c.prepare_success.ensures.response;
}

-- src/respond.rt
pub returns-in-Some : goal.returns-in-Some
returns-in-Some c = record {
  response =
      first-response c.args.self.now c.args.number c.args.locality c.args.command.now c.stopped.result c.in-Some.stop
      (sym c.in_ok-first_stop.ensures ∙ c.in-Some.is)
      (record { reply = c.stopped.ensures.reply; outcome = c.stopped.ensures.outcome; nothing = c.stopped.ensures.nothing });
}

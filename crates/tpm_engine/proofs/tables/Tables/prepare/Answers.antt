use Rattle.std.proofs.Common.{ℕ, List, Result, IfOk, rules, subst, sym}
use Rattle.tpol_fields.specs.declared.fault.WireFault.{WireFault}
use Rattle.tpol_fields.specs.Answers.{Gives}
use Rattle.tpol_wire.specs.declared.command.Command.{Command}
use Rattle.tpol_wire.specs.Reading.{reading}
use Rattle.tpm_engine.specs.declared.stop.Stop.{Stop}
use Rattle.tpm_engine.specs.Responses.{IsAnswer}
use Rattle.tpm_engine.proofs.Answering.{IsStopped, ok-answers, refusal-answer}
use Rattle.tpm_engine.proofs.tables.Tables.prepare.Goals as goal

-- src/respond.rt
pub returns-in-Ok : goal.returns-in-Ok
returns-in-Ok c = record {
  answer =
      λ (buffer : List ℕ) given.
      subst (λ (read : Result Command WireFault). IfOk c.prepare_for.result (IsAnswer c.args.self.now c.args.number c.args.locality buffer read)) (sym c.in-Ok.is)
      (ok-answers c.args.self.now c.args.number c.args.locality buffer c.in-Ok.command c.prepare_for.result
      (subst (λ (read : Result Command WireFault). Gives read (reading buffer)) c.in-Ok.is given) c.prepare_for.ensures.response);
}

-- src/respond.rt
pub returns-in-Err-Refused : goal.returns-in-Err-Refused
returns-in-Err-Refused c = record {
  answer =
      λ (buffer : List ℕ) given.
      let how = subst (λ (stop : Stop). IsStopped stop c.stopped.result) c.refuses.ensures
      (record { reply = c.stopped.ensures.reply; outcome = c.stopped.ensures.outcome; nothing = c.stopped.ensures.nothing }) in
      subst (λ (read : Result Command WireFault). IfOk c.stopped.result (IsAnswer c.args.self.now c.args.number c.args.locality buffer read)) (sym c.in-Err-Refused.is)
      (refusal-answer c.args.self.now c.args.number c.args.locality buffer _ c.in-Err-Refused.rc.code c.stopped.result
      (search rules) how);
}

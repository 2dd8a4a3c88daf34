use Rattle.tpm_engine.specs.Legal.{answer_to}
use Rattle.tpol_perform.proofs.Timeless.{one_event_more, same_setup, same_time}
use Rattle.tpol_perform.proofs.performance.Performance.command.Goals as goal

pub returns-in-Ok-clause-few : goal.returns-in-Ok-clause-few
returns-in-Ok-clause-few c =
    one_event_more c.args.client c.args.locality c.args.buffer.now (answer_to c.args.self.now.setup c.args.self.now.past c.args.locality c.args.buffer.now)
    c.args.self.now _ c.tell_opening.new.self c.in_ok-executed.ensures.told c.in-Ok.ensures.past

pub returns-in-Ok-clause-setup : goal.returns-in-Ok-clause-setup
returns-in-Ok-clause-setup c =
    same_setup c.args.client c.args.locality c.args.buffer.now (answer_to c.args.self.now.setup c.args.self.now.past c.args.locality c.args.buffer.now)
    c.args.self.now _ c.tell_opening.new.self c.in_ok-executed.ensures.told c.in-Ok.ensures.setup

pub returns-in-Ok-clause-timeless : goal.returns-in-Ok-clause-timeless
returns-in-Ok-clause-timeless c =
    same_time c.args.client c.args.locality c.args.buffer.now (answer_to c.args.self.now.setup c.args.self.now.past c.args.locality c.args.buffer.now)
    c.args.self.now _ c.tell_opening.new.self c.in_ok-executed.ensures.told c.in-Ok.ensures.past c.in-Ok.ensures.setup

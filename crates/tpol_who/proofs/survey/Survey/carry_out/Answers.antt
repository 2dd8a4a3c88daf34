use Rattle.std.proofs.Common.{◌∙◌, ◌++◌, ◌+◌, arith, sym, ap, drop}
use Rattle.tpol_perform.specs.Performance.{PerformanceState}
use Rattle.tpol_who.specs.Who.{events_told}
use Rattle.tpol_who.proofs.Script.{event_step, events_over}
use Rattle.tpol_who.proofs.survey.Survey.carry_out.Goals as goal

pub loop-event-preserved : goal.loop-event-preserved
loop-event-preserved c =
    let scenario = c.args.scenario.now in
    let script = c.args.script.now in
    let index = c.loop-event.event-index in
    let happen = c.in_ok-happen.ensures in
    record {
      told = ap (λ (p : PerformanceState). c.happen.new.self.lines ++ events_told scenario (drop (index + 1) script) p) happen.happened
          ∙ event_step scenario script index c.event-item.result c.loop-event.self.performance c.loop-event.self.lines c.happen.new.self.lines c.loop-event-test.true c.event-item.is happen.told
          ∙ c.loop-event.invariant.told;
      setup = happen.setup ∙ c.loop-event.invariant.setup;
      few = omega (arith, happen.few, c.loop-event.invariant.few);
      early = omega (arith, happen.early, c.loop-event.invariant.early);
    }

pub returns : goal.returns
returns c =
    sym (events_over c.args.scenario.now c.args.script.now c.loop-event.event-index c.loop-event.self.performance c.loop-event.self.lines c.loop-event-test.false)
    ∙ c.loop-event.invariant.told

use Rattle.std.proofs.Common.{◌≡◌, ◌-◌, [], ap, ◌∙◌, arith}
use Rattle.tpol_cert.specs.Reading.{choice_in, list_in, many_in}
use Rattle.tpol_cert.proofs.Loop.{counted, ends, goes_on, is_done, starts, with_front}
use Rattle.tpol_cert.proofs.reading.read_choices.Goals as goal

pub loop-init : goal.loop-init
loop-init c =
    let count = c.in-Some.count in
    let whole : count - 0 ≡ count = omega arith in
    ap (λ front. with_front front (many_in choice_in (count - 0) c.u16.new.self)) c.new-choices.ensures
    ∙ ap (λ n. with_front [] (many_in choice_in n c.u16.new.self)) whole
    ∙ starts choice_in count c.u16.new.self
    ∙ counted choice_in c.args.cursor.now c.u16.new.self count c.in-Some.ensures

pub returns-in_default-read_choice : goal.returns-in_default-read_choice
returns-in_default-read_choice c = record {
  read = ends choice_in c.loop.choices c.in-Some.count c.loop.counter c.loop.cursor (list_in choice_in c.args.cursor.now) c.loop-test.true c.in_default-read_choice.ensures.read c.loop.invariant;
}

pub loop-preserved : goal.loop-preserved
loop-preserved c =
    goes_on choice_in c.loop.choices c.push.new.self c.in-Some.count c.loop.counter c.loop.cursor c.read_choice.new.cursor c.in-Some-read_choice.choice (list_in choice_in c.args.cursor.now) c.loop-test.true c.in-Some-read_choice.ensures.read
    c.in_ok-push.ensures.ok c.loop.invariant

pub returns : goal.returns
returns c = record {
  read = is_done choice_in c.loop.choices c.in-Some.count c.loop.counter c.loop.cursor (list_in choice_in c.args.cursor.now) c.loop-test.false c.loop.invariant;
}

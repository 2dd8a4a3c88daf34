use Rattle.std.proofs.Common.{◌≡◌, ◌-◌, [], ap, ◌∙◌, arith}
use Rattle.tpol_cert.specs.Reading.{digest_in, list_in, many_in}
use Rattle.tpol_cert.proofs.Loop.{counted, ends, goes_on, is_done, starts, with_front}
use Rattle.tpol_cert.proofs.reading.read_digests.Goals as goal

pub loop-init : goal.loop-init
loop-init c =
    let count = c.in-Some.count in
    let whole : count - 0 ≡ count = omega arith in
    ap (λ front. with_front front (many_in digest_in (count - 0) c.u16.new.self)) c.new-digests.ensures
    ∙ ap (λ n. with_front [] (many_in digest_in n c.u16.new.self)) whole
    ∙ starts digest_in count c.u16.new.self
    ∙ counted digest_in c.args.cursor.now c.u16.new.self count c.in-Some.ensures

pub returns-in_default-read_digest : goal.returns-in_default-read_digest
returns-in_default-read_digest c = record {
  read = ends digest_in c.loop.digests c.in-Some.count c.loop.counter c.loop.cursor (list_in digest_in c.args.cursor.now) c.loop-test.true c.in_default-read_digest.ensures.read c.loop.invariant;
}

pub loop-preserved : goal.loop-preserved
loop-preserved c =
    goes_on digest_in c.loop.digests c.push.new.self c.in-Some.count c.loop.counter c.loop.cursor c.read_digest.new.cursor c.in-Some-read_digest.digest (list_in digest_in c.args.cursor.now) c.loop-test.true c.in-Some-read_digest.ensures.read
    c.in_ok-push.ensures.ok c.loop.invariant

pub returns : goal.returns
returns c = record {
  read = is_done digest_in c.loop.digests c.in-Some.count c.loop.counter c.loop.cursor (list_in digest_in c.args.cursor.now) c.loop-test.false c.loop.invariant;
}

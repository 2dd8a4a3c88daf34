use Rattle.std.proofs.Common.{◌+◌, ◌*◌}
use Rattle.std.proofs.lemmas.Result.{err_from_is_err_and}
use Rattle.tpol_fields.specs.Kinds.{digests_at}
use Rattle.tpol_fields.proofs.DigestLists.{goes_on, stops, is_done}
use Rattle.tpol_fields.proofs.fields.counted_digests.Goals as goal

pub returns-in_err-digest : goal.returns-in_err-digest
returns-in_err-digest c =
    let p = err_from_is_err_and c.from_residual.result c.from_residual.ensures.1 in
    let position = 0x040 + 0x100 * c.args.n in
    rw (p.1, p.2) (stops c.in_err-digest.field-0.0.code position c.loop.digests c.args.count c.loop.counter c.loop.cursor (digests_at position c.args.count c.args.cursor.now) c.loop-test.true c.in_err-digest.ensures.listed c.loop.invariant)

pub loop-preserved : goal.loop-preserved
loop-preserved c =
    let position = 0x040 + 0x100 * c.args.n in
    rw c.in_ok-push.ensures.ok (goes_on position c.loop.digests c.args.count c.loop.counter c.loop.cursor c.in_ok-digest.digest c.sized_digest.new.cursor (digests_at position c.args.count c.args.cursor.now) c.loop-test.true c.in_ok-digest.ensures.listed c.loop.invariant)

pub returns : goal.returns
returns c =
    let position = 0x040 + 0x100 * c.args.n in
    is_done position c.loop.digests c.args.count c.loop.counter c.loop.cursor (digests_at position c.args.count c.args.cursor.now) c.loop-test.false c.loop.invariant

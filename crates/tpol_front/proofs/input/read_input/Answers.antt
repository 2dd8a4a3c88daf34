use Rattle.std.proofs.Common.{◌≤◌, ◌++◌, length, take, arith, length-append, length-take}
use Rattle.std.proofs.KnownBytes.{Consumes-trans}
use Rattle.tpol_front.proofs.Losses.{loses_at_most}
use Rattle.tpol_front.proofs.input.read_input.Goals as goal

-- the last piece was taken from the source, too
pub returns-in_err-extend_from_slice-in-Ok-clause-at_most :
    goal.returns-in_err-extend_from_slice-in-Ok-clause-at_most
returns-in_err-extend_from_slice-in-Ok-clause-at_most g c =
    let before = g.S.Source.left c.args.source.now in
    let piece = take c.in-Ok.count c.read.new.buf in
    let taken = Consumes-trans before (g.S.Source.left c.loop-turn.source) (g.S.Source.left c.read.new.self) c.loop-turn.bytes piece c.loop-turn.invariant.consumed c.in-Ok.ensures.bytes.0 in
    let within : length (c.loop-turn.bytes ++ piece) ≤ c.args.limit =
    omega (arith, length-append c.loop-turn.bytes piece, length-take c.in-Ok.count c.read.new.buf, length-take c.min-want.result c.loop-turn.piece, c.in-Ok.ensures.bound, c.read.auto.buf, c.min-want.ensures, c.len.ensures, c.loop-turn.invariant.within, c.loop-turn.invariant.piece) in
    loses_at_most c.args.limit before (g.S.Source.left c.read.new.self) (c.loop-turn.bytes ++ piece) taken within

use Rattle.std.proofs.Common.{true, false, arith}
use Rattle.tpol_wire.proofs.Header.{header_taken}
use Rattle.tpol_wire.proofs.reading.header.Goals as goal

pub returns-in-32769-clause-head : goal.returns-in-32769-clause-head
returns-in-32769-clause-head c =
    let e = header_taken false c.args.cursor.now c.u16.new.self c.u32.new.self c.u32-2.new.self c.in-Some.tag c.in-Some-u32.size c.in-Some-u32-2.code c.in-Some.ensures c.in-Some-u32.ensures c.in-Some-u32-2.ensures (omega arith) (omega arith) c.in-32769.is in
    rw e c.known.ensures

pub returns-in-32770-clause-head : goal.returns-in-32770-clause-head
returns-in-32770-clause-head c =
    let e = header_taken true c.args.cursor.now c.u16.new.self c.u32.new.self c.u32-2.new.self c.in-Some.tag c.in-Some-u32.size c.in-Some-u32-2.code c.in-Some.ensures c.in-Some-u32.ensures c.in-Some-u32-2.ensures (omega arith) (omega arith) c.in-32770.is in
    rw e c.known-in-32770.ensures

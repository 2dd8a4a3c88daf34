use Rattle.std.proofs.Common.{length, ap, arith}
use Rattle.tpol_texts.proofs.Cuts.{ends_kept, length-cut, lines_kept}
use Rattle.tpol_texts.proofs.texts.Texts.truncate.Goals as goal

pub start_of-end-requires : goal.start_of-end-requires
start_of-end-requires c =
    let count = ap length c.self.view_is in
    omega (arith, c.requires, count, length-cut 0 c.self.inside.ends.items c.self.inside.bytes.items, ap length c.as_slice.ensures.value)

pub invariant_of-self : goal.invariant_of-self
invariant_of-self c =
    ends_kept c.self.inside.ends.items c.as_slice.result.now c.self.inside.bytes.items c.truncate-2.new.self.items c.truncate.new.self.items c.args.self.now c.args.count c.start_of-end.result c.self.invariant c.self.view_is c.as_slice.ensures.value c.requires c.start_of-end.ensures c.truncate.ensures.items c.truncate-2.ensures.items

pub returns : goal.returns
returns c =
    lines_kept c.self.inside.ends.items c.as_slice.result.now c.self.inside.bytes.items c.truncate-2.new.self.items c.truncate.new.self.items c.args.self.now c.args.count c.start_of-end.result c.self.invariant c.self.view_is c.as_slice.ensures.value c.requires c.start_of-end.ensures c.truncate.ensures.items c.truncate-2.ensures.items

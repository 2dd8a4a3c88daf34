use Rattle.std.proofs.Common.{◌∙◌, length, ap, arith}
use Rattle.std.specs.Prelude.{slice_range}
use Rattle.tpol_texts.proofs.Cuts.{bounds_read, length-cut, line_read}
use Rattle.tpol_texts.proofs.texts.Texts.get.Goals as goal

pub start_of-start-requires : goal.start_of-start-requires
start_of-start-requires c =
    let count = ap length c.self.view_is in
    omega (arith, c.requires, count, length-cut 0 c.self.inside.ends.items c.self.inside.bytes.items, ap length c.as_slice.ensures.value)

pub index-end-requires : goal.index-end-requires
index-end-requires c =
    let count = ap length c.self.view_is in
    omega (arith, c.requires, count, length-cut 0 c.self.inside.ends.items c.self.inside.bytes.items, c.self.inside.ends.ok.0)

pub slice_bounds-result-count : goal.slice_bounds-result-count
slice_bounds-result-count c =
    (bounds_read c.self.inside.ends.items c.as_slice.result.now c.self.inside.bytes.items c.args.self.now c.args.index c.start_of-start.result c.index-end.result.now c.self.view_is c.as_slice.ensures.value c.requires c.start_of-start.ensures c.index-end.ensures c.self.invariant).0

pub slice_bounds-result-start : goal.slice_bounds-result-start
slice_bounds-result-start c =
    (bounds_read c.self.inside.ends.items c.as_slice.result.now c.self.inside.bytes.items c.args.self.now c.args.index c.start_of-start.result c.index-end.result.now c.self.view_is c.as_slice.ensures.value c.requires c.start_of-start.ensures c.index-end.ensures c.self.invariant).0

pub slice_bounds-result-end : goal.slice_bounds-result-end
slice_bounds-result-end c =
    let bounds = bounds_read c.self.inside.ends.items c.as_slice.result.now c.self.inside.bytes.items c.args.self.now c.args.index c.start_of-start.result c.index-end.result.now c.self.view_is c.as_slice.ensures.value c.requires c.start_of-start.ensures c.index-end.ensures c.self.invariant in
    omega (arith, bounds.1, ap length c.deref.ensures.value)

pub returns : goal.returns
returns c =
    ap (λ bytes. slice_range bytes c.start_of-start.result c.index-end.result.now) c.deref.ensures.value
    ∙ line_read c.self.inside.ends.items c.as_slice.result.now c.self.inside.bytes.items c.args.self.now c.args.index c.start_of-start.result c.index-end.result.now c.self.view_is c.as_slice.ensures.value c.requires c.start_of-start.ensures c.index-end.ensures _

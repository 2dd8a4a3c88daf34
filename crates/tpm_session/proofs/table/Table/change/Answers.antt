use Rattle.std.proofs.Common.{rules, ◌≡◌, ◌-◌, Some, refl, slice_set}
use Rattle.std.specs.Fn.{FnOnceReturnsAtMut}
use Rattle.tpm_session.specs.Slots as spec
use Rattle.tpm_session.proofs.table.Table.change.Goals as goal

pub returns : goal.returns
returns g c =
    let after = c.change.new.arg2 in
    let found : spec.content_at c.args.self.now c.args.handle ≡ Some c.in-Some-slot.content = search rules in
    let kept : slice_set c.self.inside.slots.items (c.args.handle - spec.first_handle) (Some after) ≡ spec.with_content c.args.self.now c.args.handle (Some after) = search rules in
    let gave : FnOnceReturnsAtMut g.F.FnOnce c.args.change c.in-Some-slot.content tt after = record { shown = _; shows = refl; left = _; met = c.change.ensures; leaves = refl } in
    rw found (record { slots = (after, gave, kept) })

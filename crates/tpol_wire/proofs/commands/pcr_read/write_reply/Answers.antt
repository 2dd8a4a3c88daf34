use Rattle.std.proofs.Common.{◌≡◌, ◌++◌, ◌∙◌, [], List, ℕ, append-nil, length, refl, subst, sym}
use Rattle.std.specs.Prelude.{OnOk}
use Rattle.std.specs.Int.{w32, to_be_bytes}
use Rattle.std.specs.List.{flat_map}
use Rattle.tpol_base.specs.declared.command_code.CommandCode.TheVariants.{PcrRead}
use Rattle.tpol_wire.specs.Commands.{spell_values}
use Rattle.tpol_fields.specs.Kinds.{sized, spell}
use Rattle.tpol_fields.specs.FieldKinds.{selection}
use Rattle.tpol_wire.specs.Rows.{row}
use Rattle.tpol_fields.proofs.Joined.{joined_four}
use Rattle.tpol_wire.proofs.commands.pcr_read.write_reply.Goals as goal

pub returns : goal.returns
unfolding spell spell_values
returns c =
    let digests : List ℕ = to_be_bytes w32 (length c.args.digests.now) ++ flat_map (λ digest. sized digest.bytes) c.args.digests.now in
    let e : c.selection.new.out ++ digests ≡ c.args.out.now ++ spell_values (row PcrRead).reply (c.args.counter, (c.args.mask, (c.args.digests.now, tt))) =
    sym (append-nil (c.selection.new.out ++ digests))
    ∙ joined_four c.args.out.now (to_be_bytes w32 c.args.counter) (spell selection c.args.mask) digests [] c.number32.new.out c.selection.new.out (c.selection.new.out ++ digests)
    c.in_ok-number32.ensures c.in_ok-selection.ensures refl in
    subst (λ bytes. OnOk c.digests.result (c.digests.new.out ≡ bytes)) e c.digests.ensures

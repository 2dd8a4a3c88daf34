use Rattle.std.proofs.Common.{◌≡◌, ◌++◌, ◌∙◌, true, [], Some, None, sym, ap, subst, append-nil}
use Rattle.std.specs.Prelude.{OnOk}
use Rattle.tpol_wire.specs.Authorizations.{authorization}
use Rattle.tpol_wire.specs.Commands.{spell_front}
use Rattle.tpol_wire.proofs.Fronts.{front_written}
use Rattle.tpol_wire.proofs.writing.front.Goals as goal

pub returns-in-Some : goal.returns-in-Some
returns-in-Some c =
    let e : c.handles.new.out ++ authorization true c.in-Some.area.now ≡ c.args.out.now ++ spell_front c.args.command.now =
    front_written c.args.out.now c.handles.new.out (Some c.in-Some.area.now) c.args.command.now c.in_ok-handles.ensures c.in-Some.ensures.area in
    subst (λ bytes. OnOk c.write_area.result (c.write_area.new.out ≡ bytes)) e c.write_area.ensures

pub returns-in-None : goal.returns-in-None
returns-in-None c =
    let e : c.handles.new.out ++ [] ≡ c.args.out.now ++ spell_front c.args.command.now =
    front_written c.args.out.now c.handles.new.out None c.args.command.now c.in_ok-handles.ensures c.in-None.ensures.area in
    sym (append-nil c.handles.new.out) ∙ e

use Rattle.std.proofs.Common.{◌≡◌, ◌++◌, subst}
use Rattle.std.specs.Prelude.{OnOk}
use Rattle.std.specs.Int.{w32, w64, to_be_bytes}
use Rattle.tpol_base.specs.Handle.{rh_null}
use Rattle.tpol_fields.specs.Kinds.{spell}
use Rattle.tpol_fields.specs.FieldKinds.{context, sized_digest}
use Rattle.tpol_fields.proofs.Joined.{joined_four}
use Rattle.tpol_fields.proofs.spelling.context.Goals as goal

pub returns : goal.returns
unfolding spell
returns c =
    let e : c.number32-2.new.out ++ spell sized_digest c.args.digest.now ≡ c.args.out.now ++ spell context (c.args.sequence, (c.args.session, c.args.digest.now)) =
    joined_four c.args.out.now (to_be_bytes w64 c.args.sequence) (to_be_bytes w32 c.args.session) (to_be_bytes w32 rh_null) (spell sized_digest c.args.digest.now) c.number64.new.out c.number32.new.out c.number32-2.new.out
    c.in_ok-number64.ensures c.in_ok-number32.ensures c.in_ok-number32-2.ensures in
    subst (λ bytes. OnOk c.sized_digest.result (c.sized_digest.new.out ≡ bytes)) e c.sized_digest.ensures

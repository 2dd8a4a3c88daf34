use Rattle.std.proofs.Common.{sym, arith, rules}
use Rattle.serde_json.specs.View.{view}
use Rattle.tpol_elements.specs.Publics.{object_public}
use Rattle.tpol_elements.proofs.Wrappers.{depth-get, through-some, through-none}
use Rattle.tpol_elements.proofs.publics.+object_within.Goals as goal

pub object_within-requires : goal.object_within-requires
object_within-requires t c =
    let deeper = depth-get c.args.wrapper.now (view c.args.value.now) (view c.in-Some.inner.now) (sym c.in-Some.ensures) in grind (arith, deeper)

pub returns-in_err-area-in-Some : goal.returns-in_err-area-in-Some
returns-in_err-area-in-Some t c =
    rw (through-some c.args.wrapper.now object_public (view c.args.value.now) c.args.place.now c.args.walk.now (view c.in-Some.inner.now) (sym c.in-Some.ensures)) (search rules)

pub returns-in_ok-note_unknown-in-Some : goal.returns-in_ok-note_unknown-in-Some
returns-in_ok-note_unknown-in-Some t c =
    rw (through-some c.args.wrapper.now object_public (view c.args.value.now) c.args.place.now c.args.walk.now (view c.in-Some.inner.now) (sym c.in-Some.ensures)) (search rules)

pub returns-in-None : goal.returns-in-None
returns-in-None t c =
    rw (through-none c.args.wrapper.now object_public (view c.args.value.now) c.args.place.now c.args.walk.now (sym c.in-None.ensures)) c.object_public.ensures

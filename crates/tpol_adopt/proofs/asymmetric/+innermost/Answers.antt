use Rattle.std.proofs.Common.{codes, sym, arith, ◌∙◌}
use Rattle.serde_json.specs.View.{view}
use Rattle.tpol_elements.proofs.Wrappers.{depth-get}
use Rattle.tpol_adopt.proofs.Wrappers.{innermost-some, innermost-none}
use Rattle.tpol_adopt.proofs.asymmetric.+innermost.Goals as goal

pub innermost-requires : goal.innermost-requires
innermost-requires t c =
    let deeper = depth-get (codes "publicArea") (view c.args.value.now) (view c.in-Some.inner.now) (sym c.in-Some.ensures) in grind (arith, deeper)

pub returns-in-Some : goal.returns-in-Some
returns-in-Some t c =
    c.innermost.ensures ∙ sym (innermost-some (view c.args.value.now) (view c.in-Some.inner.now) (sym c.in-Some.ensures))

pub returns-in-None : goal.returns-in-None
returns-in-None t c = sym (innermost-none (view c.args.value.now) (sym c.in-None.ensures))

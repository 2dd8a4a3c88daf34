use Rattle.std.proofs.Common.{Option, sym, subst}
use Rattle.std.specs.Prelude.{IfSome}
use Rattle.tpol_store.specs.Stores.{stored}
use Rattle.tpol_prepare.proofs.Stored.{IsReadablePolicy, readable_named}
use Rattle.tpol_tree.specs.declared.policy.Policy.{Policy}
use Rattle.tpol_prepare.proofs.references.policy_at.Goals as goal

pub returns-in-Some-clause-branches : goal.returns-in-Some-clause-branches
returns-in-Some-clause-branches c = λ readable.
    (subst (λ (found : Option Policy). IfSome found IsReadablePolicy) (sym c.in-Some.ensures.policy) (readable_named c.as_str.result.now (stored c.args.store.now) readable)).0

pub returns-in-Some-clause-bounded : goal.returns-in-Some-clause-bounded
returns-in-Some-clause-bounded c = λ readable.
    (subst (λ (found : Option Policy). IfSome found IsReadablePolicy) (sym c.in-Some.ensures.policy) (readable_named c.as_str.result.now (stored c.args.store.now) readable)).1
